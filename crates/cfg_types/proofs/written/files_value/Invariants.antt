use Rattle.std.proofs.Common.{◌≡◌, map, take}
use Rattle.serde_json.specs.Data.{no_members}
use Rattle.serde_json.specs.View.{members_view}
use Rattle.op_json.specs.Json.{members_after, fields_of}
use Rattle.cfg_types.specs.Written.{file_text, file_json}
use Rattle.cfg_types.proofs.written.files_value.Given as goal

abbrev pub invariant-loop-file : goal.invariant-loop-file
invariant-loop-file l = members_view l.fields.entries
    ≡ members_after no_members (fields_of (map (λ file. (file_text file, file_json file)) (take l.file-index l.files)))
