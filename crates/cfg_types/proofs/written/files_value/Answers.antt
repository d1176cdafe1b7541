use Rattle.std.proofs.Common.{◌∙◌, ap}
use Rattle.serde_json.specs.Data.{no_members, object}
use Rattle.serde_json.proofs.Views.{view-Object}
use Rattle.op_json.specs.Json.{data_of}
use Rattle.op_json.proofs.Fields.{put_next, all_put}
use Rattle.cfg_types.specs.Written.{file_text, file_json}
use Rattle.cfg_types.proofs.written.files_value.Goals as goal

pub loop-file-preserved : goal.loop-file-preserved
loop-file-preserved c =
    put_next (λ file. (file_text file, file_json file)) no_members c.args.files.now c.loop-file.file-index c.file-item.result _ _ _ _
    c.loop-file-test.true c.in_ok-put_file.ensures c.loop-file.invariant (ap file_text c.file-item.is) (ap (λ file. data_of (file_json file)) c.file-item.is)

pub returns : goal.returns
returns c = view-Object c.loop-file.fields
    ∙ ap object (c.loop-file.invariant ∙ all_put (λ file. (file_text file, file_json file)) no_members c.args.files.now c.loop-file.file-index c.loop-file-test.false)
