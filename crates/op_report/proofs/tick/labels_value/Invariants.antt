use Rattle.std.proofs.Common.{◌≡◌, map, take}
use Rattle.serde_json.specs.Data.{no_members}
use Rattle.serde_json.specs.View.{members_view}
use Rattle.op_json.specs.Json.{members_after, fields_of, text}
use Rattle.op_report.proofs.tick.labels_value.Given as goal

abbrev pub invariant-loop-index : goal.invariant-loop-index
invariant-loop-index l = members_view l.fields.entries
    ≡ members_after no_members (fields_of (map (λ entry. (entry.0, text entry.1)) (take l.index l.labels)))
