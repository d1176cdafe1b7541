use Rattle.std.proofs.Common.{◌≡◌, map}
use Rattle.serde_json.specs.View.{members_view}
use Rattle.op_json.specs.Reading as spec
use Rattle.op_json.proofs.reading.stray.Given as goal

abbrev pub invariant-loop-name : goal.invariant-loop-name
invariant-loop-name l =
    goal.iterator-loop-name.can_next l.name-iterator ×
    goal.iterator-loop-name.is_finite l.name-iterator ×
    (spec.stray (map (λ name. name.now) l.names) (members_view l.initial.name-iterator)
    ≡ spec.stray (map (λ name. name.now) l.names) (members_view l.name-iterator))
