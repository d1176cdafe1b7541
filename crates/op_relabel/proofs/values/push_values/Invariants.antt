use Rattle.std.proofs.Common.{◌≡◌, ◌++◌, take}
use Rattle.std.specs.List.{flat_map}
use Rattle.op_relabel.specs.Actions.{next_value}
use Rattle.op_relabel.proofs.values.push_values.Given as goal

abbrev pub invariant-loop-name : goal.invariant-loop-name
invariant-loop-name l = l.text ≡ l.initial.text ++ flat_map (next_value l.separator l.labels) (take l.name-index l.names)
