-- The labels so far, without the other names, are those without all.
use Rattle.std.proofs.Common.{◌≡◌, fold, drop}
use Rattle.op_base.specs.Maps.{without_entry}
use Rattle.ql_call.specs.Elements as spec
use Rattle.ql_call.proofs.labels.without.Given as goal

abbrev pub invariant-loop-name : goal.invariant-loop-name
invariant-loop-name l = spec.without l.names l.labels ≡ fold without_entry l.kept (drop l.name-index l.names)
