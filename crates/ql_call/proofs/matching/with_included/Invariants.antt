-- The labels so far, with those of the other names, are those of all.
use Rattle.std.proofs.Common.{◌≡◌, drop}
use Rattle.ql_call.specs.Matched as spec
use Rattle.ql_call.proofs.matching.with_included.Given as goal

abbrev pub invariant-loop-name : goal.invariant-loop-name
invariant-loop-name l =
    spec.with_included l.names l.one l.many
    ≡ spec.with_included (drop l.name-index l.names) l.one l.labels
