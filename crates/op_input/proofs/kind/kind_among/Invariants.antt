use Rattle.std.proofs.Common.{◌≡◌, drop}
use Rattle.op_manifest.specs.Heads as spec
use Rattle.op_input.proofs.kind.kind_among.Given as goal

-- no kind so far has the name
abbrev pub invariant-loop-kind : goal.invariant-loop-kind
invariant-loop-kind l = spec.kind_among l.kinds l.name ≡ spec.kind_among (drop l.kind-index l.kinds) l.name
