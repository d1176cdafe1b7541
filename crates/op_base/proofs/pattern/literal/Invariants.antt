-- What the bytes that are left give goes behind what was kept.
use Rattle.std.proofs.Common.{◌≡◌, ◌++◌, drop, option_map}
use Rattle.op_base.specs.Patterns.{unescaped, literal_of}
use Rattle.op_base.proofs.pattern.literal.Given as goal

abbrev pub invariant-loop-b : goal.invariant-loop-b
invariant-loop-b l = option_map (λ rest. l.bytes.items ++ rest) (unescaped l.escaped (drop l.b-index l.text)) ≡ literal_of l.text
