use Rattle.std.proofs.Common.{◌≡◌, true}
use Rattle.operator_tests.proofs.lines.shapes.Given as goal

abbrev pub invariant-loop : goal.invariant-loop
invariant-loop g l = l.reader.going ≡ true
