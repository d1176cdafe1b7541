use Rattle.std.proofs.Common.{arith, to_z-of_z, FitsSigned, ◌*ℤ◌, ◌^◌}
use Rattle.std.specs.Int.{w128}
use Rattle.std.proofs.lemmas.Int.{ints, fits_signed_mul}
use Rattle.ql_tree.specs.Arithmetic.{arith_of}
use Rattle.ql_call.proofs.arithmetic.arith.Goals as goal

pub returns-in-Add : goal.returns-in-Add
unfolding arith_of
returns-in-Add c = grind (arith, ints, to_z-of_z, c.in-Add.is, c.clamped.ensures)

pub returns-in-Sub : goal.returns-in-Sub
unfolding arith_of
returns-in-Sub c = grind (arith, ints, to_z-of_z, c.in-Sub.is, c.clamped-in-Sub.ensures)

pub returns-in-Mul : goal.returns-in-Mul
unfolding arith_of
returns-in-Mul c =
    let fits : FitsSigned w128 (c.from-a.result *ℤ c.from-b.result) =
    fits_signed_mul w128 c.from-a.result c.from-b.result (2 ^ 63) (2 ^ 63) (omega (arith, ints)) (omega (arith, ints)) (omega arith) in
    grind (arith, ints, to_z-of_z, c.in-Mul.is, c.clamped-in-Mul.ensures)

pub returns-then-b-eq0 : goal.returns-then-b-eq0
unfolding arith_of
returns-then-b-eq0 c = grind (arith, ints, c.in-Div.is, c.if-b-eq0.true)

pub returns-else-b-eq0 : goal.returns-else-b-eq0
unfolding arith_of
returns-else-b-eq0 c = grind (arith, ints, to_z-of_z, c.in-Div.is, c.clamped-else-b-eq0.ensures, c.if-b-eq0.false)

pub returns-then-b-eq0-2 : goal.returns-then-b-eq0-2
unfolding arith_of
returns-then-b-eq0-2 c = grind (arith, ints, c.in-Rem.is, c.if-b-eq0-2.true)

pub returns-else-b-eq0-2 : goal.returns-else-b-eq0-2
unfolding arith_of
returns-else-b-eq0-2 c = grind (arith, ints, to_z-of_z, c.in-Rem.is, c.clamped-else-b-eq0-2.ensures, c.if-b-eq0-2.false)
