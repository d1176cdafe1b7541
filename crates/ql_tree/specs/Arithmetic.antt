-- Arithmetic on the numbers of PromQL: whole numbers of 64 bits. What is computed is exact and then
-- clamped; a quotient is cut towards zero, and a remainder has the sign of its dividend.
use Rattle.std.specs.Prelude.{ℤ, pos, negsuc, zero, ◌+ℤ◌, ◌-ℤ◌, ◌*ℤ◌, int_div, int_rem, Option, Some, None}
use Rattle.std.specs.Int.{int_max, int_min}
use Rattle.ql_tree.specs.declared.tree.ArithOp.{ArithOp}
use Rattle.ql_tree.specs.declared.tree.ArithOp.TheVariants.{Add, Sub, Mul, Div, Rem}

-- the nearest number from -2^63 to 2^63 - 1
abbrev pub clamped : ℤ → ℤ
clamped z = int_max (negsuc 9223372036854775807) (int_min (pos 9223372036854775807) z)

-- nothing where the divisor is zero
abbrev pub unless_zero : ℤ → ℤ → Option ℤ
unless_zero (pos zero) z = None
unless_zero _ z = Some (clamped z)

-- what an operator of arithmetic makes of two numbers: their exact result, brought between the least and the
-- greatest number, or none where it divides by zero
unfoldable pub arith_of : ArithOp → ℤ → ℤ → Option ℤ
arith_of Add a b = Some (clamped (a +ℤ b))
arith_of Sub a b = Some (clamped (a -ℤ b))
arith_of Mul a b = Some (clamped (a *ℤ b))
arith_of Div a b = unless_zero b (int_div a b)
arith_of Rem a b = unless_zero b (int_rem a b)
