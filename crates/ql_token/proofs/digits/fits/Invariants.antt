use Rattle.std.proofs.Common.{◌≡◌, ◌≤◌, take}
use Rattle.std.specs.Str.Parse.{digits_value}
use Rattle.ql_tree.specs.Tokens.{MOST}
use Rattle.ql_token.proofs.digits.fits.Given as goal

abbrev pub invariant-loop-b : goal.invariant-loop-b
invariant-loop-b l = (l.value ≡ digits_value 10 (take l.b-index l.digits)) × (l.value ≤ MOST)
