-- The digits of a number that isn't too large, so far.
use Rattle.std.proofs.Common.{◌≡◌, ℕ, ◌+◌, ◌*◌, ◌<◌, ◌≤◌, List, length, get_or, take, arith, lit<}
use Rattle.std.specs.Char.{digit_value}
use Rattle.std.specs.Str.Parse.{digits_value}
use Rattle.std.proofs.lemmas.Int.Digits.{digits_value_more}
use Rattle.std.proofs.lemmas.Str.Parse.{digits_value-take-le}
use Rattle.ql_tree.specs.Tokens.{MOST}

pub digit_fits : (digits : List ℕ) (i value d : ℕ) → i < length digits
    → value ≡ digits_value 10 (take i digits)
    → d ≡ digit_value (get_or digits i 0) → digits_value 10 digits ≤ MOST → value * 10 + d ≤ MOST
digit_fits digits i value d inside is digit fits =
    let more : digits_value 10 (take (i + 1) digits)
    ≡ digits_value 10 (take i digits) * 10 + digit_value (get_or digits i 0) =
    digits_value_more 10 digits i inside in
    let upto : digits_value 10 (take (i + 1) digits) ≤ digits_value 10 digits = digits_value-take-le
    10 digits (i + 1) (lit< tt) in
    omega (arith, more, upto, is, digit, fits)
