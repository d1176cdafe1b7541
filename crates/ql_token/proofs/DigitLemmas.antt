-- What a digit adds to the number before it, and what is known of a run of word bytes.
use Rattle.std.proofs.Common.{◌≡◌, ℕ, zero, suc, ◌+◌, ◌*◌, ◌^◌, ◌<◌, ◌≤◌, Bool, true, false, List, [], ◌∷◌, length, get_or, take, cond, arith, refl, lit<, sym, subst, add-one, nat_le}
use Rattle.std.specs.Str.{IsAscii, IsUtf8}
use Rattle.std.proofs.lemmas.Str.{IsUtf8-from_ascii}
use Rattle.std.proofs.lemmas.Str.Parse.{digits_value-take-le}
use Rattle.std.proofs.lemmas.Bool.Decides.{nat_tests}
use Rattle.std.proofs.lemmas.List.{length-take-le}
use Rattle.std.proofs.Math.Nat.{add_comm}
use Rattle.op_base.specs.Names.{is_metric_byte}
use Rattle.ql_tree.specs.Tokens.{run_at, MOST}
use Rattle.std.specs.List.{list_all, prefix_len}
use Rattle.std.specs.Char.{is_digit, digit_value}
use Rattle.std.specs.Str.Parse.{digits_value, AllDigits}
use Rattle.std.proofs.Math.Nat.{pow-le-pow_left, pow-le-pow_right, pow-suc, mul-le-mul_right}
use Rattle.std.proofs.lemmas.Int.Digits.{digits_value-lt, digits_value_more}

-- a number below radix ^ i and one digit more stay below 2 ^ 32
pub fits_more : (radix i value d : ℕ) → radix ≤ 16 → i < 8 → value < radix ^ i → d < radix → value * radix + d < 2 ^ 32
fits_more radix i value d small few below digit =
    let more : value + 1 ≤ radix ^ i = omega arith in
    let a : (value + 1) * radix ≤ radix ^ i * radix = mul-le-mul_right radix more in
    let b : radix ^ suc i ≤ 16 ^ suc i = pow-le-pow_left small (suc i) in
    let c : 16 ^ suc i ≤ 16 ^ 8 = pow-le-pow_right (lit< tt) {i = suc i} {j = 8} (omega arith) in
    let e : radix ^ suc i ≡ radix ^ i * radix = pow-suc radix i in
    omega (arith, a, b, c, e)

run_passes : (p : ℕ → Bool) (bs : List ℕ) → list_all p (take (prefix_len p bs) bs) ≡ true
run_passes p [] = refl
run_passes p (b ∷ bs) = first_byte (p b) refl (run_passes p bs)
  where
    first_byte : (passes : Bool) → p b ≡ passes → list_all p (take (prefix_len p bs) bs) ≡ true
        → list_all p (take (cond passes (1 + prefix_len p bs) 0) (b ∷ bs)) ≡ true
    first_byte true e rest = rw (add_comm 1 (prefix_len p bs), add-one, e) rest
    first_byte false e rest = refl

pub run_of_word : (n : ℕ) (bs : List ℕ) → n ≡ run_at bs → list_all is_metric_byte (take n bs) ≡ true
run_of_word n bs e = subst (λ k. list_all is_metric_byte (take k bs) ≡ true) (sym e) (run_passes is_metric_byte bs)

pub metric_ascii : (b : ℕ) → is_metric_byte b ≡ true → b < 128
metric_ascii b h = grind (arith, nat_tests)

word_ascii : (bs : List ℕ) → list_all is_metric_byte bs ≡ true → IsAscii bs
word_ascii [] all i = lit< tt
word_ascii (b ∷ bs) all zero = metric_ascii b (grind arith)
word_ascii (b ∷ bs) all (suc i) = word_ascii bs (grind arith) i

pub word_utf8 : (bs : List ℕ) → list_all is_metric_byte bs ≡ true → IsUtf8 bs
word_utf8 bs all = IsUtf8-from_ascii bs (word_ascii bs all)

pub digits_until : (radix : ℕ) (bs : List ℕ) → list_all (λ b. is_digit b radix) bs ≡ true → AllDigits radix bs
digits_until radix [] all = tt
digits_until radix (b ∷ bs) all = (grind arith, digits_until radix bs (grind arith))

digits_taken : (radix : ℕ) (bs : List ℕ) (i : ℕ) → AllDigits radix bs → AllDigits radix (take i bs)
digits_taken radix bs zero all = tt
digits_taken radix [] (suc i) all = tt
digits_taken radix (b ∷ bs) (suc i) all = (all.0, digits_taken radix bs i all.1)

-- the room for one digit more in a loop over at most eight
pub room : (radix : ℕ) (ds : List ℕ) (i value d : ℕ) → radix ≤ 16 → length ds ≤ 8 → i < length ds
    → list_all (λ b. is_digit b radix) ds ≡ true → value ≡ digits_value radix (take i ds) → d < radix → value * radix + d < 2 ^ 32
room radix ds i value d small short inside all is digit =
    let taken : length (take i ds) ≡ i = length-take-le i ds (omega arith) in
    let below : digits_value radix (take i ds) < radix ^ length (take i ds) = digits_value-lt radix (take i ds) (digits_taken radix ds i (digits_until radix ds all)) in
    let bound : value < radix ^ i = rw is (subst (λ n. digits_value radix (take i ds) < radix ^ n) taken below) in
    fits_more radix i value d small (omega arith) bound digit

-- digits that are too many are too many with more behind them
pub too_large : (ds : List ℕ) (i value d : ℕ) → i < length ds → value ≡ digits_value 10 (take i ds) → d ≡ digit_value (get_or ds i 0)
    → MOST < value * 10 + d → nat_le (digits_value 10 ds) MOST ≡ false
too_large ds i value d inside is digit large =
    let more : digits_value 10 (take (i + 1) ds) ≡ digits_value 10 (take i ds) * 10 + digit_value (get_or ds i 0) = digits_value_more 10 ds i inside in
    let upto : digits_value 10 (take (i + 1) ds) ≤ digits_value 10 ds = digits_value-take-le 10 ds (i + 1) (lit< tt) in
    grind (arith, nat_tests)
