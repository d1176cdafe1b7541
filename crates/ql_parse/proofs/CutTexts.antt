-- Where a text may be cut: before and behind a byte below 128.
use Rattle.std.proofs.Common.{◌≡◌, ℕ, zero, suc, ◌+◌, ◌<◌, Bool, true, List, [], ◌∷◌, ◌++◌, length, take, drop, get_or, subst, arith, length-append}
use Rattle.std.proofs.Math.Seq.{take-append_seam, drop-append-add, get_or-append_seam}
use Rattle.std.proofs.lemmas.Str.{IsUtf8-take, IsUtf8-drop, IsUtf8-append, IsCharBoundary-before_ascii, IsCharBoundary-after_ascii}
use Rattle.std.proofs.lemmas.Bool.Decides.{nat_tests}
use Rattle.std.specs.List.{list_all}
use Rattle.std.specs.Str.{IsUtf8}
use Rattle.ql_tree.specs.Strings.{is_quote}

-- such a byte stands in its place
small_byte : (before : List ℕ) (b : ℕ) (rest : List ℕ) → b < 128
    → (length before < length (before ++ (b ∷ rest)))
    × (get_or (before ++ (b ∷ rest)) (length before) 0 < 128)
small_byte before b rest small =
    let at : get_or (before ++ (b ∷ rest)) (length before) 0
    ≡ b = get_or-append_seam before b rest 0 in
    (omega (arith, length-append before (b ∷ rest)), omega (arith, at))

-- what stands before such a byte is a text
pub before_byte : (before : List ℕ) (b : ℕ) (rest : List ℕ) → IsUtf8 (before ++ (b ∷ rest))
    → b < 128 → IsUtf8 before
before_byte before b rest utf8 small =
    let is = small_byte before b rest small in
    subst (λ text. IsUtf8 text) (take-append_seam before (b ∷ rest))
    (IsUtf8-take (before ++ (b ∷ rest)) (length before) utf8
    (IsCharBoundary-before_ascii (before ++ (b ∷ rest)) (length before) is.0 is.1))

-- what stands behind it is one
pub behind_byte : (before : List ℕ) (b : ℕ) (rest : List ℕ) → IsUtf8 (before ++ (b ∷ rest))
    → b < 128 → IsUtf8 rest
behind_byte before b rest utf8 small =
    let is = small_byte before b rest small in
    subst (λ text. IsUtf8 text) (drop-append-add before (b ∷ rest) 1)
    (IsUtf8-drop (before ++ (b ∷ rest)) (length before + 1) utf8
    (IsCharBoundary-after_ascii (before ++ (b ∷ rest)) (length before) utf8 is.0 is.1))

-- what stands behind bytes that pass a test of such bytes is one
pub behind_passing : (p : ℕ → Bool) → ((b : ℕ) → p b ≡ true → b < 128) → (n : ℕ) (text : List ℕ)
    → IsUtf8 text
    → list_all p (take n text) ≡ true → IsUtf8 (drop n text)
behind_passing p small zero text utf8 all = utf8
behind_passing p small (suc n) [] utf8 all = utf8
behind_passing p small (suc n) (b ∷ text) utf8 all =
    behind_passing p small n text (behind_byte [] b text utf8 (small b (grind arith))) (grind arith)

-- a piece in the place of bytes behind which the text goes on
pub put_in : (before : List ℕ) (b : ℕ) (rest piece behind : List ℕ) → IsUtf8 (before ++ (b ∷ rest))
    → b < 128 → IsUtf8 piece
    → IsUtf8 behind → IsUtf8 ((before ++ piece) ++ behind)
put_in before b rest piece behind utf8 small is_text rest_is_text =
    IsUtf8-append (before ++ piece) behind
    (IsUtf8-append before piece (before_byte before b rest utf8 small) is_text) rest_is_text

pub quote_small : (b : ℕ) → is_quote b ≡ true → b < 128
quote_small b is = grind (arith, nat_tests)
