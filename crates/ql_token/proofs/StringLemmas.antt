-- How a string's inside is read piece by piece.
use Rattle.std.proofs.Common.{◌≡◌, ◌≢◌, ℕ, zero, suc, ◌+◌, ◌-◌, ◌<◌, true, false, List, [], ◌∷◌, Option, Some, None, ◌==◌, length, drop, get_or, refl, ap, sym, ◌∙◌, arith, zero-add}
use Rattle.std.specs.Option.{option_and_then, option_map}
use Rattle.ql_tree.specs.Strings.{inside_from, piece_at, one_more, behind_piece}
use Rattle.ql_token.specs.Inside.{length_of, after}

after_none : (o : Option ℕ) → after 0 o ≡ o
after_none None = refl
after_none (Some m) = ap (λ k. Some k) (zero-add m)

counted : (n : ℕ) (o : Option (List ℕ × ℕ)) (rest : Option ℕ) → option_map (λ found. found.1) o ≡ after n rest
    → option_map (λ found. found.1) (option_map one_more o) ≡ after (suc n) rest
counted n None None h = refl
counted n None (Some m) h = cc
counted n (Some found) None h = cc
counted n (Some found) (Some m) h = let e : found.1 ≡ n + m = cc in let f : 1 + found.1 ≡ suc n + m = omega (arith, e) in ap (λ k. Some k) f

-- the bytes that a piece has taken are passed over
skipped : (quote n : ℕ) (bytes : List ℕ) → length_of quote n bytes ≡ after n (length_of quote 0 (drop n bytes))
unfolding inside_from
skipped quote zero bytes = sym (after_none (length_of quote 0 bytes))
skipped quote (suc n) [] = refl
skipped quote (suc n) (b ∷ bytes) = counted n (inside_from quote n bytes) (length_of quote 0 (drop n bytes)) (skipped quote n bytes)

length_of_end : (quote : ℕ) → length_of quote 0 [] ≡ None
unfolding inside_from
length_of_end quote = refl

length_of_close : (quote b : ℕ) (t : List ℕ) → b ≡ quote → length_of quote 0 (b ∷ t) ≡ Some 1
unfolding inside_from
length_of_close quote b t e = let same : (b == quote) ≡ true = grind arith in rw same refl

same_length : (v : List ℕ) (o : Option (List ℕ × ℕ))
    → option_map (λ found. found.1) (option_map (behind_piece v) o) ≡ option_map (λ found. found.1) (option_map one_more o)
same_length v None = refl
same_length v (Some found) = refl

pieced : (quote m : ℕ) (t : List ℕ) (o : Option (List ℕ × ℕ)) → option_map (λ found. found.1) o ≡ Some (suc m)
    → option_map (λ found. found.1) (option_and_then (λ piece. option_map (behind_piece piece.0) (inside_from quote (piece.1 - 1) t)) o)
    ≡ after (suc m) (length_of quote 0 (drop m t))
pieced quote m t None h = cc
pieced quote m t (Some found) h =
    let e : found.1 ≡ suc m = cc in
    let d : found.1 - 1 ≡ m = omega (arith, e) in
    rw d (same_length found.0 (inside_from quote m t)
    ∙ counted m (inside_from quote m t) (length_of quote 0 (drop m t)) (skipped quote m t))

length_of_piece : (quote b n : ℕ) (t : List ℕ) → b ≢ quote → option_map (λ found. found.1) (piece_at quote (b ∷ t)) ≡ Some n → 0 < n
    → length_of quote 0 (b ∷ t) ≡ after n (length_of quote 0 (drop n (b ∷ t)))
unfolding inside_from
length_of_piece quote b zero t other h some = absurd (omega arith)
length_of_piece quote b (suc m) t other h some =
    let differ : (b == quote) ≡ false = grind arith in rw differ (pieced quote m t (piece_at quote (b ∷ t)) h)

broken : (quote : ℕ) (t : List ℕ) (o : Option (List ℕ × ℕ)) → option_map (λ found. found.1) o ≡ None
    → option_map (λ found. found.1) (option_and_then (λ piece. option_map (behind_piece piece.0) (inside_from quote (piece.1 - 1) t)) o) ≡ None
broken quote t None h = refl
broken quote t (Some found) h = cc

length_of_broken : (quote b : ℕ) (t : List ℕ) → b ≢ quote → option_map (λ found. found.1) (piece_at quote (b ∷ t)) ≡ None
    → length_of quote 0 (b ∷ t) ≡ None
unfolding inside_from
length_of_broken quote b t other h =
    let differ : (b == quote) ≡ false = grind arith in rw differ (broken quote t (piece_at quote (b ∷ t)) h)

-- the four ways on
pub at_end : (quote : ℕ) (bytes : List ℕ) → length bytes < 1 → length_of quote 0 bytes ≡ None
at_end quote [] short = length_of_end quote
at_end quote (b ∷ t) short = absurd (omega arith)

pub at_close : (quote : ℕ) (bytes : List ℕ) → 0 < length bytes → get_or bytes 0 0 ≡ quote → length_of quote 0 bytes ≡ Some 1
at_close quote [] some e = absurd (omega arith)
at_close quote (b ∷ t) some e = length_of_close quote b t e

pub at_piece : (quote n : ℕ) (bytes : List ℕ) → 0 < length bytes → get_or bytes 0 0 ≢ quote
    → option_map (λ found. found.1) (piece_at quote bytes) ≡ Some n → 0 < n
    → length_of quote 0 bytes ≡ after n (length_of quote 0 (drop n bytes))
at_piece quote n [] some other h positive = absurd (omega arith)
at_piece quote n (b ∷ t) some other h positive = length_of_piece quote b n t other h positive

pub at_broken : (quote : ℕ) (bytes : List ℕ) → 0 < length bytes → get_or bytes 0 0 ≢ quote
    → option_map (λ found. found.1) (piece_at quote bytes) ≡ None → length_of quote 0 bytes ≡ None
at_broken quote [] some other h = absurd (omega arith)
at_broken quote (b ∷ t) some other h = length_of_broken quote b t other h
