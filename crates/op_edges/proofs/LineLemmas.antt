-- Lines of bytes: a front without a newline, and what comes behind it.
use Rattle.std.proofs.Common.{◌≡◌, ◌≢◌, inl, inr, ℕ, ◌+◌, ◌-◌, ◌<◌, ◌≤◌, true, cond, List, [], ◌∷◌, ◌++◌, ◌==◌, map, length, take, drop, get_or, zero, suc, refl, sym, ap, subst, ◌∙◌, append_assoc, length-append, arith}
use Rattle.std.proofs.Math.Seq.{take-add}
use Rattle.std.proofs.lemmas.List.{take_more, take-append-le}
use Rattle.std.proofs.lemmas.Bool.{ne_eqb, lt-ltb}
use Rattle.memchr.specs.Find.{Nowhere, Passes, is_byte}
use Rattle.op_edges.specs.Lines.{newline, most_line, most_bytes, onto, lines_of, shown, shown_as, shown_lines, is_line, IsClean, IsFine, Says}
use Rattle.op_edges.specs.Steps.{Holding, gone, MovesOn, LineEnds, Ends, IsPassed, AnswerCounts}
use Rattle.op_edges.specs.declared.lines.Line.{Line}
use Rattle.op_edges.specs.declared.lines.Line.TheVariants.{Whole, Long, End, Fault, Limit}

pub clean_append : (xs ys : List ℕ) → IsClean xs → IsClean ys → IsClean (xs ++ ys)
clean_append [] ys p q = q
clean_append (x ∷ xs) ys p q = (p.0, clean_append xs ys p.1 q)

pub clean_take : (n : ℕ) (xs : List ℕ) → IsClean xs → IsClean (take n xs)
clean_take zero xs p = tt
clean_take (suc n) [] p = tt
clean_take (suc n) (x ∷ xs) p = (p.0, clean_take n xs p.1)

-- one more byte that is no newline
pub clean_more : (xs : List ℕ) (i : ℕ) → i < length xs → IsClean (take i xs) → get_or xs i 0 ≢ newline → IsClean (take (i + 1) xs)
clean_more xs i within clean other = subst IsClean (sym (take_more xs i 0 within)) (clean_append (take i xs) (get_or xs i 0 ∷ []) clean (other, tt))

-- bytes among which no newline stands
pub none_clean : (n : ℕ) (xs : List ℕ) → n ≤ length xs → Nowhere (Passes (is_byte newline) xs) 0 n → IsClean (take n xs)
none_clean zero xs within none = tt
none_clean (suc n) [] within none = absurd (omega (arith, within))
none_clean (suc n) (x ∷ xs) within none = (
  λ is. none 0 (omega arith) (omega arith) (subst (λ b. (b == newline) ≡ true) (sym is) refl),
  none_clean n xs (omega (arith, within)) (λ k low high passes. none (suc k) (omega arith) (omega (arith, high)) passes),
)

-- such bytes behind a clean front
pub clean_behind : (clean n : ℕ) (xs : List ℕ) → IsClean (take clean xs) → n ≤ length (drop clean xs)
    → Nowhere (Passes (is_byte newline) (drop clean xs)) 0 n → IsClean (take (clean + n) xs)
clean_behind clean n xs tidy within none =
    subst IsClean (sym (take-add clean n xs)) (clean_append (take clean xs) (take n (drop clean xs)) tidy (none_clean n (drop clean xs) within none))

-- fewer bytes
pub clean_less : (n k : ℕ) (xs : List ℕ) → n ≤ k → IsClean (take k xs) → IsClean (take n xs)
clean_less zero k xs le p = tt
clean_less (suc n) k [] le p = tt
clean_less (suc n) zero (x ∷ xs) le p = absurd (omega (arith, le))
clean_less (suc n) (suc k) (x ∷ xs) le p = (p.0, clean_less n k xs (omega (arith, le)) p.1)

-- a clean front, and some clean bytes behind it
pub clean_within : (n k : ℕ) (front xs : List ℕ) → n ≤ length front + k → IsClean front → IsClean (take k xs) → IsClean (take n (front ++ xs))
clean_within n k [] xs le p q = clean_less n k xs (omega (arith, le)) q
clean_within zero k (x ∷ front) xs le p q = tt
clean_within (suc n) k (x ∷ front) xs le p q = (p.0, clean_within n k front xs (omega (arith, le)) p.1 q)

onto_line : (b : ℕ) (bytes line : List ℕ) (lines : List (List ℕ)) → b ≢ newline → lines_of bytes ≡ line ∷ lines → lines_of (b ∷ bytes) ≡ (b ∷ line) ∷ lines
onto_line b bytes line lines other is =
    ap (λ t. cond t ([] ∷ lines_of bytes) (onto b (lines_of bytes))) (ne_eqb b newline other) ∙ ap (onto b) is

-- a line with its newline
pub lines_front : (front rest : List ℕ) → IsClean front → lines_of (front ++ newline ∷ rest) ≡ front ∷ lines_of rest
lines_front [] rest clean = refl
lines_front (b ∷ front) rest clean = onto_line b (front ++ newline ∷ rest) front (lines_of rest) clean.0 (lines_front front rest clean.1)

lines_last : (b : ℕ) (line : List ℕ) → IsClean (b ∷ line) → lines_of (b ∷ line) ≡ (b ∷ line) ∷ []
lines_last b [] clean = ap (λ t. cond t ([] ∷ []) ((b ∷ []) ∷ [])) (ne_eqb b newline clean.0)
lines_last b (c ∷ line) clean = onto_line b (c ∷ line) (c ∷ line) [] clean.0 (lines_last c line clean.1)

-- a last line without one
pub lines_whole : (line : List ℕ) → IsClean line → 0 < length line → lines_of line ≡ line ∷ []
lines_whole [] clean some = absurd (omega (arith, some))
lines_whole (b ∷ line) clean some = lines_last b line clean

long_shown : (size : ℕ) (line : List ℕ) → most_line < size → shown_as size line ≡ Long
long_shown size line long = ap (λ t. cond t Long (Whole line)) (lt-ltb most_line size long)

whole_shown : (p : ℕ) (front rest : List ℕ) → length front ≡ p → IsPassed p → shown (front ++ rest) ≡ shown_as (p + length rest) rest
whole_shown p [] rest count (inl none) = ap (λ n. shown_as n rest) (omega (arith, none))
whole_shown p (x ∷ front) rest count (inl none) = absurd (omega (arith, count, none))
whole_shown p front rest count (inr long) =
    long_shown (length (front ++ rest)) (front ++ rest) (omega (arith, count, long, length-append front rest))
    ∙ sym (long_shown (p + length rest) rest (omega (arith, long)))

-- the rest of a line came, behind a front that was dropped
pub ends_line : (p : ℕ) (line : Line) (xs ys zs : List ℕ) → MovesOn 0 p xs ys → IsPassed p → LineEnds p line ys zs → shown_lines xs ≡ line ∷ shown_lines zs
ends_line p line xs ys zs (front, clean, is, count) passed (inl (rest, tidy, cut, same)) =
    ap shown_lines (is ∙ ap (λ l. front ++ l) cut ∙ sym (append_assoc front rest (newline ∷ zs)))
    ∙ ap (map shown) (lines_front (front ++ rest) zs (clean_append front rest clean tidy))
    ∙ ap (λ l. l ∷ shown_lines zs) (whole_shown p front rest (omega (arith, count)) passed ∙ sym same)
ends_line p line xs ys zs (front, clean, is, count) passed (inr (tidy, done, some, same)) =
    ap shown_lines is
    ∙ ap (map shown) (lines_whole (front ++ ys) (clean_append front ys clean tidy) (omega (arith, some, count, length-append front ys)))
    ∙ ap (λ l. l ∷ []) (whole_shown p front ys (omega (arith, count)) passed ∙ sym same)
    ∙ ap (λ l. line ∷ shown_lines l) (sym done)

no_bytes : (front xs : List ℕ) (n : ℕ) → length front ≡ n → n ≡ 0 → front ++ xs ≡ xs
no_bytes [] xs n count none = refl
no_bytes (x ∷ front) xs n count none = absurd (omega (arith, count, none))

-- an answer, from where the line began
pub says_after : (line : Line) (p gave away : ℕ) (xs ys zs : List ℕ) → MovesOn 0 p xs ys → IsPassed p → gave + p ≡ away → Ends p line away ys zs → Says line gave xs zs
says_after (Whole bytes) p gave away xs ys zs moved passed far ends = ends_line p (Whole bytes) xs ys zs moved passed ends
says_after Long p gave away xs ys zs moved passed far ends = ends_line p Long xs ys zs moved passed ends
says_after End p gave away xs ys zs (front, clean, is, count) passed far (none, nothing, done) =
    (is ∙ no_bytes front ys p (omega (arith, count)) none ∙ nothing, done)
says_after Fault p gave away xs ys zs moved passed far ends = tt
says_after Limit p gave away xs ys zs (front, clean, is, count) passed far (more, tidy) = (
  omega (arith, more, far, count, ap length is, length-append front ys),
  subst (λ l. IsClean (take (most_bytes - gave) l)) (sym is)
      (clean_within (most_bytes - gave) (most_bytes - away) front ys (omega (arith, far, count)) clean tidy),
)

pub moves_same : (p : ℕ) (xs : List ℕ) → MovesOn p p xs xs
moves_same p xs = ([], tt, refl, omega arith)

pub moves_then : (p q r : ℕ) (xs ys zs : List ℕ) → MovesOn p q xs ys → MovesOn q r ys zs → MovesOn p r xs zs
moves_then p q r xs ys zs (front, clean, is, count) (more, tidy, also, further) = (
  front ++ more,
  clean_append front more clean tidy,
  is ∙ ap (λ l. front ++ l) also ∙ sym (append_assoc front more zs),
  omega (arith, count, further, length-append front more),
)

-- a line's answer says where it ends
pub ends_of_line : (line : Line) (p away : ℕ) (xs ys : List ℕ) → is_line line ≡ true → LineEnds p line xs ys → Ends p line away xs ys
ends_of_line (Whole bytes) p away xs ys is ends = ends
ends_of_line Long p away xs ys is ends = ends
ends_of_line End p away xs ys is ends = cc
ends_of_line Fault p away xs ys is ends = cc
ends_of_line Limit p away xs ys is ends = cc

-- a line's answer counts
pub counts_of_line : (line : Line) (p : ℕ) (before after : Holding) → is_line line ≡ true → IsFine line → gone after ≤ most_bytes
    → gone before < gone after + p → AnswerCounts p line before after
counts_of_line (Whole bytes) p before after is fine within further = (fine, within, further)
counts_of_line Long p before after is fine within further = (within, further)
counts_of_line End p before after is fine within further = cc
counts_of_line Fault p before after is fine within further = cc
counts_of_line Limit p before after is fine within further = cc

-- the limit: the first bytes are held, and no newline is among them
pub limit_says : (away place p : ℕ) (bytes left : List ℕ) → most_bytes < away + length bytes → most_bytes - away ≤ place → place ≤ length bytes
    → IsClean (take place bytes) → Ends p Limit away (bytes ++ left) (bytes ++ left)
limit_says away place p bytes left more far within clean = (
  omega (arith, more, length-append bytes left),
  let fits : most_bytes - away ≤ length bytes = omega (arith, far, within) in rw take-append-le (clean_less (most_bytes - away) place bytes far clean),
)
