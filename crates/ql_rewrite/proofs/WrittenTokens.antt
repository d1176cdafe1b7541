-- The words of a text's tokens are ones that a text can write.
use Rattle.std.proofs.Common.{◌≡◌, ℕ, ◌+◌, ◌-◌, ◌⊎◌, inl, inr, pos, ◌≤ℤ◌, Bool, true, false, cond, List, [], ◌∷◌, Option, Some, None, Result, Ok, Err, IfOk, is_ok, map, take, drop, nat_le, nat_lt, option_map, unwrap_or, bytes_eq, slice_range, if◌then◌else◌, refl, ap, sym, subst, ◌∙◌, leb-true, ltb-false, le→leb, zero-le, arith}
use Rattle.std.specs.List.{AllByRecursion as Each, list_all, take_while}
use Rattle.std.specs.Str.Parse.{digits_value}
use Rattle.std.proofs.lemmas.List.{drop-drop}
use Rattle.std.proofs.lemmas.List.Sums.{take_while-cons}
use Rattle.op_base.specs.Names.{is_digit, is_metric_start, is_metric_byte, is_metric_name}
use Rattle.op_base.specs.Spans.{longest, span_within}
use Rattle.op_base.specs.Spans as spans
use Rattle.ql_tree.specs.Durations.{is_duration, duration_of, span_or_none}
use Rattle.ql_tree.specs.Strings.{is_quote, inside_from}
use Rattle.ql_tree.specs.Tokens.{MOST, gap_at, numeric_kind, doubles, is_single, symbol_at, run_at, token_at, token_of, with_token, Cut, IsTokens}
use Rattle.ql_tree.specs.Words.{symbols, found_in, word_of, word_in}
use Rattle.ql_tree.specs.declared.token.Token.{Token}
use Rattle.ql_tree.specs.declared.token.TokenKind.{TokenKind}
use Rattle.ql_tree.specs.declared.token.TokenKind.TheVariants as kind
use Rattle.ql_tree.specs.declared.word.Word.{Word}
use Rattle.ql_tree.specs.declared.word.Word.TheVariants as word
use Rattle.ql_rewrite.proofs.RunLemmas.{start_is_metric}
use Rattle.ql_rewrite.proofs.Written.{IsWritten, AreWritten}

-- which branch gave the value
chosen : {A : Type 0} (test : Bool) (x y : Option A) (value : A)
    → (if test then x else y) ≡ Some value
    → ((test ≡ true) × (x ≡ Some value)) ⊎ ((test ≡ false) × (y ≡ Some value))
chosen true x y value is = inl (refl, is)
chosen false x y value is = inr (refl, is)

mapped : {A B : Type 0} (f : A → B) (x : Option A) (value : B) → option_map f x ≡ Some value
    → (a : A) × ((x ≡ Some a) × (f a ≡ value))
mapped f None value is = cc
mapped f (Some a) value is = (a, (refl, cc))

front_passes : (p : ℕ → Bool) (bytes : List ℕ) → list_all p (take_while p bytes) ≡ true
front_passes p [] = refl
front_passes p (b ∷ bytes) =
    rw (take_while-cons p b bytes) (by_first (p b) refl (front_passes p bytes))
  where
    by_first : (passes : Bool) → p b ≡ passes → list_all p (take_while p bytes) ≡ true
        → list_all p (cond passes (b ∷ take_while p bytes) []) ≡ true
    by_first true is rest = rw is rest
    by_first false is rest = refl

name_written : (b : ℕ) (t : List ℕ) → is_metric_start b ≡ true
    → IsWritten (word_of kind.Word (take (run_at (b ∷ t)) (b ∷ t)))
unfolding word_of
name_written b t starts =
    let byte : is_metric_byte b ≡ true = start_is_metric b starts in
    let run : take_while is_metric_byte (b ∷ t) ≡ b ∷ take_while is_metric_byte t =
    take_while-cons is_metric_byte b t
    ∙ ap (λ passes. cond passes (b ∷ take_while is_metric_byte t) []) byte in
    let name : is_metric_name (b ∷ take_while is_metric_byte t) ≡ true =
    rw (starts, byte) (front_passes is_metric_byte t) in
    (subst (λ text. is_metric_name text ≡ true) (sym run) name, refl)

pub not_negative : (n : ℕ) → pos 0 ≤ℤ pos n
not_negative n = record { le = le→leb 0 n zero-le }

span_within_written : (found : Option ℕ) → is_ok (span_within found) ≡ true
    → IsWritten (word.Duration (span_or_none (span_within found)))
span_within_written None is = cc
span_within_written (Some n) is = by_size (nat_lt longest n) refl is
  where
    by_size : (long : Bool) → nat_lt longest n ≡ long → is_ok (span_within (Some n)) ≡ true
        → IsWritten (word.Duration (span_or_none (span_within (Some n))))
    by_size true e ok = let clash : false ≡ true = rw e at ok in cc
    by_size false e ok = rw e (not_negative n, ltb-false longest n e)

duration_written : (run : List ℕ) → is_duration run ≡ true → IsWritten (word_of kind.Duration run)
unfolding word_of is_duration duration_of
duration_written run is = span_within_written (spans.span_of run) is

numeric_written : (run : List ℕ) (k : TokenKind) → numeric_kind run ≡ Some k
    → IsWritten (word_of k run)
unfolding numeric_kind word_of
numeric_written run k is = elim (chosen (list_all is_digit run) _ _ k is) [
  | inl digits ↦ number (chosen (nat_le (digits_value 10 run) MOST) _ _ k digits.1)
  | inr other ↦ duration (chosen (is_duration run) _ _ k other.1)
]
  where
    number : ((nat_le (digits_value 10 run) MOST ≡ true) × (Some kind.Number ≡ Some k)) ⊎
        ((nat_le (digits_value 10 run) MOST ≡ false) × (None ≡ Some k))
        → IsWritten (word_of k run)
    number (inl fits) =
        let same : kind.Number ≡ k = cc in
        subst (λ j. IsWritten (word_of j run)) same
        (not_negative (digits_value 10 run), leb-true (digits_value 10 run) MOST fits.0)
    number (inr none) = cc

    duration : ((is_duration run ≡ true) × (Some kind.Duration ≡ Some k)) ⊎
        ((is_duration run ≡ false) × (None ≡ Some k)) → IsWritten (word_of k run)
    duration (inl is_one) = let same : kind.Duration ≡ k =
        cc in subst (λ j. IsWritten (word_of j run)) same (duration_written run is_one.0)
    duration (inr none) = cc

quoted_written : (text : List ℕ) → IsWritten (word_of kind.Str text)
unfolding word_of
quoted_written text = tt

found_written : (is_key : List ℕ → Bool) (entries : List (List ℕ × Word))
    → Each (λ (entry : List ℕ × Word). IsWritten entry.1) entries
    → IsWritten (unwrap_or (found_in is_key entries) word.Comma)
found_written is_key [] all = tt
found_written is_key (entry ∷ rest) all = by_key (is_key entry.0) (found_written is_key rest all.1)
  where
    by_key : (is : Bool) → IsWritten (unwrap_or (found_in is_key rest) word.Comma)
        → IsWritten (unwrap_or (if is then Some entry.1 else found_in is_key rest) word.Comma)
    by_key true behind = all.0
    by_key false behind = behind

each_symbol : Each (λ (entry : List ℕ × Word). IsWritten entry.1) symbols
each_symbol = assumption

symbol_written : (text : List ℕ) → IsWritten (word_of kind.Symbol text)
unfolding word_of
symbol_written text = found_written (bytes_eq text) symbols each_symbol

symbol_found : (b : ℕ) (t text : List ℕ) (found : TokenKind × ℕ) → symbol_at b t ≡ Some found
    → IsWritten (word_of found.0 text)
unfolding symbol_at
symbol_found b t text found is = elim (chosen (doubles b t) _ _ found is) [
  | inl double ↦ given 2 double.1
  | inr other ↦ single (chosen (is_single b) _ _ found other.1)
]
  where
    given : (n : ℕ) → Some (kind.Symbol, n) ≡ Some found → IsWritten (word_of found.0 text)
    given n e = let same : kind.Symbol ≡ found.0 =
        cc in subst (λ k. IsWritten (word_of k text)) same (symbol_written text)

    single : ((is_single b ≡ true) × (Some (kind.Symbol, 1) ≡ Some found)) ⊎
        ((is_single b ≡ false) × (None ≡ Some found))
        → IsWritten (word_of found.0 text)
    single (inl is_one) = given 1 is_one.1
    single (inr none) = cc

-- the word of the longest token
token_written : (text : List ℕ) (found : TokenKind × ℕ) → token_at text ≡ Some found
    → IsWritten (word_of found.0 (take found.1 text))
unfolding token_at
token_written [] found is = cc
token_written (b ∷ t) found is = elim (chosen (is_metric_start b) _ _ found is) [
  | inl name ↦ subst (λ (f : TokenKind × ℕ). IsWritten (word_of f.0 (take f.1 (b ∷ t))))
      (same (kind.Word, run_at (b ∷ t)) name.1) (name_written b t name.0)
  | inr other ↦ by_digit (chosen (is_digit b) _ _ found other.1)
]
  where
    same : (f : TokenKind × ℕ) → Some f ≡ Some found → f ≡ found
    same f e = cc

    by_run : (k : TokenKind)
        × ((numeric_kind (take (run_at (b ∷ t)) (b ∷ t)) ≡ Some k) × ((k, run_at (b ∷ t)) ≡ found))
        → IsWritten (word_of found.0 (take found.1 (b ∷ t)))
    by_run (k, is_kind) =
        subst (λ (f : TokenKind × ℕ). IsWritten (word_of f.0 (take f.1 (b ∷ t)))) is_kind.1
        (numeric_written (take (run_at (b ∷ t)) (b ∷ t)) k is_kind.0)

    by_text : (inner : List ℕ × ℕ)
        × ((inside_from b 0 t ≡ Some inner) × ((kind.Str, 1 + inner.1) ≡ found))
        → IsWritten (word_of found.0 (take found.1 (b ∷ t)))
    by_text (inner, is_text) =
        subst (λ (f : TokenKind × ℕ). IsWritten (word_of f.0 (take f.1 (b ∷ t)))) is_text.1
        (quoted_written (take (1 + inner.1) (b ∷ t)))

    by_quote : ((is_quote b ≡ true)
        × (option_map (λ (inner : List ℕ × ℕ). (kind.Str, 1 + inner.1)) (inside_from b 0 t)
        ≡ Some found))
        ⊎ ((is_quote b ≡ false) × (symbol_at b t ≡ Some found))
        → IsWritten (word_of found.0 (take found.1 (b ∷ t)))
    by_quote (inl text) = by_text (mapped _ (inside_from b 0 t) found text.1)
    by_quote (inr symbol) = symbol_found b t (take found.1 (b ∷ t)) found symbol.1

    by_digit : ((is_digit b ≡ true)
        × (option_map (λ (k : TokenKind). (k, run_at (b ∷ t)))
        (numeric_kind (take (run_at (b ∷ t)) (b ∷ t))) ≡ Some found))
        ⊎ ((is_digit b ≡ false)
        × ((if is_quote b then option_map (λ (inner : List ℕ × ℕ). (kind.Str, 1 + inner.1))
        (inside_from b 0 t) else symbol_at b t) ≡ Some found))
        → IsWritten (word_of found.0 (take found.1 (b ∷ t)))
    by_digit (inl run) = by_run (mapped _ (numeric_kind (take (run_at (b ∷ t)) (b ∷ t))) found run.1)
    by_digit (inr other) = by_quote (chosen (is_quote b) _ _ found other.1)

abbrev IfCut : List ℕ → Result (List Token) ℕ → Type 0
IfCut whole r = IfOk r (λ tokens. AreWritten (map (word_in whole) tokens))

with_written : (whole : List ℕ) (token : Token) (rest : Result (List Token) ℕ)
    → IsWritten (word_in whole token) → IfCut whole rest
    → IfCut whole (with_token token rest)
with_written whole token (Ok tokens) first all = (first, all)
with_written whole token (Err place) first all = tt

cut_written : (whole : List ℕ) (place : ℕ) (text : List ℕ) (r : Result (List Token) ℕ)
    → Cut place text r → text ≡ drop place whole
    → IfCut whole r
cut_written whole _ _ _ (Cut.end place) is = tt
cut_written whole _ _ _ (Cut.gap place text rest some more) is =
    cut_written whole (place + gap_at text) (drop (gap_at text) text) rest more
    (ap (drop (gap_at text)) is ∙ drop-drop (gap_at text) place whole)
cut_written whole _ _ _ (Cut.token place text found rest none is_token more) is =
    let size : (place + found.1) - place ≡ found.1 = omega arith in
    let bytes : slice_range whole place (place + found.1) ≡ take found.1 text =
    ap (λ n. take n (drop place whole)) size ∙ ap (take found.1) (sym is) in
    with_written whole (token_of place found) rest
    (subst (λ bs. IsWritten (word_of found.0 bs)) (sym bytes) (token_written text found is_token))
    (cut_written whole (place + found.1) (drop found.1 text) rest more
    (ap (drop found.1) is ∙ drop-drop found.1 place whole))
cut_written whole _ _ _ (Cut.bad place text some none no_token) is = tt

-- a text's words are such
pub tokens_written : (text : List ℕ) (tokens : List Token) → IsTokens text tokens
    → AreWritten (map (word_in text) tokens)
tokens_written text tokens cut = cut_written text 0 text (Ok tokens) cut refl
