-- The words of a text have no negative duration. The grammar speaks of any words, and readers refuse
-- what is negative behind `offset -`.
use Rattle.std.proofs.Common.{◌≡◌, ℕ, pos, int_le, nat_lt, ◌&&◌, Bool, true, false, List, [], ◌∷◌, ◌++◌, map, Option, Some, None, refl, bytes_eq, inl, inr, arith}
use Rattle.std.specs.List.{AllByRecursion, list_all}
use Rattle.std.specs.Option.{unwrap_or}
use Rattle.std.proofs.lemmas.Bool.{cases_Bool, le-leb}
use Rattle.op_base.specs.Spans.{span_of, span_within, longest}
use Rattle.ql_tree.specs.Durations.{duration_of, span_or_none}
use Rattle.ql_tree.specs.Words.{word_of, word_in, found_in, symbols}
use Rattle.ql_tree.specs.declared.token.Token.{Token}
use Rattle.ql_tree.specs.declared.token.TokenKind.{TokenKind}
use Rattle.ql_tree.specs.declared.token.TokenKind.TheVariants as kind
use Rattle.ql_tree.specs.declared.word.Word.{Word}
use Rattle.ql_tree.specs.declared.word.Word.TheVariants as word

-- the word isn't a negative duration
abbrev pub is_forward : Word → Bool
is_forward (word.Duration span) = int_le (pos 0) span.0
is_forward _ = true

abbrev pub Forward : List Word → Type 0
Forward us = AllByRecursion (λ w. is_forward w ≡ true) us

pub front_part : (us vs : List Word) → Forward (us ++ vs) → Forward us
front_part [] vs all = tt
front_part (w ∷ us) vs all = (all.0, front_part us vs all.1)

pub back_part : (us vs : List Word) → Forward (us ++ vs) → Forward vs
back_part [] vs all = all
back_part (w ∷ us) vs all = back_part us vs all.1

within_forward : (o : Option ℕ) → int_le (pos 0) (span_or_none (span_within o)).0 ≡ true
within_forward None = refl
within_forward (Some ms) = elim (cases_Bool (nat_lt longest ms)) [
  | inl long ↦ rw long refl
  | inr short ↦ rw short (le-leb 0 ms (omega arith))
]

symbol_forward : (text : List ℕ) (entries : List (List ℕ × Word))
    → AllByRecursion (λ (e : List ℕ × Word). is_forward e.1 ≡ true) entries
    → is_forward (unwrap_or (found_in (bytes_eq text) entries) word.Comma) ≡ true
symbol_forward text [] all = refl
symbol_forward text (entry ∷ rest) all = elim (cases_Bool (bytes_eq text entry.0)) [
  | inl own ↦ rw own all.0
  | inr other ↦ rw other (symbol_forward text rest all.1)
]

both : (b c : Bool) → (b && c) ≡ true → (b ≡ true) × (c ≡ true)
both true c is = (refl, is)
both false c is = cc is

each_of_test : (entries : List (List ℕ × Word))
    → list_all (λ (e : List ℕ × Word). is_forward e.1) entries ≡ true
    → AllByRecursion (λ (e : List ℕ × Word). is_forward e.1 ≡ true) entries
each_of_test [] is = tt
each_of_test (entry ∷ rest) is =
    let parts =
    both (is_forward entry.1) (list_all (λ (e : List ℕ × Word). is_forward e.1) rest) is
    in
    (parts.0, each_of_test rest parts.1)

word_forward : (k : TokenKind) (text : List ℕ) → is_forward (word_of k text) ≡ true
unfolding word_of duration_of
word_forward kind.Word text = refl
word_forward kind.Number text = refl
word_forward kind.Duration text = within_forward (span_of text)
word_forward kind.Str text = refl
word_forward kind.Symbol text = symbol_forward text symbols (each_of_test symbols refl)

pub words_forward : (text : List ℕ) (ts : List Token) → Forward (map (word_in text) ts)
words_forward text [] = tt
words_forward text (t ∷ ts) = (word_forward t.kind _, words_forward text ts)
