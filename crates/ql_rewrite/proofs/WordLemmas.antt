-- The bytes of a word are one token, which is read as the word.
use Rattle.std.proofs.Common.{◌≡◌, ℕ, ◌≤◌, pos, negsuc, nat_abs, Bool, true, false, List, [], ◌∷◌, ◌++◌, Some, length, not, ◌&&◌, refl, ap, sym, ◌∙◌, arith}
use Rattle.std.proofs.lemmas.Int.{ints}
use Rattle.op_base.specs.Names.{is_metric_byte}
use Rattle.op_base.proofs.SpanReadLemmas.{of_size}
use Rattle.ql_tree.specs.Pieces.{bytes_of, quoted_text}
use Rattle.ql_tree.specs.Tokens.{gap_at, token_at, symbol_at, MOST}
use Rattle.ql_tree.specs.Words.{word_of, number_of}
use Rattle.ql_tree.specs.declared.word.Word.{Word}
use Rattle.ql_tree.specs.declared.word.Word.TheVariants as word
use Rattle.ql_rewrite.proofs.Written.{kind_of, IsWritten, is_run, may_double, begins_equal, is_safe}
use Rattle.ql_rewrite.proofs.RunLemmas.{begins, is_second, name_token, begins_both, run_is_not_second, run_is_no_gap, name_begins}
use Rattle.ql_rewrite.proofs.NumberLemmas.{begins_metric, decimal_is_numeric, decimal_value, number_token, duration_token, duration_begins, duration_value}
use Rattle.ql_rewrite.proofs.QuoteLemmas.{quoted_token, quoted_value}
use Rattle.ql_rewrite.proofs.SymbolLemmas.{firm_token, apart_alone, single_token}

-- the text doesn't go on with what the word before it would take in
pub record Stops (w : Word) (rest : List ℕ) : Type 0 where
  pub run : is_run w ≡ true → begins is_metric_byte rest ≡ false
  pub double : may_double w ≡ true → begins is_second rest ≡ false

pub token_of_word : (w : Word) (rest : List ℕ) → IsWritten w → Stops w rest
    → token_at (bytes_of w ++ rest) ≡ Some (kind_of w, length (bytes_of w))
unfolding token_at symbol_at
token_of_word (word.Number (pos n)) rest is stops = number_token n rest is.1 (stops.run refl)
token_of_word (word.Number (negsuc n)) rest is stops = absurd (omega (arith, ints, is.0))
token_of_word (word.Duration span) rest is stops = duration_token (nat_abs span.0) rest is.1 (stops.run refl)
token_of_word (word.Name k text) rest is stops = name_token text rest is.0 (stops.run refl)
token_of_word (word.Quoted text) rest is stops = quoted_token text rest
token_of_word word.Plus rest is stops = firm_token 43 rest refl refl refl refl refl
token_of_word word.Minus rest is stops = firm_token 45 rest refl refl refl refl refl
token_of_word word.Star rest is stops = firm_token 42 rest refl refl refl refl refl
token_of_word word.Slash rest is stops = firm_token 47 rest refl refl refl refl refl
token_of_word word.Percent rest is stops = firm_token 37 rest refl refl refl refl refl
token_of_word word.Greater rest is stops = single_token 62 rest refl refl refl refl (apart_alone 62 rest (stops.double refl))
token_of_word word.Less rest is stops = single_token 60 rest refl refl refl refl (apart_alone 60 rest (stops.double refl))
token_of_word word.Assign rest is stops = single_token 61 rest refl refl refl refl (apart_alone 61 rest (stops.double refl))
token_of_word word.Open rest is stops = firm_token 40 rest refl refl refl refl refl
token_of_word word.Close rest is stops = firm_token 41 rest refl refl refl refl refl
token_of_word word.OpenBrace rest is stops = firm_token 123 rest refl refl refl refl refl
token_of_word word.CloseBrace rest is stops = firm_token 125 rest refl refl refl refl refl
token_of_word word.OpenSquare rest is stops = firm_token 91 rest refl refl refl refl refl
token_of_word word.CloseSquare rest is stops = firm_token 93 rest refl refl refl refl refl
token_of_word word.Comma rest is stops = firm_token 44 rest refl refl refl refl refl
token_of_word _ rest is stops = refl

pub word_of_token : (w : Word) → IsWritten w → word_of (kind_of w) (bytes_of w) ≡ w
unfolding word_of
word_of_token (word.Number (pos n)) is =
    let most : n ≤ MOST = is.1 in ap (λ k. word.Number (number_of k)) (decimal_value n (omega arith))
word_of_token (word.Number (negsuc n)) is = absurd (omega (arith, ints, is.0))
word_of_token (word.Duration span) is = ap (λ s. word.Duration s) (duration_value (nat_abs span.0) is.1 ∙ of_size span is.0)
word_of_token (word.Name k text) is = ap (λ m. word.Name m text) (sym is.1)
word_of_token (word.Quoted text) is = ap (λ t. word.Quoted t) (quoted_value text)
word_of_token _ is = refl

-- what a text begins with that begins with the word
record IsBegun (w : Word) (text : List ℕ) : Type 0 where
  metric : begins is_metric_byte text ≡ is_run w
  second : begins is_second text ≡ begins_equal w
  gap : gap_at text ≡ 0

run_begun : (w : Word) (bytes rest : List ℕ) → is_run w ≡ true → begins_equal w ≡ false
    → begins is_metric_byte bytes ≡ true → IsBegun w (bytes ++ rest)
run_begun w bytes rest run no_equal begin = record {
  metric = begins_both is_metric_byte bytes rest begin ∙ sym run;
  second = run_is_not_second bytes rest begin ∙ sym no_equal;
  gap = run_is_no_gap bytes rest begin;
}

-- a name, number or duration begins with a letter or digit
begun : (w : Word) (rest : List ℕ) → IsWritten w → IsBegun w (bytes_of w ++ rest)
unfolding quoted_text gap_at
begun (word.Number (pos n)) rest is =
    let most : n ≤ MOST = is.1 in
    run_begun (word.Number (pos n)) (bytes_of (word.Number (pos n))) rest refl refl
    (begins_metric _ (decimal_is_numeric n (omega arith)))
begun (word.Number (negsuc n)) rest is = absurd (omega (arith, ints, is.0))
begun (word.Duration span) rest is =
    run_begun (word.Duration span) (bytes_of (word.Duration span)) rest refl refl (duration_begins (nat_abs span.0) is.1)
begun (word.Name k text) rest is = run_begun (word.Name k text) text rest refl refl (name_begins text is.0)
begun _ rest is = record { metric = refl; second = refl; gap = refl }

pub no_gap_at_word : (w : Word) (rest : List ℕ) → IsWritten w → gap_at (bytes_of w ++ rest) ≡ 0
no_gap_at_word w rest is = (begun w rest is).gap

apart : (a b c d : Bool) → (not (a && b) && not (c && d)) ≡ true → a ≡ true → b ≡ false
apart true true c d safe is = cc
apart true false c d safe is = refl
apart false b c d safe is = cc

apart_too : (a b c d : Bool) → (not (a && b) && not (c && d)) ≡ true → c ≡ true → d ≡ false
apart_too a b c d safe is = grind arith

-- a word stops before one that may follow it, before a space, and at the end
pub stops_before : (v w : Word) (rest : List ℕ) → IsWritten w → is_safe v w ≡ true → Stops v (bytes_of w ++ rest)
stops_before v w rest is safe = record {
  run = λ run. (begun w rest is).metric ∙ apart (is_run v) (is_run w) (may_double v) (begins_equal w) safe run;
  double = λ double. (begun w rest is).second ∙ apart_too (is_run v) (is_run w) (may_double v) (begins_equal w) safe double;
}

pub stops_before_space : (v : Word) (rest : List ℕ) → Stops v (32 ∷ rest)
stops_before_space v rest = record { run = λ run. refl; double = λ double. refl }

pub stops_at_end : (v : Word) → Stops v []
stops_at_end v = record { run = λ run. refl; double = λ double. refl }
