-- What `tokens_in` gives is how the text is cut, and the only way.
use Rattle.std.proofs.Common.{◌≡◌, ℕ, zero, suc, ◌+◌, ◌<◌, ◌≤◌, Bool, true, false, cond, List, [], ◌∷◌, Option, Some, None, Ok, drop, take, length, length-drop, refl, sym, subst, arith}
use Rattle.std.specs.Option.{option_map}
use Rattle.op_base.specs.Names.{is_digit, is_metric_byte, is_metric_start}
use Rattle.ql_tree.specs.Strings.{is_quote, inside_from}
use Rattle.ql_tree.specs.Tokens.{gap_at, token_at, run_at, numeric_kind, symbol_at, doubles, is_single, Cut, IsTokens}
use Rattle.ql_tree.specs.declared.token.Token.{Token}
use Rattle.ql_tree.specs.declared.token.TokenKind.{TokenKind}
use Rattle.ql_tree.specs.declared.token.TokenKind.TheVariants.{Str, Word, Symbol}
use Rattle.ql_tree.proofs.TokenLemmas.{cut_alone}
use Rattle.ql_parse.specs.Cutting.{cut_front, cut_within, tokens_in}

-- a token has a byte
abbrev HasByte : Option (TokenKind × ℕ) → Type 0
HasByte found = (one : TokenKind × ℕ) → found ≡ Some one → 0 < one.1

no_token : HasByte None
no_token one is = cc

so_long : (kind : TokenKind) (n : ℕ) → 0 < n → HasByte (Some (kind, n))
so_long kind n some one is = let same : (kind, n) ≡ one = cc in subst (λ o. 0 < o.1) same some

run_has_byte : (b : ℕ) (t : List ℕ) → is_metric_byte b ≡ true → 0 < run_at (b ∷ t)
run_has_byte b t is = rw is (omega arith)

numeric_has_byte : (kind : Option TokenKind) (n : ℕ) → 0 < n → HasByte (option_map (λ k. (k, n)) kind)
numeric_has_byte None n some = no_token
numeric_has_byte (Some kind) n some = so_long kind n some

string_has_byte : (found : Option (List ℕ × ℕ)) → HasByte (option_map (λ inside. (Str, 1 + inside.1)) found)
string_has_byte None = no_token
string_has_byte (Some inside) = so_long Str (1 + inside.1) (omega arith)

symbol_has_byte : (b : ℕ) (t : List ℕ) → HasByte (symbol_at b t)
unfolding symbol_at
symbol_has_byte b t =
    elim (doubles b t) as (λ d. HasByte (cond d (Some (Symbol, 2)) (cond (is_single b) (Some (Symbol, 1)) None))) [
      | true ↦ so_long Symbol 2 (omega arith)
      | false ↦ elim (is_single b) as (λ s. HasByte (cond s (Some (Symbol, 1)) None)) [
        | true ↦ so_long Symbol 1 (omega arith)
        | false ↦ no_token
      ]
    ]

digit_in_word : (b : ℕ) → is_digit b ≡ true → is_metric_byte b ≡ true
digit_in_word b is = grind arith

start_in_word : (b : ℕ) → is_metric_start b ≡ true → is_metric_byte b ≡ true
start_in_word b is = grind arith

token_has_byte : (text : List ℕ) → HasByte (token_at text)
unfolding token_at
token_has_byte [] = no_token
token_has_byte (b ∷ t) = by_first (is_metric_start b) (is_digit b) (is_quote b) refl refl
  where
    by_first : (word digit quote : Bool) → is_metric_start b ≡ word → is_digit b ≡ digit
        → HasByte (cond word (Some (Word, run_at (b ∷ t)))
        (cond digit (option_map (λ kind. (kind, run_at (b ∷ t))) (numeric_kind (take (run_at (b ∷ t)) (b ∷ t))))
        (cond quote (option_map (λ found. (Str, 1 + found.1)) (inside_from b 0 t)) (symbol_at b t))))
    by_first true digit quote word_is digit_is = so_long Word (run_at (b ∷ t)) (run_has_byte b t (start_in_word b word_is))
    by_first false true quote word_is digit_is =
        numeric_has_byte (numeric_kind (take (run_at (b ∷ t)) (b ∷ t))) (run_at (b ∷ t)) (run_has_byte b t (digit_in_word b digit_is))
    by_first false false true word_is digit_is = string_has_byte (inside_from b 0 t)
    by_first false false false word_is digit_is = symbol_has_byte b t

-- behind a gap or a token there is less text
fewer : (k n : ℕ) (b : ℕ) (t : List ℕ) → 0 < k → length (b ∷ t) ≤ suc n → length (drop k (b ∷ t)) ≤ n
fewer k n b t some within = omega (arith, length-drop k (b ∷ t))

front_cut : (n place : ℕ) (b : ℕ) (t : List ℕ) (gap : ℕ) (found : Option (TokenKind × ℕ)) → length (b ∷ t) ≤ suc n
    → ((p : ℕ) (rest : List ℕ) → length rest ≤ n → Cut p rest (cut_within n p rest))
    → gap_at (b ∷ t) ≡ gap → token_at (b ∷ t) ≡ found
    → Cut place (b ∷ t) (cut_front (cut_within n) place (b ∷ t) gap found)
front_cut n place b t (suc gap) found within behind gap_is found_is =
    let here : Cut (place + suc gap) (drop (suc gap) (b ∷ t)) (cut_within n (place + suc gap) (drop (suc gap) (b ∷ t))) =
    behind (place + suc gap) (drop (suc gap) (b ∷ t)) (fewer (suc gap) n b t (omega arith) within) in
    Cut.gap place (b ∷ t) (cut_within n (place + suc gap) (drop (suc gap) (b ∷ t))) (subst (λ g. 0 < g) (sym gap_is) (omega arith))
    (subst (λ g. Cut (place + g) (drop g (b ∷ t)) (cut_within n (place + suc gap) (drop (suc gap) (b ∷ t)))) (sym gap_is) here)
front_cut n place b t zero (Some found) within behind gap_is found_is =
    Cut.token place (b ∷ t) found (cut_within n (place + found.1) (drop found.1 (b ∷ t))) gap_is found_is
    (behind (place + found.1) (drop found.1 (b ∷ t)) (fewer found.1 n b t (token_has_byte (b ∷ t) found found_is) within))
front_cut n place b t zero None within behind gap_is found_is = Cut.bad place (b ∷ t) (λ is. cc) gap_is found_is

-- the text is cut so
pub cut_is : (n place : ℕ) (text : List ℕ) → length text ≤ n → Cut place text (cut_within n place text)
unfolding cut_within
cut_is zero place [] within = Cut.end place
cut_is (suc n) place [] within = Cut.end place
cut_is zero place (b ∷ t) within = absurd (omega (arith, within))
cut_is (suc n) place (b ∷ t) within =
    front_cut n place b t (gap_at (b ∷ t)) (token_at (b ∷ t)) within (λ p rest. cut_is n p rest) refl refl

pub tokens_are : (text : List ℕ) → Cut 0 text (tokens_in text)
tokens_are text = cut_is (length text) 0 text (omega arith)

-- and in no other way
pub tokens_alone : (text : List ℕ) (tokens : List Token) → IsTokens text tokens → tokens_in text ≡ Ok tokens
tokens_alone text tokens are = cut_alone 0 text (tokens_in text) (Ok tokens) (tokens_are text) are
