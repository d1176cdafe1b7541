-- Symbols as tokens.
use Rattle.std.proofs.Common.{◌≡◌, ℕ, Bool, true, false, List, [], ◌∷◌, Some, ◌==◌, ◌&&◌, ◌||◌, refl}
use Rattle.op_base.specs.Names.{is_digit, is_metric_start}
use Rattle.ql_tree.specs.Strings.{is_quote}
use Rattle.ql_tree.specs.Tokens.{token_at, symbol_at, doubles, is_single}
use Rattle.ql_tree.specs.declared.token.TokenKind.TheVariants.{Symbol}
use Rattle.ql_rewrite.proofs.RunLemmas.{begins, is_second}

-- a byte that no second one makes another symbol
abbrev pub is_firm : ℕ → Bool
is_firm b = (b == 61 || b == 33 || b == 62 || b == 60) || (b == 61 || b == 33)

no_double : (equal tilde x y : Bool) → (x || y) ≡ false → ((equal && x) || (tilde && y)) ≡ false
no_double true tilde true y h = h
no_double true true false y h = h
no_double true false false y h = refl
no_double false true true y h = cc
no_double false true false y h = h
no_double false false x y h = refl

pub firm_alone : (b : ℕ) (rest : List ℕ) → is_firm b ≡ false → doubles b rest ≡ false
firm_alone b [] firm = refl
firm_alone b (c ∷ t) firm =
    no_double (c == 61) (c == 126) (b == 61 || b == 33 || b == 62 || b == 60) (b == 61 || b == 33) firm

no_second : (equal tilde x y : Bool) → (equal || tilde) ≡ false → ((equal && x) || (tilde && y)) ≡ false
no_second true tilde x y h = cc
no_second false true x y h = cc
no_second false false x y h = refl

pub apart_alone : (b : ℕ) (rest : List ℕ) → begins is_second rest ≡ false → doubles b rest ≡ false
apart_alone b [] apart = refl
apart_alone b (c ∷ t) apart =
    no_second (c == 61) (c == 126) (b == 61 || b == 33 || b == 62 || b == 60) (b == 61 || b == 33) apart

pub single_token : (b : ℕ) (rest : List ℕ) → is_metric_start b ≡ false → is_digit b ≡ false → is_quote b ≡ false
    → is_single b ≡ true → doubles b rest ≡ false → token_at (b ∷ rest) ≡ Some (Symbol, 1)
unfolding token_at symbol_at
single_token b rest start digit quote single alone = rw (start, digit, quote, alone, single) refl

pub firm_token : (b : ℕ) (rest : List ℕ) → is_metric_start b ≡ false → is_digit b ≡ false → is_quote b ≡ false
    → is_single b ≡ true → is_firm b ≡ false → token_at (b ∷ rest) ≡ Some (Symbol, 1)
firm_token b rest start digit quote single firm = single_token b rest start digit quote single (firm_alone b rest firm)
