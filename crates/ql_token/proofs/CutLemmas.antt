-- How a text is cut step by step.
use Rattle.std.proofs.Common.{◌≡◌, ℕ, ◌+◌, ◌<◌, List, [], ◌∷◌, ◌++◌, Some, None, Result, Ok, Err, length, drop, refl, ap, sym, subst, arith, append-nil, append_assoc}
use Rattle.ql_tree.specs.Tokens.{gap_at, token_at, Cut, with_token, token_of}
use Rattle.ql_tree.specs.declared.token.Token.{Token}
use Rattle.ql_tree.specs.declared.token.TokenKind.{TokenKind}

-- the tokens before what else is cut
abbrev pub with_tokens : List Token → Result (List Token) ℕ → Result (List Token) ℕ
with_tokens tokens (Ok more) = Ok (tokens ++ more)
with_tokens tokens (Err place) = Err place

-- what is cut of the text from a place on, with the tokens found before it, is what is cut of the whole
pub record LeadsTo (whole : List ℕ) (found : List Token) (place : ℕ) (rest : List ℕ) : Type 0 where
  pub leads : (r : Result (List Token) ℕ) → Cut place rest r → Cut 0 whole (with_tokens found r)

none_before : (r : Result (List Token) ℕ) → r ≡ with_tokens [] r
none_before (Ok more) = refl
none_before (Err place) = refl

pub at_first : (whole : List ℕ) → LeadsTo whole [] 0 whole
at_first whole = record { leads = λ r cut. subst (λ s. Cut 0 whole s) (none_before r) cut }

pub past_gap : (whole : List ℕ) (found : List Token) (place : ℕ) (rest : List ℕ) (n : ℕ) (t : List ℕ) → LeadsTo whole found place rest
    → 0 < n → gap_at rest ≡ n → t ≡ drop n rest → LeadsTo whole found (place + n) t
past_gap whole found place rest n t before some is behind = record {
  leads = λ r cut. before.leads r (Cut.gap place rest r (subst (λ k. 0 < k) (sym is) some)
      (subst (λ k. Cut (place + k) (drop k rest) r) (sym is) (subst (λ u. Cut (place + n) u r) behind cut)));
}

pushed : (found : List Token) (token : Token) (r : Result (List Token) ℕ) → with_tokens found (with_token token r) ≡ with_tokens (found ++ (token ∷ [])) r
pushed found token (Ok more) = ap (λ tokens. Ok tokens) (sym (append_assoc found (token ∷ []) more))
pushed found token (Err place) = refl

pub past_token : (whole : List ℕ) (found : List Token) (place : ℕ) (rest : List ℕ) (kind : TokenKind) (n : ℕ) (new : List Token) (t : List ℕ)
    → LeadsTo whole found place rest → gap_at rest ≡ 0 → token_at rest ≡ Some (kind, n) → new ≡ found ++ (token_of place (kind, n) ∷ [])
    → t ≡ drop n rest → LeadsTo whole new (place + n) t
past_token whole found place rest kind n new t before no_gap is push behind = record {
  leads = λ r cut. subst (λ ts. Cut 0 whole (with_tokens ts r)) (sym push) (subst (λ s. Cut 0 whole s) (pushed found (token_of place (kind, n)) r)
      (before.leads (with_token (token_of place (kind, n)) r) (Cut.token place rest (kind, n) r no_gap is
      (subst (λ u. Cut (place + n) u r) behind cut))));
}

pub bad_here : (whole : List ℕ) (found : List Token) (place : ℕ) (rest : List ℕ) → LeadsTo whole found place rest → 0 < length rest
    → gap_at rest ≡ 0 → token_at rest ≡ None → Cut 0 whole (Err place)
bad_here whole found place rest before some no_gap no_token =
    before.leads (Err place) (Cut.bad place rest (λ e. let none : length rest ≡ 0 = ap length e in omega arith) no_gap no_token)

pub whole_cut : (whole : List ℕ) (found : List Token) (place : ℕ) (rest : List ℕ) → LeadsTo whole found place rest → length rest ≡ 0
    → Cut 0 whole (Ok found)
whole_cut whole found place [] before none = subst (λ ts. Cut 0 whole (Ok ts)) (append-nil found) (before.leads (Ok []) (Cut.end place))
whole_cut whole found place (b ∷ rest) before none = absurd (omega arith)
