-- A text is cut in one way.
use Rattle.std.proofs.Common.{◌≡◌, ◌≢◌, ℕ, ◌+◌, ◌<◌, List, [], Some, None, Result, Ok, Err, drop, refl, ap, sym, subst, ◌∙◌, arith}
use Rattle.ql_tree.specs.Tokens.{gap_at, token_at, Cut, with_token, token_of, IsTokens, IsBadAt}
use Rattle.ql_tree.specs.declared.token.Token.{Token}
use Rattle.ql_tree.specs.declared.token.TokenKind.{TokenKind}

gap_of_end : gap_at [] ≡ 0
unfolding gap_at
gap_of_end = refl

token_of_end : token_at [] ≡ None
unfolding token_at
token_of_end = refl

gap_next : (place : ℕ) (text : List ℕ) (s : Result (List Token) ℕ) → Cut place text s → 0 < gap_at text
    → Cut (place + gap_at text) (drop (gap_at text) text) s
gap_next _ _ _ (Cut.end place) some = absurd (omega (arith, gap_of_end))
gap_next _ _ _ (Cut.gap place text rest other more) some = more
gap_next _ _ _ (Cut.token place text found rest none is more) some = absurd (omega arith)
gap_next _ _ _ (Cut.bad place text left none is) some = absurd (omega arith)

token_next : (place : ℕ) (text : List ℕ) (s : Result (List Token) ℕ) (found : TokenKind × ℕ) → Cut place text s → gap_at text ≡ 0
    → token_at text ≡ Some found
    → (rest : Result (List Token) ℕ) × ((s ≡ with_token (token_of place found) rest) × Cut (place + found.1) (drop found.1 text) rest)
token_next _ _ _ found (Cut.end place) none is = let clash : Some found ≡ None = sym is ∙ token_of_end in cc
token_next _ _ _ found (Cut.gap place text rest some more) none is = absurd (omega arith)
token_next _ _ _ found (Cut.token place text other rest gap_none other_is more) none is =
    let same : other ≡ found = cc in
    (rest, (ap (λ f. with_token (token_of place f) rest) same, subst (λ f. Cut (place + f.1) (drop f.1 text) rest) same more))
token_next _ _ _ found (Cut.bad place text left gap_none no_token) none is = let clash : Some found ≡ None = sym is ∙ no_token in cc

bad_next : (place : ℕ) (text : List ℕ) (s : Result (List Token) ℕ) → Cut place text s → text ≢ [] → gap_at text ≡ 0
    → token_at text ≡ None → s ≡ Err place
bad_next _ _ _ (Cut.end place) left none is = absurd (left refl)
bad_next _ _ _ (Cut.gap place text rest some more) left none is = absurd (omega arith)
bad_next _ _ _ (Cut.token place text found rest gap_none found_is more) left none is =
    let clash : Some found ≡ None = sym found_is ∙ is in cc
bad_next _ _ _ (Cut.bad place text other gap_none no_token) left none is = refl

end_next : (place : ℕ) (text : List ℕ) (s : Result (List Token) ℕ) → Cut place text s → text ≡ [] → s ≡ Ok []
end_next _ _ _ (Cut.end place) is = refl
end_next _ _ _ (Cut.gap place text rest some more) is = absurd (let none : gap_at text ≡ 0 = ap gap_at is ∙ gap_of_end in omega arith)
end_next _ _ _ (Cut.token place text found rest gap_none found_is more) is =
    let clash : Some found ≡ None = sym found_is ∙ ap token_at is ∙ token_of_end in cc
end_next _ _ _ (Cut.bad place text left gap_none no_token) is = absurd (left is)

-- the tokens of a text, or the place where it has none, are determined
pub cut_alone : (place : ℕ) (text : List ℕ) (r s : Result (List Token) ℕ) → Cut place text r → Cut place text s → r ≡ s
cut_alone _ _ _ s (Cut.end place) other = sym (end_next place [] s other refl)
cut_alone _ _ _ s (Cut.gap place text rest some more) other =
    cut_alone (place + gap_at text) (drop (gap_at text) text) rest s more (gap_next place text s other some)
cut_alone _ _ _ s (Cut.token place text found rest none is more) other =
    let next = token_next place text s found other none is in
    ap (with_token (token_of place found)) (cut_alone (place + found.1) (drop found.1 text) rest next.0 more next.1.1) ∙ sym next.1.0
cut_alone _ _ _ s (Cut.bad place text left none is) other = sym (bad_next place text s other left none is)

-- a text whose tokens end somewhere has none
pub no_tokens_where_bad : (text : List ℕ) (place : ℕ) (tokens : List Token) → IsBadAt text place → IsTokens text tokens → ⊥
no_tokens_where_bad text place tokens broken good =
    let clash : Err place ≡ Ok tokens = cut_alone 0 text (Err place) (Ok tokens) broken good in cc
