-- Elements and moments are walked as far as both go.
use Rattle.std.proofs.Common.{◌≡◌, ◌≤◌, ℕ, min, List, [], ◌∷◌, ◌++◌, length, drop, refl, ap, sym, ◌∙◌, append-nil, ◌⊎◌, inl, inr, arith}
use Rattle.std.proofs.Math.ListN.{drop_of_length-le}
use Rattle.op_base.specs.declared.moment.Moment.{Moment}
use Rattle.ql_call.specs.Calls.{stamped}
use Rattle.ql_call.specs.Elements.{Element}
use Rattle.ql_call.specs.declared.changed.Changed.{Changed}

no_moment : (elements : List Element) → stamped elements [] ≡ []
no_moment [] = refl
no_moment (e ∷ elements) = refl

one_ends : (a b n : ℕ) → n ≡ min a b → (a ≤ n) ⊎ (b ≤ n)
one_ends a b n h = grind arith

nothing_left : (elements : List Element) (moments : List Moment) (n : ℕ) → (length elements ≤ n) ⊎ (length moments ≤ n) → stamped (drop n elements) (drop n moments) ≡ []
nothing_left elements moments n (inl h) = ap (λ es. stamped es (drop n moments)) (drop_of_length-le elements h)
nothing_left elements moments n (inr h) = ap (stamped (drop n elements)) (drop_of_length-le moments h) ∙ no_moment (drop n elements)

-- at the end all are stamped
pub all_stamped : (elements : List Element) (moments : List Moment) (n : ℕ) (changed : List Changed) → n ≡ min (length elements) (length moments)
    → stamped elements moments ≡ changed ++ stamped (drop n elements) (drop n moments) → changed ≡ stamped elements moments
all_stamped elements moments n changed ends so_far =
    sym (so_far ∙ ap (λ rest. changed ++ rest) (nothing_left elements moments n (one_ends (length elements) (length moments) n ends)) ∙ append-nil changed)
