-- What is shared out by a name is found at it.
use Rattle.std.proofs.Common.{◌≡◌, ℕ, Bool, true, false, cond, List, [], ◌∷◌, ◌++◌, filter, bytes_eq, Some, unwrap_or, refl, ap, sym, ◌∙◌, append-nil, append_assoc}
use Rattle.std.specs.Cmp.Lexicographic.{bytes_decides, nat_list_cmp_total, texts_ties}
use Rattle.std.specs.FinMap.Entries.{find-put}
use Rattle.op_base.specs.Maps.{Map, members_at, text_cmp, value_at, with_member, with_members}

module _ {X : Type 0} where
  -- a share has the thing more where it is the name's
  members-with_member : (n name : List ℕ) (item : X) (shares : Map (List X)) → members_at text_cmp (with_member text_cmp shares name item) n ≡ members_at text_cmp shares n ++ filter (λ (x : X). bytes_eq n name) (item ∷ [])
  members-with_member n name item shares =
      ap (λ o. unwrap_or o []) (find-put text_cmp nat_list_cmp_total n name (members_at text_cmp shares name ++ item ∷ []) shares)
      ∙ ap (λ b. unwrap_or (cond b (Some (members_at text_cmp shares name ++ item ∷ [])) (value_at shares n)) []) (sym (texts_ties n name))
      ∙ elim (bytes_eq n name) as (λ b. bytes_eq n name ≡ b → unwrap_or (cond b (Some (members_at text_cmp shares name ++ item ∷ [])) (value_at shares n)) [] ≡ members_at text_cmp shares n ++ filter (λ (x : X). b) (item ∷ [])) [
        | true ↦ λ is. ap (λ m. members_at text_cmp shares m ++ item ∷ []) (sym ((bytes_decides n name).0 is))
        | false ↦ λ _. sym (append-nil (members_at text_cmp shares n))
      ] refl

  filter-cons : (p : X → Bool) (item : X) (items : List X) → filter p (item ∷ items) ≡ filter (λ (x : X). p item) (item ∷ []) ++ filter p items
  filter-cons p item items =
      elim (p item) as (λ b. cond b (item ∷ filter p items) (filter p items) ≡ cond b (item ∷ []) [] ++ filter p items) [
        | true ↦ refl
        | false ↦ refl
      ]

  -- a share has the things of its name, in their order
  pub members-with_members : (name_of : X → List ℕ) (n : List ℕ) (items : List X) (shares : Map (List X))
      → members_at text_cmp (with_members text_cmp name_of shares items) n ≡ members_at text_cmp shares n ++ filter (λ item. bytes_eq n (name_of item)) items
  members-with_members name_of n [] shares = sym (append-nil (members_at text_cmp shares n))
  members-with_members name_of n (item ∷ items) shares =
      members-with_members name_of n items (with_member text_cmp shares (name_of item) item)
      ∙ ap (λ l. l ++ filter (λ item. bytes_eq n (name_of item)) items) (members-with_member n (name_of item) item shares)
      ∙ append_assoc (members_at text_cmp shares n) (filter (λ (x : X). bytes_eq n (name_of item)) (item ∷ [])) (filter (λ item. bytes_eq n (name_of item)) items)
      ∙ ap (λ l. members_at text_cmp shares n ++ l) (sym (filter-cons (λ item. bytes_eq n (name_of item)) item items))
