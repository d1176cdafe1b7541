-- Stores grow: what is added stands behind what was there.
use Rattle.std.proofs.Common.{◌≡◌, true, false, List, [], ◌∷◌, ◌++◌, if◌then◌else◌, refl, ap, sym, ◌∙◌, append-nil, append_assoc}
use Rattle.srv_store.specs.declared.entry.Entry.{Entry}
use Rattle.srv_store.specs.Stores.{Store, has_twin, with_one, fresh, with_all, Grows}

pub grows-itself : (store : Store) → Grows store store
grows-itself store = ([], sym (append-nil store))

pub grows-further : (a b c : Store) → Grows a b → Grows b c → Grows a c
grows-further a b c ab bc = (ab.0 ++ bc.0, bc.1 ∙ ap (λ s. s ++ bc.0) ab.1 ∙ append_assoc a ab.0 bc.0)

pub grows-with_one : (store : Store) (entry : Entry) → Grows store (with_one store entry)
grows-with_one store entry =
    elim (has_twin store entry) as (λ b. Grows store (if b then store else store ++ entry ∷ [])) [
      | true ↦ grows-itself store
      | false ↦ (entry ∷ [], refl)
    ]

pub grows-with_all : (store : Store) (entries : List Entry) → Grows store (with_all store entries)
grows-with_all store entries = (fresh store entries, refl)

-- entries are added one after the other
pub with_all-cons : (store : Store) (entry : Entry) (entries : List Entry) → with_all store (entry ∷ entries) ≡ with_all (with_one store entry) entries
with_all-cons store entry entries =
    elim (has_twin store entry)
    as (λ b. store ++ (if b then fresh store entries else entry ∷ fresh (store ++ entry ∷ []) entries) ≡ with_all (if b then store else store ++ entry ∷ []) entries) [
      | true ↦ refl
      | false ↦ sym (append_assoc store (entry ∷ []) (fresh (store ++ entry ∷ []) entries))
    ]
