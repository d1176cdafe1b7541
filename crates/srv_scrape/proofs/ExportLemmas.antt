-- Names behind `exported_`.
use Rattle.std.proofs.Common.{◌≡◌, ℕ, zero, suc, ◌+◌, ◌<◌, ◌≤◌, true, false, true≢false, ◌||◌, List, [], ◌∷◌, ◌++◌, Some, codes, cond, is_some, length, if◌then◌else◌, refl, ap, sym, ◌∙◌, arith}
use Rattle.std.specs.declared.cmp.Ordering.TheVariants.{Less, Equal, Greater}
use Rattle.std.specs.Ordering.{nat_cmp, is_eq}
use Rattle.std.specs.Cmp.Lexicographic.{slice_cmp}
use Rattle.std.specs.FinMap.{slice_cmp-IsAntisymmetric, nat_cmp-IsAntisymmetric}
use Rattle.std.proofs.lemmas.List.Sums.{sum_by-cons}
use Rattle.op_base.specs.Maps.{value_at}
use Rattle.op_base.specs.Labels.{Texts}
use Rattle.srv_scrape.specs.Joined.{has_name, is_taken, exported, name_bytes, room_of, new_name}

-- a name that is there is not longer than all names together
pub name-le-name_bytes : (labels : Texts) (name : List ℕ) → has_name labels name ≡ true → length name ≤ name_bytes labels
name-le-name_bytes [] name there = absurd (true≢false (sym there))
name-le-name_bytes (e ∷ es) name there =
    let all = sum_by-cons (λ (label : List ℕ × List ℕ). length label.0) e es in
    elim (slice_cmp nat_cmp name e.0) as (λ o. slice_cmp nat_cmp name e.0 ≡ o → is_some (cond (is_eq o) (Some e.1) (value_at es name)) ≡ true
    → length name ≤ name_bytes (e ∷ es)) [
      | Less ↦ λ _ later. omega (arith, all, name-le-name_bytes es name later)
      | Equal ↦ λ same _. omega (arith, all, ap length (slice_cmp-IsAntisymmetric nat_cmp-IsAntisymmetric name e.0 same))
      | Greater ↦ λ _ later. omega (arith, all, name-le-name_bytes es name later)
    ] refl there

module _ (scraped given : Texts) where
  pub taken-le-room_of : (name : List ℕ) → is_taken scraped given name ≡ true → length name ≤ room_of scraped given
  taken-le-room_of name taken =
      elim (has_name given name) as (λ b. has_name given name ≡ b → b || has_name scraped name ≡ true → length name ≤ room_of scraped given) [
        | true ↦ λ there _. omega (arith, name-le-name_bytes given name there)
        | false ↦ λ _ there. omega (arith, name-le-name_bytes scraped name there)
      ] refl taken

  -- more turns than there is room for change nothing
  pub exported-enough : (room : ℕ) (name : List ℕ) → room_of scraped given < length name + room
      → exported (suc room) scraped given name ≡ exported room scraped given name
  exported-enough zero name long =
      elim (is_taken scraped given name) as (λ b. is_taken scraped given name ≡ b → (if b then codes "exported_" ++ name else name) ≡ name) [
        | true ↦ λ taken. absurd (omega (arith, long, taken-le-room_of name taken))
        | false ↦ λ _. refl
      ] refl
  exported-enough (suc room) name long =
      elim (is_taken scraped given name)
      as (λ b. (if b then exported (suc room) scraped given (codes "exported_" ++ name) else name) ≡ (if b then exported room scraped given (codes "exported_" ++ name) else name)) [
        | true ↦ exported-enough room (codes "exported_" ++ name) (omega (arith, long))
        | false ↦ refl
      ]

  -- a name that is taken ends as the one with another `exported_` before it
  pub exported-taken : (name : List ℕ) → 0 < length name → is_taken scraped given name ≡ true
      → exported (room_of scraped given) scraped given (codes "exported_" ++ name) ≡ exported (room_of scraped given) scraped given name
  exported-taken name some taken =
      ap (λ b. if b then exported (room_of scraped given) scraped given (codes "exported_" ++ name) else name) (sym taken)
      ∙ exported-enough (room_of scraped given) name (omega (arith, some))

  -- the name that comes out of enough turns is neither the target's, nor scraped, nor given already
  pub exported-free : (room : ℕ) (name : List ℕ) → room_of scraped given < length name + room
      → is_taken scraped given (exported room scraped given name) ≡ false
  exported-free zero name long =
      elim (is_taken scraped given name) as (λ b. is_taken scraped given name ≡ b → b ≡ false) [
        | true ↦ λ taken. absurd (omega (arith, long, taken-le-room_of name taken))
        | false ↦ λ _. refl
      ] refl
  exported-free (suc room) name long =
      elim (is_taken scraped given name)
      as (λ b. is_taken scraped given name ≡ b → is_taken scraped given (if b then exported room scraped given (codes "exported_" ++ name) else name) ≡ false) [
        | true ↦ λ _. exported-free room (codes "exported_" ++ name) (omega (arith, long))
        | false ↦ λ free. free
      ] refl

  -- so the new name of a clashing label is free
  pub new_name-free : (name : List ℕ) → is_taken scraped given (new_name scraped given name) ≡ false
  new_name-free name = exported-free (room_of scraped given) (codes "exported_" ++ name) (omega arith)
