-- What is found in a list of rows after one more.
use Rattle.std.proofs.Common.{◌≡◌, ◌∙◌, ◌||◌, ◌&&◌, Bool, true, false, cond, refl, ap, List, [], ◌∷◌, ◌++◌, Option, Some, None, is_some, append-nil, true≢false}
use Rattle.std.specs.List.{find, list_any}
use Rattle.std.specs.Str.{bytes_eq}
use Rattle.clap.specs.Walk.{Row, Text, at_row, more_values, with_values, without}
use Rattle.clap.specs.declared.builder.value_parser.Reading.{Reading as Read}
use Rattle.clap.specs.declared.parser.matches.ValueSource.TheVariants.{CommandLine}

-- the first row of an id
abbrev pub found : Text → List Row → Option Row
found id rows = find (λ r. bytes_eq r.id id) rows

-- what fails ends a conjunction
pub and_false : (b : Bool) → (b && false) ≡ false
and_false true = refl
and_false false = refl

-- some element passes where one is found
pub list_any-find : {X : Type 0} (test : X → Bool) (xs : List X) → list_any test xs ≡ is_some (find test xs)
list_any-find test [] = refl
list_any-find test (x ∷ xs) =
    let rest = list_any-find test xs in
    elim (test x) as (λ b. (b || list_any test xs) ≡ is_some (cond b (Some x) (find test xs))) [ true ↦ refl | false ↦ rest ]

-- a last element that fails isn't found
pub find_skips : {X : Type 0} (test : X → Bool) (xs : List X) (y : X) → test y ≡ false → find test (xs ++ y ∷ []) ≡ find test xs
find_skips test [] y fails = ap (λ b. cond b (Some y) None) fails
find_skips test (x ∷ xs) y fails = ap (λ o. cond (test x) (Some x) o) (find_skips test xs y fails)

-- a last element that passes is found where none before it does
pub find_last : {X : Type 0} (test : X → Bool) (xs : List X) (y : X) → find test xs ≡ None → test y ≡ true → find test (xs ++ y ∷ []) ≡ Some y
find_last test [] y none passes = ap (λ b. cond b (Some y) None) passes
find_last {X} test (x ∷ xs) y none passes =
    let rest : find test xs ≡ None → find test (xs ++ y ∷ []) ≡ Some y = λ h. find_last test xs y h passes in
    (elim (test x) as (λ b. cond b (Some x) (find test xs) ≡ None → cond b (Some x) (find test (xs ++ y ∷ [])) ≡ Some y) [
      | true ↦ λ h. absurd (true≢false (ap is_some h))
      | false ↦ λ h. rest h
    ]) none

-- a change of the row of an id that has none
pub at_row-new : (id : Text) (change : Row → List Row) (missing rows : List Row) → found id rows ≡ None → at_row id change missing rows ≡ rows ++ missing
at_row-new id change missing [] none = refl
at_row-new id change missing (r ∷ rs) none =
    let rest : found id rs ≡ None → at_row id change missing rs ≡ rs ++ missing = λ h. at_row-new id change missing rs h in
    (elim (bytes_eq r.id id) as (λ b. cond b (Some r) (found id rs) ≡ None → cond b (change r ++ rs) (r ∷ at_row id change missing rs) ≡ r ∷ (rs ++ missing)) [
      | true ↦ λ h. absurd (true≢false (ap is_some h))
      | false ↦ λ h. ap (λ t. r ∷ t) (rest h)
    ]) none

-- the row of a value that the command line gives
abbrev pub given_row : Text → Read → Text → Row
given_row id how value = record { id = id; values = value ∷ []; count = None; source = Some CommandLine; reading = how }

-- a first use of an argument adds its row
pub with_values-new : (id : Text) (how : Read) (value : Text) (rows : List Row) → found id rows ≡ None
    → with_values id how CommandLine (value ∷ []) (without id rows) ≡ rows ++ given_row id how value ∷ []
with_values-new id how value rows none =
    let kept : without id rows ≡ rows = at_row-new id (λ _. []) [] rows none ∙ append-nil rows in
    ap (with_values id how CommandLine (value ∷ [])) kept ∙ at_row-new id (more_values CommandLine (value ∷ [])) (given_row id how value ∷ []) rows none
