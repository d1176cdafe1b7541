-- A list with commas that is read item by item: what stays the same, and how it ends.
use Rattle.std.proofs.Common.{◌≡◌, ℕ, suc, ◌+◌, ◌-◌, ◌<◌, ◌≤◌, List, [], ◌∷◌, ◌++◌, Some, None, refl, ap, sym, ◌∙◌, arith, append-nil, append_assoc}
use Rattle.ql_tree.specs.declared.word.Word.{Word}
use Rattle.ql_tree.specs.declared.word.Word.TheVariants as word
use Rattle.ql_parse.specs.CommaLists.{followed, comma_list}
use Rattle.ql_parse.specs.Found.{Found, Reader, ◌>>=◌, with_front}
use Rattle.ql_parse.specs.FrontWords.{beyond}
use Rattle.ql_parse.specs.Gives.{Lacks}
use Rattle.ql_parse.specs.declared.fault.ParseFault.{ParseFault}
use Rattle.ql_parse.specs.declared.fault.ParseFault.TheVariants.{NotExpr, NoMemory}

-- items before a list that is read
abbrev pub with_all : {A : Type 0} → List A → Found (List A) → Found (List A)
with_all xs None = None
with_all xs (Some found) = Some (xs ++ found.0, found.1)

one_left : (total step : ℕ) → step < total → total - step ≡ suc (total - (step + 1))
one_left total step inside = omega arith

all_front : {A : Type 0} (xs : List A) (x : A) (found : Found (List A))
    → with_all xs (with_front x found) ≡ with_all (xs ++ x ∷ []) found
all_front xs x None = refl
all_front xs x (Some found) = ap (λ ys. Some (ys, found.1)) (sym (append_assoc xs (x ∷ []) found.0))

-- the items so far, and what is read of the rest in the turns that are left, are the whole
module _ {A : Type 0} (items : ℕ → Reader (List A)) (whole : Found (List A)) (found : List A)
    (total step : ℕ) (rest : List Word)
    (so_far : with_all found (items (total - step) rest) ≡ whole) where
  stops : step < total → (read : Found (List A)) → ((m : ℕ) → items (suc m) rest ≡ read)
      → whole ≡ with_all found read
  stops inside read is =
      sym so_far ∙ ap (λ m. with_all found (items m rest)) (one_left total step inside)
      ∙ ap (with_all found) (is (total - (step + 1)))

  pub no_more : (end : List Word) → step < total
      → ((m : ℕ) → items (suc m) rest ≡ Some ([], end)) → whole ≡ Some (found, end)
  no_more end inside is =
      stops inside (Some ([], end)) is ∙ ap (λ xs. Some (xs, end)) (append-nil found)

  pub no_turns : total ≤ step → ((ts : List Word) → items 0 ts ≡ None) → whole ≡ None
  no_turns past none =
      let spent : total - step ≡ 0 = omega arith in
      sym so_far ∙ ap (λ m. with_all found (items m rest)) spent ∙ ap (with_all found) (none rest)

-- A turn where an item is to be read: the items so far, and what is read of the rest in the turns that are
-- left, are the whole.
pub record Turn {A : Type 0} (items : ℕ → Reader (List A)) (closing : Word) (item : Reader A)
    (whole : Found (List A)) (found : List A) (total step : ℕ) (ts : List Word) : Type 0 where
  pub so_far : with_all found (items (total - step) ts) ≡ whole
  pub inside : step < total
  pub reads : (m : ℕ) → items (suc m) ts ≡ (item ts >>= followed closing (items m))

module _ {A : Type 0} {items : ℕ → Reader (List A)} {closing : Word} {item : Reader A}
    {whole : Found (List A)} {found : List A} {total step : ℕ} {ts : List Word}
    (turn : Turn items closing item whole found total step ts) where
  -- what the turn reads is read in it
  turned : (read : Found (List A)) → ((m : ℕ) → items (suc m) ts ≡ read) → whole ≡ with_all found read
  turned read is = stops items whole found total step ts turn.so_far turn.inside read is

  pub no_item : (fault : ParseFault) → Lacks fault (item ts) → Lacks fault whole
  no_item NotExpr lacks =
      turned None (λ m. turn.reads m ∙ ap (λ o. o >>= followed closing (items m)) lacks)
  no_item NoMemory lacks = tt

  module _ (x : A) (next : List Word) (is : item ts ≡ Some (x, next)) where
    pub last_one : (new : List A) (end : List Word) → new ≡ found ++ x ∷ []
        → beyond closing next ≡ Some end → whole ≡ Some (new, end)
    last_one new end grown closes =
        turned (Some (x ∷ [], end)) (λ m. turn.reads m ∙ rw (is, closes) refl)
        ∙ ap (λ xs. Some (xs, end)) (sym grown)

    pub no_comma : beyond closing next ≡ None → beyond word.Comma next ≡ None → whole ≡ None
    no_comma goes_on none = turned None (λ m. turn.reads m ∙ rw (is, goes_on, none) refl)

    pub one_more : (new : List A) (after : List Word) → new ≡ found ++ x ∷ []
        → beyond closing next ≡ None → beyond word.Comma next ≡ Some after
        → with_all new (items (total - (step + 1)) after) ≡ whole
    one_more new after grown goes_on comma =
        let left = total - (step + 1) in
        let read : items (suc left) ts ≡ with_front x (items left after) =
        turn.reads left ∙ rw (is, goes_on, comma) refl
        in
        ap (λ xs. with_all xs (items left after)) grown
        ∙ sym (all_front found x (items left after))
        ∙ ap (with_all found) (sym read)
        ∙ ap (λ m. with_all found (items m ts)) (sym (one_left total step turn.inside)) ∙ turn.so_far

-- a list of items that are all read alike
module _ {A : Type 0} (closing : Word) (item : Reader A) (ts : List Word) where
  pub no_list : comma_list closing item 0 ts ≡ None
  unfolding comma_list
  no_list = refl

  pub list_ends : (end : List Word) → beyond closing ts ≡ Some end → (m : ℕ)
      → comma_list closing item (suc m) ts ≡ Some ([], end)
  unfolding comma_list
  list_ends end closes m = rw closes refl

  pub list_reads : beyond closing ts ≡ None → (m : ℕ)
      → comma_list closing item (suc m) ts ≡ (item ts >>= followed closing (comma_list closing item m))
  unfolding comma_list
  list_reads goes_on m = rw goes_on refl
