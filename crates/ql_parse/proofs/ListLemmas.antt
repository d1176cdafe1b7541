-- Lists with commas: what is read is spelled, and what is spelled is read.
use Rattle.std.proofs.Common.{◌≡◌, ◌<◌, inl, inr, ℕ, zero, suc, true, false, List, [], ◌∷◌, ◌++◌, length, Some, None, refl, ap, sym, subst, ◌∙◌, append_assoc, length-append, arith}
use Rattle.ql_tree.specs.declared.word.Word.{Word}
use Rattle.ql_tree.specs.declared.word.Word.TheVariants as word
use Rattle.ql_parse.specs.CommaLists.{followed, comma_list, enclosed}
use Rattle.ql_parse.specs.Found.{Reader}
use Rattle.ql_parse.specs.FrontWords.{is_symbol, beyond}
use Rattle.ql_parse.proofs.FrontLemmas.{behind_symbol}
use Rattle.ql_parse.proofs.Readers.{bind_ok, ended_ok, with_front_ok, SpelledTo, Sound}

-- the first item and a comma before what is spelled up to a word
pub after_comma : (us vs ts ms ns rest : List Word) (v : Word) → ts ≡ us ++ ms
    → ms ≡ word.Comma ∷ ns → ns ≡ vs ++ (v ∷ rest)
    → ts ≡ (us ++ (word.Comma ∷ vs)) ++ (v ∷ rest)
after_comma us vs ts ms ns rest v p q r =
    p ∙ ap (λ m. us ++ m) (q ∙ ap (λ m. word.Comma ∷ m) r) ∙ sym
    (append_assoc us (word.Comma ∷ vs) (v ∷ rest))

-- a list that begins with the item that was read: the item alone, or a comma and the others behind it
pub followed_sound : {A : Type 0} (P : List A → List Word → Type 0) (closing : Word)
    (others : Reader (List A)) (ts us : List Word) (one : A × List Word) (x : List A × List Word)
    → ts ≡ us ++ one.1 → P (one.0 ∷ []) us
    → ((ys : List A) (vs : List Word) → P ys vs → P (one.0 ∷ ys) (us ++ (word.Comma ∷ vs)))
    → ((ns : List Word) (y : List A × List Word) → others ns ≡ Some y → SpelledTo closing P ns y)
    → followed closing others one ≡ Some x → SpelledTo closing P ts x
followed_sound P closing others ts us one x same alone more sound is =
    let all = with_front_ok one.0 _ x is in
    elim (ended_ok (beyond closing one.1) _ all.0 all.1) [
      | inl at_end ↦
          subst
          (SpelledTo closing P ts)
          all.2 (
            us,
            same ∙ ap (λ vs. us ++ vs) (behind_symbol closing one.1 all.0.1 at_end.0),
            subst (λ ys. P (one.0 ∷ ys) us) at_end.1 alone,
          )
      | inr goes_on ↦
          let comma = bind_ok (beyond word.Comma one.1) others all.0 goes_on.1 in
          let rest = sound comma.0 all.0 comma.2 in
          subst
          (SpelledTo closing P ts)
          all.2 (
            us ++ (word.Comma ∷ rest.0),
            after_comma us rest.0 ts one.1 comma.0 all.0.1 closing same
                (behind_symbol word.Comma one.1 comma.0 comma.1) rest.1,
            more all.0.0 rest.0 rest.2,
          )
    ]

-- items with a comma between each two and perhaps one behind the last
pub data Items {A : Type 0} (Item : A → List Word → Type 0) : List A → List Word → Type 0 where
  none : Items Item [] []
  last : (x : A) (ts : List Word) → Item x ts → Items Item (x ∷ []) ts
  more : (x : A) (xs : List A) (ts us : List Word) → Item x ts → Items Item xs us
      → Items Item (x ∷ xs) (ts ++ (word.Comma ∷ us))

-- what is spelled between two symbols
abbrev pub Between : {A : Type 0} → Word → Word → (A → List Word → Type 0) → List Word → A × List Word
    → Type 0
Between opening closing P ts x =
    (us : List Word) × (ts ≡ (opening ∷ (us ++ (closing ∷ []))) ++ x.1) × P x.0 us

module _ {A : Type 0} (Item : A → List Word → Type 0) (opening closing : Word) (item : Reader A) where
  list_sound : Sound Item item → (m : ℕ) (ts : List Word) (x : List A × List Word)
      → comma_list closing item m ts ≡ Some x → SpelledTo closing (Items Item) ts x
  unfolding comma_list
  list_sound sound zero ts x is = cc is
  list_sound sound (suc m) ts x is = elim (ended_ok (beyond closing ts) _ x is) [
    | inl at_end ↦ (
      [],
      behind_symbol closing ts x.1 at_end.0,
      subst (λ xs. Items Item xs []) at_end.1 Items.none,
    )
    | inr goes_on ↦
        let one = bind_ok (item ts) _ x goes_on.1 in
        let s = sound ts one.0 one.1 in
        followed_sound (Items Item) closing (comma_list closing item m) ts s.0 one.0 x s.1
        (Items.last one.0.0 s.0 s.2) (λ xs us. Items.more one.0.0 xs s.0 us s.2)
        (list_sound sound m) one.2
  ]

  pub enclosed_sound : Sound Item item → (ts : List Word) (x : List A × List Word)
      → enclosed opening closing item ts ≡ Some x → Between opening closing (Items Item) ts x
  enclosed_sound sound ts x is =
      let opened = bind_ok (beyond opening ts) _ x is in
      let inner = list_sound sound (length opened.0) opened.0 x opened.2 in (
        inner.0,
        behind_symbol opening ts opened.0 opened.1
            ∙ ap (λ us. opening ∷ us) (inner.1 ∙ sym (append_assoc inner.0 (closing ∷ []) x.1)),
        inner.2,
      )

  list_complete : is_symbol closing closing ≡ true → is_symbol closing word.Comma ≡ false
      → ((x : A) (us rest : List Word) → Item x us → beyond closing (us ++ rest) ≡ None)
      → ((x : A) (us rest : List Word) → Item x us → item (us ++ rest) ≡ Some (x, rest))
      → (xs : List A) (us rest : List Word) (m : ℕ) → Items Item xs us → length us < m
      → comma_list closing item m (us ++ (closing ∷ rest)) ≡ Some (xs, rest)
  unfolding comma_list
  list_complete closes apart begins reads _ _ rest zero spelled less = absurd (omega arith)
  list_complete closes apart begins reads _ _ rest (suc m) Items.none less = rw closes refl
  list_complete closes apart begins reads _ _ rest (suc m) (Items.last x ts spelled) less =
      rw (begins x ts (closing ∷ rest) spelled, reads x ts (closing ∷ rest) spelled, closes) refl
  list_complete closes apart begins reads _ _ rest (suc m)
      (Items.more x xs ts us spelled others) less =
      let after = word.Comma ∷ (us ++ (closing ∷ rest)) in
      let again : comma_list closing item m (us ++ (closing ∷ rest)) ≡ Some (xs, rest) =
      list_complete closes apart begins reads xs us rest m others
      (omega (arith, length-append ts (word.Comma ∷ us)))
      in
      rw (
        append_assoc ts (word.Comma ∷ us) (closing ∷ rest),
        begins x ts after spelled,
        reads x ts after spelled,
        apart,
        again,
      ) refl

  pub enclosed_complete : is_symbol opening opening ≡ true → is_symbol closing closing ≡ true
      → is_symbol closing word.Comma ≡ false
      → ((x : A) (us rest : List Word) → Item x us → beyond closing (us ++ rest) ≡ None)
      → ((x : A) (us rest : List Word) → Item x us → item (us ++ rest) ≡ Some (x, rest))
      → (xs : List A) (us rest : List Word) → Items Item xs us
      → enclosed opening closing item ((opening ∷ (us ++ (closing ∷ []))) ++ rest) ≡ Some (xs, rest)
  enclosed_complete opens closes apart begins reads xs us rest spelled =
      let inner : comma_list closing item (length (us ++ (closing ∷ rest))) (us ++ (closing ∷ rest))
      ≡ Some (xs, rest) =
      list_complete closes apart begins reads xs us rest _ spelled
      (omega (arith, length-append us (closing ∷ rest)))
      in
      rw (append_assoc us (closing ∷ []) rest, opens) inner
