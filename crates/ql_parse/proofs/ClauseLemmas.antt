-- The reading of label lists and of the clauses that have one: what is read is spelled, and what is
-- spelled is read.
use Rattle.std.proofs.Common.{◌≡◌, ◌<◌, inl, inr, ℕ, Bool, true, false, List, [], ◌∷◌, ◌++◌, Option, Some, None, nat_lt, refl, ap, sym, ◌∙◌, append_assoc}
use Rattle.std.proofs.lemmas.Bool.{ltb-true, lt-ltb}
use Rattle.op_base.specs.Names.{is_label_name}
use Rattle.ql_tree.specs.Clauses.{Labels, SideOf, MatchingOf, GroupingOf}
use Rattle.ql_tree.specs.ClauseWords.{matching_of, side_of, grouping_of}
use Rattle.ql_tree.specs.Spells.{begins_open, BoolOf}
use Rattle.ql_tree.specs.declared.tree.Matching.{Matching}
use Rattle.ql_tree.specs.declared.tree.Side.{Side}
use Rattle.ql_tree.specs.declared.tree.Grouping.{Grouping}
use Rattle.ql_tree.specs.declared.word.Keyword.{Keyword}
use Rattle.ql_tree.specs.declared.word.Keyword.TheVariants as keyword
use Rattle.ql_tree.specs.declared.word.Word.{Word}
use Rattle.ql_tree.specs.declared.word.Word.TheVariants as word
use Rattle.ql_parse.specs.Found.{first}
use Rattle.ql_parse.specs.FrontWords.{beyond, beyond_keyword, label_of}
use Rattle.ql_parse.specs.ReadClauses.{label_list, side, side_at, matching, matching_at, boolean, boolean_at, grouping, grouping_at}
use Rattle.ql_parse.proofs.Readers.{found_is, bind_ok, test_ok, if_ok, first_ok, Spelled, Sound, joined}
use Rattle.ql_parse.proofs.FrontLemmas.{behind_keyword, label_is}
use Rattle.ql_parse.proofs.ListLemmas.{Items, Between, enclosed_sound, enclosed_complete}

-- ---- lists of labels

-- a word that is a label
data LabelOf : List ℕ → List Word → Type 0 where
  name : (k : Keyword) (label : List ℕ) → is_label_name label ≡ true
      → LabelOf label (word.Name k label ∷ [])

-- the label that stands in front
pub front_label : (ts : List Word) (x : List ℕ × List Word) → first label_of ts ≡ Some x
    → (k : Keyword) × (ts ≡ word.Name k x.0 ∷ x.1) × (is_label_name x.0 ≡ true)
front_label ts x is =
    let f = first_ok label_of ts x is in
    let l = label_is f.0 x.0 f.2 in
    (l.0, f.1 ∙ ap (λ w. w ∷ x.1) l.1, l.2)

label_sound : Sound LabelOf (first label_of)
label_sound ts x is =
    let l = front_label ts x is in
    (word.Name l.0 x.0 ∷ [], l.1, LabelOf.name l.0 x.0 l.2)

label_complete : (label : List ℕ) (us rest : List Word) → LabelOf label us
    → first label_of (us ++ rest) ≡ Some (label, rest)
label_complete _ _ rest (LabelOf.name k label named) = rw named refl

label_begins : (label : List ℕ) (us rest : List Word) → LabelOf label us
    → beyond word.Close (us ++ rest) ≡ None
label_begins _ _ rest (LabelOf.name k label named) = refl

items_labels : (ls : List (List ℕ)) (us : List Word) → Items LabelOf ls us → Labels ls us
items_labels _ _ Items.none = Labels.none
items_labels _ _ (Items.last _ _ (LabelOf.name k label named)) = Labels.last k label named
items_labels _ _ (Items.more _ ls _ ts (LabelOf.name k label named) others) =
    Labels.more k label ls ts named (items_labels ls ts others)

labels_items : (ls : List (List ℕ)) (us : List Word) → Labels ls us → Items LabelOf ls us
labels_items _ _ Labels.none = Items.none
labels_items _ _ (Labels.last k label named) = Items.last label _ (LabelOf.name k label named)
labels_items _ _ (Labels.more k label ls ts named others) =
    Items.more label ls _ ts (LabelOf.name k label named) (labels_items ls ts others)

label_list_sound : (n : ℕ) (ts : List Word) (x : List (List ℕ) × List Word)
    → label_list n ts ≡ Some x → (0 < n) × Between word.Open word.Close Labels ts x
unfolding label_list
label_list_sound n ts x is =
    let room = test_ok (nat_lt 0 n) _ x is in
    let inner = enclosed_sound LabelOf word.Open word.Close (first label_of) label_sound ts x room.1
    in
    (ltb-true 0 n room.0, (inner.0, inner.1, items_labels x.0 inner.0 inner.2))

label_list_complete : (n : ℕ) (ls : List (List ℕ)) (us rest : List Word) → 0 < n → Labels ls us
    → label_list n ((word.Open ∷ (us ++ (word.Close ∷ []))) ++ rest) ≡ Some (ls, rest)
unfolding label_list
label_list_complete n ls us rest room spelled =
    rw (lt-ltb 0 n room)
    (enclosed_complete LabelOf word.Open word.Close (first label_of) refl refl refl label_begins
    label_complete ls us rest (labels_items ls us spelled))

-- ---- `group_left` and `group_right`

-- a clause before what begins with `(` or not
abbrev pub Sided : ℕ → List Word → Option Side × List Word → Type 0
Sided n ts x = Spelled (SideOf n (begins_open x.1)) ts x

side_at_sound : (n : ℕ) (ts : List Word) (o : Option (Bool × List Word))
    (x : Option Side × List Word) → first side_of ts ≡ o
    → side_at n ts o ≡ Some x → Sided n ts x
side_at_sound n ts None x none is = found_is (Sided n ts) (None, ts) x is ([], refl, SideOf.none)
side_at_sound n ts (Some v) x some is =
    let f = first_ok side_of ts v some in
    elim (if_ok (begins_open v.1) _ _ x is) [
      | inl opens ↦
          let ls = bind_ok (label_list n v.1) _ x opens.1 in
          let l = label_list_sound n v.1 ls.0 ls.1 in
          found_is
          (Sided n ts)
          (Some (record { left = v.0; include = ls.0.0 }), ls.0.1)
          x
          ls.2 (
            f.0 ∷ word.Open ∷ (l.1.0 ++ (word.Close ∷ [])),
            f.1 ∙ ap (λ us. f.0 ∷ us) l.1.1,
            SideOf.listed f.0 v.0 ls.0.0 l.1.0 f.2 l.0 l.1.2,
          )
      | inr bare ↦
          found_is
          (Sided n ts)
          (Some (record { left = v.0; include = [] }), v.1)
          x
          bare.1
          (f.0 ∷ [], f.1, SideOf.bare f.0 v.0 f.2 bare.0)
    ]

pub side_sound : (n : ℕ) (ts : List Word) (x : Option Side × List Word) → side n ts ≡ Some x
    → Sided n ts x
unfolding side
side_sound n ts x is = side_at_sound n ts (first side_of ts) x refl is

pub side_complete : (n : ℕ) (opens : Bool) (s : Option Side) (us rest : List Word)
    → SideOf n opens s us → begins_open rest ≡ opens
    → first side_of rest ≡ None → side n (us ++ rest) ≡ Some (s, rest)
unfolding side
side_complete n opens _ _ rest SideOf.none same no_side = rw no_side refl
side_complete n opens _ _ rest (SideOf.bare w left is no_open) same no_side =
    let closed : begins_open rest ≡ false = same ∙ no_open in
    rw (is, closed) refl
side_complete n opens _ _ rest (SideOf.listed w left ls ts is room spelled) same no_side =
    let list : label_list n ((word.Open ∷ (ts ++ (word.Close ∷ []))) ++ rest) ≡ Some (ls, rest) =
    label_list_complete n ls ts rest room spelled
    in
    rw (is, list) refl

-- ---- `on` and `ignoring`

abbrev pub Matched : ℕ → List Word → Option Matching × List Word → Type 0
Matched n ts x = Spelled (MatchingOf n (begins_open x.1)) ts x

matching_at_sound : (n : ℕ) (ts : List Word) (o : Option (Bool × List Word))
    (x : Option Matching × List Word)
    → first matching_of ts ≡ o → matching_at n ts o ≡ Some x → Matched n ts x
matching_at_sound n ts None x none is =
    found_is (Matched n ts) (None, ts) x is ([], refl, MatchingOf.none)
matching_at_sound n ts (Some v) x some is =
    let f = first_ok matching_of ts v some in
    let ls = bind_ok (label_list n v.1) _ x is in
    let l = label_list_sound n v.1 ls.0 ls.1 in
    let s = bind_ok (side n ls.0.1) _ x ls.2 in
    let r = side_sound n ls.0.1 s.0 s.1 in
    found_is
    (Matched n ts)
    (Some (record { on = v.0; labels = ls.0.0; side = s.0.0 }), s.0.1)
    x
    s.2 (
      f.0 ∷ word.Open ∷ (l.1.0 ++ (word.Close ∷ r.0)),
      f.1
          ∙ ap (λ us. f.0 ∷ us)
          (joined (word.Open ∷ (l.1.0 ++ (word.Close ∷ []))) r.0 v.1 ls.0.1 s.0.1 l.1.1 r.1)
          ∙ ap (λ us. f.0 ∷ word.Open ∷ (us ++ s.0.1)) (append_assoc l.1.0 (word.Close ∷ []) r.0),
      MatchingOf.given f.0 v.0 ls.0.0 s.0.0 l.1.0 r.0 f.2 l.0 l.1.2 r.2,
    )

pub matching_sound : (n : ℕ) (ts : List Word) (x : Option Matching × List Word)
    → matching n ts ≡ Some x → Matched n ts x
unfolding matching
matching_sound n ts x is = matching_at_sound n ts (first matching_of ts) x refl is

regrouped : (v : Word) (ts us rest : List Word)
    → (ts ++ (v ∷ us)) ++ rest ≡ (ts ++ (v ∷ [])) ++ (us ++ rest)
regrouped v ts us rest = append_assoc ts (v ∷ us) rest ∙ sym (append_assoc ts (v ∷ []) (us ++ rest))

pub matching_complete : (n : ℕ) (opens : Bool) (m : Option Matching) (us rest : List Word)
    → MatchingOf n opens m us
    → begins_open rest ≡ opens → first side_of rest ≡ None → first matching_of rest ≡ None
    → matching n (us ++ rest) ≡ Some (m, rest)
unfolding matching
matching_complete n opens _ _ rest MatchingOf.none same no_side no_match = rw no_match refl
matching_complete n opens _ _ rest (MatchingOf.given w on ls s ts us is room spelled side_is) same
    no_side no_match =
    let list : label_list n ((word.Open ∷ (ts ++ (word.Close ∷ []))) ++ (us ++ rest)) ≡ Some
    (ls, us ++ rest) =
    label_list_complete n ls ts (us ++ rest) room spelled
    in
    let then : side n (us ++ rest) ≡ Some (s, rest) =
    side_complete n opens s us rest side_is same no_side
    in
    rw (is, regrouped word.Close ts us rest, list, then) refl

-- ---- `bool`

boolean_at_sound : (ts : List Word) (o : Option (List Word)) → beyond_keyword keyword.Bool ts ≡ o
    → (us : List Word) × (ts ≡ us ++ (boolean_at ts o).1) × BoolOf true (boolean_at ts o).0 us
boolean_at_sound ts None none = ([], refl, BoolOf.none)
boolean_at_sound ts (Some rest) some =
    let b = behind_keyword keyword.Bool ts rest some in
    (word.Name keyword.Bool b.0 ∷ [], b.1, BoolOf.given b.0 refl)

pub boolean_sound : (comparison : Bool) (ts : List Word)
    → (us : List Word) × (ts ≡ us ++ (boolean comparison ts).1) × BoolOf comparison
    (boolean comparison ts).0 us
unfolding boolean
boolean_sound true ts = boolean_at_sound ts (beyond_keyword keyword.Bool ts) refl
boolean_sound false ts = ([], refl, BoolOf.none)

pub boolean_complete : (comparison b : Bool) (us rest : List Word) → BoolOf comparison b us
    → beyond_keyword keyword.Bool rest ≡ None
    → boolean comparison (us ++ rest) ≡ (b, rest)
unfolding boolean
boolean_complete true _ _ rest BoolOf.none no_bool = rw no_bool refl
boolean_complete false _ _ rest BoolOf.none no_bool = refl
boolean_complete comparison _ _ rest (BoolOf.given text compares) no_bool = rw compares refl

-- ---- `by` and `without`

-- a grouping clause or nothing
pub data GroupingIf (n : ℕ) : Option Grouping → List Word → Type 0 where
  none : GroupingIf n None []
  given : (g : Grouping) (us : List Word) → GroupingOf n g us → GroupingIf n (Some g) us

grouping_at_sound : (n : ℕ) (ts : List Word) (o : Option (Bool × List Word))
    (x : Option Grouping × List Word)
    → first grouping_of ts ≡ o → grouping_at n ts o ≡ Some x → Spelled (GroupingIf n) ts x
grouping_at_sound n ts None x no_group is =
    found_is (Spelled (GroupingIf n) ts) (None, ts) x is ([], refl, GroupingIf.none)
grouping_at_sound n ts (Some v) x some is =
    let f = first_ok grouping_of ts v some in
    let ls = bind_ok (label_list n v.1) _ x is in
    let l = label_list_sound n v.1 ls.0 ls.1 in
    found_is
    (Spelled (GroupingIf n) ts)
    (Some (record { by = v.0; labels = ls.0.0 }), ls.0.1)
    x
    ls.2 (
      f.0 ∷ word.Open ∷ (l.1.0 ++ (word.Close ∷ [])),
      f.1 ∙ ap (λ us. f.0 ∷ us) l.1.1,
      GroupingIf.given _ _ (GroupingOf.given f.0 v.0 ls.0.0 l.1.0 f.2 l.0 l.1.2),
    )

pub grouping_sound : (n : ℕ) → Sound (GroupingIf n) (grouping n)
unfolding grouping
grouping_sound n ts x is = grouping_at_sound n ts (first grouping_of ts) x refl is

pub grouping_none : (n : ℕ) (rest : List Word) → first grouping_of rest ≡ None
    → grouping n rest ≡ Some (None, rest)
unfolding grouping
grouping_none n rest no_group = rw no_group refl

pub grouping_complete : (n : ℕ) (g : Grouping) (us rest : List Word) → GroupingOf n g us
    → grouping n (us ++ rest) ≡ Some (Some g, rest)
unfolding grouping
grouping_complete n _ _ rest (GroupingOf.given w by ls ts is room spelled) =
    let list : label_list n ((word.Open ∷ (ts ++ (word.Close ∷ []))) ++ rest) ≡ Some (ls, rest) =
    label_list_complete n ls ts rest room spelled
    in
    rw (is, list) refl
