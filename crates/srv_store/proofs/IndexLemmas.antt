-- The index of a store lists at each label the numbers of the label sets that have it.
use Rattle.std.proofs.Common.{◌≡◌, ℕ, zero, suc, ◌+◌, ◌-◌, ◌<◌, Bool, true, false, ◌&&◌, List, [], ◌∷◌, ◌++◌, length, map, drop, take, filter, cond, get_or, Option, Some, None, if◌then◌else◌, bytes_eq, unwrap_or, refl, ap, sym, subst, ◌∙◌, arith, append_assoc, append-nil}
use Rattle.std.specs.declared.cmp.Ordering.TheVariants.{Less}
use Rattle.std.specs.Cmp.Lexicographic.{texts_ties}
use Rattle.std.specs.FinMap.Entries.{put, find-put, find_tied}
use Rattle.std.specs.List.{AllByRecursion, list_any, range_with_len}
use Rattle.std.specs.List.Sorted.{IsStrictlySortedBy}
use Rattle.std.specs.Option.{option_map_or}
use Rattle.std.specs.Ordering.{is_eq, eq_by_cmp}
use Rattle.std.proofs.Math.Seq.{take-append_seam}
use Rattle.std.proofs.lemmas.List.{drop_more, get_or_append_left, get_or_push, length_push, map-append, take_more}
use Rattle.std.proofs.lemmas.List.Elements.{filter-append}
use Rattle.indexmap.specs.IndexSet.{insert_key}
use Rattle.op_base.specs.Labels.{Texts, IsLabels, labels_cmp, labels_ties, labels_with}
use Rattle.op_base.specs.Maps.{keys_of, members_at, text_cmp, value_at, with_member, without_last}
use Rattle.srv_store.specs.LabelMaps.{value_of}
use Rattle.srv_store.specs.Stores.{same_labels}
use Rattle.srv_store.specs.Runs.{key_at}
use Rattle.srv_store.specs.Indexes.{Index, IsIndex, ListsAt, ListsLabels, ListsSame, has_label, numbers_where, single_labels}
use Rattle.srv_store.proofs.OrderLemmas.{labels_total, labels_same, text_same}
use Rattle.srv_store.proofs.PlaceLemmas.{is_tied}

-- ---- numbers of label sets that pass a test
range_push : (a n : ℕ) → range_with_len a (suc n) ≡ range_with_len a n ++ (a + n) ∷ []
range_push a zero = ap (λ (m : ℕ). m ∷ []) (omega arith)
range_push a (suc n) = ap (λ l. a ∷ l) (range_push (a + 1) n ∙ ap (λ (m : ℕ). range_with_len (a + 1) n ++ m ∷ []) (omega arith))

pub range_next : (n : ℕ) → range_with_len 0 (n + 1) ≡ range_with_len 0 n ++ n ∷ []
range_next n =
    let next : n + 1 ≡ suc n = omega arith in
    let last : 0 + n ≡ n = omega arith in
    ap (range_with_len 0) next ∙ range_push 0 n ∙ ap (λ (m : ℕ). range_with_len 0 n ++ m ∷ []) last

pub range_all : (P : ℕ → Type 0) (a n : ℕ) → ((k : ℕ) → k < a + n → P k) → AllByRecursion P (range_with_len a n)
range_all P a zero each = tt
range_all P a (suc n) each = (each a (omega arith), range_all P (a + 1) n (λ k below. each k (omega (arith, below))))

-- tests that agree on all things
pub filter_alike : {X : Type 0} (p q : X → Bool) (xs : List X) → AllByRecursion (λ x. p x ≡ q x) xs → filter p xs ≡ filter q xs
filter_alike p q [] alike = refl
filter_alike p q (x ∷ xs) alike = λ i. cond (alike.0 i) (x ∷ filter_alike p q xs alike.1 i) (filter_alike p q xs alike.1 i)

numbers_push : (test : Texts → Bool) (keys : List Texts) (key : Texts)
    → numbers_where test (keys ++ key ∷ []) ≡ numbers_where test keys ++ (if test key then length keys ∷ [] else [])
numbers_push test keys key =
    let grown : ℕ → Bool = λ n. test (key_at (keys ++ key ∷ []) n) in
    ap (λ n. filter grown (range_with_len 0 n)) (length_push keys key)
    ∙ ap (filter grown) (range_next (length keys))
    ∙ filter-append grown (range_with_len 0 (length keys)) (length keys ∷ [])
    ∙ ap (λ l. l ++ filter grown (length keys ∷ []))
    (filter_alike grown (λ n. test (key_at keys n)) (range_with_len 0 (length keys))
    (range_all (λ n. grown n ≡ test (key_at keys n)) 0 (length keys) (λ n below. ap test (get_or_append_left keys (key ∷ []) [] n (omega (arith, below))))))
    ∙ ap (λ b. numbers_where test keys ++ cond b (length keys ∷ []) []) (ap test (get_or_push keys key [] (length keys) refl))

-- ---- what stands at a label after one number more, and after the last was taken
members_after : (index : Index) (label other : Texts) (m : ℕ) → members_at labels_cmp (with_member labels_cmp index label m) other ≡ unwrap_or (cond (eq_by_cmp labels_cmp other label) (Some (members_at labels_cmp index label ++ m ∷ [])) (value_of index other)) []
members_after index label other m = ap (λ o. unwrap_or o []) (find-put labels_cmp labels_total other label (members_at labels_cmp index label ++ m ∷ []) index)

-- a list without its last thing
abbrev shorter : List ℕ → List ℕ
shorter ns = take (length ns - 1) ns

members_without : (index : Index) (label other : Texts) → members_at labels_cmp (without_last labels_cmp index label) other
    ≡ (if eq_by_cmp labels_cmp other label then shorter (members_at labels_cmp index label) else members_at labels_cmp index other)
members_without index label other = cases (value_of index label) refl
  where
    cases : (found : Option (List ℕ)) → value_of index label ≡ found → members_at labels_cmp (without_last labels_cmp index label) other
        ≡ (if eq_by_cmp labels_cmp other label then shorter (members_at labels_cmp index label) else members_at labels_cmp index other)
    cases None none =
        ap (λ o. members_at labels_cmp (option_map_or (λ ns. put labels_cmp label (shorter ns) index) o index) other) none
        ∙ elim (eq_by_cmp labels_cmp other label) as (λ b. eq_by_cmp labels_cmp other label ≡ b
        → members_at labels_cmp index other ≡ (if b then shorter (members_at labels_cmp index label) else members_at labels_cmp index other)) [
          | true ↦ λ tie. ap (λ o. unwrap_or o []) (sym (find_tied labels_cmp labels_total other label (is_tied _ tie) index) ∙ none)
              ∙ sym (ap (λ o. shorter (unwrap_or o [])) none)
          | false ↦ λ _. refl
        ] refl
    cases (Some ns) some =
        ap (λ o. members_at labels_cmp (option_map_or (λ ns. put labels_cmp label (shorter ns) index) o index) other) some
        ∙ ap (λ o. unwrap_or o []) (find-put labels_cmp labels_total other label (shorter ns) index)
        ∙ elim (eq_by_cmp labels_cmp other label) as (λ b. unwrap_or (cond b (Some (shorter ns)) (value_of index other)) []
        ≡ (if b then shorter (members_at labels_cmp index label) else members_at labels_cmp index other)) [
          | true ↦ ap (λ o. shorter (unwrap_or o [])) (sym some)
          | false ↦ refl
        ]

-- ---- one label more, and one label fewer
-- the number, once for each thing
abbrev each : ℕ → List Texts → List ℕ
each n labels = map (λ _. n) labels

pub lists_start : (index : Index) (n : ℕ) → ListsAt index index [] n
lists_start index n label = sym (append-nil (members_at labels_cmp index label))

pub lists_none : (old index : Index) (labels : List Texts) (n : ℕ) → labels ≡ [] → ListsAt old index labels n → ListsSame old index
lists_none old index labels n none listed label =
    listed label ∙ ap (λ l. members_at labels_cmp old label ++ each n (filter (eq_by_cmp labels_cmp label) l)) none ∙ append-nil (members_at labels_cmp old label)

pub lists_more : (old index : Index) (labels : List Texts) (key : Texts) (n : ℕ) → ListsAt old index labels n → ListsAt old (with_member labels_cmp index key n) (labels ++ key ∷ []) n
lists_more old index labels key n listed label =
    members_after index key label n
    ∙ elim (eq_by_cmp labels_cmp label key) as (λ b. eq_by_cmp labels_cmp label key ≡ b
    → unwrap_or (cond b (Some (members_at labels_cmp index key ++ n ∷ [])) (value_of index label)) []
    ≡ members_at labels_cmp old label ++ each n (filter (eq_by_cmp labels_cmp label) labels ++ cond b (key ∷ []) [])) [
      | true ↦ λ tie.
          ap (λ l. members_at labels_cmp index l ++ n ∷ []) (sym (labels_same label key (is_tied _ tie)))
          ∙ ap (λ l. l ++ n ∷ []) (listed label)
          ∙ append_assoc (members_at labels_cmp old label) (each n (filter (eq_by_cmp labels_cmp label) labels)) (n ∷ [])
          ∙ ap (λ l. members_at labels_cmp old label ++ l) (sym (map-append (λ _. n) (filter (eq_by_cmp labels_cmp label) labels) (key ∷ [])))
      | false ↦ λ _. listed label
          ∙ ap (λ l. members_at labels_cmp old label ++ each n l) (sym (append-nil (filter (eq_by_cmp labels_cmp label) labels)))
    ] refl
    ∙ ap (λ l. members_at labels_cmp old label ++ each n l) (sym (filter-append (eq_by_cmp labels_cmp label) labels (key ∷ [])))

each_last : (n : ℕ) (labels : List Texts) → n ∷ each n labels ≡ each n labels ++ n ∷ []
each_last n [] = refl
each_last n (l ∷ labels) = ap (λ ns. n ∷ ns) (each_last n labels)

shorter-push : (ns : List ℕ) (n : ℕ) → shorter (ns ++ n ∷ []) ≡ ns
shorter-push ns n =
    let count : length (ns ++ n ∷ []) - 1 ≡ length ns = omega (arith, length_push ns n) in
    ap (λ k. take k (ns ++ n ∷ [])) count ∙ take-append_seam ns (n ∷ [])

pub lists_fewer : (old index : Index) (key : Texts) (labels : List Texts) (n : ℕ) → ListsAt old index (key ∷ labels) n → ListsAt old (without_last labels_cmp index key) labels n
lists_fewer old index key labels n listed label =
    let rest = filter (eq_by_cmp labels_cmp label) labels in
    members_without index key label
    ∙ elim (eq_by_cmp labels_cmp label key) as (λ b. eq_by_cmp labels_cmp label key ≡ b
    → (if b then shorter (members_at labels_cmp index key) else members_at labels_cmp index label) ≡ members_at labels_cmp old label ++ each n (filter (eq_by_cmp labels_cmp label) labels)) [
      | true ↦ λ tie.
          ap (λ l. shorter (members_at labels_cmp index l)) (sym (labels_same label key (is_tied _ tie)))
          ∙ ap shorter (listed label
          ∙ ap (λ b. members_at labels_cmp old label ++ each n (cond b (key ∷ rest) rest)) tie
          ∙ ap (λ l. members_at labels_cmp old label ++ l) (each_last n rest)
          ∙ sym (append_assoc (members_at labels_cmp old label) (each n rest) (n ∷ [])))
          ∙ shorter-push (members_at labels_cmp old label ++ each n rest) n
      | false ↦ λ apart. listed label ∙ ap (λ b. members_at labels_cmp old label ++ each n (cond b (key ∷ rest) rest)) apart
    ] refl

-- ---- the same in the steps of loops
pub listed_step : (old index new : Index) (labels : List Texts) (i : ℕ) (key : Texts) (n : ℕ) → i < length labels → key ≡ get_or labels i key → new ≡ with_member labels_cmp index key n
    → ListsAt old index (take i labels) n → ListsAt old new (take (i + 1) labels) n
listed_step old index new labels i key n within at is listed label =
    ap (λ (index : Index). members_at labels_cmp index label) is
    ∙ lists_more old index (take i labels) key n listed label
    ∙ ap (λ l. members_at labels_cmp old label ++ each n (filter (eq_by_cmp labels_cmp label) l)) (ap (λ k. take i labels ++ k ∷ []) at ∙ sym (take_more labels i key within))

pub taken_step : (old index new : Index) (labels : List Texts) (i : ℕ) (key : Texts) (n : ℕ) → i < length labels → key ≡ get_or labels i key → new ≡ without_last labels_cmp index key
    → ListsAt old index (drop i labels) n → ListsAt old new (drop (i + 1) labels) n
taken_step old index new labels i key n within at is listed label =
    ap (λ (index : Index). members_at labels_cmp index label) is
    ∙ lists_fewer old index key (drop (i + 1) labels) n (subst (λ l. ListsAt old index l n) (drop_more labels i key within ∙ ap (λ k. k ∷ drop (i + 1) labels) (sym at)) listed) label

-- ---- the labels of a label set
and_true : (b : Bool) → (b && true) ≡ b
and_true true = refl
and_true false = refl

-- labels are the same one where name and value are
single_tie : (name value other text : List ℕ) → 0 < length value → 0 < length text
    → eq_by_cmp labels_cmp (labels_with [] name value) (labels_with [] other text) ≡ (eq_by_cmp text_cmp name other && bytes_eq value text)
single_tie name [] other text some more = absurd (omega arith)
single_tie name (b ∷ value) other [] some more = absurd (omega arith)
single_tie name (b ∷ value) other (c ∷ text) some more =
    sym (labels_ties ((name, b ∷ value) ∷ []) ((other, c ∷ text) ∷ []))
    ∙ and_true _
    ∙ ap (λ e. e && bytes_eq (b ∷ value) (c ∷ text)) (texts_ties name other)

-- no label of a later name is the one
none_named : (name value : List ℕ) (labels : Texts) → 0 < length value → AllByRecursion (λ label. 0 < length label.1) labels
    → AllByRecursion (λ other. text_cmp name other ≡ Less) (keys_of labels) → filter (eq_by_cmp labels_cmp (labels_with [] name value)) (single_labels labels) ≡ []
none_named name value [] some texts below = refl
none_named name value (e ∷ labels) some texts below =
    ap (λ b. cond b (labels_with [] e.0 e.1 ∷ filter (eq_by_cmp labels_cmp (labels_with [] name value)) (single_labels labels)) (filter (eq_by_cmp labels_cmp (labels_with [] name value)) (single_labels labels)))
    (single_tie name value e.0 e.1 some texts.0 ∙ ap (λ r. is_eq r && bytes_eq value e.1) below.0)
    ∙ none_named name value labels some texts.1 below.1

single_marks : (n : ℕ) (name value : List ℕ) (labels : Texts) → 0 < length value → IsLabels labels
    → each n (filter (eq_by_cmp labels_cmp (labels_with [] name value)) (single_labels labels)) ≡ (if has_label name value labels then n ∷ [] else [])
unfolding IsStrictlySortedBy
single_marks n name [] [] some told = absurd (omega arith)
single_marks n name (b ∷ value) [] some told = refl
single_marks n name value (e ∷ labels) some told =
    let q = labels_with [] name value in
    let rest = filter (eq_by_cmp labels_cmp q) (single_labels labels) in
    ap (λ b. each n (cond b (labels_with [] e.0 e.1 ∷ rest) rest)) (single_tie name value e.0 e.1 some told.1.0)
    ∙ elim (eq_by_cmp text_cmp name e.0) as (λ b. eq_by_cmp text_cmp name e.0 ≡ b
    → each n (cond (b && bytes_eq value e.1) (labels_with [] e.0 e.1 ∷ rest) rest)
    ≡ (if bytes_eq value (unwrap_or (cond b (Some e.1) (value_at labels name)) []) then n ∷ [] else [])) [
      | true ↦ λ tie.
          let none : rest ≡ [] = ap (λ name. filter (eq_by_cmp labels_cmp (labels_with [] name value)) (single_labels labels)) (text_same name e.0 (is_tied _ tie))
          ∙ none_named e.0 value labels some told.1.1 told.0.0 in
          ap (λ l. each n (cond (bytes_eq value e.1) (labels_with [] e.0 e.1 ∷ l) l)) none
          ∙ elim (bytes_eq value e.1) as (λ b. each n (cond b (labels_with [] e.0 e.1 ∷ []) []) ≡ (if b then n ∷ [] else [])) [ true ↦ refl | false ↦ refl ]
      | false ↦ λ _. single_marks n name value labels some (told.0.1, told.1.1)
    ] refl

pub labels_listed : (old new : Index) (singles : List Texts) (labels : Texts) (n : ℕ) → IsLabels labels → singles ≡ single_labels labels → ListsAt old new singles n → ListsLabels old new labels n
labels_listed old new singles labels n told is listed name value some =
    let q = labels_with [] name value in
    listed q
    ∙ ap (λ l. members_at labels_cmp old q ++ each n (filter (eq_by_cmp labels_cmp q) l)) is
    ∙ ap (λ l. members_at labels_cmp old q ++ l) (single_marks n name value labels some told)

-- ---- a new label set
pub index_same : (keys new_keys : List Texts) (index new : Index) → IsIndex keys index → new_keys ≡ keys → ListsSame index new → IsIndex new_keys new
index_same keys new_keys index new old same_keys same name value some =
    same (labels_with [] name value) ∙ old name value some ∙ ap (numbers_where (has_label name value)) (sym same_keys)

pub index_grown : (keys new_keys : List Texts) (index new : Index) (labels : Texts) (number : ℕ) → IsIndex keys index → list_any (same_labels labels) keys ≡ false
    → new_keys ≡ insert_key same_labels keys labels → number ≡ length keys → ListsLabels index new labels number → IsIndex new_keys new
index_grown keys new_keys index new labels number old absent is count listed name value some =
    listed name value some
    ∙ (λ i. old name value some i ++ (if has_label name value labels then count i ∷ [] else []))
    ∙ sym (numbers_push (has_label name value) keys labels)
    ∙ ap (numbers_where (has_label name value)) (sym (is ∙ ap (λ b. if b then keys else keys ++ labels ∷ []) absent))
