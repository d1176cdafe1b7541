-- The entries of one namespace among a tick's scrapes and staleness markers.
use Rattle.std.proofs.Common.{◌≡◌, ℕ, ℤ, Bool, true, false, not, cond, T, List, [], ◌∷◌, ◌++◌, map, filter, fold, is_some, Option, None, refl, sym, ap, ◌∙◌}
use Rattle.std.specs.FinMap.Entries.{find, where_key, is_sorted, is_sorted-put, find-where_key}
use Rattle.op_base.specs.declared.moment.Moment.{Moment}
use Rattle.op_base.specs.Labels.{Texts, labels_cmp}
use Rattle.srv_store.specs.declared.entry.Entry.{Entry}
use Rattle.srv_store.specs.LabelMaps.{LabelMap, has_labels, labels_in, with_value}
use Rattle.srv_store.specs.Stores.{owns, of_namespace}
use Rattle.srv_scrape.specs.Ticks.{by_labels, label_sets, markers, tick_entries}
use Rattle.srv_store.proofs.OrderLemmas.{labels_same, labels_total}
use Rattle.tenant_world.proofs.KeyLemmas.{where_key-put_kept, where_key-put_dropped, alike}
use Rattle.tenant_world.proofs.StoreLaws.{of-append}

abbrev pub stale_at : Moment → Texts → Entry
stale_at t labels = record { labels = labels; at = t; value = None }

module _ (n : List ℕ) where
  -- staleness markers of the namespace, where the two tests answer alike on its label sets
  pub stale-of : (t : Moment) (keep kept : Texts → Bool) (sets : List Texts) → ((l : Texts) → owns n l ≡ true → keep l ≡ kept l)
      → of_namespace n (map (stale_at t) (filter keep sets)) ≡ map (stale_at t) (filter kept (filter (owns n) sets))
  stale-of t keep kept [] same = refl
  stale-of t keep kept (l ∷ ls) same =
      let rest = stale-of t keep kept ls same in
      elim (owns n l) as (λ b. owns n l ≡ b → of_namespace n (map (stale_at t) (cond (keep l) (l ∷ filter keep ls) (filter keep ls)))
      ≡ map (stale_at t) (filter kept (cond b (l ∷ filter (owns n) ls) (filter (owns n) ls)))) [
        | true ↦ λ own. elim (keep l) as (λ k. kept l ≡ k → of_namespace n (map (stale_at t) (cond k (l ∷ filter keep ls) (filter keep ls)))
            ≡ map (stale_at t) (filter kept (l ∷ filter (owns n) ls))) [
              | true ↦ λ k. ap (λ b. cond b (stale_at t l ∷ of_namespace n (map (stale_at t) (filter keep ls))) (of_namespace n (map (stale_at t) (filter keep ls)))) own
                  ∙ ap (λ es. stale_at t l ∷ es) rest ∙ ap (λ b. map (stale_at t) (cond b (l ∷ filter kept (filter (owns n) ls)) (filter kept (filter (owns n) ls)))) (sym k)
              | false ↦ λ k. rest ∙ ap (λ b. map (stale_at t) (cond b (l ∷ filter kept (filter (owns n) ls)) (filter kept (filter (owns n) ls)))) (sym k)
            ] (sym (same l own))
        | false ↦ λ other. elim (keep l) as (λ k. of_namespace n (map (stale_at t) (cond k (l ∷ filter keep ls) (filter keep ls)))
            ≡ map (stale_at t) (filter kept (filter (owns n) ls))) [
              | true ↦ ap (λ b. cond b (stale_at t l ∷ of_namespace n (map (stale_at t) (filter keep ls))) (of_namespace n (map (stale_at t) (filter keep ls)))) other ∙ rest
              | false ↦ rest
            ]
      ] refl

  abbrev placing : LabelMap (Option ℤ) → Entry → LabelMap (Option ℤ)
  placing placed entry = with_value placed entry.labels entry.value

  sorted : (es : List Entry) (m : LabelMap (Option ℤ)) → T (is_sorted labels_cmp m) → T (is_sorted labels_cmp (fold placing m es))
  sorted [] m h = h
  sorted (e ∷ es) m h = sorted es (placing m e) (is_sorted-put labels_cmp labels_total e.labels e.value m h)

  -- the label sets of the namespace, of entries and of the namespace's
  placed-of : (es : List Entry) (m : LabelMap (Option ℤ)) → T (is_sorted labels_cmp m)
      → where_key labels_cmp (owns n) (fold placing m es) ≡ fold placing (where_key labels_cmp (owns n) m) (of_namespace n es)
  placed-of [] m h = refl
  placed-of (e ∷ es) m h =
      let rest = placed-of es (placing m e) (is_sorted-put labels_cmp labels_total e.labels e.value m h) in
      elim (owns n e.labels) as (λ b. owns n e.labels ≡ b → where_key labels_cmp (owns n) (fold placing (placing m e) es)
      ≡ fold placing (where_key labels_cmp (owns n) m) (cond b (e ∷ of_namespace n es) (of_namespace n es))) [
        | true ↦ λ own. rest ∙ ap (λ (x : LabelMap (Option ℤ)). fold placing x (of_namespace n es)) (where_key-put_kept labels_cmp labels_total labels_same (owns n) e.labels e.value m own h)
        | false ↦ λ other. rest ∙ ap (λ (x : LabelMap (Option ℤ)). fold placing x (of_namespace n es)) (where_key-put_dropped labels_cmp labels_total labels_same (owns n) e.labels e.value m other h)
      ] refl

  pub by_labels-of : (es : List Entry) → where_key labels_cmp (owns n) (by_labels es) ≡ by_labels (of_namespace n es)
  by_labels-of es = placed-of es [] tt

  labels_in-where : {X : Type 0} (m : LabelMap X) → labels_in (where_key labels_cmp (owns n) m) ≡ filter (owns n) (labels_in m)
  labels_in-where [] = refl
  labels_in-where {X} (e ∷ m) =
      let rest = labels_in-where m in
      elim (owns n e.0) as (λ b. labels_in (cond b (e ∷ where_key labels_cmp (owns n) m) (where_key labels_cmp (owns n) m)) ≡ cond b (e.0 ∷ filter (owns n) (labels_in m)) (filter (owns n) (labels_in m))) [
        | true ↦ ap (λ ls. e.0 ∷ ls) rest
        | false ↦ rest
      ]

  pub label_sets-of : (es : List Entry) → filter (owns n) (label_sets es) ≡ label_sets (of_namespace n es)
  label_sets-of es = sym (labels_in-where (by_labels es)) ∙ ap labels_in (by_labels-of es)

  -- a label set of the namespace is there where it is among the namespace's
  pub has-own : {X : Type 0} (m : LabelMap X) (l : Texts) → owns n l ≡ true → has_labels m l ≡ has_labels (where_key labels_cmp (owns n) m) l
  has-own m l own = sym (ap is_some (find-where_key labels_cmp (owns n) l (alike labels_cmp labels_same (owns n) l) m ∙ ap (λ b. cond b (find labels_cmp l m) None) own))

  markers-of : (t : Moment) (before : List Texts) (es : List Entry) → of_namespace n (markers t before es) ≡ markers t (filter (owns n) before) (of_namespace n es)
  markers-of t before es =
      stale-of t (λ l. not (has_labels (by_labels es) l)) (λ l. not (has_labels (by_labels (of_namespace n es)) l)) before
      (λ l own. ap not (has-own (by_labels es) l own ∙ ap (λ m. has_labels m l) (by_labels-of es)))

  pub tick_entries-of : (t : Moment) (before : List Texts) (es : List Entry) → of_namespace n (tick_entries t before es) ≡ tick_entries t (filter (owns n) before) (of_namespace n es)
  tick_entries-of t before es = of-append n es (markers t before es) ∙ ap (λ l. of_namespace n es ++ l) (markers-of t before es)
