-- What a tick says to one of the known namespaces.
use Rattle.std.proofs.Common.{◌≡◌, ℕ, Bool, true, false, cond, ◌&&◌, T, List, [], ◌∷◌, ◌++◌, map, filter, is_some, Some, nat_eq, refl, sym, ap, subst, ◌∙◌, append-nil}
use Rattle.std.proofs.lemmas.List.Elements.{filter-append}
use Rattle.std.specs.declared.cmp.Ordering.{Ordering}
use Rattle.std.specs.declared.cmp.Ordering.TheVariants.{Less, Equal, Greater}
use Rattle.std.specs.Ordering.{nat_cmp, is_eq, is_lt}
use Rattle.std.specs.Cmp.Lexicographic.{pointwise, bytes_decides, slice_cmp, texts_ties}
use Rattle.std.specs.FinMap.Entries.{is_sorted, below_all}
use Rattle.op_base.specs.declared.moment.Moment.{Moment}
use Rattle.op_base.specs.Maps.{Map, value_at, keys_of}
use Rattle.op_report.specs.declared.view.Report.{Report}
use Rattle.op_report.specs.declared.view.View.{View}
use Rattle.srv_store.specs.Stores.{of_namespace}
use Rattle.srv_run.specs.Memories.{Ticked}
use Rattle.srv_run.specs.Shares.{failed_of, tick_view, tenant_report, global_report, tick_reports}
use Rattle.op_report.specs.ReadBack.{is_for, views_for}
use Rattle.tenant_world.proofs.ObjectLaws.{not_tied}

pub views_for-append : (n : List ℕ) (xs ys : List Report) → views_for n (xs ++ ys) ≡ views_for n xs ++ views_for n ys
views_for-append n xs ys =
    ap (map (λ (r : Report). r.view)) (filter-append (λ (r : Report). is_for n r.to) xs ys)
    ∙ map-append (filter (λ (r : Report). is_for n r.to) xs) (filter (λ (r : Report). is_for n r.to) ys)
  where
    map-append : (xs ys : List Report) → map (λ (r : Report). r.view) (xs ++ ys) ≡ map (λ (r : Report). r.view) xs ++ map (λ (r : Report). r.view) ys
    map-append [] ys = refl
    map-append (x ∷ xs) ys = ap (λ l. x.view ∷ l) (map-append xs ys)

lower : (a b : Bool) → T (a && b) → T a
lower true b p = tt
lower false b p = p

upper : (a b : Bool) → T (a && b) → T b
upper true b p = p
upper false b p = absurd p

not_equal : (o : Ordering) → T (is_lt o) → is_eq o ≡ false
not_equal Less p = refl
not_equal Equal p = absurd p
not_equal Greater p = refl

module _ (n : List ℕ) (given : Ticked) (t : Moment) where
  abbrev reports : Map (Unit {0}) → List Report
  reports known = map (tenant_report given t) (keys_of known)

  abbrev own : View
  own = tick_view (failed_of n given.failed) (of_namespace n given.added) t

  -- one report more, to its namespace or to another
  first_report : (e : List ℕ) (known : Map (Unit {0})) → views_for n (tenant_report given t e ∷ reports known) ≡ cond (pointwise nat_eq n e) ((tenant_report given t e).view ∷ views_for n (reports known)) (views_for n (reports known))
  first_report e known =
      elim (pointwise nat_eq n e) as (λ b. map (λ (r : Report). r.view) (cond b (tenant_report given t e ∷ filter (λ (r : Report). is_for n r.to) (reports known)) (filter (λ (r : Report). is_for n r.to) (reports known)))
      ≡ cond b ((tenant_report given t e).view ∷ views_for n (reports known)) (views_for n (reports known))) [
        | true ↦ refl
        | false ↦ refl
      ]

  none_above : (known : Map (Unit {0})) → T (below_all (slice_cmp nat_cmp) n known) → views_for n (reports known) ≡ []
  none_above [] h = refl
  none_above (e ∷ known) h =
      let apart : pointwise nat_eq n e.0 ≡ false = texts_ties n e.0 ∙ not_equal (slice_cmp nat_cmp n e.0) (lower (is_lt (slice_cmp nat_cmp n e.0)) (below_all (slice_cmp nat_cmp) n known) h) in
      first_report e.0 known ∙ ap (λ b. cond b ((tenant_report given t e.0).view ∷ views_for n (reports known)) (views_for n (reports known))) apart
      ∙ none_above known (upper (is_lt (slice_cmp nat_cmp n e.0)) (below_all (slice_cmp nat_cmp) n known) h)

  -- a known namespace is told once, another not
  told_once : (known : Map (Unit {0})) → T (is_sorted (slice_cmp nat_cmp) known) → views_for n (reports known) ≡ cond (is_some (value_at known n)) (own ∷ []) []
  told_once [] h = refl
  told_once (e ∷ known) h =
      let below = lower (below_all (slice_cmp nat_cmp) e.0 known) (is_sorted (slice_cmp nat_cmp) known) h in
      let sorted = upper (below_all (slice_cmp nat_cmp) e.0 known) (is_sorted (slice_cmp nat_cmp) known) h in
      first_report e.0 known
      ∙ elim (pointwise nat_eq n e.0) as (λ b. pointwise nat_eq n e.0 ≡ b → cond b ((tenant_report given t e.0).view ∷ views_for n (reports known)) (views_for n (reports known))
      ≡ cond (is_some (value_at (e ∷ known) n)) (own ∷ []) []) [
        | true ↦ λ is.
            let same = (bytes_decides n e.0).0 is in
            ap (λ l. (tenant_report given t e.0).view ∷ l) (none_above known (subst (λ m. T (below_all (slice_cmp nat_cmp) m known)) (sym same) below))
            ∙ ap (λ m. (tenant_report given t m).view ∷ []) (sym same)
            ∙ ap (λ b. cond (is_some (cond b (Some e.1) (value_at known n))) (own ∷ []) []) (sym (sym (texts_ties n e.0) ∙ is))
        | false ↦ λ other. told_once known sorted ∙ ap (λ b. cond (is_some (cond b (Some e.1) (value_at known n))) (own ∷ []) []) (sym (not_tied n e.0 other))
      ] refl

  pub tick-told : (known : Map (Unit {0})) → T (is_sorted (slice_cmp nat_cmp) known) → views_for n (tick_reports (keys_of known) given t) ≡ cond (is_some (value_at known n)) (own ∷ []) []
  tick-told known h =
      views_for-append n (reports known) (global_report (keys_of known) given t ∷ []) ∙ append-nil (views_for n (reports known)) ∙ told_once known h
