-- An enforced selector over a store gives what the selector as it is written gives over the entries that
-- have the label, beside the label.
use Rattle.std.proofs.Common.{◌≡◌, ℕ, ℤ, pos, Bool, true, false, cond, ◌&&◌, ◌-ℤ◌, List, [], ◌∷◌, ◌++◌, Option, Some, None, filter, fold, bytes_eq, refl, ap, ◌∙◌}
use Rattle.std.specs.List.{flat_map}
use Rattle.op_base.specs.declared.matcher.Matcher.{Matcher}
use Rattle.op_base.specs.declared.moment.Moment.{Moment}
use Rattle.op_base.specs.declared.span.Span.{Span}
use Rattle.op_base.specs.Labels.{Texts}
use Rattle.op_base.specs.Matchers.{holds_on, label_value}
use Rattle.op_base.specs.declared.label_names.TheConstants.{METRIC_NAME}
use Rattle.srv_store.specs.declared.entry.Entry.{Entry}
use Rattle.srv_store.specs.Stores.{Store, all_hold, is_within, window, found_entry, latest, newest, ordered, ranged, with_point}
use Rattle.ql_tree.specs.Enforced.{matcher_of, enforced_matchers}
use Rattle.ql_call.specs.declared.operand.Operand.TheVariants as operand
use Rattle.ql_eval.specs.Absent.{absent_labels}
use Rattle.ql_eval.specs.Selected.{asked_of, instant, lookback, moment_before, selected, selected_at}
use Rattle.ql_eval.proofs.AbsentLemmas.{absent-alike}
use Rattle.ql_eval.proofs.MatcherLemmas.{label, asked-enforced}

never : (a b : Bool) → (a && (b && false)) ≡ false
never true true = refl
never true false = refl
never false b = refl

always : (b : Bool) → (b && true) ≡ b
always true = refl
always false = refl

together : (a b c : Bool) → (a && (b && c)) ≡ ((a && b) && c)
together true b c = refl
together false b c = refl

-- a matcher behind others is one more test
one-more : (asked : List Matcher) (m : Matcher) (l : Texts) → all_hold (asked ++ m ∷ []) l ≡ (all_hold asked l && holds_on m l)
one-more [] m l = always (holds_on m l)
one-more (k ∷ asked) m l = ap (λ b. holds_on k l && b) (one-more asked m l) ∙ together (holds_on k l) (all_hold asked l) (holds_on m l)

module _ (name value : List ℕ) where
  -- the entries that have the label
  abbrev pub labelled : Store → Store
  labelled store = filter (λ (entry : Entry). bytes_eq value (label_value entry.labels name)) store

  -- the added matcher is one more filter
  window-of : (store : Store) (asked : List Matcher) (from to : ℤ)
      → window store (asked ++ matcher_of name value ∷ []) from to ≡ window (labelled store) asked from to
  window-of [] asked from to = refl
  window-of (e ∷ store) asked from to =
      let rest = window store (asked ++ matcher_of name value ∷ []) from to in
      let same : rest ≡ window (labelled store) asked from to = window-of store asked from to in
      ap (λ b. cond (is_within from to e.at && b) (e ∷ rest) rest) (one-more asked (matcher_of name value) e.labels)
      ∙ elim (bytes_eq value (label_value e.labels name)) as (λ has.
      cond (is_within from to e.at && (all_hold asked e.labels && has)) (e ∷ rest) rest
      ≡ window (cond has (e ∷ labelled store) (labelled store)) asked from to) [
        | true ↦ ap (λ b. cond (is_within from to e.at && b) (e ∷ rest) rest) (always (all_hold asked e.labels))
            ∙ ap (λ l. cond (is_within from to e.at && all_hold asked e.labels) (e ∷ l) l) same
        | false ↦ ap (λ b. cond b (e ∷ rest) rest) (never (is_within from to e.at) (all_hold asked e.labels)) ∙ same
      ]

  -- so the same entries are the newest, and the same samples stand in a range
  newest-of : (store : Store) (asked : List Matcher) (from to : ℤ)
      → newest store (asked ++ matcher_of name value ∷ []) from to ≡ newest (labelled store) asked from to
  newest-of store asked from to = ap (λ entries. flat_map found_entry (latest entries)) (window-of store asked from to)

  ranged-of : (store : Store) (asked : List Matcher) (from to : ℤ)
      → ranged store (asked ++ matcher_of name value ∷ []) from to ≡ ranged (labelled store) asked from to
  ranged-of store asked from to = ap (λ entries. fold with_point [] (ordered entries)) (window-of store asked from to)

  -- with a range or without
  selected-at : (store : Store) (asked : List Matcher) (t : ℤ) (range : Option Span) (labels : Texts)
      → selected_at store (asked ++ matcher_of name value ∷ []) t range labels ≡ selected_at (labelled store) asked t range labels
  selected-at store asked t None labels = ap (λ entries. instant entries labels) (newest-of store asked (t -ℤ lookback) t)
  selected-at store asked t (Some range) labels = ap (λ series. operand.Ranged series range labels) (ranged-of store asked (t -ℤ range.0) t)

  -- an enforced selector gives the same, for any label but the metric's name
  pub selected-alike : bytes_eq name METRIC_NAME.now ≡ false
      → (store : Store) (t : Moment) (metric : Option (List ℕ)) (matchers : List Matcher) (range offset : Option Span)
      → selected [] store t metric (enforced_matchers name value matchers) range offset
      ≡ selected (label name value) (labelled store) t metric matchers range offset
  selected-alike apart store t metric matchers range offset =
      let asked = asked_of (label name value) metric matchers in
      let at = moment_before t offset in
      ap (λ ms. selected_at store ms at range (absent_labels [] ms)) (asked-enforced name value apart metric matchers)
      ∙ ap (λ labels. selected_at store (asked ++ matcher_of name value ∷ []) at range labels) (absent-alike name value apart metric matchers)
      ∙ selected-at store asked at range (absent_labels (label name value) asked)
