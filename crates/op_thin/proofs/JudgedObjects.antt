-- The expressions of the rules that are present are typed: it stays so where one more is put.
use Rattle.std.proofs.Common.{ℕ, true, false, cond, List, [], ◌∷◌, ◌++◌, Some, unwrap_or}
use Rattle.std.specs.List.{AllByRecursion}
use Rattle.std.specs.declared.cmp.Ordering.TheVariants.{Less, Equal, Greater}
use Rattle.std.specs.Ordering.{nat_cmp, eq_by_cmp}
use Rattle.std.specs.Cmp.Lexicographic.{slice_cmp}
use Rattle.std.specs.FinMap.Entries.{by_order}
use Rattle.op_base.specs.Maps.{Map, value_at, values_of, with_entry, with_inner}
use Rattle.op_thin.specs.declared.rule.ThinRule.{ThinRule}
use Rattle.op_thin.specs.Judged.{IsTyped}
use Rattle.op_thin.specs.Objects.{AreJudged, all_of}

module _ {X : Type 0} (P : X → Type 0) where
  abbrev pub Entries : Map X → Type 0
  Entries entries = AllByRecursion (λ (e : List ℕ × X). P e.1) entries

  entries_with : (key : List ℕ) (value : X) (entries : Map X) → P value → Entries entries → Entries (with_entry entries key value)
  entries_with key value [] one all = (one, tt)
  entries_with key value (e ∷ entries) one all =
      elim (slice_cmp nat_cmp key e.0) as (λ o. Entries (by_order o ((key, value) ∷ e ∷ entries) ((e.0, value) ∷ entries) (e ∷ with_entry entries key value))) [
        | Less ↦ (one, all)
        | Equal ↦ (one, all.1)
        | Greater ↦ (all.0, entries_with key value entries one all.1)
      ]

  -- what stands at a key, or else another
  found_or : (key : List ℕ) (other : X) (entries : Map X) → P other → Entries entries → P (unwrap_or (value_at entries key) other)
  found_or key other [] one all = one
  found_or key other (e ∷ entries) one all =
      elim (eq_by_cmp (slice_cmp nat_cmp) key e.0) as (λ b. P (unwrap_or (cond b (Some e.1) (value_at entries key)) other)) [
        | true ↦ all.0
        | false ↦ found_or key other entries one all.1
      ]

  joined : (xs ys : List X) → AllByRecursion P xs → AllByRecursion P ys → AllByRecursion P (xs ++ ys)
  joined [] ys these those = those
  joined (x ∷ xs) ys these those = (these.0, joined xs ys these.1 those)

  values_have : (entries : Map X) → Entries entries → AllByRecursion P (values_of entries)
  values_have [] all = tt
  values_have (e ∷ entries) all = (all.0, values_have entries all.1)

abbrev IsTypedRule : ThinRule → Type 0
IsTypedRule rule = IsTyped rule.judged

-- one more rule
pub judged_with : (rules : Map (Map ThinRule)) (namespace name : List ℕ) (rule : ThinRule) → IsTyped rule.judged → AreJudged rules
    → AreJudged (with_inner rules namespace name rule)
judged_with rules namespace name rule typed all =
    entries_with (Entries IsTypedRule) namespace (with_entry (unwrap_or (value_at rules namespace) []) name rule) rules
    (entries_with IsTypedRule name rule (unwrap_or (value_at rules namespace) []) typed
    (found_or (Entries IsTypedRule) namespace [] rules tt all)) all

-- all rules
pub judged_all : (rules : Map (Map ThinRule)) → AreJudged rules → AllByRecursion IsTypedRule (all_of rules)
judged_all [] all = tt
judged_all (inner ∷ rules) all =
    joined IsTypedRule (values_of inner.1) (all_of rules) (values_have IsTypedRule inner.1 all.0) (judged_all rules all.1)
