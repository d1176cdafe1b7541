-- What an expression comes to stands in strict label order.
use Rattle.std.proofs.Common.{◌≡◌, ℤ, ◌-ℤ◌, pos, true, List, [], ◌∷◌, ◌++◌, Option, Some, None, map, inl, inr, refl, ap, subst, ◌∙◌}
use Rattle.op_base.specs.declared.matcher.Matcher.{Matcher}
use Rattle.op_base.specs.declared.span.Span.{Span}
use Rattle.op_base.specs.Labels.{Texts, labels_cmp}
use Rattle.srv_store.specs.declared.entry.Entry.{Entry}
use Rattle.srv_store.specs.Stores.{Store, newest}
use Rattle.srv_store.proofs.RisingEntries.{labels_of, newest-rises, ranged-sorted}
use Rattle.srv_store.proofs.RisingLemmas.{IsOneAt, entries-rise, rises-flat_map, test_is}
use Rattle.ql_tree.specs.declared.tree.Expr.{Expr}
use Rattle.ql_tree.specs.declared.tree.Expr.TheOpen.{Expr-F}
use Rattle.ql_tree.specs.declared.tree.Expr.TheFolds.{map-Expr, fold-roll-Expr, ind-Expr}
use Rattle.ql_call.specs.Aggregates.{aggregate}
use Rattle.ql_call.specs.Calls.{call_of}
use Rattle.ql_call.specs.Elements.{Element}
use Rattle.ql_call.specs.Operands.{elements_at, elements_of, number_at, outcome_of, scalar_at, text_at, unless_failed}
use Rattle.ql_call.specs.Operators.{signed}
use Rattle.ql_call.specs.Ordered.{has_order, in_label_order, is_ordered}
use Rattle.ql_call.specs.Sets.{binary}
use Rattle.ql_call.specs.declared.operand.Operand.{Operand}
use Rattle.ql_call.specs.declared.operand.Operand.TheVariants as operand
use Rattle.ql_call.specs.declared.outcome.Outcome.{Outcome}
use Rattle.ql_call.specs.declared.outcome.Outcome.TheVariants as outcome
use Rattle.ql_call.proofs.OrderedLemmas.{nodes-keep-order}
use Rattle.ql_eval.specs.Absent.{absent_labels}
use Rattle.ql_eval.specs.Selected.{asked_of, element_of, elements_in, lookback, moment_before, selected_at}
use Rattle.ql_eval.specs.Values.{Around, operand_step, operand_of}

one-element : (labels : Texts) (value : Option ℤ) → IsOneAt labels_cmp (λ (e : Element). e.0) labels (element_of labels value)
one-element labels None = inl refl
one-element labels (Some value) = inr ((labels, value), refl, refl)

-- a selector gives elements or series in order
ordered-selected : (store : Store) (asked : List Matcher) (t : ℤ) (range : Option Span) (labels : Texts) → has_order (selected_at store asked t range labels) ≡ true
ordered-selected store asked t None labels =
    let entries = newest store asked (t -ℤ lookback) t in
    test_is _ (entries-rise labels_cmp (elements_in entries)
    (rises-flat_map labels_cmp labels_of (λ (e : Element). e.0) (λ (entry : Entry). element_of entry.labels entry.value)
    (λ entry. one-element entry.labels entry.value) entries (newest-rises store asked (t -ℤ lookback) t)))
ordered-selected store asked t (Some range) labels = test_is _ (ranged-sorted store asked (t -ℤ range.0) t)

-- a failure has no elements
ordered-unless : (operands : List Operand) (given : Outcome) → is_ordered given ≡ true → is_ordered (unless_failed operands given) ≡ true
ordered-unless [] given h = h
ordered-unless (operand.Text text ∷ operands) given h = ordered-unless operands given h
ordered-unless (operand.Selected elements moments labels ∷ operands) given h = ordered-unless operands given h
ordered-unless (operand.Ranged series range labels ∷ operands) given h = ordered-unless operands given h
ordered-unless (operand.Value (outcome.Vector elements) ∷ operands) given h = ordered-unless operands given h
ordered-unless (operand.Value (outcome.Scalar n) ∷ operands) given h = ordered-unless operands given h
ordered-unless (operand.Value (outcome.Clash these those) ∷ operands) given h = refl
ordered-unless (operand.Value outcome.ZeroScalar ∷ operands) given h = refl

outcome-elements : (given : Outcome) → is_ordered given ≡ true → in_label_order (elements_of (operand.Value given)) ≡ true
outcome-elements (outcome.Vector elements) h = h
outcome-elements (outcome.Scalar n) h = refl
outcome-elements (outcome.Clash these those) h = refl
outcome-elements outcome.ZeroScalar h = refl

operand-elements : (given : Operand) → has_order given ≡ true → in_label_order (elements_of given) ≡ true
operand-elements (operand.Text text) h = refl
operand-elements (operand.Selected elements moments labels) h = h
operand-elements (operand.Ranged series range labels) h = refl
operand-elements (operand.Value given) h = outcome-elements given h

module _ (around : Around) where
  abbrev IsOrderedHere : Expr → Type 0
  IsOrderedHere e = has_order (operand_of around e) ≡ true

  abbrev IsNodeOrdered : Expr-F Expr → Type 0
  IsNodeOrdered node = has_order (operand_step around (map-Expr Expr Operand (operand_of around) node)) ≡ true

  -- a child of which it is known
  abbrev Child : Type 0
  Child = (e : Expr) × IsOrderedHere e

  abbrev tree_of : Child → Expr
  tree_of child = child.0

  abbrev operands_of : List Child → List Operand
  operands_of children = map (operand_of around) (map tree_of children)

  -- the elements of the first operand
  first-elements : (children : List Child) → in_label_order (elements_at 0 (operands_of children)) ≡ true
  first-elements [] = refl
  first-elements (child ∷ children) = operand-elements (operand_of around child.0) child.1

  -- every node over children that are ordered is ordered
  node-of : (node : Expr-F Child) → IsNodeOrdered (map-Expr Child Expr tree_of node)
  node-of (Expr-F.Number n) = refl
  node-of (Expr-F.Str text) = refl
  node-of (Expr-F.Select metric matchers range offset) =
      let asked = asked_of around.ambient metric matchers in
      ordered-selected around.store asked (moment_before around.at offset) range (absent_labels around.ambient asked)
  node-of (Expr-F.Unary minus of) =
      let of_these = operands_of of in
      ordered-unless of_these (signed minus (number_at 0 of_these) (elements_at 0 of_these))
      (nodes-keep-order.signs minus (number_at 0 of_these) (elements_at 0 of_these) (first-elements of))
  node-of (Expr-F.Binary op boolean m left right) =
      let ls = operands_of left in
      let rs = operands_of right in
      ordered-unless (ls ++ rs) (binary op boolean m (number_at 0 ls) (number_at 0 rs) (elements_at 0 ls) (elements_at 0 rs))
      (nodes-keep-order.operators op boolean m (number_at 0 ls) (number_at 0 rs) (elements_at 0 ls) (elements_at 0 rs) (first-elements left))
  node-of (Expr-F.Call function args) =
      let operands = operands_of args in
      ordered-unless operands (call_of function around.at operands) (nodes-keep-order.calls function around.at operands)
  node-of (Expr-F.Aggregate op g param of) =
      let ps = operands_of param in
      let os = operands_of of in
      ordered-unless (ps ++ os) (aggregate op g (text_at 0 ps) (scalar_at 0 ps) (elements_at 0 os))
      (nodes-keep-order.aggregates op g (text_at 0 ps) (scalar_at 0 ps) (elements_at 0 os))

  operand-ordered : (e : Expr) → IsOrderedHere e
  operand-ordered = ind-Expr IsOrderedHere (λ node children is.
      ap has_order (fold-roll-Expr Operand (operand_step around) node) ∙ subst IsNodeOrdered is (node-of children))

outcome-ordered : (given : Operand) → has_order given ≡ true → is_ordered (outcome_of given) ≡ true
outcome-ordered (operand.Text text) h = refl
outcome-ordered (operand.Selected elements moments labels) h = h
outcome-ordered (operand.Ranged series range labels) h = refl
outcome-ordered (operand.Value given) h = h

-- what an expression gives as a whole
pub result-ordered : (around : Around) (e : Expr) (given : Operand) (result : Outcome) → given ≡ operand_of around e → result ≡ outcome_of given
    → is_ordered result ≡ true
result-ordered around e given result is whole =
    ap is_ordered (whole ∙ ap outcome_of is) ∙ outcome-ordered (operand_of around e) (operand-ordered around e)
