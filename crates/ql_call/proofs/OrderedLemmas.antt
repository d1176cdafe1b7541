-- What the nodes come to stands in strict label order.
use Rattle.std.proofs.Common.{◌≡◌, ℕ, ℤ, pos, Bool, true, false, cond, not, T, List, [], ◌∷◌, ◌++◌, Option, Some, None, drop, filter, fold, map, Result, IfOk, refl, ap, ◌∙◌}
use Rattle.std.proofs.lemmas.Result.{IfOk-weaker}
use Rattle.std.specs.FinMap.Entries.{is_sorted-put}
use Rattle.std.specs.Int.{int_max, int_min, int_signum}
use Rattle.std.specs.List.{flat_map}
use Rattle.std.specs.Prelude.{int_lt}
use Rattle.op_base.specs.declared.moment.Moment.{Moment}
use Rattle.op_base.specs.Labels.{Texts, labels_cmp}
use Rattle.srv_store.specs.LabelMaps.{with_value}
use Rattle.srv_store.specs.Stores.{Vector}
use Rattle.srv_store.proofs.OrderLemmas.{labels_total}
use Rattle.ql_tree.specs.declared.tree.AggregateOp.{AggregateOp}
use Rattle.ql_tree.specs.declared.tree.AggregateOp.TheVariants as aggregate_op
use Rattle.ql_tree.specs.declared.tree.BinaryOp.{BinaryOp}
use Rattle.ql_tree.specs.declared.tree.BinaryOp.TheVariants as binary_op
use Rattle.ql_tree.specs.declared.tree.Grouping.{Grouping}
use Rattle.ql_tree.specs.declared.tree.Matching.{Matching}
use Rattle.ql_call.specs.Aggregates.{aggregate, aggregated_groups, counting, group_element, group_key, groups_of, with_decimal}
use Rattle.ql_call.specs.Calls.{absent, between, call, call_known, clamp, each_value, first_of, one_where_empty, over_one, over_operand, seconds_of, size_of, stamped, timestamp, unnamed}
use Rattle.ql_call.specs.Clashes.{Pair, first_clash, gathered, placed, vector_unless}
use Rattle.ql_call.specs.Elements.{Element}
use Rattle.ql_call.specs.Functions.{function_of}
use Rattle.ql_call.specs.Matched.{is_swapped, least_clash, matched, matched_sides, results_of, side_of}
use Rattle.ql_call.specs.LabelCalls.{joined_to, replaced}
use Rattle.ql_call.specs.Operands.{elements_at, elements_of, scalar_at, text_at, text_of}
use Rattle.ql_call.specs.Operators.{left_element, negated, number_of, right_element, scalar_or_zero, signed}
use Rattle.ql_call.specs.Ordered.{NodesKeepOrder, in_label_order, is_ordered}
use Rattle.ql_call.specs.Ranked.{best_of, first_ranked}
use Rattle.ql_call.specs.Sets.{binary, has_key, of_vectors, unshared}
use Rattle.ql_call.specs.declared.changed.Changed.{Changed}
use Rattle.ql_call.specs.declared.function.Function.{Function}
use Rattle.ql_call.specs.declared.function.Function.TheVariants as function
use Rattle.ql_call.specs.declared.function.RangeFunction.{RangeFunction}
use Rattle.ql_call.specs.declared.operand.Operand.{Operand}
use Rattle.ql_call.specs.declared.operand.Operand.TheVariants as operand
use Rattle.ql_call.specs.declared.outcome.Outcome.{Outcome}
use Rattle.ql_call.specs.declared.outcome.Outcome.TheVariants as outcome
use Rattle.ql_call.proofs.GroupLemmas.{groups-by-key}
use Rattle.srv_store.proofs.RisingLemmas.{entries-rise, is_test, rises-entries, rises-filter, rises-map, sorted-put_all, test_is}

-- elements that are placed one by one
placed-from : (changed : List Changed) (vector : Vector) → T (in_label_order vector) → T (in_label_order (fold (λ vector (c : Changed). with_value vector c.to c.value) vector changed))
placed-from [] vector h = h
placed-from (c ∷ changed) vector h =
    placed-from changed (with_value vector c.to c.value) (is_sorted-put labels_cmp labels_total c.to c.value vector h)

ordered-unless : (clash : Option Pair) (vector : Vector) → T (in_label_order vector) → is_ordered (vector_unless clash vector) ≡ true
ordered-unless None vector h = test_is _ h
ordered-unless (Some pair) vector h = refl

-- what elements whose labels changed come to
ordered-gathered : (changed : List Changed) → is_ordered (gathered changed) ≡ true
ordered-gathered changed = ordered-unless (first_clash changed) (placed changed) (placed-from changed [] tt)

-- what a filter keeps of elements
ordered-filter : (p : Element → Bool) (elements : List Element) → in_label_order elements ≡ true → in_label_order (filter p elements) ≡ true
ordered-filter p elements h = test_is _ (entries-rise labels_cmp _ (rises-filter labels_cmp (λ e. e.0) p elements (rises-entries labels_cmp elements (is_test h))))

signs : (minus : Bool) (n : Option ℤ) (elements : List Element) → in_label_order elements ≡ true → is_ordered (signed minus n elements) ≡ true
signs true (Some n) elements h = refl
signs false (Some n) elements h = refl
signs true None elements h = ordered-gathered (map negated elements)
signs false None elements h = h

ordered-scalar : (n : Option ℤ) → is_ordered (scalar_or_zero n) ≡ true
ordered-scalar None = refl
ordered-scalar (Some n) = refl

ordered-sides : (op : BinaryOp) (boolean : Bool) (m : Option Matching) (ones manys : List Element) → is_ordered (matched_sides op boolean m ones manys) ≡ true
ordered-sides op boolean m ones manys =
    let results = results_of op boolean m ones manys in
    ordered-unless (least_clash m ones results) (placed results) (placed-from results [] tt)

ordered-matched : (op : BinaryOp) (boolean : Bool) (m : Option Matching) (left right : List Element) → is_ordered (matched op boolean m left right) ≡ true
ordered-matched op boolean m left right =
    elim (is_swapped (side_of m)) as (λ b. is_ordered (cond b (matched_sides op boolean m left right) (matched_sides op boolean m right left)) ≡ true) [
      | true ↦ ordered-sides op boolean m left right
      | false ↦ ordered-sides op boolean m right left
    ]

ordered-vectors : (op : BinaryOp) (boolean : Bool) (m : Option Matching) (left right : List Element) → in_label_order left ≡ true → is_ordered (of_vectors op boolean m left right) ≡ true
ordered-vectors binary_op.And boolean m left right h = ordered-filter (has_key m right) left h
ordered-vectors binary_op.Unless boolean m left right h = ordered-filter (λ (e : Element). not (has_key m right e)) left h
ordered-vectors binary_op.Or boolean m left right h = test_is _ (sorted-put_all labels_cmp labels_total (left ++ unshared m right left) [] tt)
ordered-vectors (binary_op.Arith op) boolean m left right h = ordered-matched (binary_op.Arith op) boolean m left right
ordered-vectors binary_op.Eq boolean m left right h = ordered-matched binary_op.Eq boolean m left right
ordered-vectors binary_op.Ne boolean m left right h = ordered-matched binary_op.Ne boolean m left right
ordered-vectors binary_op.Gt boolean m left right h = ordered-matched binary_op.Gt boolean m left right
ordered-vectors binary_op.Lt boolean m left right h = ordered-matched binary_op.Lt boolean m left right
ordered-vectors binary_op.Ge boolean m left right h = ordered-matched binary_op.Ge boolean m left right
ordered-vectors binary_op.Le boolean m left right h = ordered-matched binary_op.Le boolean m left right

operators : (op : BinaryOp) (boolean : Bool) (m : Option Matching) (a b : Option ℤ) (left right : List Element)
    → in_label_order left ≡ true → is_ordered (binary op boolean m a b left right) ≡ true
operators op boolean m (Some a) (Some b) left right h = ordered-scalar (number_of op true (pos 0) a b)
operators op boolean m (Some a) None left right h = ordered-gathered (flat_map (right_element op boolean a) right)
operators op boolean m None (Some b) left right h = ordered-gathered (flat_map (left_element op boolean b) left)
operators op boolean m None None left right h = ordered-vectors op boolean m left right h

-- an element for each group
ordered-groups : (op : AggregateOp) (g : Option Grouping) (elements : List Element) → is_ordered (aggregated_groups op (groups_of g elements)) ≡ true
ordered-groups op g elements =
    let groups = groups_of g elements in
    let h : T (in_label_order groups) = is_test (groups-by-key (group_key g) elements).ordered in
    test_is _ (entries-rise labels_cmp _ (rises-map labels_cmp (λ group. group.0) (λ e. e.0) (group_element op) (λ group. refl) groups (rises-entries labels_cmp groups h)))

ordered-best : (top : Bool) (k : ℤ) (groups : List (Texts × List Element)) → in_label_order (best_of top k groups) ≡ true
ordered-best top k groups =
    test_is _ (sorted-put_all labels_cmp labels_total (flat_map (λ (group : Texts × List Element). first_ranked top k group.1) groups) [] tt)

aggregates : (op : AggregateOp) (g : Option Grouping) (label : List ℕ) (k : ℤ) (elements : List Element) → is_ordered (aggregate op g label k elements) ≡ true
aggregates aggregate_op.Sum g label k elements = ordered-groups aggregate_op.Sum g elements
aggregates aggregate_op.Min g label k elements = ordered-groups aggregate_op.Min g elements
aggregates aggregate_op.Max g label k elements = ordered-groups aggregate_op.Max g elements
aggregates aggregate_op.Avg g label k elements = ordered-groups aggregate_op.Avg g elements
aggregates aggregate_op.Group g label k elements = ordered-groups aggregate_op.Group g elements
aggregates aggregate_op.Count g label k elements = ordered-groups aggregate_op.Count g elements
aggregates aggregate_op.CountValues g label k elements = ordered-groups aggregate_op.CountValues (Some (counting label g)) (map (with_decimal label) elements)
aggregates aggregate_op.TopK g label k elements = ordered-best true k (groups_of g elements)
aggregates aggregate_op.BottomK g label k elements = ordered-best false k (groups_of g elements)

-- a function of each value
ordered-values : (f : ℤ → ℤ) (elements : List Element) → is_ordered (each_value f elements) ≡ true
ordered-values f elements = ordered-gathered (map (unnamed f) elements)

ordered-one : {X : Type 0} (labels : Texts) (xs : List X) → is_ordered (one_where_empty labels xs) ≡ true
ordered-one labels [] = refl
ordered-one labels (x ∷ xs) = refl

ordered-absent : (given : Operand) → is_ordered (absent given) ≡ true
ordered-absent (operand.Text text) = refl
ordered-absent (operand.Selected elements moments labels) = ordered-one labels elements
ordered-absent (operand.Ranged series range labels) = ordered-one labels series
ordered-absent (operand.Value given) = ordered-one [] (elements_of (operand.Value given))

ordered-over : (f : RangeFunction) (given : Operand) → is_ordered (over_operand f given) ≡ true
ordered-over f (operand.Text text) = refl
ordered-over f (operand.Selected elements moments labels) = refl
ordered-over f (operand.Ranged series range labels) = ordered-gathered (flat_map (over_one f range) series)
ordered-over f (operand.Value given) = refl

ordered-timestamp : (t : Moment) (given : Operand) → is_ordered (timestamp t given) ≡ true
ordered-timestamp t (operand.Text text) = refl
ordered-timestamp t (operand.Selected elements moments labels) = ordered-gathered (stamped elements moments)
ordered-timestamp t (operand.Ranged series range labels) = refl
ordered-timestamp t (operand.Value given) = ordered-values (λ n. seconds_of t) (elements_of (operand.Value given))

ordered-clamp : (low high : ℤ) (elements : List Element) → is_ordered (clamp low high elements) ≡ true
ordered-clamp low high elements =
    elim (int_lt high low) as (λ b. is_ordered (cond b (outcome.Vector []) (each_value (between low high) elements)) ≡ true) [
      | true ↦ refl
      | false ↦ ordered-values (between low high) elements
    ]

pub ordered-call : (f : Function) (t : Moment) (operands : List Operand) → is_ordered (call f t operands) ≡ true
ordered-call function.Abs t operands = ordered-values size_of (elements_at 0 operands)
ordered-call function.Sgn t operands = ordered-values int_signum (elements_at 0 operands)
ordered-call function.Absent t operands = ordered-absent (first_of operands)
ordered-call function.AbsentOverTime t operands = ordered-absent (first_of operands)
ordered-call (function.Over f) t operands = ordered-over f (first_of operands)
ordered-call function.Clamp t operands = ordered-clamp (scalar_at 1 operands) (scalar_at 2 operands) (elements_at 0 operands)
ordered-call function.ClampMin t operands = ordered-values (int_max (scalar_at 1 operands)) (elements_at 0 operands)
ordered-call function.ClampMax t operands = ordered-values (int_min (scalar_at 1 operands)) (elements_at 0 operands)
ordered-call function.LabelReplace t operands =
    ordered-gathered (map (replaced (text_at 1 operands) (text_at 2 operands) (text_at 3 operands) (text_at 4 operands)) (elements_at 0 operands))
ordered-call function.LabelJoin t operands =
    ordered-gathered (map (joined_to (text_at 1 operands) (text_at 2 operands) (map text_of (drop 3 operands))) (elements_at 0 operands))
ordered-call function.Time t operands = refl
ordered-call function.Timestamp t operands = ordered-timestamp t (first_of operands)
ordered-call function.Vector t operands = refl

ordered-known : (f : Option Function) (t : Moment) (operands : List Operand) → is_ordered (call_known f t operands) ≡ true
ordered-known None t operands = refl
ordered-known (Some f) t operands = ordered-call f t operands

-- what a call gives that is known
pub if-ordered : {E : Type 0} (r : Result Outcome E) (o : Outcome) → is_ordered o ≡ true → IfOk r (λ x. x ≡ o) → IfOk r (λ x. is_ordered x ≡ true)
if-ordered r o h is = IfOk-weaker r (λ x. x ≡ o) (λ x. is_ordered x ≡ true) (λ x same. ap is_ordered same ∙ h) is

pub nodes-keep-order : NodesKeepOrder
nodes-keep-order = record {
  signs = signs;
  operators = operators;
  aggregates = aggregates;
  calls = λ name t operands. ordered-known (function_of name) t operands;
}
