-- Aggregates: elements are grouped by labels, and each group gives one element. `topk` and `bottomk` give
-- elements of the group.
use Rattle.std.specs.Prelude.{ℕ, ℤ, pos, List, [], ◌∷◌, ◌++◌, Bool, true, false, Option, Some, None, fold, length, map, int_div}
use Rattle.std.specs.Fmt.{signed_decimal}
use Rattle.std.specs.Int.{int_max, int_min}
use Rattle.op_base.specs.Labels.{Texts, labels_with, labels_cmp}
use Rattle.op_base.specs.Maps.{grouped}
use Rattle.srv_store.specs.LabelMaps.{LabelMap}
use Rattle.ql_tree.specs.Arithmetic.{clamped}
use Rattle.ql_tree.specs.declared.tree.AggregateOp.{AggregateOp}
use Rattle.ql_tree.specs.declared.tree.AggregateOp.TheVariants.{Sum, Min, Max, Avg, Count, CountValues, TopK, BottomK}
use Rattle.ql_tree.specs.declared.tree.Grouping.{Grouping}
use Rattle.ql_call.specs.Elements.{Element, only, without, without_name, values_in, total}
use Rattle.ql_call.specs.Ranked.{best_of}
use Rattle.ql_call.specs.declared.outcome.Outcome.{Outcome}
use Rattle.ql_call.specs.declared.outcome.Outcome.TheVariants.{Vector}

-- a group's labels: those of `by`, or all but those of `without` and the name
abbrev pub group_by : Bool → List (List ℕ) → Texts → Texts
group_by true names labels = only names labels
group_by false names labels = without_name (without names labels)

-- no clause is `by ()`
abbrev pub group_key : Option Grouping → Texts → Texts
group_key None labels = group_by true [] labels
group_key (Some g) labels = group_by g.by g.labels labels

-- the elements by the labels that the grouping leaves of theirs
abbrev pub groups_of : Option Grouping → List Element → LabelMap (List Element)
groups_of g elements = grouped labels_cmp (λ (e : Element). group_key g e.0) elements

-- the least and the greatest of numbers, of which there is one
abbrev pub least : List ℤ → ℤ
least [] = pos 0
least (n ∷ numbers) = fold int_min n numbers

-- the greatest of the numbers, 0 of none
abbrev pub greatest : List ℤ → ℤ
greatest [] = pos 0
greatest (n ∷ numbers) = fold int_max n numbers

-- the quotient of the exact sum and the count, cut towards zero
abbrev pub average : List ℤ → ℤ
average numbers = int_div (total numbers) (pos (length numbers))

-- the number of a group, computed exactly and then clamped; `group` is 1, and `topk` and `bottomk` give none
abbrev pub aggregated : AggregateOp → List ℤ → ℤ
aggregated Sum numbers = clamped (total numbers)
aggregated Min numbers = least numbers
aggregated Max numbers = greatest numbers
aggregated Avg numbers = clamped (average numbers)
aggregated Count numbers = clamped (pos (length numbers))
aggregated CountValues numbers = clamped (pos (length numbers))
aggregated _ numbers = pos 1

-- one element a group
abbrev pub group_element : AggregateOp → Texts × List Element → Element
group_element op group = (group.0, aggregated op (values_in group.1))

-- an element for each group
abbrev pub aggregated_groups : AggregateOp → LabelMap (List Element) → Outcome
aggregated_groups op groups = Vector (map (group_element op) groups)

-- an element with its value, in decimal, as a label
abbrev pub with_decimal : List ℕ → Element → Element
with_decimal label e = (labels_with e.0 label (signed_decimal e.1), e.1)

-- the list of a `by` clause names that label too, also where there is no clause
abbrev pub counting_by : Bool → List (List ℕ) → List ℕ → Grouping
counting_by true names label = record { by = true; labels = names ++ label ∷ [] }
counting_by false names label = record { by = false; labels = names }

-- the grouping of `count_values`: the one that is written, and by the label of the value too
abbrev pub counting : List ℕ → Option Grouping → Grouping
counting label None = counting_by true [] label
counting label (Some g) = counting_by g.by g.labels label

-- how many elements of each group have each value
abbrev pub counted_values : List ℕ → Option Grouping → List Element → Outcome
counted_values label g elements =
    aggregated_groups CountValues (groups_of (Some (counting label g)) (map (with_decimal label) elements))

-- an aggregate of elements, with its parameter as a text and as a number
abbrev pub aggregate : AggregateOp → Option Grouping → List ℕ → ℤ → List Element → Outcome
aggregate CountValues g label k elements = counted_values label g elements
aggregate TopK g label k elements = Vector (best_of true k (groups_of g elements))
aggregate BottomK g label k elements = Vector (best_of false k (groups_of g elements))
aggregate op g label k elements = aggregated_groups op (groups_of g elements)
