-- When elements clash, as a relation, and that the least clash is the one that is told: the contract of
-- `clashes_are_least`.
use Rattle.std.specs.Prelude.{◌≡◌, ◌≢◌, ◌⊎◌, List, Bool, true, false, Option, Some, None, map}
use Rattle.std.specs.List.{Contains}
use Rattle.std.specs.declared.cmp.Ordering.TheVariants.{Less}
use Rattle.std.specs.Ordering.{is_le}
use Rattle.op_base.specs.Labels.{Texts, labels_cmp}
use Rattle.ql_tree.specs.declared.tree.BinaryOp.{BinaryOp}
use Rattle.ql_tree.specs.declared.tree.Matching.{Matching}
use Rattle.ql_call.specs.Clashes.{Pair, pair_cmp, first_clash}
use Rattle.ql_call.specs.Elements.{Element}
use Rattle.ql_call.specs.Matched.{is_grouped, keyed, least_clash, rekeyed, results_of, side_of}
use Rattle.ql_call.specs.Ordered.{in_label_order}
use Rattle.ql_call.specs.declared.changed.Changed.{Changed}

-- an element by its labels before the step
abbrev pub before_step : Changed → Texts × Changed
before_step c = (c.from, c)

-- two elements, told by their labels before the step, clash
pub record Clash (changed : List Changed) (pair : Pair) : Type 0 where
  pub first : Changed
  pub second : Changed
  -- both are among the elements
  pub first_in : Contains changed first
  pub second_in : Contains changed second
  -- they are two
  pub apart : first.from ≢ second.from
  -- their labels after the step are equal
  pub alike : first.to ≡ second.to
  pub told : pair ≡ (first.from, second.from)

-- the least pair of a relation, where it has one
abbrev pub IsLeastOf : (Pair → Type 0) → Option Pair → Type 0
IsLeastOf clashes None = (pair : Pair) → ¬ (clashes pair)
IsLeastOf clashes (Some pair) =
    clashes pair
    × (labels_cmp pair.0 pair.1 ≡ Less)
    × ((other : Pair) → clashes other → is_le (pair_cmp pair other) ≡ true)

-- two results of a matching without a `group_` clause have equal keys
abbrev pub ManyClash : Option Matching → List Changed → Pair → Type 0
ManyClash m results pair = (is_grouped (side_of m) ≡ false) × Clash (map (rekeyed m) results) pair

-- two elements of the one side have equal keys, or two results have equal keys or equal labels
abbrev pub SidesClash : Option Matching → List Element → List Changed → Pair → Type 0
SidesClash m ones results pair = Clash (map (keyed m) ones) pair ⊎ (ManyClash m results pair ⊎ Clash results pair)

-- what is told of elements in label order
pub record ClashesAreLeast : Type 0 where
  -- of one step: the labels before it strictly rise
  pub steps : (changed : List Changed) → in_label_order (map before_step changed) ≡ true → IsLeastOf (Clash changed) (first_clash changed)
  -- of two sides that are matched
  pub sides : (op : BinaryOp) (boolean : Bool) (m : Option Matching) (ones manys : List Element)
      → in_label_order ones ≡ true → in_label_order manys ≡ true
      → IsLeastOf (SidesClash m ones (results_of op boolean m ones manys)) (least_clash m ones (results_of op boolean m ones manys))
