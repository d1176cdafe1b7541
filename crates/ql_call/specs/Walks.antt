-- The walk that finds the least clash, from the last element to the first.
use Rattle.std.specs.Prelude.{List, [], ◌∷◌, Bool}
use Rattle.std.specs.FinMap as finite
use Rattle.std.specs.Ordering.{is_le}
use Rattle.op_base.specs.Labels.{Texts, labels_cmp}
use Rattle.srv_store.specs.LabelMaps.{LabelMap, with_value}
use Rattle.ql_call.specs.Clashes.{Pair, pair_cmp, pair_or, first_clash}
use Rattle.ql_call.specs.declared.changed.Changed.{Changed}
use Rattle.ql_call.specs.declared.clashes.Walk.{Walk}

-- one element more, in front
abbrev pub stepped : Walk → Changed → Walk
stepped walk c = record {
  clash = pair_or c.from (finite.find labels_cmp c.to walk.nearest) walk.clash;
  nearest = with_value walk.nearest c.to c.from;
}

-- the labels after the step, each with the labels before of the first element that has them
abbrev pub nearest : List Changed → LabelMap Texts
nearest [] = []
nearest (c ∷ changed) = with_value (nearest changed) c.to c.from

-- what is found of elements
abbrev pub walked : List Changed → Walk
walked changed = record { clash = first_clash changed; nearest = nearest changed }

-- the pair comes first, or both are equal
abbrev pub is_before : Pair → Pair → Bool
is_before these those = is_le (pair_cmp these those)
