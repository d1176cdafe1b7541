-- When the elements of a step clash: two that have equal labels after it. The clash that is reported is
-- the least pair, in label order, of their labels before the step.
use Rattle.std.specs.Prelude.{List, [], ◌∷◌, Option, Some, None, fold, if◌then◌else◌}
use Rattle.std.specs.declared.cmp.Ordering.{Ordering}
use Rattle.std.specs.Ordering.{on, then_cmp, is_le}
use Rattle.op_base.specs.Labels.{Texts, labels_cmp}
use Rattle.srv_store.specs.LabelMaps.{with_value}
use Rattle.srv_store.specs.Stores.{Vector, same_labels}
use Rattle.ql_call.specs.declared.changed.Changed.{Changed}
use Rattle.ql_call.specs.declared.outcome.Outcome.{Outcome}
use Rattle.ql_call.specs.declared.outcome.Outcome.TheVariants as outcome

-- two label sets
abbrev pub Pair : Type 0
Pair = Texts × Texts

-- the first element whose new labels are these, by its labels before
abbrev pub partner : Texts → List Changed → Option Texts
partner labels [] = None
partner labels (c ∷ changed) = if same_labels labels c.to then Some c.from else partner labels changed

-- the labels with those of a partner, where there is one
abbrev pub pair_or : Texts → Option Texts → Option Pair → Option Pair
pair_or labels (Some other) later = Some (labels, other)
pair_or labels None later = later

-- the least pair that clashes; the elements stand in label order, so it is the first one with a later partner
-- and the first such partner
abbrev pub first_clash : List Changed → Option Pair
first_clash [] = None
first_clash (c ∷ changed) = pair_or c.from (partner c.to changed) (first_clash changed)

-- pairs before one another: by the first, then by the second
abbrev pub pair_cmp : Pair → Pair → Ordering
pair_cmp = then_cmp (on (λ (pair : Pair). pair.0) labels_cmp) (on (λ (pair : Pair). pair.1) labels_cmp)

-- the lesser of two clashes
abbrev pub lesser : Option Pair → Option Pair → Option Pair
lesser None other = other
lesser (Some pair) None = Some pair
lesser (Some pair) (Some other) = if is_le (pair_cmp pair other) then Some pair else Some other

-- the vector of the elements with their new labels
abbrev pub placed : List Changed → Vector
placed changed = fold (λ vector (c : Changed). with_value vector c.to c.value) [] changed

-- the clash, or else the vector
abbrev pub vector_unless : Option Pair → Vector → Outcome
vector_unless None vector = outcome.Vector vector
vector_unless (Some pair) vector = outcome.Clash pair.0 pair.1

-- what elements whose labels changed come to
abbrev pub gathered : List Changed → Outcome
gathered changed = vector_unless (first_clash changed) (placed changed)
