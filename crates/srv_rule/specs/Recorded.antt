-- What a recording rule makes of what its expression comes to.
use Rattle.std.specs.Prelude.{ℕ, List, [], ◌∷◌, Option, Some, None, if◌then◌else◌}
use Rattle.std.specs.Option.{option_and_then}
use Rattle.op_base.specs.Maps.{without_entry}
use Rattle.op_base.specs.Labels.{Texts, labels_with, labels_with_all}
use Rattle.op_base.specs.declared.label_names.TheConstants.{METRIC_NAME}
use Rattle.srv_store.specs.LabelMaps.{has_labels, with_value}
use Rattle.srv_store.specs.Stores.{Vector}
use Rattle.ql_call.specs.declared.outcome.Outcome.{Outcome}
use Rattle.ql_call.specs.declared.outcome.Outcome.TheVariants as outcome

-- the labels of a result: without `__name__`, then with the recorded name, then with the rule's labels,
-- and what is forced over all
abbrev pub recorded_labels : List ℕ → Texts → Texts → Texts → Texts
recorded_labels name labels force element =
    labels_with_all (labels_with_all (labels_with (without_entry element METRIC_NAME.now) METRIC_NAME.now name) labels) force

-- the results by their label sets, or none where two have equal ones
abbrev pub gathered : List ℕ → Texts → Texts → Vector → Vector → Option Vector
gathered name labels force results [] = Some results
gathered name labels force results (element ∷ elements) =
    if has_labels results (recorded_labels name labels force element.0)
    then None
    else gathered name labels force (with_value results (recorded_labels name labels force element.0) element.1) elements

-- the elements of an outcome: a scalar is one without labels, and a failure has none
abbrev pub elements_of : Outcome → Option Vector
elements_of (outcome.Vector elements) = Some elements
elements_of (outcome.Scalar n) = Some (([], n) ∷ [])
elements_of (outcome.Clash these those) = None
elements_of outcome.ZeroScalar = None

-- the results of a rule, or none where it fails
abbrev pub results_of : List ℕ → Texts → Texts → Outcome → Option Vector
results_of name labels force given = option_and_then (gathered name labels force []) (elements_of given)
