-- Finite maps from label sets, in label order, and the staleness markers of label sets that a map hasn't.
use Rattle.std.specs.Prelude.{List, Option, None, Bool, filter, is_some, map, not}
use Rattle.std.specs.FinMap as finite
use Rattle.op_base.specs.declared.moment.Moment.{Moment}
use Rattle.op_base.specs.Labels.{Texts, labels_cmp}
use Rattle.op_base.specs.Maps.{keys_of}
use Rattle.srv_store.specs.declared.entry.Entry.{Entry}

-- label sets, each with a value
abbrev pub LabelMap : Type 0 → Type 0
LabelMap X = List (Texts × X)

-- the value at a label set
abbrev pub value_of : {X : Type 0} → LabelMap X → Texts → Option X
value_of entries labels = finite.find labels_cmp labels entries

-- whether the label set is there
abbrev pub has_labels : {X : Type 0} → LabelMap X → Texts → Bool
has_labels entries labels = is_some (value_of entries labels)

-- the map with the value at the label set, over any that stood there
abbrev pub with_value : {X : Type 0} → LabelMap X → Texts → X → LabelMap X
with_value entries labels value = finite.put labels_cmp labels value entries

-- the label sets in order
abbrev pub labels_in : {X : Type 0} → LabelMap X → List Texts
labels_in entries = keys_of entries

-- a staleness marker at the moment for each of the label sets that the map hasn't
abbrev pub stale_entries : {X : Type 0} → Moment → List Texts → LabelMap X → List Entry
stale_entries t before given =
    map (λ labels. record { labels = labels; at = t; value = None }) (filter (λ labels. not (has_labels given labels)) before)
