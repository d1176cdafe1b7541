-- What it is that elements stand in groups by a key of their labels. The groups of aggregates and of matching
-- are these, which is the contract of `groups_by_key`.
use Rattle.std.specs.Prelude.{◌≡◌, List, Bool, true, filter}
use Rattle.std.specs.List.{list_any}
use Rattle.op_base.specs.Labels.{Texts, labels_cmp}
use Rattle.srv_store.specs.LabelMaps.{LabelMap, has_labels}
use Rattle.op_base.specs.Maps.{grouped, members_at}
use Rattle.srv_store.specs.Stores.{same_labels}
use Rattle.ql_call.specs.Elements.{Element}
use Rattle.ql_call.specs.Ordered.{in_label_order}

-- an element has the key
abbrev pub is_keyed_by : (Texts → Texts) → Texts → Element → Bool
is_keyed_by key_of key e = same_labels key (key_of e.0)

-- the groups of elements
pub record AreGroups (key_of : Texts → Texts) (elements : List Element) (groups : LabelMap (List Element)) : Type 0 where
  -- the keys strictly rise
  pub ordered : in_label_order groups ≡ true
  -- a key is there exactly where some element has it
  pub keys : (key : Texts) → has_labels groups key ≡ list_any (is_keyed_by key_of key) elements
  -- at a key stand the elements that have it, in their order
  pub members : (key : Texts) → members_at labels_cmp groups key ≡ filter (is_keyed_by key_of key) elements

-- elements are grouped so by every key
abbrev pub GroupsByKey : Type 0
GroupsByKey = (key_of : Texts → Texts) (elements : List Element) → AreGroups key_of elements (grouped labels_cmp (λ (e : Element). key_of e.0) elements)
