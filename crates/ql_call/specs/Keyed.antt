-- Steps of the matching of two vectors, once the elements of one of them stand by their keys.
use Rattle.std.specs.Prelude.{List, Bool, Option, not}
use Rattle.op_base.specs.Labels.{Texts, labels_cmp}
use Rattle.op_base.specs.Maps.{with_member, members_at}
use Rattle.srv_store.specs.LabelMaps.{LabelMap, has_labels}
use Rattle.ql_tree.specs.declared.tree.Matching.{Matching}
use Rattle.ql_call.specs.Elements.{Element}
use Rattle.ql_call.specs.Matched.{key_of, sole}

-- one element more by its key
abbrev pub with_one : Option Matching → LabelMap (List Element) → Element → LabelMap (List Element)
with_one m ones e = with_member labels_cmp ones (key_of m e.0) e

-- the key of an element is among the keys, and isn't
abbrev pub is_keyed : Option Matching → LabelMap (List Element) → Element → Bool
is_keyed m ones e = has_labels ones (key_of m e.0)

-- no group has the element's key
abbrev pub is_unkeyed : Option Matching → LabelMap (List Element) → Element → Bool
is_unkeyed m ones e = not (is_keyed m ones e)

-- the only element that has the key of labels
abbrev pub partner_of : Option Matching → LabelMap (List Element) → Texts → Option Element
partner_of m ones labels = sole (members_at labels_cmp ones (key_of m labels))
