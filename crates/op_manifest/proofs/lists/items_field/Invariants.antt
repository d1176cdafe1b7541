-- No field so far has the name.
use Rattle.std.proofs.Common.{◌≡◌, codes}
use Rattle.serde_json.specs.Find.{get_member}
use Rattle.op_manifest.specs.Trees.{members_in}
use Rattle.op_manifest.proofs.lists.items_field.Given as goal

abbrev pub invariant-loop-name : goal.invariant-loop-name
invariant-loop-name l =
    goal.iterator-loop-name.can_next l.name-iterator ×
    goal.iterator-loop-name.is_finite l.name-iterator ×
    (get_member (codes "items") (members_in l.initial.name-iterator.rest.items)
    ≡ get_member (codes "items") (members_in l.name-iterator.rest.items))
