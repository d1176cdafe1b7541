-- No field so far has the name.
use Rattle.std.proofs.Common.{◌≡◌}
use Rattle.serde_json.specs.Find.{get_member}
use Rattle.op_manifest.specs.Trees.{members_in}
use Rattle.op_input.proofs.put.member_out.Given as goal

abbrev pub invariant-loop-other : goal.invariant-loop-other
invariant-loop-other l =
    goal.iterator-loop-other.can_next l.other-iterator ×
    goal.iterator-loop-other.is_finite l.other-iterator ×
    (get_member l.name (members_in l.initial.other-iterator.rest.items)
    ≡ get_member l.name (members_in l.other-iterator.rest.items))
