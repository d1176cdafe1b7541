use Rattle.std.proofs.Common.{None, Some, [], ap, refl, ◌∙◌}
use mir.Syntax.{w64}
use mir.Val.{of_z, to_z}
use Rattle.ql_call.specs.Operators.{of_left_vector, of_right_vector}
use Rattle.ql_call.specs.Ordered.{in_label_order}
use Rattle.ql_call.specs.Sets.{of_vectors}
use Rattle.ql_call.proofs.OrderedLemmas.{if-ordered, nodes-keep-order}
use Rattle.ql_call.proofs.sets.binary.Goals as goal

pub returns-in-Some-None-clause-ordered : goal.returns-in-Some-None-clause-ordered
returns-in-Some-None-clause-ordered c = λ _.
    if-ordered c.of_right_vector.result (of_right_vector c.args.op c.args.boolean (to_z w64 (of_z w64 c.in-Some-None.a)) c.elements_at-those.result.now)
    (nodes-keep-order.operators c.args.op c.args.boolean None (Some (to_z w64 (of_z w64 c.in-Some-None.a))) None [] c.elements_at-those.result.now refl) c.of_right_vector.ensures

pub returns-in-None-Some-clause-ordered : goal.returns-in-None-Some-clause-ordered
returns-in-None-Some-clause-ordered c = λ ordered.
    if-ordered c.of_left_vector.result (of_left_vector c.args.op c.args.boolean c.elements_at-these.result.now (to_z w64 (of_z w64 c.in-None-Some.b)))
    (nodes-keep-order.operators c.args.op c.args.boolean None None (Some (to_z w64 (of_z w64 c.in-None-Some.b))) c.elements_at-these.result.now [] (ap in_label_order c.elements_at-these.ensures ∙ ordered)) c.of_left_vector.ensures

pub returns-in-None-None-clause-ordered : goal.returns-in-None-None-clause-ordered
returns-in-None-None-clause-ordered c = λ ordered.
    if-ordered c.of_vectors.result (of_vectors c.args.op c.args.boolean c.args.matching.now c.elements_at-these.result.now c.elements_at-those.result.now)
    (nodes-keep-order.operators c.args.op c.args.boolean c.args.matching.now None None c.elements_at-these.result.now c.elements_at-those.result.now (ap in_label_order c.elements_at-these.ensures ∙ ordered)) c.of_vectors.ensures
