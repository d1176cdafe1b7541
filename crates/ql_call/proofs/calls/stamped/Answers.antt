use Rattle.std.proofs.Common.{rules}
use Rattle.std.proofs.lemmas.Slice.Zip.{zip_end}
use Rattle.ql_call.proofs.StampLemmas.{all_stamped}
use Rattle.ql_call.proofs.calls.stamped.Goals as goal

pub returns : goal.returns
returns c =
    all_stamped c.args.elements.now c.args.moments.now _ c.loop-element.changed
    (zip_end c.args.elements.now c.args.moments.now c.loop-element.yielded c.into_iter-element-iterator.result c.loop-element.element-iterator
    c.next.new.self c.next.result (search rules) (search rules) c.loop-element.yielded_by c.in-None.is c.next.ensures.steps)
    c.loop-element.invariant
