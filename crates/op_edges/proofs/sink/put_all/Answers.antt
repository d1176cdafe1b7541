use Rattle.std.proofs.Common.{arith}
use Rattle.op_edges.proofs.StreamLemmas.{appends_on}
use Rattle.op_edges.proofs.sink.put_all.Goals as goal

pub loop-at-preserved : goal.loop-at-preserved
loop-at-preserved g c = (
  omega (arith, c.in_ok-at.ensures.bound),
  appends_on (g.O.Sink.taken c.args.sink.now) (g.O.Sink.taken c.loop-at.sink) (g.O.Sink.taken c.write.new.self) c.args.bytes.now c.loop-at.at c.in_ok-at.field-0 c.loop-at.invariant.1 c.in_ok-at.ensures.bytes,
  omega (arith, c.loop-at.invariant.2, c.in_ok-at.ensures.later),
)
