use Rattle.std.proofs.Common.{arith}
use Rattle.ql_rewrite.proofs.ConflictLemmas.{first_item}
use Rattle.ql_rewrite.proofs.conflicts.first_in.Goals as goal

pub returns-then-conflicts : goal.returns-then-conflicts
returns-then-conflicts c =
    first_item c.args.name.now c.args.value.now c.args.matchers.now c.loop-m.m-index c.m-item.result (omega arith) c.m-item.is c.loop-m.invariant cc
