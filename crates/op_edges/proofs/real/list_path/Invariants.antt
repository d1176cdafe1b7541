use Rattle.std.proofs.Common.{vec_len, ◌≤◌}
use Rattle.op_edges.proofs.real.list_path.Given as goal

abbrev pub invariant-loop-entry : goal.invariant-loop-entry
invariant-loop-entry g l = vec_len l.names ≤ 1_000_000
