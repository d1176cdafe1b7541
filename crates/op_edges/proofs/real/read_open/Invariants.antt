use Rattle.std.proofs.Common.{vec_len, ◌+◌, ◌-◌}
use Rattle.op_edges.proofs.real.read_open.Given as goal

abbrev pub decreases-loop-chunk : goal.decreases-loop-chunk
decreases-loop-chunk g l = l.room + 1 - vec_len l.bytes
