use Rattle.ql_call.proofs.NeighbourLemmas.{are-over-neighbours}
use Rattle.ql_call.proofs.laws.ranges_by_neighbours.Goals as goal

pub returns : goal.returns
returns c = are-over-neighbours
