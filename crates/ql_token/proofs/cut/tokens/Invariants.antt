use Rattle.std.proofs.Common.{◌≡◌, ◌+◌, length}
use Rattle.ql_token.proofs.CutLemmas.{LeadsTo}
use Rattle.ql_token.proofs.cut.tokens.Given as goal

abbrev pub invariant-loop-behind : goal.invariant-loop-behind
invariant-loop-behind l = (l.place + length l.behind ≡ length l.text) × LeadsTo l.text l.found l.place l.behind

abbrev pub decreases-loop-behind : goal.decreases-loop-behind
decreases-loop-behind l = length l.behind
