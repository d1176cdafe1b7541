use Rattle.std.proofs.Common.{◌≡◌, ◌+◌, length}
use Rattle.ql_token.specs.Inside.{length_of, after}
use Rattle.ql_token.proofs.strings.inside.Given as goal

abbrev pub invariant-loop-n : goal.invariant-loop-n
invariant-loop-n l =
    (l.taken + length l.behind ≡ length l.bytes) × (length_of l.quote 0 l.bytes ≡ after l.taken (length_of l.quote 0 l.behind))

abbrev pub decreases-loop-n : goal.decreases-loop-n
decreases-loop-n l = length l.behind
