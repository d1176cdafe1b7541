-- What is written and what the rest stands for is what the whole template stands for.
use denote.Text.{Utf8}
use denote.Shadow.{shadow}
use Rattle.std.proofs.Common.{◌≡◌, ◌++◌, length}
use Rattle.op_base.specs.Patterns.{written_whole}
use Rattle.op_base.proofs.template.written.Given as goal

abbrev pub invariant-loop-before : goal.invariant-loop-before
invariant-loop-before l =
    shadow (Utf8 l.rest) × (l.text ++ written_whole l.count l.value l.rest ≡ written_whole l.count l.value l.template)

abbrev pub decreases-loop-before : goal.decreases-loop-before
decreases-loop-before l = length l.rest
