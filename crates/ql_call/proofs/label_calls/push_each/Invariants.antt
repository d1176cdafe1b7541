-- The text so far, with what is left, is the text with all.
use Rattle.std.proofs.Common.{◌≡◌, ◌++◌, map, drop}
use Rattle.op_base.specs.Matchers.{label_value}
use Rattle.ql_call.specs.CallSteps as steps
use Rattle.ql_call.specs.Operands.{text_of}
use Rattle.ql_call.proofs.label_calls.push_each.Given as goal

abbrev pub invariant-loop-source : goal.invariant-loop-source
invariant-loop-source l =
    l.initial.text ++ steps.each_behind l.separator (map (label_value l.labels) (map text_of l.sources))
    ≡ l.text ++ steps.each_behind l.separator (map (label_value l.labels) (map text_of (drop l.source-index l.sources)))
