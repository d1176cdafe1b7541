-- The elements so far, with what is left, are all.
use Rattle.std.proofs.Common.{◌≡◌, ◌++◌, map, drop}
use Rattle.ql_call.specs.LabelCalls as spec
use Rattle.ql_call.specs.Operands.{text_of}
use Rattle.ql_call.proofs.label_calls.all_joined.Given as goal

abbrev pub invariant-loop-element : goal.invariant-loop-element
invariant-loop-element l =
    map (spec.joined_to l.target l.separator (map text_of l.sources)) l.elements
    ≡ l.changed ++ map (spec.joined_to l.target l.separator (map text_of l.sources)) (drop l.element-index l.elements)
