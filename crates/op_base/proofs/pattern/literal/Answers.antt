-- One byte more.
use Rattle.std.proofs.Common.{◌≡◌, ◌+◌, ◌++◌, ◌∙◌, Some, option_map, sym, get_or, drop}
use Rattle.std.proofs.lemmas.List.{at_drop_more}
use Rattle.op_base.specs.Patterns.{unescaped, literal_step}
use Rattle.op_base.proofs.PatternLemmas.{literal-more}
use Rattle.op_base.proofs.pattern.literal.Goals as goal

pub loop-b-preserved : goal.loop-b-preserved
loop-b-preserved c =
    let text = c.args.text.now in
    let at = c.loop-b.b-index in
    let is : literal_step c.loop-b.escaped (get_or c.args.text.now c.loop-b.b-index 0) ≡ Some c.in-Some.begins = cc in
    let step = at_drop_more (λ rest. option_map (λ more. c.loop-b.bytes.items ++ more) (unescaped c.loop-b.escaped rest)) text at 0 c.loop-b-test.true in
    literal-more c.loop-b.escaped (get_or text at 0) (drop (at + 1) text) c.in-Some.begins c.loop-b.bytes.items _ is c.in_ok-keep-in-Some.ensures ∙ sym step ∙ c.loop-b.invariant
