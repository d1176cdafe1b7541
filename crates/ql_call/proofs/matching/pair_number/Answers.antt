use Rattle.std.proofs.Common.{sym, ap, ◌∙◌}
use Rattle.ql_call.specs.Matched as spec
use Rattle.ql_call.proofs.matching.pair_number.Goals as goal

pub returns-then-swapped : goal.returns-then-swapped
returns-then-swapped c =
    c.number_of.ensures ∙ ap (λ swapped. spec.pair_number c.args.op c.args.boolean swapped c.args.one.now c.args.many.now) (sym c.if-swapped.true)

pub returns-else-swapped : goal.returns-else-swapped
returns-else-swapped c =
    c.number_of-else-swapped.ensures ∙ ap (λ swapped. spec.pair_number c.args.op c.args.boolean swapped c.args.one.now c.args.many.now) (sym c.if-swapped.false)
