-- One `$` more, and the text behind the last.
use Rattle.std.proofs.Common.{rules, ◌∙◌, ap, sym, ◌++◌}
use Rattle.op_base.proofs.TemplateLemmas.{written-more, written-last}
use Rattle.op_base.proofs.template.written.Goals as goal

pub loop-before-preserved : goal.loop-before-preserved
loop-before-preserved c = (
  search rules,
  written-more _ _ c.loop-before.text c.in-Some.before.now c.in-Some.after.now c.loop-before.rest.now c.reference.result.0.now c.reference.result.1.now _ _
      c.in-Some.ensures.0 c.in-Some.ensures.1 c.reference.ensures.written c.in_ok-push_str.ensures.ok c.in_ok-push_str-2.ensures.ok ∙ c.loop-before.invariant.1,
)

pub returns : goal.returns
returns c =
    c.in_ok-push_str-3.ensures.ok ∙ ap (λ l. c.loop-before.text ++ l) (sym (written-last _ _ c.loop-before.rest.now c.in_default.ensures))
    ∙ c.loop-before.invariant.1
