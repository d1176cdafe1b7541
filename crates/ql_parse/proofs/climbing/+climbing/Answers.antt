use Rattle.std.proofs.Common.{◌∙◌, length, Some, sym, ap, subst, arith}
use Rattle.ql_parse.specs.Climbing.{operand}
use Rattle.ql_parse.specs.Found.{◌>>=◌}
use Rattle.ql_parse.specs.Gives.{Gives, Lacks}
use Rattle.ql_parse.specs.ReadClauses.{boolean}
use Rattle.ql_parse.specs.ReadSelectors.{selector}
use Rattle.ql_parse.specs.ReadTerms.{arguments, closed}
use Rattle.ql_parse.specs.Reading.{right, within, under_sign}
use Rattle.ql_parse.proofs.ListSteps.{no_turns, no_item, last_one, no_comma, one_more}
use Rattle.ql_parse.proofs.Steps as steps
use Rattle.ql_parse.proofs.climbing.+climbing.Goals as goal

pub within-returns-then-room-eq0-clause-read : goal.within-returns-then-room-eq0-clause-read
within-returns-then-room-eq0-clause-read t c =
    steps.within_shut c.args.room c.args.limit c.args.words.now c.if-room-eq0.true

pub within-returns-clause-read : goal.within-returns-clause-read
within-returns-clause-read t c =
    subst (λ read. Gives (λ x. (x.0, x.2.now)) c.level.result read)
    (sym (steps.within_open c.args.room c.args.limit c.args.words.now c.if-room-eq0.false))
    c.level.ensures.read

pub signed-returns-then-limit-eq0-clause-read : goal.signed-returns-then-limit-eq0-clause-read
signed-returns-then-limit-eq0-clause-read t c =
    steps.signed_refused c.args.room c.args.limit c.args.words.now c.if-limit-eq0.true

pub signed-returns-in-None-clause-read : goal.signed-returns-in-None-clause-read
signed-returns-in-None-clause-read t c =
    subst (λ read. Gives (λ x. (x.0, x.2.now)) c.atom.result read)
    (sym (steps.signed_atom c.args.room c.args.limit c.args.words.now c.if-limit-eq0.false
    (sym c.in-None.ensures))) c.atom.ensures.read

pub signed-returns-in_ok-expr-in-Ok-clause-read : goal.signed-returns-in_ok-expr-in-Ok-clause-read
signed-returns-in_ok-expr-in-Ok-clause-read t c =
    steps.signed_sign c.args.room c.args.limit c.args.words.now c.in-Some.behind.now c.in-Some.minus
    c.if-limit-eq0.false (sym c.in-Some.ensures)
    ∙ ap (λ o. o >>= under_sign c.in-Some.minus) c.in-Ok.ensures.read
    ∙ ap (λ e. Some (e, c.in-Ok.behind.now)) (sym c.in_ok-expr-in-Ok.ensures.expr)

pub signed-returns-in-Err-clause-read : goal.signed-returns-in-Err-clause-read
signed-returns-in-Err-clause-read t c =
    steps.sign_fault c.in-Err.fault c.args.room c.args.limit c.args.words.now c.in-Some.behind.now
    c.in-Some.minus c.if-limit-eq0.false
    (sym c.in-Some.ensures) c.in-Err.ensures.read

pub right-returns-in-Err-clause-read : goal.right-returns-in-Err-clause-read
right-returns-in-Err-clause-read t c =
    subst (λ x. Lacks c.in-Err.fault
    (right c.args.room c.args.limit (operand c.args.below c.args.room c.args.limit) c.args.left.0 c.args.op x))
    (c.boolean-boolean.ensures ∙ ap (λ t. boolean t c.args.words.now) c.is_comparison.ensures)
    (steps.right_unmatched c.args.below c.args.room c.args.limit c.args.left.0 c.args.op
    (c.boolean-boolean.result.0, c.boolean-boolean.result.1.now) c.in-Err.fault c.in-Err.ensures)

pub right-returns-in-Err-level-clause-read : goal.right-returns-in-Err-level-clause-read
right-returns-in-Err-level-clause-read t c =
    subst (λ x. Lacks c.in-Err-level.fault
    (right c.args.room c.args.limit (operand c.args.below c.args.room c.args.limit) c.args.left.0 c.args.op x))
    (c.boolean-boolean.ensures ∙ ap (λ t. boolean t c.args.words.now) c.is_comparison.ensures)
    (steps.right_lost c.args.below c.args.room c.args.limit c.args.left.0 c.args.op
    (c.boolean-boolean.result.0, c.boolean-boolean.result.1.now) c.in-Err-level.fault c.in-Ok.matching c.in-Ok.behind.now
    c.in-Ok.ensures c.in-Err-level.ensures.read)

pub right-returns-in-Ok-level-clause-read : goal.right-returns-in-Ok-level-clause-read
right-returns-in-Ok-level-clause-read t c =
    subst (λ read. Gives (λ x. (x.0, x.2.now)) c.binary.result read)
    (steps.right_found c.args.below c.args.room c.args.limit c.args.left.0 c.args.op
    (c.boolean-boolean.result.0, c.boolean-boolean.result.1.now) c.in-Ok.matching c.in-Ok.behind.now c.in-Ok-level.behind.now
    c.in-Ok-level.of c.in-Ok.ensures c.in-Ok-level.ensures.read
    ∙ ap (λ x. right c.args.room c.args.limit (operand c.args.below c.args.room c.args.limit) c.args.left.0 c.args.op x)
    (c.boolean-boolean.ensures ∙ ap (λ t. boolean t c.args.words.now) c.is_comparison.ensures))
    c.binary.ensures.read

pub chain-returns-in-None-clause-read : goal.chain-returns-in-None-clause-read
chain-returns-in-None-clause-read t c =
    sym c.loop-step.invariant.read
    ∙ steps.chain_done c.args.below c.args.room c.args.limit (length c.args.words.now)
    c.loop-step.step c.loop-step.found.0
    c.loop-step.behind.now c.loop-step-test.true (sym c.in-None.ensures)

pub chain-returns-in-Err-clause-read : goal.chain-returns-in-Err-clause-read
chain-returns-in-Err-clause-read t c =
    subst (λ o. Lacks c.in-Err.fault o) c.loop-step.invariant.read
    (steps.chain_fault c.args.below c.args.room c.args.limit (length c.args.words.now)
    c.loop-step.step c.loop-step.found.0
    c.loop-step.behind.now c.in-Err.fault c.in-Some.op c.in-Some.operand.now c.loop-step-test.true
    (sym c.in-Some.ensures) c.in-Err.ensures.read)

pub chain-loop-step-preserved : goal.chain-loop-step-preserved
chain-loop-step-preserved t c = record {
  read = sym (steps.chain_on c.args.below c.args.room c.args.limit (length c.args.words.now)
      c.loop-step.step c.loop-step.found.0
      c.loop-step.behind.now c.in-Some.op c.in-Some.operand.now c.in-Ok.next.now c.in-Ok.expr
      c.loop-step-test.true (sym c.in-Some.ensures)
      c.in-Ok.ensures.read) ∙ c.loop-step.invariant.read;
  depth = c.in-Ok.ensures.depth;
}

pub chain-returns-clause-read : goal.chain-returns-clause-read
chain-returns-clause-read t c =
    sym c.loop-step.invariant.read
    ∙ steps.chain_spent c.args.below c.args.room c.args.limit (length c.args.words.now)
    c.loop-step.step c.loop-step.found.0
    c.loop-step.behind.now c.loop-step-test.false

pub level-returns-in-Err-chain-clause-read : goal.level-returns-in-Err-chain-clause-read
level-returns-in-Err-chain-clause-read t c =
    steps.chain_lost c.in-Err-chain.fault c.loop-k.k c.args.top c.args.room c.args.limit
    c.args.words.now c.loop-k.behind.now
    c.loop-k.found.0 c.loop-k-test.true c.loop-k.invariant.read c.in-Err-chain.ensures.read

pub level-loop-k-preserved : goal.level-loop-k-preserved
level-loop-k-preserved t c = record {
  read = steps.level_next c.loop-k.k c.args.room c.args.limit c.args.words.now c.loop-k.behind.now
      c.loop-k.found.0 c.loop-k.invariant.read
      ∙ c.in-Ok-chain.ensures.read;
  depth = c.in-Ok-chain.ensures.depth;
}

pub level-returns-in-Err-clause-read : goal.level-returns-in-Err-clause-read
level-returns-in-Err-clause-read t c =
    steps.level_fault c.in-Err.fault 0 c.args.top c.args.room c.args.limit c.args.words.now
    (omega arith) c.in-Err.ensures.read

pub named-returns-in-Some-clause-read : goal.named-returns-in-Some-clause-read
named-returns-in-Some-clause-read t c =
    subst (λ read. Gives (λ x. (x.0, x.2.now)) c.call.result read)
    (sym (steps.name_call c.args.room c.args.limit c.args.name.now c.args.behind.now
    c.in-Some.inside.now (sym c.in-Some.ensures)))
    c.call.ensures.read

pub named-returns-in-None-clause-read : goal.named-returns-in-None-clause-read
named-returns-in-None-clause-read t c =
    subst (λ read. Gives (λ x. (x.0, x.2.now)) c.select.result read)
    (ap selector c.requires.words
    ∙ sym (steps.name_select c.args.room c.args.limit c.args.name.now c.args.behind.now
    (sym c.in-None.ensures)))
    c.select.ensures.read

pub arguments-returns-in-Some-clause-read : goal.arguments-returns-in-Some-clause-read
arguments-returns-in-Some-clause-read t c =
    steps.arguments_none c.args.room c.args.limit c.args.words.now c.in-Some.behind.now
    (sym c.in-Some.ensures)
    ∙ ap (λ args. Some (args, c.in-Some.behind.now)) (sym c.new-args.ensures)

pub arguments-returns-in-End-clause-read : goal.arguments-returns-in-End-clause-read
arguments-returns-in-End-clause-read t c =
    steps.arguments_some c.args.room c.args.limit c.args.words.now (sym c.in-None.ensures)
    ∙ last_one
    (steps.arguments_turn c.args.room c.args.limit _ c.loop-step.args (length c.args.words.now)
    c.loop-step.step c.loop-step.behind.now c.loop-step.invariant.read c.loop-step-test.true)
    c.in-Ok.expr c.in-Ok.after.now c.in-Ok.ensures.read
    c.push.new.self c.in-End.end.now c.in_ok-push-in-Ok.ensures.ok
    (sym c.close-in-Ok.ensures ∙ c.in-End.ensures)

pub arguments-returns-in-End-clause-depth : goal.arguments-returns-in-End-clause-depth
arguments-returns-in-End-clause-depth t c =
    c.max-depth.ensures
    ∙ steps.depth_pushed c.loop-step.args c.push.new.self c.in-Ok.expr c.loop-step.depth c.in-Ok.own
    c.in_ok-push-in-Ok.ensures.ok
    c.loop-step.invariant.depth c.in-Ok.ensures.depth.0

pub arguments-returns-in-Broken-clause-read : goal.arguments-returns-in-Broken-clause-read
arguments-returns-in-Broken-clause-read t c =
    steps.arguments_some c.args.room c.args.limit c.args.words.now (sym c.in-None.ensures)
    ∙ no_comma
    (steps.arguments_turn c.args.room c.args.limit _ c.loop-step.args (length c.args.words.now)
    c.loop-step.step c.loop-step.behind.now c.loop-step.invariant.read c.loop-step-test.true)
    c.in-Ok.expr c.in-Ok.after.now c.in-Ok.ensures.read
    (sym c.close-in-Ok.ensures ∙ c.in-Broken.ensures.0) c.in-Broken.ensures.1

pub arguments-returns-in-Err-clause-read : goal.arguments-returns-in-Err-clause-read
arguments-returns-in-Err-clause-read t c =
    subst (λ read. Lacks c.in-Err.fault read)
    (sym (steps.arguments_some c.args.room c.args.limit c.args.words.now (sym c.in-None.ensures)))
    (no_item
    (steps.arguments_turn c.args.room c.args.limit _ c.loop-step.args (length c.args.words.now)
    c.loop-step.step c.loop-step.behind.now c.loop-step.invariant.read c.loop-step-test.true)
    c.in-Err.fault c.in-Err.ensures.read)

pub arguments-loop-step-preserved : goal.arguments-loop-step-preserved
arguments-loop-step-preserved t c = record {
  read = one_more
      (steps.arguments_turn c.args.room c.args.limit _ c.loop-step.args (length c.args.words.now)
      c.loop-step.step c.loop-step.behind.now c.loop-step.invariant.read c.loop-step-test.true)
      c.in-Ok.expr c.in-Ok.after.now c.in-Ok.ensures.read
      c.push.new.self c.in-More.next.now c.in_ok-push-in-Ok.ensures.ok
      (sym c.close-in-Ok.ensures ∙ c.in-More.ensures.0) c.in-More.ensures.1;
  depth = c.max-depth.ensures
      ∙ steps.depth_pushed c.loop-step.args c.push.new.self c.in-Ok.expr c.loop-step.depth
      c.in-Ok.own c.in_ok-push-in-Ok.ensures.ok
      c.loop-step.invariant.depth c.in-Ok.ensures.depth.0;
}

pub arguments-returns-clause-read : goal.arguments-returns-clause-read
arguments-returns-clause-read t c =
    steps.arguments_some c.args.room c.args.limit c.args.words.now (sym c.in-None.ensures)
    ∙ no_turns (λ m. arguments m (within c.args.room c.args.limit)) _ c.loop-step.args
    (length c.args.words.now) c.loop-step.step
    c.loop-step.behind.now c.loop-step.invariant.read c.loop-step-test.false
    (steps.no_argument c.args.room c.args.limit)

pub bracketed-returns-in-Ok-clause-read : goal.bracketed-returns-in-Ok-clause-read
bracketed-returns-in-Ok-clause-read t c =
    subst (λ found. Gives (λ x. (x.0, x.2.now)) c.closed.result (found >>= λ e. closed e.0 e.1))
    (sym c.in-Ok.ensures.read) c.closed.ensures.read

pub bracketed-returns-in-Ok-clause-depth : goal.bracketed-returns-in-Ok-clause-depth
bracketed-returns-in-Ok-clause-depth t c =
    c.closed.ensures.depth c.args.limit c.in-Ok.ensures.depth

pub operands-returns-in-None-clause-read : goal.operands-returns-in-None-clause-read
operands-returns-in-None-clause-read t c =
    subst (λ read. Gives (λ x. ((x.0.0, x.0.1), x.1.now)) c.alone.result read)
    (steps.operand_alone c.args.room c.args.limit c.args.words.now c.in-Ok.behind.now
    c.in-Ok.first c.in-Ok.ensures.read (sym c.in-None.ensures))
    c.alone.ensures.read

pub operands-returns-in-Ok-bracketed-clause-read : goal.operands-returns-in-Ok-bracketed-clause-read
operands-returns-in-Ok-bracketed-clause-read t c =
    subst (λ read. Gives (λ x. ((x.0.0, x.0.1), x.1.now)) c.both.result read)
    (steps.operand_both c.args.room c.args.limit c.args.words.now c.in-Ok.behind.now c.in-Ok.first
    c.in-Ok.ensures.read c.in-Some.second.now c.in-Ok-bracketed.end.now c.in-Ok-bracketed.of
    (sym c.in-Some.ensures) c.in-Ok-bracketed.ensures.read)
    c.both.ensures.read

pub operands-returns-in-Err-bracketed-clause-read : goal.operands-returns-in-Err-bracketed-clause-read
operands-returns-in-Err-bracketed-clause-read t c =
    steps.operand_fault c.args.room c.args.limit c.args.words.now c.in-Ok.behind.now c.in-Ok.first
    c.in-Ok.ensures.read c.in-Err-bracketed.fault c.in-Some.second.now (sym c.in-Some.ensures)
    c.in-Err-bracketed.ensures.read

pub operands-returns-in-Err-clause-read : goal.operands-returns-in-Err-clause-read
operands-returns-in-Err-clause-read t c =
    steps.operands_fault c.in-Err.fault c.args.room c.args.limit c.args.words.now
    c.in-Err.ensures.read
