use Rattle.std.proofs.Common.{◌≡◌, Err, arith, subst}
use Rattle.ql_tree.specs.Tokens.{Cut}
use Rattle.ql_tree.proofs.TokenLemmas.{no_tokens_where_bad}
use Rattle.ql_token.proofs.CutLemmas.{past_gap, past_token, bad_here, whole_cut}
use Rattle.ql_token.proofs.cut.tokens.Goals as goal

pub loop-behind-preserved-in-Gap : goal.loop-behind-preserved-in-Gap
loop-behind-preserved-in-Gap c =
    (omega (arith, c.in-Gap.ensures.1), past_gap _ _ _ _ _ _ c.loop-behind.invariant.1 c.in-Gap.ensures.0 c.in-Gap.ensures.2 c.behind-behind.ensures.items)

pub loop-behind-preserved : goal.loop-behind-preserved
loop-behind-preserved c = (
  omega (arith, c.in-Token.ensures.1),
  past_token _ _ _ _ c.in-Token.kind c.in-Token.len _ _ c.loop-behind.invariant.1 c.in-Token.ensures.2 c.in-Token.ensures.3
      c.in_ok-push-in-Token.ensures.ok c.behind-behind-in-Token.ensures.items,
)

pub returns-in-Bad-clause-bad_char : goal.returns-in-Bad-clause-bad_char
returns-in-Bad-clause-bad_char c =
    λ place e. let same : c.loop-behind.place ≡ place = cc in
    subst (λ k. Cut 0 c.args.text.now (Err k)) same
    (bad_here _ _ _ _ c.loop-behind.invariant.1 c.loop-behind-test.true c.in-Bad.ensures.0 c.in-Bad.ensures.1)

pub returns-in-Bad-clause-no_tokens : goal.returns-in-Bad-clause-no_tokens
returns-in-Bad-clause-no_tokens c =
    λ place found e good. no_tokens_where_bad c.args.text.now c.loop-behind.place found
    (bad_here _ _ _ _ c.loop-behind.invariant.1 c.loop-behind-test.true c.in-Bad.ensures.0 c.in-Bad.ensures.1) good

pub returns-clause-tokens : goal.returns-clause-tokens
returns-clause-tokens c = whole_cut _ _ _ _ c.loop-behind.invariant.1 (omega arith)
