use Rattle.std.proofs.Common.{arith, sym}
use Rattle.ql_token.proofs.StringLemmas.{at_end, at_close, at_piece, at_broken}
use Rattle.ql_token.proofs.strings.next.Goals as goal

pub returns-then-b-quote : goal.returns-then-b-quote
returns-then-b-quote c = (omega arith, at_close c.args.quote c.args.bytes.now (omega arith) c.if-b-quote.true)

pub returns-in-empty : goal.returns-in-empty
returns-in-empty c = at_end c.args.quote c.args.bytes.now (omega arith)

pub returns-in-Some : goal.returns-in-Some
returns-in-Some c = (
  c.in-Some.ensures.within.0,
  c.in-Some.ensures.within.1,
  at_piece c.args.quote c.in-Some.n c.args.bytes.now (omega arith) c.if-b-quote.false (sym c.in-Some.ensures.piece) c.in-Some.ensures.within.0,
)

pub returns-in-None : goal.returns-in-None
returns-in-None c = at_broken c.args.quote c.args.bytes.now (omega arith) c.if-b-quote.false (sym c.in-None.ensures.piece)
