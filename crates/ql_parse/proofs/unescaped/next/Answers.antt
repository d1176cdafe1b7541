use Rattle.std.proofs.Common.{arith}
use Rattle.ql_parse.proofs.UnescapeLemmas.{at_end, at_close, at_raw, at_newline, at_unescaped}
use Rattle.ql_parse.proofs.unescaped.next.Goals as goal

pub returns-in-empty : goal.returns-in-empty
returns-in-empty c = at_end c.args.quote c.args.bytes.now (omega arith)

pub returns-then-b-quote : goal.returns-then-b-quote
returns-then-b-quote c =
    at_close c.args.quote c.args.bytes.now (omega arith) c.requires c.if-b-quote.true

pub returns-then-quote-eq96 : goal.returns-then-quote-eq96
returns-then-quote-eq96 c =
    at_raw c.args.quote c.args.bytes.now (omega arith) c.if-b-quote.false c.if-quote-eq96.true

pub returns-then-b-eq10 : goal.returns-then-b-eq10
returns-then-b-eq10 c =
    at_newline c.args.quote c.args.bytes.now (omega arith) c.if-b-quote.false c.if-quote-eq96.false
    c.if-b-eq10.true

pub returns-else-b-eq92 : goal.returns-else-b-eq92
returns-else-b-eq92 c =
    at_unescaped c.args.quote c.args.bytes.now (omega arith) c.if-b-quote.false c.if-quote-eq96.false
    c.if-b-eq10.false c.if-b-eq92.false
