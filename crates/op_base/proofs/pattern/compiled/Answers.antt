-- A text that is compiled is read; one with an error of syntax isn't, or is nested too deep.
use Rattle.op_base.proofs.PatternLemmas.{compiled, refused}
use Rattle.op_base.proofs.pattern.compiled.Goals as goal

pub returns-in-Ok : goal.returns-in-Ok
returns-in-Ok c = compiled c.in-Ok.regex c.args.text.now c.in-Ok.ensures.source c.in-Ok.ensures.config c.in-Ok.ensures.read

pub returns-in-Err-Syntax : goal.returns-in-Err-Syntax
returns-in-Err-Syntax c =
    refused c.args.text.now c.in-Err-Syntax.field-0 c.in-Err-Syntax.field-0-0 c.in-Err-Syntax.field-0-is c.in-Err-Syntax.ensures.by_grammar c.in-Err-Syntax.ensures.kind
