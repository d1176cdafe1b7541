use Rattle.std.proofs.Common.{Some, None, ◌∙◌, lit<}
use Rattle.std.proofs.lemmas.Str.Pattern.{strip_prefix_char}
use Rattle.op_base.proofs.TemplateLemmas.{written-double, written-named}
use Rattle.op_base.proofs.template.reference.Goals as goal

pub returns-in-Some-clause-written : goal.returns-in-Some-clause-written
returns-in-Some-clause-written c = written-double _ _ c.args.after.now c.in-Some.rest.now (strip_prefix_char 36 c.args.after.now (Some c.in-Some.rest) c.in-Some.ensures.cases (lit< tt))

pub returns-in-None-clause-written : goal.returns-in-None-clause-written
returns-in-None-clause-written c =
    written-named _ _ c.args.after.now (strip_prefix_char 36 c.args.after.now None c.in-None.ensures.cases (lit< tt)) ∙ c.named.ensures.written
