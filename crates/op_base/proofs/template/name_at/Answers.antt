use Rattle.std.proofs.Common.{Some, None, lit<}
use Rattle.std.proofs.lemmas.Str.Pattern.{strip_prefix_char, split_parts}
use Rattle.op_base.proofs.TemplateLemmas.{braced, bare}
use Rattle.op_base.proofs.template.name_at.Goals as goal

pub returns-in-Some : goal.returns-in-Some
returns-in-Some c =
    let inside = strip_prefix_char 123 c.args.text.now (Some c.in-Some.inside) c.in-Some.ensures.cases (lit< tt) in
    braced c.args.text.now c.in-Some.inside.now c.split_once.result c.utf8.text inside
    (split_parts 125 c.in-Some.inside.now c.split_once.result c.split_once.ensures.cases (lit< tt))

pub returns-in-None : goal.returns-in-None
returns-in-None c =
    bare c.args.text.now c.bare_name.result (strip_prefix_char 123 c.args.text.now None c.in-None.ensures.cases (lit< tt)) c.bare_name.ensures
