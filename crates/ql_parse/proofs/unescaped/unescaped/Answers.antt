use Rattle.ql_parse.proofs.UnescapeLemmas.{inside_utf8}
use Rattle.ql_parse.proofs.unescaped.unescaped.Goals as goal

pub inside-requires-clause-utf8 : goal.inside-requires-clause-utf8
inside-requires-clause-utf8 c =
    inside_utf8 c.args.text.now c.as_bytes.result.now c.as_bytes.ensures.value c.utf8.text
    c.requires
