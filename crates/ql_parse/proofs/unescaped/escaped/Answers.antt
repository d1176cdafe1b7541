use Rattle.std.proofs.Common.{◌+◌, ◌∷◌, encode_utf8, sym, subst}
use Rattle.ql_parse.specs.Unescaped.{IsPiece}
use Rattle.ql_parse.proofs.EscapeLemmas.{escape_is}
use Rattle.ql_parse.proofs.UnescapeLemmas.{escaped_is, escape_broken, made}
use Rattle.ql_parse.proofs.unescaped.escaped.Goals as goal

pub unwrap-requires : goal.unwrap-requires
unwrap-requires c =
    c.from_u32.ensures.succeeds
    (escape_is c.args.quote c.args.behind.now c.in-Some.c c.in-Some.n c.requires.ascii
    (sym c.in-Some.ensures.escape)).scalar

pub returns-in-Some : goal.returns-in-Some
returns-in-Some c =
    let is = made c.from_u32.result c.in-Some.c c.unwrap.result c.from_u32.ensures.value
    c.unwrap.ensures in
    subst (λ k. IsPiece c.args.quote (92 ∷ c.args.behind.now) (encode_utf8 k) (1 + c.in-Some.n)) is.1
    (escaped_is c.args.quote c.args.behind.now c.in-Some.c c.in-Some.n c.requires.ascii
    c.requires.escapes.0 c.requires.escapes.1
    c.in-Some.ensures.within is.0 (sym c.in-Some.ensures.escape))

pub returns-in-None : goal.returns-in-None
returns-in-None c =
    escape_broken c.args.quote c.args.behind.now c.requires.escapes.0 c.requires.escapes.1
    (sym c.in-None.ensures.escape)
