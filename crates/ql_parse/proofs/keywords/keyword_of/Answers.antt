use Rattle.std.proofs.Common.{cond, sym, ap, ◌∙◌}
use Rattle.std.specs.Option.{unwrap_or}
use Rattle.std.specs.Str.{str_eq_ignore_ascii_case}
use Rattle.ql_tree.specs.Words.{keyword_of, found_in, keywords}
use Rattle.ql_tree.specs.declared.word.Keyword.TheVariants as keyword
use Rattle.ql_parse.proofs.keywords.keyword_of.Goals as goal

pub returns-then-is_reserved : goal.returns-then-is_reserved
unfolding keyword_of
returns-then-is_reserved c =
    c.unwrap_or.ensures ∙ ap (λ o. unwrap_or o keyword.Unused) c.found_in.ensures
    ∙ sym (ap (λ t. cond t
    (unwrap_or (found_in (str_eq_ignore_ascii_case c.args.text.now) keywords) keyword.Unused)
    keyword.Unreserved)
    (sym c.is_reserved.ensures ∙ c.if-is_reserved.true))
