use Rattle.std.proofs.Common.{Err, ap, sym, subst, ◌∙◌}
use Rattle.ql_tree.specs.Tokens.{IsTokens}
use Rattle.ql_parse.proofs.ParseLemmas.{tree_spelled, none_spelled}
use Rattle.ql_parse.proofs.TextLemmas.{one_tree}
use Rattle.ql_parse.specs.Gives.{Gives}
use Rattle.ql_parse.proofs.TreeLaws.{text_tree, bad_tree}
use Rattle.ql_parse.proofs.parser.parse.Goals as goal

pub returns-in-Ok-clause-spells : goal.returns-in-Ok-clause-spells
returns-in-Ok-clause-spells c =
    tree_spelled c.args.text.now c.as_slice.result.now c.tree_of_tokens.result
    (subst (λ ts. IsTokens c.args.text.now ts) (sym c.as_slice.ensures) c.in-Ok.ensures.tokens) c.tree_of_tokens.ensures

pub returns-in-Ok-clause-not_expr : goal.returns-in-Ok-clause-not_expr
returns-in-Ok-clause-not_expr c =
    none_spelled c.args.text.now c.as_slice.result.now c.tree_of_tokens.result
    (subst (λ ts. IsTokens c.args.text.now ts) (sym c.as_slice.ensures) c.in-Ok.ensures.tokens) c.tree_of_tokens.ensures

pub returns-in-Ok-clause-one_tree : goal.returns-in-Ok-clause-one_tree
returns-in-Ok-clause-one_tree c = λ e f first second. one_tree c.args.text.now e f first second

pub returns-in-Err-NoMemory-clause-one_tree : goal.returns-in-Err-NoMemory-clause-one_tree
returns-in-Err-NoMemory-clause-one_tree c = λ e f first second. one_tree c.args.text.now e f first second

pub returns-in-Ok-clause-tree : goal.returns-in-Ok-clause-tree
returns-in-Ok-clause-tree c =
    subst (λ found. Gives (λ e. e) c.tree_of_tokens.result found)
    (sym (text_tree c.args.text.now c.as_slice.result.now
    (subst (λ ts. IsTokens c.args.text.now ts) (sym c.as_slice.ensures) c.in-Ok.ensures.tokens)))
    c.tree_of_tokens.ensures

pub returns-in-Err-BadChar-clause-tree : goal.returns-in-Err-BadChar-clause-tree
returns-in-Err-BadChar-clause-tree c =
    bad_tree c.args.text.now c.in-Err-BadChar.field-0-0
    (c.tokens.ensures.bad_char c.in-Err-BadChar.field-0-0 (c.in-Err-BadChar.is ∙ ap Err c.in-Err-BadChar.field-0-is))
