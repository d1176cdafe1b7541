-- The tree that spells a text, as a function of the text. That a tree is this one exactly where it spells
-- the text is a law: the clauses of `trees_spell`.
use Rattle.std.specs.Prelude.{ℕ, List, map, Option, None, Ok, Err}
use Rattle.ql_tree.specs.Words.{word_in}
use Rattle.ql_tree.specs.declared.tree.Expr.{Expr}
use Rattle.ql_parse.specs.Cutting.{Tokens, tokens_in}
use Rattle.ql_parse.specs.Reading.{read}

-- the tree of the text's tokens, where it has tokens
abbrev pub tree_from : List ℕ → Tokens → Option Expr
tree_from text (Ok tokens) = read (map (word_in text) tokens)
tree_from text (Err place) = None

-- the tree that spells the text, if one does
unfoldable pub tree_of : List ℕ → Option Expr
tree_of text = tree_from text (tokens_in text)
