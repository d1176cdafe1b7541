-- The tree of a text is the one that spells it.
use Rattle.std.proofs.Common.{◌≡◌, ℕ, List, map, Some, None, Ok, Err, ap, ◌∙◌}
use Rattle.ql_tree.specs.Spells.{Spells}
use Rattle.ql_tree.specs.Tokens.{Cut, IsTokens, IsBadAt}
use Rattle.ql_tree.specs.Words.{word_in}
use Rattle.ql_tree.specs.declared.token.Token.{Token}
use Rattle.ql_tree.specs.declared.tree.Expr.{Expr}
use Rattle.ql_parse.specs.Cutting.{Tokens, tokens_in}
use Rattle.ql_parse.specs.Trees.{tree_from, tree_of}
use Rattle.ql_tree.proofs.TokenLemmas.{cut_alone}
use Rattle.ql_parse.specs.Reading.{read}
use Rattle.ql_parse.proofs.CutLaws.{tokens_are, tokens_alone}
use Rattle.ql_parse.proofs.TextLemmas.{spells_read, read_spells}

from_tokens : (text : List ℕ) (tokens : Tokens) (e : Expr) → Cut 0 text tokens → tree_from text tokens ≡ Some e → Spells e text
from_tokens text (Ok tokens) e are is = spells_read text tokens e are is
from_tokens text (Err place) e are is = cc

-- it spells the text
pub tree_spells : (text : List ℕ) (e : Expr) → tree_of text ≡ Some e → Spells e text
unfolding tree_of
tree_spells text e is = from_tokens text (tokens_in text) e (tokens_are text) is

-- and each tree that spells the text is it
pub spelled_tree : (text : List ℕ) (e : Expr) → Spells e text → tree_of text ≡ Some e
unfolding tree_of
spelled_tree text e spelled =
    ap (tree_from text) (tokens_alone text spelled.tokens spelled.are_tokens) ∙ read_spells text spelled.tokens e spelled spelled.are_tokens

-- what is read of its words
pub text_tree : (text : List ℕ) (tokens : List Token) → IsTokens text tokens → tree_of text ≡ read (map (word_in text) tokens)
unfolding tree_of
text_tree text tokens are = ap (tree_from text) (tokens_alone text tokens are)

-- a text that isn't cut into tokens has none
pub bad_tree : (text : List ℕ) (place : ℕ) → IsBadAt text place → tree_of text ≡ None
unfolding tree_of
bad_tree text place broken = ap (tree_from text) (cut_alone 0 text (tokens_in text) (Err place) (tokens_are text) broken)
