-- What the reading of a text's words says of the text.
use Rattle.std.proofs.Common.{◌≡◌, ℕ, List, map, Result, Ok, Err, IfOk}
use Rattle.ql_tree.specs.Spells.{Spells}
use Rattle.ql_tree.specs.Tokens.{IsTokens}
use Rattle.ql_tree.specs.Words.{word_in}
use Rattle.ql_tree.specs.declared.token.Token.{Token}
use Rattle.ql_tree.specs.declared.tree.Expr.{Expr}
use Rattle.ql_parse.specs.Gives.{Gives}
use Rattle.ql_parse.specs.Reading.{read}
use Rattle.ql_parse.specs.declared.fault.ParseFault.{ParseFault}
use Rattle.ql_parse.specs.declared.fault.ParseFault.TheVariants.{NotExpr, NoMemory}
use Rattle.ql_parse.proofs.TextLemmas.{spells_read, no_tree_read}

-- a tree that is read is spelled
pub tree_spelled : (text : List ℕ) (ts : List Token) (r : Result Expr ParseFault) → IsTokens text ts
    → Gives (λ e. e) r (read (map (word_in text) ts)) → IfOk r (λ e. Spells e text)
tree_spelled text ts (Ok e) tokens gives = spells_read text ts e tokens gives
tree_spelled text ts (Err fault) tokens gives = tt

-- where nothing is read no tree is spelled
pub none_spelled : (text : List ℕ) (ts : List Token) (r : Result Expr ParseFault) → IsTokens text ts
    → Gives (λ e. e) r (read (map (word_in text) ts)) → (e : Expr) → r ≡ Err NotExpr → Spells e text
    → ⊥
none_spelled text ts (Ok f) tokens gives e is spelled = absurd (cc)
none_spelled text ts (Err NotExpr) tokens gives e is spelled =
    no_tree_read text ts e tokens gives spelled
none_spelled text ts (Err NoMemory) tokens gives e is spelled = absurd (cc)
