-- Reading finds the one tree that a text spells, or the text spells none.
use Rattle.std.proofs.Common.{◌≡◌, ℕ, List, map, Some, None, Ok, sym, subst, ◌∙◌}
use Rattle.ql_tree.specs.Spells.{Within, Spells}
use Rattle.ql_tree.specs.Tokens.{IsTokens}
use Rattle.ql_tree.specs.Words.{word_in}
use Rattle.ql_tree.specs.declared.token.Token.{Token}
use Rattle.ql_tree.specs.declared.tree.Expr.{Expr}
use Rattle.ql_tree.proofs.TokenLemmas.{cut_alone}
use Rattle.ql_parse.specs.Reading.{read}
use Rattle.ql_parse.proofs.Readers.{some_is}
use Rattle.ql_parse.proofs.ForwardLemmas.{words_forward}
use Rattle.ql_parse.proofs.WithinLemmas.{read_sound, read_complete}

-- the tokens of a text are determined
same_tokens : (text : List ℕ) (ts us : List Token) → IsTokens text ts → IsTokens text us → ts ≡ us
same_tokens text ts us first second =
    let both : Ok ts ≡ Ok us = cut_alone 0 text (Ok ts) (Ok us) first second in cc

-- the tree that is read from the words of a text is spelled by it
pub spells_read : (text : List ℕ) (ts : List Token) (e : Expr) → IsTokens text ts
    → read (map (word_in text) ts) ≡ Some e → Spells e text
spells_read text ts e tokens is =
    let s = read_sound (map (word_in text) ts) e is in
    record { tokens = ts; are_tokens = tokens; within = s.0; depth = s.1 }

-- the tree that a text spells is read from its words
pub read_spells : (text : List ℕ) (ts : List Token) (e : Expr) → Spells e text → IsTokens text ts
    → read (map (word_in text) ts) ≡ Some e
read_spells text ts e spelled tokens =
    let same = same_tokens text spelled.tokens ts spelled.are_tokens tokens in
    read_complete
    (map (word_in text) ts)
    e
    (subst (λ us. Within 401 e (map (word_in text) us)) same spelled.within)
    (words_forward text ts)
    spelled.depth

-- a text whose words are read as nothing spells no tree
pub no_tree_read : (text : List ℕ) (ts : List Token) (e : Expr) → IsTokens text ts
    → read (map (word_in text) ts) ≡ None
    → Spells e text → ⊥
no_tree_read text ts e tokens is spelled =
    let clash : Some e ≡ None = sym (read_spells text ts e spelled tokens) ∙ is in cc

-- no text spells two trees
pub one_tree : (text : List ℕ) (e f : Expr) → Spells e text → Spells f text → e ≡ f
one_tree text e f first second =
    some_is
    e
    f
    (
    sym (read_spells text first.tokens e first first.are_tokens)
    ∙ read_spells text first.tokens f second first.are_tokens
    )
