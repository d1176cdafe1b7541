-- The grammar of PromQL, from trees to texts, with one level of precedence a case.
--
-- A text spells a tree where it is cut into tokens, white space and comments standing between them,
-- and the words that these tokens are spell it. Words spell trees by the cases below.
use Rattle.std.specs.Prelude.{◌≡◌, ℕ, zero, suc, ◌<◌, ◌≤◌, ℤ, Bool, true, false, List, [], ◌∷◌, ◌++◌, map, Option, Some, None}
use Rattle.ql_tree.specs.Children.{depth_of}
use Rattle.ql_tree.specs.Clauses.{MatchingOf, GroupingOf}
use Rattle.ql_tree.specs.ClauseWords.{aggregate_of}
use Rattle.ql_tree.specs.Operators.{operator_of, level_of, is_comparison, sign_of}
use Rattle.ql_tree.specs.Selecting.{SelectorOf}
use Rattle.ql_tree.specs.Tokens.{IsTokens}
use Rattle.ql_tree.specs.Words.{word_in}
use Rattle.ql_tree.specs.declared.token.Token.{Token}
use Rattle.ql_tree.specs.declared.tree.AggregateOp.{AggregateOp}
use Rattle.ql_tree.specs.declared.tree.BinaryOp.{BinaryOp}
use Rattle.ql_tree.specs.declared.tree.Expr.{Expr}
use Rattle.ql_tree.specs.declared.tree.Expr.TheVariants as expr
use Rattle.ql_tree.specs.declared.tree.Grouping.{Grouping}
use Rattle.ql_tree.specs.declared.tree.Matching.{Matching}
use Rattle.ql_tree.specs.declared.word.Keyword.TheVariants as keyword
use Rattle.ql_tree.specs.declared.word.Word.{Word}
use Rattle.ql_tree.specs.declared.word.Word.TheVariants as word

-- a relation of trees and the words that spell them
abbrev pub Spelling : Type 1
Spelling = Expr → List Word → Type 0

-- the word is an opening bracket
abbrev pub is_open : Word → Bool
is_open word.Open = true
is_open _ = false

-- the words begin with `(`
abbrev pub begins_open : List Word → Bool
begins_open [] = false
begins_open (w ∷ ts) = is_open w

-- `bool` behind a comparison, or nothing
pub data BoolOf (comparison : Bool) : Bool → List Word → Type 0 where
  none : BoolOf comparison false []
  given : (text : List ℕ) → comparison ≡ true → BoolOf comparison true (word.Name keyword.Bool text ∷ [])

-- operands of the next tighter level with operators of the level k between them, from left to right
pub data Chain (n k : ℕ) (Operand : Spelling) : Expr → List Word → Type 0 where
  one : (e : Expr) (ts : List Word) → Operand e ts → Chain n k Operand e ts
  more : (w : Word) (op : BinaryOp) (boolean : Bool) (m : Option Matching) (l r : Expr) (ts bs ms us : List Word)
      → operator_of w ≡ Some op → level_of op ≡ k
      → Chain n k Operand l ts → BoolOf (is_comparison op) boolean bs → MatchingOf n (begins_open us) m ms → Operand r us
      → Chain n k Operand (expr.Binary op boolean m (l ∷ []) (r ∷ [])) (ts ++ (w ∷ (bs ++ (ms ++ us))))

-- any number of signs before an atom
pub data Signed (Atom : Spelling) : Expr → List Word → Type 0 where
  atom : (e : Expr) (ts : List Word) → Atom e ts → Signed Atom e ts
  sign : (w : Word) (minus : Bool) (e : Expr) (ts : List Word) → sign_of w ≡ Some minus → Signed Atom e ts
      → Signed Atom (expr.Unary minus (e ∷ [])) (w ∷ ts)

-- one argument or more, with a comma between each two
pub data Arguments (Inside : Spelling) : List Expr → List Word → Type 0 where
  last : (e : Expr) (ts : List Word) → Inside e ts → Arguments Inside (e ∷ []) ts
  more : (e : Expr) (es : List Expr) (ts us : List Word) → Inside e ts → Arguments Inside es us
      → Arguments Inside (e ∷ es) (ts ++ (word.Comma ∷ us))

-- what an aggregate is of, with its parameter and a comma before it or none
pub data Operands (Inside : Spelling) : List Expr → Expr → List Word → Type 0 where
  alone : (e : Expr) (ts : List Word) → Inside e ts → Operands Inside [] e ts
  param : (p e : Expr) (ts us : List Word) → Inside p ts → Inside e us
      → Operands Inside (p ∷ []) e (ts ++ (word.Comma ∷ us))

-- what stands between operators and signs. `Inside` spells what may stand between brackets here,
-- and nothing where no bracket may be opened.
pub data Atom (n : ℕ) (Inside : Spelling) : Expr → List Word → Type 0 where
  number : (z : ℤ) → Atom n Inside (expr.Number z) (word.Number z ∷ [])
  string : (text : List ℕ) → Atom n Inside (expr.Str text) (word.Quoted text ∷ [])
  selector : (e : Expr) (ts : List Word) → SelectorOf e ts → Atom n Inside e ts
  bracketed : (e : Expr) (ts : List Word) → Inside e ts → Atom n Inside e (word.Open ∷ (ts ++ (word.Close ∷ [])))
  empty_call : (function : List ℕ) → 0 < n
      → Atom n Inside (expr.Call function []) (word.Name keyword.Unreserved function ∷ word.Open ∷ word.Close ∷ [])
  call : (function : List ℕ) (args : List Expr) (ts : List Word) → Arguments Inside args ts
      → Atom n Inside (expr.Call function args) (word.Name keyword.Unreserved function ∷ word.Open ∷ (ts ++ (word.Close ∷ [])))
  aggregate : (w : Word) (op : AggregateOp) (param : List Expr) (e : Expr) (ts : List Word)
      → aggregate_of w ≡ Some op → Operands Inside param e ts
      → Atom n Inside (expr.Aggregate op None param (e ∷ [])) (w ∷ word.Open ∷ (ts ++ (word.Close ∷ [])))
  grouped_before : (w : Word) (op : AggregateOp) (g : Grouping) (param : List Expr) (e : Expr) (gs ts : List Word)
      → aggregate_of w ≡ Some op → GroupingOf n g gs → Operands Inside param e ts
      → Atom n Inside (expr.Aggregate op (Some g) param (e ∷ [])) (w ∷ (gs ++ (word.Open ∷ (ts ++ (word.Close ∷ [])))))
  grouped_behind : (w : Word) (op : AggregateOp) (g : Grouping) (param : List Expr) (e : Expr) (ts gs : List Word)
      → aggregate_of w ≡ Some op → Operands Inside param e ts → GroupingOf n g gs
      → Atom n Inside (expr.Aggregate op (Some g) param (e ∷ [])) (w ∷ word.Open ∷ (ts ++ (word.Close ∷ gs)))

-- the levels of precedence: signs, `* / %`, `+ -`, comparisons, `and unless`, `or`
abbrev pub levels : ℕ → ℕ → Spelling → Spelling
levels n zero OfAtom = Signed OfAtom
levels n (suc k) OfAtom = Chain n (suc k) (levels n k OfAtom)

-- the words spell the tree, with at most n - 1 round brackets open at any place
unfoldable pub Within : ℕ → Spelling
Within zero e ts = ⊥
Within (suc n) e ts = levels n 5 (Atom n (Within n)) e ts

-- the text spells the tree: at most 400 open brackets at any place, and a depth of at most 200
pub record Spells (e : Expr) (text : List ℕ) : Type 0 where
  pub tokens : List Token
  pub are_tokens : IsTokens text tokens
  pub within : Within 401 e (map (word_in text) tokens)
  pub depth : depth_of e ≤ 200
