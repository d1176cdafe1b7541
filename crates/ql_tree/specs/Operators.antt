-- The binary operators of PromQL, their words and their levels: a lower level binds tighter, and each
-- level is left-associative. And the two signs.
use Rattle.std.specs.Prelude.{ℕ, Bool, true, false, Option, Some, None, codes, ◌==◌, nat_lt, if◌then◌else◌}
use Rattle.ql_tree.specs.declared.tree.ArithOp.{ArithOp}
use Rattle.ql_tree.specs.declared.tree.ArithOp.TheVariants.{Add, Sub, Mul, Div, Rem}
use Rattle.ql_tree.specs.declared.tree.BinaryOp.{BinaryOp}
use Rattle.ql_tree.specs.declared.tree.BinaryOp.TheVariants as binary
use Rattle.ql_tree.specs.declared.word.Keyword.{Keyword}
use Rattle.ql_tree.specs.declared.word.Keyword.TheVariants as keyword
use Rattle.ql_tree.specs.declared.word.Word.{Word}
use Rattle.ql_tree.specs.declared.word.Word.TheVariants as word

-- the word of an operator of arithmetic
abbrev pub arith_word : ArithOp → Word
arith_word Add = word.Plus
arith_word Sub = word.Minus
arith_word Mul = word.Star
arith_word Div = word.Slash
arith_word Rem = word.Percent

-- the word of a binary operator, in lower case where it has letters
abbrev pub operator_word : BinaryOp → Word
operator_word (binary.Arith op) = arith_word op
operator_word binary.Eq = word.Equal
operator_word binary.Ne = word.NotEqual
operator_word binary.Gt = word.Greater
operator_word binary.Lt = word.Less
operator_word binary.Ge = word.GreaterEqual
operator_word binary.Le = word.LessEqual
operator_word binary.And = word.Name keyword.And (codes "and")
operator_word binary.Unless = word.Name keyword.Unless (codes "unless")
operator_word binary.Or = word.Name keyword.Or (codes "or")

-- the operators that are words with letters
abbrev pub keyword_operator : Keyword → Option BinaryOp
keyword_operator keyword.And = Some binary.And
keyword_operator keyword.Unless = Some binary.Unless
keyword_operator keyword.Or = Some binary.Or
keyword_operator _ = None

-- the binary operator that the word is, in any letter case
unfoldable pub operator_of : Word → Option BinaryOp
operator_of word.Star = Some (binary.Arith Mul)
operator_of word.Slash = Some (binary.Arith Div)
operator_of word.Percent = Some (binary.Arith Rem)
operator_of word.Plus = Some (binary.Arith Add)
operator_of word.Minus = Some (binary.Arith Sub)
operator_of word.Equal = Some binary.Eq
operator_of word.NotEqual = Some binary.Ne
operator_of word.Greater = Some binary.Gt
operator_of word.Less = Some binary.Lt
operator_of word.GreaterEqual = Some binary.Ge
operator_of word.LessEqual = Some binary.Le
operator_of (word.Name k text) = keyword_operator k
operator_of _ = None

-- the level of an operator of arithmetic: `*`, `/` and `%` bind more closely than `+` and `-`
abbrev pub arith_level : ArithOp → ℕ
arith_level Mul = 1
arith_level Div = 1
arith_level Rem = 1
arith_level Add = 2
arith_level Sub = 2

-- 1 for `* / %`, 2 for `+ -`, 3 for comparisons, 4 for `and` and `unless`, 5 for `or`
unfoldable pub level_of : BinaryOp → ℕ
level_of (binary.Arith op) = arith_level op
level_of binary.Eq = 3
level_of binary.Ne = 3
level_of binary.Gt = 3
level_of binary.Lt = 3
level_of binary.Ge = 3
level_of binary.Le = 3
level_of binary.And = 4
level_of binary.Unless = 4
level_of binary.Or = 5

-- `==`, `!=`, `>`, `<`, `>=` or `<=`, which alone may have `bool`
unfoldable pub is_comparison : BinaryOp → Bool
is_comparison op = level_of op == 3

-- `and`, `unless` or `or`, the operators on sets of elements
unfoldable pub is_set : BinaryOp → Bool
is_set op = nat_lt 3 (level_of op)

-- `-` is true, `+` false
unfoldable pub sign_of : Word → Option Bool
sign_of word.Minus = Some true
sign_of word.Plus = Some false
sign_of _ = None

-- `-` or `+`
abbrev pub sign_word : Bool → Word
sign_word minus = if minus then word.Minus else word.Plus
