-- What readers of words answer. A reader takes what it reads from the front of the words, and answers
-- it with the words behind it, or it answers nothing.
use Rattle.std.specs.Prelude.{ℕ, Bool, List, [], ◌∷◌, Option, Some, None, nat_le, if◌then◌else◌}
use Rattle.ql_tree.specs.Children.{depth_of}
use Rattle.ql_tree.specs.declared.tree.Expr.{Expr}
use Rattle.ql_tree.specs.declared.word.Word.{Word}

-- what was read, and the words behind it
abbrev pub Found : Type 0 → Type 0
Found A = Option (A × List Word)

-- what is found at the front of the words
abbrev pub Reader : Type 0 → Type 0
Reader A = List Word → Found A

infixl 10 ◌>>=◌
-- go on with what was found
abbrev pub ◌>>=◌ : {A B : Type 0} → Option A → (A → Option B) → Option B
None >>= f = None
Some x >>= f = f x

-- the first word, where it means something
abbrev pub first : {A : Type 0} → (Word → Option A) → Reader A
first meaning [] = None
first meaning (w ∷ ts) = meaning w >>= λ a. Some (a, ts)

-- the words behind the first, where it passes the test
abbrev pub behind : (Word → Bool) → List Word → Option (List Word)
behind is_it [] = None
behind is_it (w ∷ ts) = if is_it w then Some ts else None

-- the end of a list, where the words that close it are there, and else what is read
abbrev pub ended : {A : Type 0} → Option (List Word) → Found (List A) → Found (List A)
ended (Some rest) other = Some ([], rest)
ended None other = other

-- the item before the list that is read
abbrev pub with_front : {A : Type 0} → A → Found (List A) → Found (List A)
with_front x None = None
with_front x (Some found) = Some (x ∷ found.0, found.1)

-- the tree, where it is no deeper than d
abbrev pub fitting : ℕ → Expr → List Word → Found Expr
fitting d e rest = if nat_le (depth_of e) d then Some (e, rest) else None
