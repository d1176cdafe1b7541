-- What an operand begins with, and what may follow it: by these it is told what stands there.
use Rattle.std.proofs.Common.{◌≡◌, ◌≢◌, ℕ, suc, ◌<◌, Bool, true, false, List, [], ◌∷◌, ◌++◌, Option, Some, None, refl, ap, subst, ◌∙◌, arith}
use Rattle.std.proofs.lemmas.Bool.{eqb-true, ne_eqb, eq-eqb}
use Rattle.ql_tree.specs.Clauses.{MatchingOf}
use Rattle.ql_tree.specs.ClauseWords.{aggregate_of, keyword_aggregate, matching_of, keyword_matching, side_of, grouping_of}
use Rattle.ql_tree.specs.Operators.{operator_of, keyword_operator, level_of, sign_of}
use Rattle.ql_tree.specs.Spells.{begins_open}
use Rattle.ql_tree.specs.declared.tree.AggregateOp.{AggregateOp}
use Rattle.ql_tree.specs.declared.tree.BinaryOp.{BinaryOp}
use Rattle.ql_tree.specs.declared.tree.Matching.{Matching}
use Rattle.ql_tree.specs.declared.word.Keyword.{Keyword}
use Rattle.ql_tree.specs.declared.word.Keyword.TheVariants as keyword
use Rattle.ql_tree.specs.declared.word.Word.{Word}
use Rattle.ql_tree.specs.declared.word.Word.TheVariants as word
use Rattle.ql_parse.specs.Found.{first}
use Rattle.ql_parse.specs.FrontWords.{beyond, is_symbol, beyond_keyword, is_keyword, of_level, operator_at}
use Rattle.ql_parse.proofs.Readers.{some_is, bind_ok, test_ok}

-- ---- what an operand begins with

abbrev keyword_begins : Keyword → Bool
keyword_begins keyword.Unreserved = true
keyword_begins (keyword.Aggregate op) = true
keyword_begins _ = false

-- a sign, or what begins an atom
abbrev pub begins : Word → Bool
begins word.Plus = true
begins word.Minus = true
begins (word.Number z) = true
begins (word.Quoted text) = true
begins word.Open = true
begins word.OpenBrace = true
begins (word.Name k text) = keyword_begins k
begins _ = false

pub data Starts : List Word → Type 0 where
  starts : (w : Word) (ts : List Word) → begins w ≡ true → Starts (w ∷ ts)

pub Starts-append : (us vs : List Word) → Starts us → Starts (us ++ vs)
Starts-append _ vs (Starts.starts w ts is) = Starts.starts w (ts ++ vs) is

pub opens-append : (us vs : List Word) → Starts us → begins_open (us ++ vs) ≡ begins_open us
opens-append _ vs (Starts.starts w ts is) = refl

-- no clause begins with such a word, and nothing ends with it
record Begun (w : Word) : Type 0 where
  side : side_of w ≡ None
  matching : matching_of w ≡ None
  boolean : is_keyword keyword.Bool w ≡ false
  close : is_symbol word.Close w ≡ false

keyword_begun : (k : Keyword) (text : List ℕ) → keyword_begins k ≡ true → Begun (word.Name k text)
unfolding side_of matching_of
keyword_begun keyword.Unreserved text is =
    record { side = refl; matching = refl; boolean = refl; close = refl }
keyword_begun (keyword.Aggregate op) text is =
    record { side = refl; matching = refl; boolean = refl; close = refl }
keyword_begun k text is = cc is

begun : (w : Word) → begins w ≡ true → Begun w
unfolding side_of matching_of
begun (word.Name k text) is = keyword_begun k text is
begun word.Close is = cc is
begun w is = record { side = refl; matching = refl; boolean = refl; close = refl }

pub no_side : (us : List Word) → Starts us → first side_of us ≡ None
no_side _ (Starts.starts w ts is) = rw (begun w is).side refl

pub no_matching : (us : List Word) → Starts us → first matching_of us ≡ None
no_matching _ (Starts.starts w ts is) = rw (begun w is).matching refl

pub no_bool : (us : List Word) → Starts us → beyond_keyword keyword.Bool us ≡ None
no_bool _ (Starts.starts w ts is) = rw (begun w is).boolean refl

pub no_close : (us : List Word) → Starts us → beyond word.Close us ≡ None
no_close _ (Starts.starts w ts is) = rw (begun w is).close refl

keyword_no_bool : (k : Keyword) (text : List ℕ) (on : Bool) → keyword_matching k ≡ Some on
    → is_keyword keyword.Bool (word.Name k text) ≡ false
keyword_no_bool keyword.Bool text on is = cc is
keyword_no_bool k text on is = refl

matching_no_bool : (w : Word) (on : Bool) → matching_of w ≡ Some on → is_keyword keyword.Bool w ≡ false
unfolding matching_of
matching_no_bool (word.Name k text) on is = keyword_no_bool k text on is
matching_no_bool w on is = refl

-- `bool` stands before a matching clause, if at all
pub no_bool_before : (n : ℕ) (opens : Bool) (m : Option Matching) (ms us : List Word)
    → MatchingOf n opens m ms → Starts us
    → beyond_keyword keyword.Bool (ms ++ us) ≡ None
no_bool_before n opens _ _ us MatchingOf.none begin = no_bool us begin
no_bool_before n opens _ _ us (MatchingOf.given w on ls s ts vs is room spelled side) begin =
    rw (matching_no_bool w on is) refl

pub sign_begins : (w : Word) (minus : Bool) → sign_of w ≡ Some minus → begins w ≡ true
unfolding sign_of
sign_begins word.Plus minus is = refl
sign_begins word.Minus minus is = refl
sign_begins w minus is = cc

keyword_aggregate_is : (k : Keyword) (text : List ℕ) (op : AggregateOp)
    → keyword_aggregate k ≡ Some op
    → word.Name k text ≡ word.Name (keyword.Aggregate op) text
keyword_aggregate_is (keyword.Aggregate own) text op is =
    ap (λ o. word.Name (keyword.Aggregate o) text) (some_is own op is)
keyword_aggregate_is k text op is = cc is

pub aggregate_is : (w : Word) (op : AggregateOp) → aggregate_of w ≡ Some op
    → (text : List ℕ) × (w ≡ word.Name (keyword.Aggregate op) text)
unfolding aggregate_of
aggregate_is (word.Name k text) op is = (text, keyword_aggregate_is k text op is)
aggregate_is w op is = cc is

-- ---- what may follow an operand of the level k

-- nothing, `)`, `,` or an operator that binds less tightly
pub data Ends (k : ℕ) : List Word → Type 0 where
  nothing : Ends k []
  closed : (ts : List Word) → Ends k (word.Close ∷ ts)
  comma : (ts : List Word) → Ends k (word.Comma ∷ ts)
  operator : (w : Word) (op : BinaryOp) (ts : List Word) → operator_of w ≡ Some op → k < level_of op
      → Ends k (w ∷ ts)

pub tighter : (k : ℕ) (ts : List Word) → Ends (suc k) ts → Ends k ts
tighter k _ Ends.nothing = Ends.nothing
tighter k _ (Ends.closed ts) = Ends.closed ts
tighter k _ (Ends.comma ts) = Ends.comma ts
tighter k _ (Ends.operator w op ts is looser) = Ends.operator w op ts is (omega arith)

-- nothing that belongs to an atom stands there
pub record Apart (ts : List Word) : Type 0 where
  pub grouping : first grouping_of ts ≡ None
  pub opens : beyond word.Open ts ≡ None
  pub brace : beyond word.OpenBrace ts ≡ None
  pub square : beyond word.OpenSquare ts ≡ None
  pub offset : beyond_keyword keyword.Offset ts ≡ None

keyword_apart : (k : Keyword) (text : List ℕ) (op : BinaryOp) (ts : List Word)
    → keyword_operator k ≡ Some op
    → Apart (word.Name k text ∷ ts)
unfolding grouping_of
keyword_apart keyword.And text op ts is =
    record { grouping = refl; opens = refl; brace = refl; square = refl; offset = refl }
keyword_apart keyword.Unless text op ts is =
    record { grouping = refl; opens = refl; brace = refl; square = refl; offset = refl }
keyword_apart keyword.Or text op ts is =
    record { grouping = refl; opens = refl; brace = refl; square = refl; offset = refl }
keyword_apart k text op ts is = cc is

operator_apart : (w : Word) (op : BinaryOp) (ts : List Word) → operator_of w ≡ Some op
    → Apart (w ∷ ts)
unfolding operator_of grouping_of
operator_apart (word.Name k text) op ts is = keyword_apart k text op ts is
operator_apart word.Open op ts is = cc is
operator_apart word.OpenBrace op ts is = cc is
operator_apart word.OpenSquare op ts is = cc is
operator_apart w op ts is =
    record { grouping = refl; opens = refl; brace = refl; square = refl; offset = refl }

pub ends_apart : (k : ℕ) (ts : List Word) → Ends k ts → Apart ts
unfolding grouping_of
ends_apart k _ Ends.nothing =
    record { grouping = refl; opens = refl; brace = refl; square = refl; offset = refl }
ends_apart k _ (Ends.closed ts) =
    record { grouping = refl; opens = refl; brace = refl; square = refl; offset = refl }
ends_apart k _ (Ends.comma ts) =
    record { grouping = refl; opens = refl; brace = refl; square = refl; offset = refl }
ends_apart k _ (Ends.operator w op ts is looser) = operator_apart w op ts is

-- ---- operators of a level

pub operator_ok : (k : ℕ) (w : Word) (op : BinaryOp) → operator_at k w ≡ Some op
    → (operator_of w ≡ Some op) × (level_of op ≡ k)
operator_ok k w op is =
    let b = bind_ok (operator_of w) (of_level k) op is in
    let t = test_ok _ (Some b.0) op b.2 in
    let same : b.0 ≡ op = some_is b.0 op t.1 in
    (b.1 ∙ ap (λ o. Some o) same, subst (λ o. level_of o ≡ k) same (eqb-true (level_of b.0) k t.0))

pub operator_found : (k : ℕ) (w : Word) (op : BinaryOp) → operator_of w ≡ Some op → level_of op ≡ k
    → operator_at k w ≡ Some op
operator_found k w op is level = rw (is, eq-eqb (level_of op) k level) refl

other_level : (k : ℕ) (w : Word) (op : BinaryOp) → operator_of w ≡ Some op → level_of op ≢ k
    → operator_at k w ≡ None
other_level k w op is level = rw (is, ne_eqb (level_of op) k level) refl

pub no_operator : (k : ℕ) (ts : List Word) → Ends k ts → first (operator_at k) ts ≡ None
unfolding operator_of
no_operator k _ Ends.nothing = refl
no_operator k _ (Ends.closed ts) = refl
no_operator k _ (Ends.comma ts) = refl
no_operator k _ (Ends.operator w op ts is looser) =
    rw (other_level k w op is (λ e. omega arith)) refl
