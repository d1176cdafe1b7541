-- Every tree that words spell has a property that each kind of node has from its parts.
--
-- A text's words are more than the grammar says of them: a number fits, a name is no reserved word where it stands alone.
-- So a property is shown over words of which each has a property `W` of its own.
use Rattle.std.proofs.Common.{◌≡◌, ℕ, zero, suc, ℤ, pos, neg_ℤ, ◌<ℤ◌, Bool, true, false, ◌⊎◌, inl, inr, List, [], ◌∷◌, ◌++◌, Option, Some, None, refl}
use Rattle.std.specs.List.{AllByRecursion as Each, list_any}
use Rattle.op_base.specs.Names.{is_label_name}
use Rattle.op_base.specs.declared.matcher.Matcher.{Matcher}
use Rattle.op_base.specs.declared.span.Span.{Span}
use Rattle.ql_tree.specs.Clauses.{Labels, SideOf, MatchingOf, GroupingOf}
use Rattle.ql_tree.specs.Operators.{is_comparison}
use Rattle.ql_tree.specs.Selecting.{MatcherOf, Matchers, is_on_name, Head, RangeOf, OffsetOf, SelectorOf}
use Rattle.ql_tree.specs.Spells.{Spelling, begins_open, BoolOf, Chain, Signed, Arguments, Operands, Atom, levels, Within}
use Rattle.ql_tree.specs.Words.{span_of}
use Rattle.ql_tree.specs.declared.tree.AggregateOp.{AggregateOp}
use Rattle.ql_tree.specs.declared.tree.BinaryOp.{BinaryOp}
use Rattle.ql_tree.specs.declared.tree.Expr.{Expr}
use Rattle.ql_tree.specs.declared.tree.Expr.TheVariants as expr
use Rattle.ql_tree.specs.declared.tree.Grouping.{Grouping}
use Rattle.ql_tree.specs.declared.tree.Matching.{Matching}
use Rattle.ql_tree.specs.declared.tree.Side.{Side}
use Rattle.ql_tree.specs.declared.word.Keyword.TheVariants as keyword
use Rattle.ql_tree.specs.declared.word.Word.{Word}
use Rattle.ql_tree.specs.declared.word.Word.TheVariants as word

-- label names
abbrev pub AreLabels : List (List ℕ) → Type 0
AreLabels labels = Each (λ label. is_label_name label ≡ true) labels

abbrev pub IsSide : Option Side → Type 0
IsSide None = Unit
IsSide (Some side) = AreLabels side.include

abbrev pub IsMatching : Option Matching → Type 0
IsMatching None = Unit
IsMatching (Some m) = AreLabels m.labels × IsSide m.side

abbrev pub IsGrouping : Option Grouping → Type 0
IsGrouping None = Unit
IsGrouping (Some g) = AreLabels g.labels

abbrev pub IsMatcher : Matcher → Type 0
IsMatcher m = is_label_name m.name ≡ true

module _ (W : Word → Type 0) where
  -- a name that isn't reserved, and no matcher on `__name__` beside it
  abbrev pub IsNamed : Option (List ℕ) → List Matcher → Type 0
  IsNamed None ms = Unit
  IsNamed (Some name) ms = W (word.Name keyword.Unreserved name) × (list_any is_on_name ms ≡ false)

  abbrev pub IsRange : Option Span → Type 0
  IsRange None = Unit
  IsRange (Some range) = (pos 0 <ℤ range.0) × W (word.Duration range)

  -- a duration, or one with a minus
  abbrev pub IsOffset : Option Span → Type 0
  IsOffset None = Unit
  IsOffset (Some offset) = W (word.Duration offset)
      ⊎ ((milliseconds : ℤ)
      × ((offset ≡ span_of (neg_ℤ milliseconds)) × W (word.Duration (span_of milliseconds))))

  -- each kind of node has the property where its parts have it
  pub record Inherited (P : Expr → Type 0) : Type 0 where
    pub number : (z : ℤ) → W (word.Number z) → P (expr.Number z)
    pub string : (text : List ℕ) → W (word.Quoted text) → P (expr.Str text)
    pub selector : (name : Option (List ℕ)) (ms : List Matcher) (range offset : Option Span)
        → IsNamed name ms
        → Each IsMatcher ms → Each (λ (m : Matcher). W (word.Quoted m.value)) ms → IsRange range
        → IsOffset offset
        → P (expr.Select name ms range offset)
    pub sign : (minus : Bool) (e : Expr) → P e → P (expr.Unary minus (e ∷ []))
    pub operator : (op : BinaryOp) (boolean : Bool) (m : Option Matching) (l r : Expr)
        → (boolean ≡ true → is_comparison op ≡ true) → IsMatching m → P l → P r
        → P (expr.Binary op boolean m (l ∷ []) (r ∷ []))
    pub call : (function : List ℕ) (args : List Expr) → W (word.Name keyword.Unreserved function)
        → Each P args
        → P (expr.Call function args)
    pub aggregate : (op : AggregateOp) (g : Option Grouping) (e : Expr) → IsGrouping g → P e
        → P (expr.Aggregate op g [] (e ∷ []))
    pub aggregate_param : (op : AggregateOp) (g : Option Grouping) (p e : Expr) → IsGrouping g
        → P p → P e
        → P (expr.Aggregate op g (p ∷ []) (e ∷ []))

-- the words of both parts
pub front_has : (W : Word → Type 0) (ts us : List Word) → Each W (ts ++ us) → Each W ts
front_has W [] us all = tt
front_has W (t ∷ ts) us all = (all.0, front_has W ts us all.1)

pub rest_has : (W : Word → Type 0) (ts us : List Word) → Each W (ts ++ us) → Each W us
rest_has W [] us all = all
rest_has W (t ∷ ts) us all = rest_has W ts us all.1

labels_are : (labels : List (List ℕ)) (ts : List Word) → Labels labels ts → AreLabels labels
labels_are _ _ Labels.none = tt
labels_are _ _ (Labels.last k label is) = (is, tt)
labels_are _ _ (Labels.more k label labels ts is rest) = (is, labels_are labels ts rest)

side_is : (n : ℕ) (opens : Bool) (side : Option Side) (ts : List Word) → SideOf n opens side ts
    → IsSide side
side_is n opens _ _ SideOf.none = tt
side_is n opens _ _ (SideOf.bare w left is closed) = tt
side_is n opens _ _ (SideOf.listed w left labels ts is some rest) = labels_are labels ts rest

matching_is : (n : ℕ) (opens : Bool) (m : Option Matching) (ts : List Word) → MatchingOf n opens m ts
    → IsMatching m
matching_is n opens _ _ MatchingOf.none = tt
matching_is n opens _ _ (MatchingOf.given w on labels side ts us is some listed rest) =
    (labels_are labels ts listed, side_is n opens side us rest)

grouping_is : (n : ℕ) (g : Grouping) (ts : List Word) → GroupingOf n g ts → IsGrouping (Some g)
grouping_is n _ _ (GroupingOf.given w by labels ts is some listed) = labels_are labels ts listed

bool_is : (comparison boolean : Bool) (ts : List Word) → BoolOf comparison boolean ts
    → boolean ≡ true → comparison ≡ true
bool_is comparison _ _ BoolOf.none is = cc
bool_is comparison _ _ (BoolOf.given text may) is = may

matcher_is : (m : Matcher) (ts : List Word) → MatcherOf m ts → IsMatcher m
matcher_is _ _ (MatcherOf.matcher k label value w op is is_op) = is

matchers_are : (ms : List Matcher) (ts : List Word) → Matchers ms ts → Each IsMatcher ms
matchers_are _ _ Matchers.none = tt
matchers_are _ _ (Matchers.last m ts is) = (matcher_is m ts is, tt)
matchers_are _ _ (Matchers.more m ms ts us is rest) = (matcher_is m ts is, matchers_are ms us rest)

module _ (W : Word → Type 0) where
  value_has : (m : Matcher) (ts : List Word) → MatcherOf m ts → Each W ts → W (word.Quoted m.value)
  value_has _ _ (MatcherOf.matcher k label value w op is is_op) all = all.1.1.0

  values_have : (ms : List Matcher) (ts : List Word) → Matchers ms ts → Each W ts
      → Each (λ (m : Matcher). W (word.Quoted m.value)) ms
  values_have _ _ Matchers.none all = tt
  values_have _ _ (Matchers.last m ts is) all = (value_has m ts is all, tt)
  values_have _ _ (Matchers.more m ms ts us is rest) all = (
    value_has m ts is (front_has W ts (word.Comma ∷ us) all),
    values_have ms us rest (rest_has W ts (word.Comma ∷ us) all).1,
  )

  named_is : (name : Option (List ℕ)) (ms : List Matcher) (ts : List Word) → Head name ms ts
      → Each W ts → IsNamed W name ms
  named_is _ _ _ (Head.bare name) all = (all.0, refl)
  named_is _ _ _ (Head.named name ms ts none is) all = (all.0, none)
  named_is _ _ _ (Head.nameless ms ts is) all = tt

  head_matchers : (name : Option (List ℕ)) (ms : List Matcher) (ts : List Word) → Head name ms ts
      → Each IsMatcher ms
  head_matchers _ _ _ (Head.bare name) = tt
  head_matchers _ _ _ (Head.named name ms ts none is) = matchers_are ms ts is
  head_matchers _ _ _ (Head.nameless ms ts is) = matchers_are ms ts is

  head_values : (name : Option (List ℕ)) (ms : List Matcher) (ts : List Word) → Head name ms ts
      → Each W ts
      → Each (λ (m : Matcher). W (word.Quoted m.value)) ms
  head_values _ _ _ (Head.bare name) all = tt
  head_values _ _ _ (Head.named name ms ts none is) all =
      values_have ms ts is (front_has W ts (word.CloseBrace ∷ []) all.1.1)
  head_values _ _ _ (Head.nameless ms ts is) all =
      values_have ms ts is (front_has W ts (word.CloseBrace ∷ []) all.1)

  range_is : (range : Option Span) (ts : List Word) → RangeOf range ts → Each W ts → IsRange W range
  range_is _ _ RangeOf.none all = tt
  range_is _ _ (RangeOf.given milliseconds some) all = (some, all.1.0)

  offset_is : (offset : Option Span) (ts : List Word) → OffsetOf offset ts → Each W ts
      → IsOffset W offset
  offset_is _ _ OffsetOf.none all = tt
  offset_is _ _ (OffsetOf.back text milliseconds) all = inl all.1.0
  offset_is _ _ (OffsetOf.ahead text milliseconds) all = inr (milliseconds, (refl, all.1.1.0))

module _ (W : Word → Type 0) (P : Expr → Type 0) (inherited : Inherited W P) where
  -- what is spelled by words with their property has the tree's
  abbrev Gives : Spelling → Type 0
  Gives Spelled = (e : Expr) (ts : List Word) → Spelled e ts → Each W ts → P e

  selector_has : Gives SelectorOf
  selector_has _ _ (SelectorOf.selector name ms range offset ts us vs head in_range in_offset) all =
      let behind : Each W (us ++ vs) = rest_has W ts (us ++ vs) all in
      let front : Each W ts = front_has W ts (us ++ vs) all in
      inherited.selector name ms range offset (named_is W name ms ts head front)
      (head_matchers W name ms ts head)
      (head_values W name ms ts head front) (range_is W range us in_range (front_has W us vs behind))
      (offset_is W offset vs in_offset (rest_has W us vs behind))

  chain_has : (n k : ℕ) (Operand : Spelling) → Gives Operand → Gives (Chain n k Operand)
  chain_has n k Operand gives _ _ (Chain.one e ts is) all = gives e ts is all
  chain_has n k Operand gives _ _
      (Chain.more w op boolean m l r ts bs ms us is_op is_level left in_bool in_matching right) all =
      let behind : Each W (w ∷ (bs ++ (ms ++ us))) = rest_has W ts (w ∷ (bs ++ (ms ++ us))) all in
      let last : Each W us = rest_has W ms us (rest_has W bs (ms ++ us) behind.1) in
      inherited.operator op boolean m l r (bool_is (is_comparison op) boolean bs in_bool)
      (matching_is n (begins_open us) m ms in_matching)
      (chain_has n k Operand gives l ts left (front_has W ts (w ∷ (bs ++ (ms ++ us))) all))
      (gives r us right last)

  signed_has : (OfAtom : Spelling) → Gives OfAtom → Gives (Signed OfAtom)
  signed_has OfAtom gives _ _ (Signed.atom e ts is) all = gives e ts is all
  signed_has OfAtom gives _ _ (Signed.sign w minus e ts is_sign rest) all =
      inherited.sign minus e (signed_has OfAtom gives e ts rest all.1)

  levels_has : (n k : ℕ) (OfAtom : Spelling) → Gives OfAtom → Gives (levels n k OfAtom)
  levels_has n zero OfAtom gives = signed_has OfAtom gives
  levels_has n (suc k) OfAtom gives =
      chain_has n (suc k) (levels n k OfAtom) (levels_has n k OfAtom gives)

  arguments_have : (Inside : Spelling) → Gives Inside → (es : List Expr) (ts : List Word)
      → Arguments Inside es ts → Each W ts → Each P es
  arguments_have Inside gives _ _ (Arguments.last e ts is) all = (gives e ts is all, tt)
  arguments_have Inside gives _ _ (Arguments.more e es ts us is rest) all = (
    gives e ts is (front_has W ts (word.Comma ∷ us) all),
    arguments_have Inside gives es us rest (rest_has W ts (word.Comma ∷ us) all).1,
  )

  aggregate_has : (Inside : Spelling) → Gives Inside → (op : AggregateOp) (g : Option Grouping)
      → IsGrouping g
      → (param : List Expr) (e : Expr) (ts : List Word) → Operands Inside param e ts → Each W ts
      → P (expr.Aggregate op g param (e ∷ []))
  aggregate_has Inside gives op g is _ _ _ (Operands.alone e ts one) all =
      inherited.aggregate op g e is (gives e ts one all)
  aggregate_has Inside gives op g is _ _ _ (Operands.param p e ts us first second) all =
      inherited.aggregate_param op g p e is (gives p ts first (front_has W ts (word.Comma ∷ us) all))
      (gives e us second (rest_has W ts (word.Comma ∷ us) all).1)

  atom_has : (n : ℕ) (Inside : Spelling) → Gives Inside → Gives (Atom n Inside)
  atom_has n Inside gives _ _ (Atom.number z) all = inherited.number z all.0
  atom_has n Inside gives _ _ (Atom.string text) all = inherited.string text all.0
  atom_has n Inside gives _ _ (Atom.selector e ts is) all = selector_has e ts is all
  atom_has n Inside gives _ _ (Atom.bracketed e ts is) all =
      gives e ts is (front_has W ts (word.Close ∷ []) all.1)
  atom_has n Inside gives _ _ (Atom.empty_call function some) all =
      inherited.call function [] all.0 tt
  atom_has n Inside gives _ _ (Atom.call function args ts are) all =
      inherited.call function args all.0
      (arguments_have Inside gives args ts are (front_has W ts (word.Close ∷ []) all.1.1))
  atom_has n Inside gives _ _ (Atom.aggregate w op param e ts is_op are) all =
      aggregate_has Inside gives op None tt param e ts are (front_has W ts (word.Close ∷ []) all.1.1)
  atom_has n Inside gives _ _ (Atom.grouped_before w op g param e gs ts is_op grouped are) all =
      aggregate_has Inside gives op (Some g) (grouping_is n g gs grouped) param e ts are
      (front_has W ts (word.Close ∷ [])
      (rest_has W gs (word.Open ∷ (ts ++ (word.Close ∷ []))) all.1).1)
  atom_has n Inside gives _ _ (Atom.grouped_behind w op g param e ts gs is_op are grouped) all =
      aggregate_has Inside gives op (Some g) (grouping_is n g gs grouped) param e ts are
      (front_has W ts (word.Close ∷ gs) all.1.1)

  -- every tree that such words spell has the property
  pub spelled_has : (n : ℕ) → Gives (Within n)
  unfolding Within
  spelled_has zero e ts is all = absurd is
  spelled_has (suc n) e ts is all =
      levels_has n 5 (Atom n (Within n)) (atom_has n (Within n) (spelled_has n)) e ts is all
