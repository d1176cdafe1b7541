-- The reading of selectors: what is read is spelled, and what is spelled is read.
use Rattle.std.proofs.Common.{◌≡◌, inl, inr, ℕ, ℤ, pos, neg_ℤ, ◌<ℤ◌, int_lt, int_le, T, Bool, true, false, List, [], ◌∷◌, ◌++◌, Option, Some, None, refl, ap, sym, subst, ◌∙◌, append_assoc}
use Rattle.std.specs.Int.Signed.{lt_z_yes}
use Rattle.std.specs.List.{list_any}
use Rattle.op_base.specs.declared.matcher.Matcher.{Matcher}
use Rattle.op_base.specs.declared.span.Span.{Span}
use Rattle.ql_tree.specs.Selecting.{match_of, is_on_name, MatcherOf, Matchers, Head, RangeOf, OffsetOf, SelectorOf}
use Rattle.ql_tree.specs.Words.{span_of}
use Rattle.ql_tree.specs.declared.tree.Expr.{Expr}
use Rattle.ql_tree.specs.declared.tree.Expr.TheVariants as expr
use Rattle.ql_tree.specs.declared.word.Keyword.TheVariants as keyword
use Rattle.ql_tree.specs.declared.word.Word.{Word}
use Rattle.ql_tree.specs.declared.word.Word.TheVariants as word
use Rattle.ql_parse.specs.Found.{first}
use Rattle.ql_parse.specs.FrontWords.{beyond, beyond_keyword, label_of, unreserved_of, quoted_of, length_of}
use Rattle.ql_parse.specs.ReadSelectors.{matcher, braces, Headed, head_behind, head_at, head, range_at, range, offset_by, offset_at, offset, selector}
use Rattle.ql_parse.proofs.Readers.{found_is, bind_ok, test_ok, if_ok, first_ok, Spelled, Sound, joined}
use Rattle.ql_parse.proofs.FrontLemmas.{behind_symbol, behind_keyword, unreserved_is, quoted_is, length_is}
use Rattle.ql_parse.proofs.ForwardLemmas.{Forward, back_part}
use Rattle.ql_parse.proofs.ListLemmas.{Items, Between, enclosed_sound, enclosed_complete}
use Rattle.ql_parse.proofs.ClauseLemmas.{front_label}

-- ---- matchers

matcher_sound : Sound MatcherOf matcher
unfolding matcher
matcher_sound ts x is =
    let label = bind_ok (first label_of ts) _ x is in
    let l = front_label ts label.0 label.1 in
    let op = bind_ok (first match_of label.0.1) _ x label.2 in
    let o = first_ok match_of label.0.1 op.0 op.1 in
    let value = bind_ok (first quoted_of op.0.1) _ x op.2 in
    let v = first_ok quoted_of op.0.1 value.0 value.1 in
    found_is
    (Spelled MatcherOf ts)
    (record { name = label.0.0; op = op.0.0; value = value.0.0 }, value.0.1)
    x
    value.2 (
      word.Name l.0 label.0.0 ∷ o.0 ∷ word.Quoted value.0.0 ∷ [],
      l.1
          ∙ ap (λ us. word.Name l.0 label.0.0 ∷ us) o.1
          ∙ ap (λ us. word.Name l.0 label.0.0 ∷ o.0 ∷ us)
          (v.1 ∙ ap (λ w. w ∷ value.0.1) (quoted_is v.0 value.0.0 v.2)),
      MatcherOf.matcher l.0 label.0.0 value.0.0 o.0 op.0.0 l.2 o.2,
    )

matcher_complete : (m : Matcher) (us rest : List Word) → MatcherOf m us
    → matcher (us ++ rest) ≡ Some (m, rest)
unfolding matcher
matcher_complete _ _ rest (MatcherOf.matcher k label value w op label_named is) =
    rw (label_named, is) refl

matcher_begins : (m : Matcher) (us rest : List Word) → MatcherOf m us
    → beyond word.CloseBrace (us ++ rest) ≡ None
matcher_begins _ _ rest (MatcherOf.matcher k label value w op label_named is) = refl

items_matchers : (ms : List Matcher) (us : List Word) → Items MatcherOf ms us → Matchers ms us
items_matchers _ _ Items.none = Matchers.none
items_matchers _ _ (Items.last one ts spelled) = Matchers.last one ts spelled
items_matchers _ _ (Items.more one ms ts us spelled others) =
    Matchers.more one ms ts us spelled (items_matchers ms us others)

matchers_items : (ms : List Matcher) (us : List Word) → Matchers ms us → Items MatcherOf ms us
matchers_items _ _ Matchers.none = Items.none
matchers_items _ _ (Matchers.last one ts spelled) = Items.last one ts spelled
matchers_items _ _ (Matchers.more one ms ts us spelled others) =
    Items.more one ms ts us spelled (matchers_items ms us others)

braces_sound : (ts : List Word) (x : List Matcher × List Word) → braces ts ≡ Some x
    → Between word.OpenBrace word.CloseBrace Matchers ts x
unfolding braces
braces_sound ts x is =
    let inner = enclosed_sound MatcherOf word.OpenBrace word.CloseBrace matcher matcher_sound ts x is
    in
    (inner.0, inner.1, items_matchers x.0 inner.0 inner.2)

braces_complete : (ms : List Matcher) (ts rest : List Word) → Matchers ms ts
    → braces ((word.OpenBrace ∷ (ts ++ (word.CloseBrace ∷ []))) ++ rest) ≡ Some (ms, rest)
unfolding braces
braces_complete ms ts rest spelled =
    enclosed_complete MatcherOf word.OpenBrace word.CloseBrace matcher refl refl refl matcher_begins
    matcher_complete ms ts rest (matchers_items ms ts spelled)

-- ---- heads

abbrev HeadOf : Headed → List Word → Type 0
HeadOf h = Head h.0 h.1

head_behind_sound : (name : List ℕ) (us : List Word) (o : Option (List Word))
    (x : Headed × List Word)
    → head_behind name us o ≡ Some x → Spelled HeadOf (word.Name keyword.Unreserved name ∷ us) x
head_behind_sound name us None x is =
    found_is
    (Spelled HeadOf (word.Name keyword.Unreserved name ∷ us))
    ((Some name, []), us)
    x
    is
    (word.Name keyword.Unreserved name ∷ [], refl, Head.bare name)
head_behind_sound name us (Some vs) x is =
    let ms = bind_ok (braces us) _ x is in
    let b = braces_sound us ms.0 ms.1 in
    elim (if_ok (list_any is_on_name ms.0.0) _ _ x ms.2) [
      | inl clash ↦ cc clash.1
      | inr apart ↦
          found_is
          (Spelled HeadOf (word.Name keyword.Unreserved name ∷ us))
          ((Some name, ms.0.0), ms.0.1)
          x
          apart.1 (
            word.Name keyword.Unreserved name ∷ word.OpenBrace ∷ (b.0 ++ (word.CloseBrace ∷ [])),
            ap (λ vs. word.Name keyword.Unreserved name ∷ vs) b.1,
            Head.named name ms.0.0 b.0 apart.0 b.2,
          )
    ]

head_at_sound : (ts : List Word) (o : Option (List ℕ × List Word)) (x : Headed × List Word)
    → first unreserved_of ts ≡ o
    → head_at ts o ≡ Some x → Spelled HeadOf ts x
head_at_sound ts None x no_name is =
    let ms = bind_ok (braces ts) _ x is in
    let b = braces_sound ts ms.0 ms.1 in
    found_is (Spelled HeadOf ts) ((None, ms.0.0), ms.0.1) x ms.2
    (word.OpenBrace ∷ (b.0 ++ (word.CloseBrace ∷ [])), b.1, Head.nameless ms.0.0 b.0 b.2)
head_at_sound ts (Some v) x some is =
    let f = first_ok unreserved_of ts v some in
    let same : ts ≡ word.Name keyword.Unreserved v.0 ∷ v.1 =
    f.1 ∙ ap (λ w. w ∷ v.1) (unreserved_is f.0 v.0 f.2)
    in
    let h = head_behind_sound v.0 v.1 (beyond word.OpenBrace v.1) x is in
    (h.0, same ∙ h.1, h.2)

head_sound : Sound HeadOf head
unfolding head
head_sound ts x is = head_at_sound ts (first unreserved_of ts) x refl is

head_complete : (name : Option (List ℕ)) (ms : List Matcher) (us rest : List Word) → Head name ms us
    → beyond word.OpenBrace rest ≡ None → head (us ++ rest) ≡ Some ((name, ms), rest)
unfolding head
head_complete _ _ _ rest (Head.bare name) no_brace = rw no_brace refl
head_complete _ _ _ rest (Head.named name ms ts apart spelled) no_brace =
    rw (braces_complete ms ts rest spelled, apart) refl
head_complete _ _ _ rest (Head.nameless ms ts spelled) no_brace =
    rw (braces_complete ms ts rest spelled) refl

-- ---- ranges and offsets

int_lt_ok : (a b : ℤ) → int_lt a b ≡ true → a <ℤ b
int_lt_ok a b is = lt_z_yes (subst T (sym is) tt)

true_of : (b : Bool) → T b → b ≡ true
true_of true t = refl
true_of false t = absurd t

int_lt_true : (a b : ℤ) → a <ℤ b → int_lt a b ≡ true
int_lt_true a b less = true_of (int_lt a b) less.lt

-- the duration that stands in front
front_length : (ts : List Word) (x : Span × List Word) → first length_of ts ≡ Some x
    → ts ≡ word.Duration x.0 ∷ x.1
front_length ts x is =
    let f = first_ok length_of ts x is in
    f.1 ∙ ap (λ w. w ∷ x.1) (length_is f.0 x.0 f.2)

range_at_sound : (ts : List Word) (o : Option (List Word)) (x : Option Span × List Word)
    → beyond word.OpenSquare ts ≡ o
    → range_at ts o ≡ Some x → Spelled RangeOf ts x
range_at_sound ts None x no_range is =
    found_is (Spelled RangeOf ts) (None, ts) x is ([], refl, RangeOf.none)
range_at_sound ts (Some us) x some is =
    let span = bind_ok (first length_of us) _ x is in
    let close = bind_ok (beyond word.CloseSquare span.0.1) _ x span.2 in
    let above = test_ok (int_lt (pos 0) span.0.0.0) _ x close.2 in
    found_is
    (Spelled RangeOf ts)
    (Some span.0.0, close.0)
    x
    above.1 (
      word.OpenSquare ∷ word.Duration span.0.0 ∷ word.CloseSquare ∷ [],
      behind_symbol word.OpenSquare ts us some
          ∙ ap (λ vs. word.OpenSquare ∷ vs) (front_length us span.0 span.1)
          ∙ ap (λ vs. word.OpenSquare ∷ word.Duration span.0.0 ∷ vs)
          (behind_symbol word.CloseSquare span.0.1 close.0 close.1),
      RangeOf.given span.0.0.0 (int_lt_ok (pos 0) span.0.0.0 above.0),
    )

range_sound : Sound RangeOf range
unfolding range
range_sound ts x is = range_at_sound ts (beyond word.OpenSquare ts) x refl is

range_complete : (r : Option Span) (us rest : List Word) → RangeOf r us
    → beyond word.OpenSquare rest ≡ None
    → range (us ++ rest) ≡ Some (r, rest)
unfolding range
range_complete _ _ rest RangeOf.none no_square = rw no_square refl
range_complete _ _ rest (RangeOf.given milliseconds above) no_square =
    rw (int_lt_true (pos 0) milliseconds above) refl

offset_by_sound : (text : List ℕ) (ts : List Word) (o : Option (List Word))
    (x : Option Span × List Word) → beyond word.Minus ts ≡ o
    → offset_by ts o ≡ Some x → Spelled OffsetOf (word.Name keyword.Offset text ∷ ts) x
offset_by_sound text ts None x no_minus is =
    let span = bind_ok (first length_of ts) _ x is in
    found_is
    (Spelled OffsetOf (word.Name keyword.Offset text ∷ ts))
    (Some span.0.0, span.0.1)
    x
    span.2 (
      word.Name keyword.Offset text ∷ word.Duration span.0.0 ∷ [],
      ap (λ us. word.Name keyword.Offset text ∷ us) (front_length ts span.0 span.1),
      OffsetOf.back text span.0.0.0,
    )
offset_by_sound text ts (Some us) x some is =
    let span = bind_ok (first length_of us) _ x is in
    let forward = test_ok (int_le (pos 0) span.0.0.0) _ x span.2 in
    found_is
    (Spelled OffsetOf (word.Name keyword.Offset text ∷ ts))
    (Some (span_of (neg_ℤ span.0.0.0)), span.0.1)
    x
    forward.1 (
      word.Name keyword.Offset text ∷ word.Minus ∷ word.Duration span.0.0 ∷ [],
      ap (λ us. word.Name keyword.Offset text ∷ us) (behind_symbol word.Minus ts us some)
          ∙ ap (λ us. word.Name keyword.Offset text ∷ word.Minus ∷ us)
          (front_length us span.0 span.1),
      OffsetOf.ahead text span.0.0.0,
    )

offset_at_sound : (ts : List Word) (o : Option (List Word)) (x : Option Span × List Word)
    → beyond_keyword keyword.Offset ts ≡ o
    → offset_at ts o ≡ Some x → Spelled OffsetOf ts x
offset_at_sound ts None x no_offset is =
    found_is (Spelled OffsetOf ts) (None, ts) x is ([], refl, OffsetOf.none)
offset_at_sound ts (Some us) x some is =
    let b = behind_keyword keyword.Offset ts us some in
    let o = offset_by_sound b.0 us (beyond word.Minus us) x refl is in
    (o.0, b.1 ∙ o.1, o.2)

offset_sound : Sound OffsetOf offset
unfolding offset
offset_sound ts x is = offset_at_sound ts (beyond_keyword keyword.Offset ts) x refl is

offset_complete : (o : Option Span) (us rest : List Word) → OffsetOf o us → Forward us
    → beyond_keyword keyword.Offset rest ≡ None
    → offset (us ++ rest) ≡ Some (o, rest)
unfolding offset
offset_complete _ _ rest OffsetOf.none forward no_offset = rw no_offset refl
offset_complete _ _ rest (OffsetOf.back text milliseconds) forward no_offset = refl
offset_complete _ _ rest (OffsetOf.ahead text milliseconds) forward no_offset =
    rw forward.1.1.0 refl

-- ---- selectors

-- what is true of the words behind a head's range and offset, and of all that these begin with, is
-- true with them before
module _ (P : List Word → Type 0)
    (name : (text : List ℕ) (ts : List Word) → P (word.Name keyword.Offset text ∷ ts)) where
  before_offset : (o : Option Span) (us rest : List Word) → OffsetOf o us → P rest → P (us ++ rest)
  before_offset _ _ rest OffsetOf.none holds = holds
  before_offset _ _ rest (OffsetOf.back text milliseconds) holds = name text _
  before_offset _ _ rest (OffsetOf.ahead text milliseconds) holds = name text _

  pub before_range : ((ts : List Word) → P (word.OpenSquare ∷ ts))
      → (r o : Option Span) (us vs rest : List Word) → RangeOf r us → OffsetOf o vs → P rest
      → P (us ++ (vs ++ rest))
  before_range square _ o _ vs rest RangeOf.none spelled holds = before_offset o vs rest spelled holds
  before_range square _ o _ vs rest (RangeOf.given milliseconds above) spelled holds = square _

pub selector_sound : Sound SelectorOf selector
unfolding selector
selector_sound ts x is =
    let h = bind_ok (head ts) _ x is in
    let r = bind_ok (range h.0.1) _ x h.2 in
    let o = bind_ok (offset r.0.1) _ x r.2 in
    let spelled_h = head_sound ts h.0 h.1 in
    let spelled_r = range_sound h.0.1 r.0 r.1 in
    let spelled_o = offset_sound r.0.1 o.0 o.1 in
    let behind_head : h.0.1 ≡ (spelled_r.0 ++ spelled_o.0) ++ o.0.1 =
    joined spelled_r.0 spelled_o.0 h.0.1 r.0.1 o.0.1 spelled_r.1 spelled_o.1
    in
    found_is
    (Spelled SelectorOf ts)
    (expr.Select h.0.0.0 h.0.0.1 r.0.0 o.0.0, o.0.1)
    x
    o.2 (
      spelled_h.0 ++ (spelled_r.0 ++ spelled_o.0),
      joined spelled_h.0 (spelled_r.0 ++ spelled_o.0) ts h.0.1 o.0.1 spelled_h.1 behind_head,
      SelectorOf.selector h.0.0.0 h.0.0.1 r.0.0 o.0.0 spelled_h.0 spelled_r.0 spelled_o.0
          spelled_h.2 spelled_r.2 spelled_o.2,
    )

pub selector_complete : (e : Expr) (us rest : List Word) → SelectorOf e us → Forward us
    → beyond word.OpenBrace rest ≡ None
    → beyond word.OpenSquare rest ≡ None → beyond_keyword keyword.Offset rest ≡ None
    → selector (us ++ rest) ≡ Some (e, rest)
unfolding selector
selector_complete _ _ rest (SelectorOf.selector name ms r o ts us vs head_is range_is offset_is)
    forward no_brace no_square no_offset =
    let parts : (ts ++ (us ++ vs)) ++ rest ≡ ts ++ (us ++ (vs ++ rest)) =
    append_assoc ts (us ++ vs) rest ∙ ap (λ ws. ts ++ ws) (append_assoc us vs rest)
    in
    let found_h : head (ts ++ (us ++ (vs ++ rest))) ≡ Some ((name, ms), us ++ (vs ++ rest)) =
    head_complete name ms ts (us ++ (vs ++ rest)) head_is
    (before_range (λ ts. beyond word.OpenBrace ts ≡ None) (λ text ts. refl) (λ ts. refl) r o us vs
    rest range_is offset_is no_brace)
    in
    let found_r : range (us ++ (vs ++ rest)) ≡ Some (r, vs ++ rest) =
    range_complete r us (vs ++ rest) range_is
    (before_offset (λ ts. beyond word.OpenSquare ts ≡ None) (λ text ts. refl) o vs rest offset_is
    no_square)
    in
    let found_o : offset (vs ++ rest) ≡ Some (o, rest) =
    offset_complete o vs rest offset_is (back_part us vs (back_part ts (us ++ vs) forward))
    no_offset
    in
    rw (parts, found_h, found_r, found_o) refl
