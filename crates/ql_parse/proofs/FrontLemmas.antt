-- Which word it is that a front test has found.
use Rattle.std.proofs.Common.{◌≡◌, ℕ, true, List, ◌∷◌, Some, refl, ap, subst, ◌∙◌}
use Rattle.op_base.specs.Names.{is_label_name}
use Rattle.op_base.specs.declared.span.Span.{Span}
use Rattle.ql_tree.specs.declared.word.Keyword.{Keyword}
use Rattle.ql_tree.specs.declared.word.Keyword.TheVariants as keyword
use Rattle.ql_tree.specs.declared.word.Word.{Word}
use Rattle.ql_tree.specs.declared.word.Word.TheVariants as word
use Rattle.ql_parse.specs.FrontWords.{beyond, is_symbol, same_keyword, beyond_keyword, is_keyword, label_of, unreserved_of, quoted_of, length_of}
use Rattle.ql_parse.proofs.Readers.{some_is, test_ok, behind_ok}

symbol_is : (v w : Word) → is_symbol v w ≡ true → w ≡ v
symbol_is word.Open word.Open is = refl
symbol_is word.Close word.Close is = refl
symbol_is word.Comma word.Comma is = refl
symbol_is word.OpenBrace word.OpenBrace is = refl
symbol_is word.CloseBrace word.CloseBrace is = refl
symbol_is word.OpenSquare word.OpenSquare is = refl
symbol_is word.CloseSquare word.CloseSquare is = refl
symbol_is word.Minus word.Minus is = refl
symbol_is v w is = cc is

-- the symbol stands in front
pub behind_symbol : (v : Word) (ts rest : List Word) → beyond v ts ≡ Some rest
    → ts ≡ v ∷ rest
behind_symbol v ts rest is =
    let b = behind_ok (is_symbol v) ts rest is in
    b.1 ∙ ap (λ w. w ∷ rest) (symbol_is v b.0 b.2)

same_is : (k own : Keyword) → same_keyword k own ≡ true → own ≡ k
same_is keyword.Offset keyword.Offset is = refl
same_is keyword.Bool keyword.Bool is = refl
same_is k own is = cc is

keyword_is : (k : Keyword) (w : Word) → is_keyword k w ≡ true
    → (text : List ℕ) × (w ≡ word.Name k text)
keyword_is k (word.Name own text) is = (text, ap (λ k. word.Name k text) (same_is k own is))
keyword_is k w is = cc is

-- the keyword stands in front
pub behind_keyword : (k : Keyword) (ts rest : List Word) → beyond_keyword k ts ≡ Some rest
    → (text : List ℕ) × (ts ≡ word.Name k text ∷ rest)
behind_keyword k ts rest is =
    let b = behind_ok (is_keyword k) ts rest is in
    let o = keyword_is k b.0 b.2 in
    (o.0, b.1 ∙ ap (λ w. w ∷ rest) o.1)

pub label_is : (w : Word) (label : List ℕ) → label_of w ≡ Some label
    → (k : Keyword) × (w ≡ word.Name k label) × (is_label_name label ≡ true)
label_is (word.Name k text) label is =
    let t = test_ok (is_label_name text) (Some text) label is in
    let same = some_is text label t.1 in
    (k, ap (λ l. word.Name k l) same, subst (λ l. is_label_name l ≡ true) same t.0)
label_is w label is = cc is

keyword_unreserved : (k : Keyword) (text name : List ℕ) → unreserved_of (word.Name k text) ≡ Some name
    → word.Name k text ≡ word.Name keyword.Unreserved name
keyword_unreserved keyword.Unreserved text name is =
    ap (λ t. word.Name keyword.Unreserved t) (some_is text name is)
keyword_unreserved k text name is = cc is

pub unreserved_is : (w : Word) (name : List ℕ) → unreserved_of w ≡ Some name
    → w ≡ word.Name keyword.Unreserved name
unreserved_is (word.Name k text) name is = keyword_unreserved k text name is
unreserved_is w name is = cc is

pub quoted_is : (w : Word) (text : List ℕ) → quoted_of w ≡ Some text → w ≡ word.Quoted text
quoted_is (word.Quoted own) text is = ap (λ t. word.Quoted t) (some_is own text is)
quoted_is w text is = cc is

pub length_is : (w : Word) (span : Span) → length_of w ≡ Some span → w ≡ word.Duration span
length_is (word.Duration own) span is = ap (λ s. word.Duration s) (some_is own span is)
length_is w span is = cc is
