-- The first conflict of a tree is that of its first child which has one.
use Rattle.std.proofs.Common.{◌≡◌, ℕ, ◌+◌, ◌<◌, Bool, true, List, [], ◌∷◌, ◌++◌, Option, Some, None, map, length, take, drop, get_or, refl, ap, sym, ◌∙◌}
use Rattle.std.specs.List.{filter, flat_map}
use Rattle.std.proofs.lemmas.List.{take_more, take-append-drop, append-nil}
use Rattle.std.proofs.lemmas.List.Elements.{filter-append, filter_more}
use Rattle.std.proofs.lemmas.Grind.{flat_map-append}
use Rattle.op_base.specs.declared.matcher.Matcher.{Matcher}
use Rattle.ql_tree.specs.Enforced.{conflicts, first_of, first_conflict, matchers_of, matchers_step}
use Rattle.ql_tree.specs.declared.tree.Expr.{Expr}
use Rattle.ql_tree.specs.declared.tree.Expr.TheOpen.{Expr-F}
use Rattle.ql_tree.specs.declared.tree.Expr.TheViews.{out-Expr}
use Rattle.ql_tree.specs.declared.tree.Expr.TheFolds.{map-Expr, fold_out-Expr}
use Rattle.ql_tree.specs.declared.tree.Expr.TheVariants as expr
use Rattle.ql_tree.specs.declared.tree.AggregateOp.{AggregateOp}
use Rattle.ql_tree.specs.declared.tree.BinaryOp.{BinaryOp}
use Rattle.ql_tree.specs.declared.tree.Grouping.{Grouping}
use Rattle.ql_tree.specs.declared.tree.Matching.{Matching}
use Rattle.ql_tree.proofs.NodeLemmas.{out-Unary, out-Binary, out-Call, out-Aggregate}

abbrev pub conflicts_below : List ℕ → List ℕ → List Expr → List Matcher
conflicts_below name value es = filter (conflicts name value) (flat_map matchers_of es)

flat_map-map : (es : List Expr) → flat_map (λ ms. ms) (map matchers_of es) ≡ flat_map matchers_of es
flat_map-map [] = refl
flat_map-map (e ∷ es) = ap (λ ms. matchers_of e ++ ms) (flat_map-map es)

conflicts_below-append : (name value : List ℕ) (es fs : List Expr)
    → conflicts_below name value (es ++ fs) ≡ conflicts_below name value es ++ conflicts_below name value fs
conflicts_below-append name value es fs =
    ap (filter (conflicts name value)) (flat_map-append matchers_of es fs)
    ∙ filter-append (conflicts name value) (flat_map matchers_of es) (flat_map matchers_of fs)

first_of-some : (ms ns : List Matcher) (m : Matcher) → Some m ≡ first_of ms → Some m ≡ first_of (ms ++ ns)
first_of-some [] ns m is = cc
first_of-some (k ∷ ms) ns m is = is

first_of-none : (ms ns : List Matcher) → None ≡ first_of ms → first_of (ms ++ ns) ≡ first_of ns
first_of-none [] ns is = refl
first_of-none (k ∷ ms) ns is = cc

whole : (name value : List ℕ) (e : Expr) (node : Expr-F Expr) → out-Expr e ≡ node
    → first_conflict name value e ≡ first_of (filter (conflicts name value) (matchers_step (map-Expr Expr (List Matcher) matchers_of node)))
whole name value e node is =
    ap (λ ms. first_of (filter (conflicts name value) ms)) (fold_out-Expr (List Matcher) matchers_step e
    ∙ ap (λ n. matchers_step (map-Expr Expr (List Matcher) matchers_of n)) is)

pub at_sign : (name value : List ℕ) (minus : Bool) (of : List Expr)
    → first_conflict name value (expr.Unary minus of) ≡ first_of (conflicts_below name value of)
at_sign name value minus of =
    whole name value (expr.Unary minus of) (Expr-F.Unary minus of) (out-Unary minus of)
    ∙ ap (λ ms. first_of (filter (conflicts name value) ms)) (flat_map-map of)

pub at_call : (name value function : List ℕ) (args : List Expr)
    → first_conflict name value (expr.Call function args) ≡ first_of (conflicts_below name value args)
at_call name value function args =
    whole name value (expr.Call function args) (Expr-F.Call function args) (out-Call function args)
    ∙ ap (λ ms. first_of (filter (conflicts name value) ms)) (flat_map-map args)

two_sides : (name value : List ℕ) (ls rs : List Expr)
    → first_of (filter (conflicts name value) (flat_map (λ ms. ms) (map matchers_of ls ++ map matchers_of rs)))
    ≡ first_of (conflicts_below name value ls ++ conflicts_below name value rs)
two_sides name value ls rs =
    ap (λ ms. first_of (filter (conflicts name value) ms))
    (flat_map-append (λ ms. ms) (map matchers_of ls) (map matchers_of rs)
    ∙ ap (λ ms. ms ++ flat_map (λ ns. ns) (map matchers_of rs)) (flat_map-map ls)
    ∙ ap (λ ms. flat_map matchers_of ls ++ ms) (flat_map-map rs))
    ∙ ap first_of (filter-append (conflicts name value) (flat_map matchers_of ls) (flat_map matchers_of rs))

pub at_operator : (name value : List ℕ) (op : BinaryOp) (boolean : Bool) (m : Option Matching) (left right : List Expr)
    → first_conflict name value (expr.Binary op boolean m left right)
    ≡ first_of (conflicts_below name value left ++ conflicts_below name value right)
at_operator name value op boolean m left right =
    whole name value (expr.Binary op boolean m left right) (Expr-F.Binary op boolean m left right) (out-Binary op boolean m left right)
    ∙ two_sides name value left right

pub at_aggregate : (name value : List ℕ) (op : AggregateOp) (grouping : Option Grouping) (param of : List Expr)
    → first_conflict name value (expr.Aggregate op grouping param of)
    ≡ first_of (conflicts_below name value param ++ conflicts_below name value of)
at_aggregate name value op grouping param of =
    whole name value (expr.Aggregate op grouping param of) (Expr-F.Aggregate op grouping param of) (out-Aggregate op grouping param of)
    ∙ two_sides name value param of

pub on_left : (ms ns : List Matcher) (m : Matcher) (found : Option Matcher) → Some m ≡ first_of ms → found ≡ first_of (ms ++ ns) → Some m ≡ found
on_left ms ns m found is all = first_of-some ms ns m is ∙ sym all

pub on_right : (ms ns : List Matcher) (found all : Option Matcher) → None ≡ first_of ms → found ≡ first_of ns → all ≡ first_of (ms ++ ns) → found ≡ all
on_right ms ns found all is here whole_is = here ∙ sym (first_of-none ms ns is) ∙ sym whole_is

-- an item that conflicts, behind items that don't, is the first
pub first_item : (name value : List ℕ) (ms : List Matcher) (i : ℕ) (m : Matcher) → i < length ms → m ≡ get_or ms i m
    → filter (conflicts name value) (take i ms) ≡ [] → conflicts name value m ≡ true
    → Some m ≡ first_of (filter (conflicts name value) ms)
first_item name value ms i m inside is none found =
    let up_to : filter (conflicts name value) (take (i + 1) ms) ≡ m ∷ [] =
    filter_more (conflicts name value) ms i m inside ∙ rw (sym is) (rw none (rw found refl)) in
    let all : filter (conflicts name value) ms ≡ (m ∷ []) ++ filter (conflicts name value) (drop (i + 1) ms) =
    ap (filter (conflicts name value)) (sym (take-append-drop (i + 1) ms))
    ∙ filter-append (conflicts name value) (take (i + 1) ms) (drop (i + 1) ms)
    ∙ ap (λ ks. ks ++ filter (conflicts name value) (drop (i + 1) ms)) up_to in
    sym (ap first_of all)

pub first_child : (name value : List ℕ) (es : List Expr) (i : ℕ) (e : Expr) (m : Matcher) → i < length es → e ≡ get_or es i e
    → conflicts_below name value (take i es) ≡ [] → Some m ≡ first_conflict name value e
    → Some m ≡ first_of (conflicts_below name value es)
first_child name value es i e m inside is none found =
    let all : conflicts_below name value es
    ≡ (conflicts_below name value (take i es) ++ conflicts_below name value (e ∷ [])) ++ conflicts_below name value (drop (i + 1) es) =
    ap (conflicts_below name value) (sym (take-append-drop (i + 1) es))
    ∙ conflicts_below-append name value (take (i + 1) es) (drop (i + 1) es)
    ∙ ap (λ fs. conflicts_below name value fs ++ conflicts_below name value (drop (i + 1) es))
    (take_more es i e inside ∙ ap (λ f. take i es ++ f ∷ []) (sym is))
    ∙ ap (λ ks. ks ++ conflicts_below name value (drop (i + 1) es)) (conflicts_below-append name value (take i es) (e ∷ [])) in
    let single : conflicts_below name value (e ∷ []) ≡ filter (conflicts name value) (matchers_of e) =
    ap (filter (conflicts name value)) (append-nil (matchers_of e)) in
    let short : conflicts_below name value es ≡ filter (conflicts name value) (matchers_of e) ++ conflicts_below name value (drop (i + 1) es) =
    all ∙ ap (λ ks. (ks ++ conflicts_below name value (e ∷ [])) ++ conflicts_below name value (drop (i + 1) es)) none
    ∙ ap (λ ks. ks ++ conflicts_below name value (drop (i + 1) es)) single in
    first_of-some (filter (conflicts name value) (matchers_of e)) (conflicts_below name value (drop (i + 1) es)) m found ∙ sym (ap first_of short)
