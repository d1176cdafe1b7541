-- What an expression that is taken has: a type, and patterns that are patterns.
use Rattle.std.proofs.Common.{◌≡◌, ◌≢◌, ℕ, ◌⊎◌, inl, inr, Bool, true, false, cond, ◌&&◌, not, List, [], ◌∷◌, ◌++◌, map, filter, Option, Some, None, IsSome, option_map, option_and_then, true≢false, refl, ap, sym, subst, ◌∙◌}
use Rattle.std.specs.Option.{option_map_or}
use Rattle.std.specs.List.{AllByRecursion, list_all}
use Rattle.op_base.specs.declared.matcher.Matcher.{Matcher}
use Rattle.op_base.specs.declared.matcher.MatchOp.{MatchOp}
use Rattle.op_base.specs.declared.matcher.MatchOp.TheVariants.{Eq, Ne, Re, Nr}
use Rattle.op_base.specs.Matchers.{HasPattern}
use Rattle.op_base.specs.Patterns.{Meaning, meaning_of, meaning_matches}
use Rattle.ql_tree.specs.Children.{children_of}
use Rattle.ql_tree.specs.Enforced.{enforced, enforced_matchers, enforce_step, is_on, matcher_of}
use Rattle.ql_tree.specs.Patterns.{is_pattern}
use Rattle.ql_tree.specs.Shapes.{type_of_shape}
use Rattle.ql_tree.specs.Typed.{Typed, is_sound, has_pattern, rule_of, window_shape, shape_of, all_some}
use Rattle.ql_tree.specs.declared.tree.Expr.{Expr}
use Rattle.ql_tree.specs.declared.tree.Expr.TheOpen.{Expr-F}
use Rattle.ql_tree.specs.declared.tree.Expr.TheViews.{out-Expr}
use Rattle.ql_tree.specs.declared.tree.Expr.TheFolds.{map-Expr, fold_out-Expr}
use Rattle.ql_tree.specs.declared.types.ExprType.{ExprType}
use Rattle.ql_tree.specs.declared.types.ExprType.TheVariants as type
use Rattle.ql_tree.specs.declared.types.Shape.{Shape}
use Rattle.ql_tree.specs.declared.types.Shape.TheVariants as shape
use Rattle.ql_tree.proofs.NodeLemmas.{out-Number, out-Str, out-Select, out-Unary, out-Binary, out-Call, out-Aggregate, shape_out}
use Rattle.ql_parse.specs.Trees.{tree_of}
use Rattle.op_thin.specs.declared.judged.Judged.TheVariants.{Tree, IllTyped, Nameless}
use Rattle.op_thin.specs.CompiledPatterns.{NodeHasPatterns}
use Rattle.op_thin.specs.Judged.{judged, judged_tree, judged_typed, judged_named, is_valued, IsTyped}
use Rattle.op_thin.specs.Nameless.{has_nameless}

-- a text that is no pattern matches nothing
pub no_match : (meaning : Option Meaning) (value : List ℕ) → meaning ≡ None → option_map_or (meaning_matches value) meaning false ≡ false
no_match None value is = refl
no_match (Some found) value is = cc

-- what the type says of the shape
abbrev pub is_value : Option ExprType → Bool
is_value None = false
is_value (Some type.Scalar) = true
is_value (Some type.Vector) = true
is_value (Some type.Range) = false
is_value (Some type.Str) = false

pub value_of : (s : Option Shape) → is_value (option_map type_of_shape s) ≡ is_valued s
value_of None = refl
value_of (Some shape.Scalar) = refl
value_of (Some shape.Vector) = refl
value_of (Some shape.Range) = refl
value_of (Some (shape.Str text)) = refl

pub untyped : (s : Option Shape) → ((t : ExprType) → option_map type_of_shape s ≢ Some t) → is_valued s ≡ false
untyped None none = refl
untyped (Some found) none = absurd (none (type_of_shape found) refl)

-- what is a value is judged by its names, and what isn't, is no rule's
pub valued : (e : Expr) (s : Option Shape) → is_valued s ≡ true → judged_typed e s ≡ judged_named e
valued e None is = absurd (true≢false (sym is))
valued e (Some shape.Scalar) is = refl
valued e (Some shape.Vector) is = refl
valued e (Some shape.Range) is = absurd (true≢false (sym is))
valued e (Some (shape.Str text)) is = absurd (true≢false (sym is))

pub not_valued : (e : Expr) (s : Option Shape) → is_valued s ≡ false → judged_typed e s ≡ IllTyped
not_valued e None is = refl
not_valued e (Some shape.Scalar) is = absurd (true≢false is)
not_valued e (Some shape.Vector) is = absurd (true≢false is)
not_valued e (Some shape.Range) is = refl
not_valued e (Some (shape.Str text)) is = refl

-- what is taken has a type
named_typed : (e : Expr) → Typed e type.Scalar ⊎ Typed e type.Vector → IsTyped (judged_named e)
named_typed e typed =
    elim (has_nameless e) as (λ b. IsTyped (cond b Nameless (Tree e))) [
      | true ↦ tt
      | false ↦ typed
    ]

shaped_typed : (e : Expr) (s : Option Shape) → shape_of e ≡ s → IsTyped (judged_typed e s)
shaped_typed e None is = tt
shaped_typed e (Some shape.Scalar) is = named_typed e (inl (ap (option_map type_of_shape) is))
shaped_typed e (Some shape.Vector) is = named_typed e (inr (ap (option_map type_of_shape) is))
shaped_typed e (Some shape.Range) is = tt
shaped_typed e (Some (shape.Str text)) is = tt

tree_typed : (o : Option Expr) → IsTyped (judged_tree o)
tree_typed None = tt
tree_typed (Some e) = shaped_typed e (shape_of e) refl

pub text_typed : (text : List ℕ) → IsTyped (judged text)
text_typed text = tree_typed (tree_of text)

-- the patterns of a selector that has a shape are patterns
pattern_is : (text : List ℕ) → is_pattern text ≡ true → IsSome (meaning_of text)
unfolding is_pattern
pattern_is text is = is

op_has : (op : MatchOp) (value : List ℕ) → has_pattern op value ≡ true → HasPattern op value
op_has Eq value is = tt
op_has Ne value is = tt
op_has Re value is = pattern_is value is
op_has Nr value is = pattern_is value is

both_true : (a b : Bool) → (a && b) ≡ true → (a ≡ true) × (b ≡ true)
both_true true true is = (refl, refl)
both_true true false is = cc
both_true false b is = cc

abbrev MatcherHas : Matcher → Type 0
MatcherHas m = HasPattern m.op m.value

sound_have : (matchers : List Matcher) → list_all is_sound matchers ≡ true → AllByRecursion MatcherHas matchers
sound_have [] all = tt
sound_have (m ∷ matchers) all =
    let parts = both_true (is_sound m) (list_all is_sound matchers) all in
    (op_has m.op m.value parts.0, sound_have matchers parts.1)

selector_sound : (sound : Bool) (s : Shape) (t : ExprType) → option_map type_of_shape (cond sound (Some s) None) ≡ Some t → sound ≡ true
selector_sound true s t is = refl
selector_sound false s t is = cc

node_has : (node : Expr-F Expr) (t : ExprType)
    → option_map type_of_shape (option_and_then (rule_of node) (all_some (map shape_of (children_of node)))) ≡ Some t → NodeHasPatterns node
node_has (Expr-F.Number n) t is = tt
node_has (Expr-F.Str text) t is = tt
node_has (Expr-F.Select name matchers range offset) t is =
    sound_have matchers (selector_sound (list_all is_sound matchers) (window_shape range) t is)
node_has (Expr-F.Unary minus of) t is = tt
node_has (Expr-F.Binary op boolean m left right) t is = tt
node_has (Expr-F.Call function args) t is = tt
node_has (Expr-F.Aggregate op grouping param of) t is = tt

typed_has : (e : Expr) (t : ExprType) → Typed e t → NodeHasPatterns (out-Expr e)
typed_has e t typed = node_has (out-Expr e) t (sym (ap (option_map type_of_shape) (shape_out e)) ∙ typed)

-- and stay so where a label is enforced
kept_have : (name : List ℕ) (matchers : List Matcher) → AllByRecursion MatcherHas matchers
    → AllByRecursion MatcherHas (filter (λ m. not (is_on name m)) matchers)
kept_have name [] have = tt
kept_have name (m ∷ matchers) have =
    elim (not (is_on name m)) as (λ b. AllByRecursion MatcherHas
    (cond b (m ∷ filter (λ k. not (is_on name k)) matchers) (filter (λ k. not (is_on name k)) matchers))) [
      | true ↦ (have.0, kept_have name matchers have.1)
      | false ↦ kept_have name matchers have.1
    ]

then_have : (before : List Matcher) (m : Matcher) → AllByRecursion MatcherHas before → MatcherHas m → AllByRecursion MatcherHas (before ++ m ∷ [])
then_have [] m have one = (one, tt)
then_have (k ∷ before) m have one = (have.0, then_have before m have.1 one)

step_has : (name value : List ℕ) (node : Expr-F Expr) → NodeHasPatterns node
    → NodeHasPatterns (out-Expr (enforce_step name value (map-Expr Expr Expr (enforced name value) node)))
step_has name value (Expr-F.Number n) have = subst NodeHasPatterns (sym (out-Number n)) tt
step_has name value (Expr-F.Str text) have = subst NodeHasPatterns (sym (out-Str text)) tt
step_has name value (Expr-F.Select metric matchers range offset) have =
    subst NodeHasPatterns (sym (out-Select metric (enforced_matchers name value matchers) range offset))
    (then_have (filter (λ m. not (is_on name m)) matchers) (matcher_of name value) (kept_have name matchers have) tt)
step_has name value (Expr-F.Unary minus of) have =
    subst NodeHasPatterns (sym (out-Unary minus (map (enforced name value) of))) tt
step_has name value (Expr-F.Binary op boolean m left right) have =
    subst NodeHasPatterns (sym (out-Binary op boolean m (map (enforced name value) left) (map (enforced name value) right))) tt
step_has name value (Expr-F.Call function args) have =
    subst NodeHasPatterns (sym (out-Call function (map (enforced name value) args))) tt
step_has name value (Expr-F.Aggregate op grouping param of) have =
    subst NodeHasPatterns (sym (out-Aggregate op grouping (map (enforced name value) param) (map (enforced name value) of))) tt

enforced_has : (name value : List ℕ) (e : Expr) → NodeHasPatterns (out-Expr e) → NodeHasPatterns (out-Expr (enforced name value e))
enforced_has name value e have =
    subst (λ x. NodeHasPatterns (out-Expr x)) (sym (fold_out-Expr Expr (enforce_step name value) e)) (step_has name value (out-Expr e) have)

pub enforced_patterns : (name value : List ℕ) (e : Expr) → Typed e type.Scalar ⊎ Typed e type.Vector
    → NodeHasPatterns (out-Expr (enforced name value e))
enforced_patterns name value e (inl scalar) = enforced_has name value e (typed_has e type.Scalar scalar)
enforced_patterns name value e (inr vector) = enforced_has name value e (typed_has e type.Vector vector)
