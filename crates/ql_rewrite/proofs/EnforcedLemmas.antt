-- Enforcement of a label keeps what each kind of node has from its parts, and the depth of the tree.
use Rattle.std.proofs.Common.{◌≡◌, ℕ, ◌+◌, Bool, true, false, List, [], ◌∷◌, ◌++◌, Option, Some, None, map, cond, not, bytes_eq, ◌||◌, refl, ap, ap₂, sym, subst, ◌∙◌}
use Rattle.std.specs.List.{AllByRecursion as Each, filter, list_any}
use Rattle.op_base.specs.Names.{is_label_name}
use Rattle.op_base.specs.declared.label_names.TheConstants.{METRIC_NAME}
use Rattle.op_base.specs.declared.matcher.Matcher.{Matcher}
use Rattle.ql_tree.specs.Children.{children_of, greatest, depth_of}
use Rattle.ql_tree.specs.Enforced.{matcher_of, is_on, enforced_matchers, enforce_step, enforced}
use Rattle.ql_tree.specs.Selecting.{is_on_name}
use Rattle.ql_tree.specs.declared.tree.Expr.{Expr}
use Rattle.ql_tree.specs.declared.tree.Expr.TheOpen.{Expr-F}
use Rattle.ql_tree.specs.declared.tree.Expr.TheViews.{out-Expr}
use Rattle.ql_tree.specs.declared.tree.Expr.TheFolds.{map-Expr, fold_out-Expr}
use Rattle.ql_tree.specs.declared.tree.Expr.TheVariants as expr
use Rattle.ql_tree.specs.declared.word.Word.{Word}
use Rattle.ql_tree.specs.declared.word.Word.TheVariants as word
use Rattle.ql_tree.proofs.NodeLemmas.{depth_out, out-Number, out-Str, out-Select, out-Unary, out-Binary, out-Call, out-Aggregate}
use Rattle.ql_tree.proofs.Inherited.{Inherited, IsMatcher, IsNamed}

-- the items that pass, and one more, have what all items and that one have
each_kept : (P : Matcher → Type 0) (passes : Matcher → Bool) (m : Matcher) (ms : List Matcher) → P m
    → Each P ms
    → Each P (filter passes ms ++ (m ∷ []))
each_kept P passes m [] has all = (has, tt)
each_kept P passes m (k ∷ ms) has all =
    elim (passes k) as (λ b. Each P (cond b (k ∷ filter passes ms) (filter passes ms) ++ (m ∷ []))) [
      | true ↦ (all.0, each_kept P passes m ms has all.1)
      | false ↦ each_kept P passes m ms has all.1
    ]

or_false : (b c : Bool) → (b || c) ≡ false → (b ≡ false) × (c ≡ false)
or_false true c is = cc
or_false false c is = (refl, is)

none_kept : (passes : Matcher → Bool) (m : Matcher) (ms : List Matcher) → is_on_name m ≡ false
    → list_any is_on_name ms ≡ false
    → list_any is_on_name (filter passes ms ++ (m ∷ [])) ≡ false
none_kept passes m [] is none = rw is refl
none_kept passes m (k ∷ ms) is none =
    let both : (is_on_name k ≡ false) × (list_any is_on_name ms ≡ false) =
    or_false (is_on_name k) (list_any is_on_name ms) none in
    elim (passes k) as (λ b. list_any is_on_name
    (cond b (k ∷ filter passes ms) (filter passes ms) ++ (m ∷ [])) ≡ false) [
      | true ↦ rw both.0 (none_kept passes m ms is both.1)
      | false ↦ none_kept passes m ms is both.1
    ]

each-map : (P : Expr → Type 0) (f : Expr → Expr) (es : List Expr) → Each (λ e. P (f e)) es
    → Each P (map f es)
each-map P f [] all = tt
each-map P f (e ∷ es) all = (all.0, each-map P f es all.1)

module _ (name value : List ℕ) where
  -- the enforced tree by the node at the root
  enforced_at : (e : Expr) (node : Expr-F Expr) → out-Expr e ≡ node
      → enforced name value e ≡ enforce_step name value
      (map-Expr Expr Expr (enforced name value) node)
  enforced_at e node is =
      fold_out-Expr Expr (enforce_step name value) e
      ∙ ap (λ n. enforce_step name value (map-Expr Expr Expr (enforced name value) n)) is

  named_kept : (W : Word → Type 0) (metric : Option (List ℕ)) (ms : List Matcher)
      → bytes_eq name METRIC_NAME.now ≡ false
      → IsNamed W metric ms → IsNamed W metric (enforced_matchers name value ms)
  named_kept W None ms other is = tt
  named_kept W (Some metric) ms other is =
      (is.0, none_kept (λ m. not (is_on name m)) (matcher_of name value) ms other is.1)

  -- what is inherited, the enforced tree has too
  pub enforced_inherits : (W : Word → Type 0) (P : Expr → Type 0) → is_label_name name ≡ true
      → bytes_eq name METRIC_NAME.now ≡ false → W (word.Quoted value) → Inherited W P
      → Inherited W (λ e. P (enforced name value e))
  enforced_inherits W P label other written inherited = record {
    number = λ z has. subst P (sym (enforced_at (expr.Number z) (Expr-F.Number z) (out-Number z)))
        (inherited.number z has);
    string = λ text has. subst P (sym (enforced_at (expr.Str text) (Expr-F.Str text) (out-Str text)))
        (inherited.string text has);
    selector = λ metric ms range offset named are values in_range in_offset.
        subst P (sym (enforced_at (expr.Select metric ms range offset)
        (Expr-F.Select metric ms range offset) (out-Select metric ms range offset)))
        (inherited.selector metric (enforced_matchers name value ms) range offset
        (named_kept W metric ms other named)
        (each_kept IsMatcher (λ m. not (is_on name m)) (matcher_of name value) ms label are)
        (each_kept (λ m. W (word.Quoted m.value)) (λ m. not (is_on name m))
        (matcher_of name value) ms written values) in_range in_offset);
    sign = λ minus e is. subst P
        (sym (enforced_at (expr.Unary minus (e ∷ [])) (Expr-F.Unary minus (e ∷ []))
        (out-Unary minus (e ∷ []))))
        (inherited.sign minus (enforced name value e) is);
    operator = λ op boolean m l r may is left right.
        subst P (sym (enforced_at (expr.Binary op boolean m (l ∷ []) (r ∷ []))
        (Expr-F.Binary op boolean m (l ∷ []) (r ∷ []))
        (out-Binary op boolean m (l ∷ []) (r ∷ []))))
        (inherited.operator op boolean m (enforced name value l)
        (enforced name value r) may is left right);
    call = λ function args has are. subst P
        (sym (enforced_at (expr.Call function args) (Expr-F.Call function args)
        (out-Call function args)))
        (inherited.call function (map (enforced name value) args) has
        (each-map P (enforced name value) args are));
    aggregate = λ op g e is of.
        subst P (sym (enforced_at (expr.Aggregate op g [] (e ∷ []))
        (Expr-F.Aggregate op g [] (e ∷ [])) (out-Aggregate op g [] (e ∷ []))))
        (inherited.aggregate op g (enforced name value e) is of);
    aggregate_param = λ op g p e is first of.
        subst P (sym (enforced_at (expr.Aggregate op g (p ∷ []) (e ∷ []))
        (Expr-F.Aggregate op g (p ∷ []) (e ∷ []))
        (out-Aggregate op g (p ∷ []) (e ∷ []))))
        (inherited.aggregate_param op g (enforced name value p) (enforced name value e) is first of);
  }

  abbrev IsAsDeep : Expr → Type 0
  IsAsDeep e = depth_of (enforced name value e) ≡ depth_of e

  depths-map : (es : List Expr) → Each IsAsDeep es
      → map depth_of (map (enforced name value) es) ≡ map depth_of es
  depths-map [] all = refl
  depths-map (e ∷ es) all = rw all.0 (ap (λ ds. depth_of e ∷ ds) (depths-map es all.1))

  as_deep : (e f : Expr) (old new : Expr-F Expr) → out-Expr e ≡ old → out-Expr f ≡ new
      → enforced name value e ≡ f → map depth_of (children_of new) ≡ map depth_of (children_of old)
      → IsAsDeep e
  as_deep e f old new is_old is_new is same =
      ap depth_of is ∙ depth_out f ∙ ap (λ n. 1 + greatest (map depth_of (children_of n))) is_new
      ∙ ap (λ ds. 1 + greatest ds) same
      ∙ sym (depth_out e ∙ ap (λ n. 1 + greatest (map depth_of (children_of n))) is_old)

  -- enforcement leaves the depth
  pub enforced_as_deep : (W : Word → Type 0) → Inherited W IsAsDeep
  enforced_as_deep W = record {
    number = λ z has. ap depth_of (enforced_at (expr.Number z) (Expr-F.Number z) (out-Number z));
    string = λ text has. ap depth_of (enforced_at (expr.Str text) (Expr-F.Str text) (out-Str text));
    selector = λ metric ms range offset named are values in_range in_offset.
        as_deep (expr.Select metric ms range offset)
        (expr.Select metric (enforced_matchers name value ms) range offset)
        (Expr-F.Select metric ms range offset)
        (Expr-F.Select metric (enforced_matchers name value ms) range offset)
        (out-Select metric ms range offset)
        (out-Select metric (enforced_matchers name value ms) range offset)
        (enforced_at (expr.Select metric ms range offset) (Expr-F.Select metric ms range offset)
        (out-Select metric ms range offset)) refl;
    sign = λ minus e is.
        as_deep (expr.Unary minus (e ∷ [])) (expr.Unary minus (enforced name value e ∷ []))
        (Expr-F.Unary minus (e ∷ [])) (Expr-F.Unary minus (enforced name value e ∷ []))
        (out-Unary minus (e ∷ [])) (out-Unary minus (enforced name value e ∷ []))
        (enforced_at (expr.Unary minus (e ∷ [])) (Expr-F.Unary minus (e ∷ []))
        (out-Unary minus (e ∷ []))) (ap (λ d. d ∷ []) is);
    operator = λ op boolean m l r may is left right.
        as_deep (expr.Binary op boolean m (l ∷ []) (r ∷ []))
        (expr.Binary op boolean m (enforced name value l ∷ []) (enforced name value r ∷ []))
        (Expr-F.Binary op boolean m (l ∷ []) (r ∷ []))
        (Expr-F.Binary op boolean m (enforced name value l ∷ []) (enforced name value r ∷ []))
        (out-Binary op boolean m (l ∷ []) (r ∷ []))
        (out-Binary op boolean m (enforced name value l ∷ []) (enforced name value r ∷ []))
        (enforced_at (expr.Binary op boolean m (l ∷ []) (r ∷ []))
        (Expr-F.Binary op boolean m (l ∷ []) (r ∷ []))
        (out-Binary op boolean m (l ∷ []) (r ∷ []))) (ap₂ (λ d f. d ∷ f ∷ []) left right);
    call = λ function args has are.
        as_deep (expr.Call function args) (expr.Call function (map (enforced name value) args))
        (Expr-F.Call function args) (Expr-F.Call function (map (enforced name value) args))
        (out-Call function args) (out-Call function (map (enforced name value) args))
        (enforced_at (expr.Call function args) (Expr-F.Call function args) (out-Call function args))
        (depths-map args are);
    aggregate = λ op g e is of.
        as_deep (expr.Aggregate op g [] (e ∷ []))
        (expr.Aggregate op g [] (enforced name value e ∷ []))
        (Expr-F.Aggregate op g [] (e ∷ [])) (Expr-F.Aggregate op g [] (enforced name value e ∷ []))
        (out-Aggregate op g [] (e ∷ [])) (out-Aggregate op g [] (enforced name value e ∷ []))
        (enforced_at (expr.Aggregate op g [] (e ∷ [])) (Expr-F.Aggregate op g [] (e ∷ []))
        (out-Aggregate op g [] (e ∷ [])))
        (ap (λ d. d ∷ []) of);
    aggregate_param = λ op g p e is first of.
        as_deep (expr.Aggregate op g (p ∷ []) (e ∷ []))
        (expr.Aggregate op g (enforced name value p ∷ []) (enforced name value e ∷ []))
        (Expr-F.Aggregate op g (p ∷ []) (e ∷ []))
        (Expr-F.Aggregate op g (enforced name value p ∷ []) (enforced name value e ∷ []))
        (out-Aggregate op g (p ∷ []) (e ∷ []))
        (out-Aggregate op g (enforced name value p ∷ []) (enforced name value e ∷ []))
        (enforced_at (expr.Aggregate op g (p ∷ []) (e ∷ []))
        (Expr-F.Aggregate op g (p ∷ []) (e ∷ [])) (out-Aggregate op g (p ∷ []) (e ∷ [])))
        (ap₂ (λ d f. d ∷ f ∷ []) first of);
  }
