-- What the walk over matchers gives at one name.
use Rattle.std.proofs.Common.{◌≡◌, ℕ, Bool, true, false, cond, not, ◌&&◌, List, [], ◌∷◌, Option, Some, None, is_some, fold, filter, bytes_eq, refl, sym, ap, ◌∙◌}
use Rattle.std.proofs.Math.Bool.{and-false, and-true}
use Rattle.std.specs.Cmp.Lexicographic.{slice_cmp, nat_list_cmp_total, texts_ties, bytes_decides, nat_list_eq_equiv}
use Rattle.std.specs.FinMap.Entries.{find-put}
use Rattle.std.specs.Ordering.{nat_cmp}
use Rattle.op_base.specs.declared.matcher.Matcher.{Matcher}
use Rattle.op_base.specs.Maps.{value_at}
use Rattle.ql_tree.specs.Enforced.{is_on}
use Rattle.op_base.specs.declared.label_names.TheConstants.{METRIC_NAME}
use Rattle.ql_call.specs.LabelsByName.{unless_empty}
use Rattle.ql_call.proofs.LabelValueLemmas.{with-at, without-at}
use Rattle.ql_eval.specs.Absent.{Given, nothing_given, is_equality, is_given, gives, with_label, without_label, after_matcher}
use Rattle.ql_eval.specs.AbsentLabels.{AbsentByName, sole_value}

module _ (name : List ℕ) where
  -- an equality came on the name, and the value that it has
  abbrev has : Given → Bool
  has given = is_given name given.names

  abbrev value : Given → Option (List ℕ)
  value given = value_at given.labels name

  value-after : (given : Given) (m : Matcher)
      → value (after_matcher given m) ≡ cond (bytes_eq m.name METRIC_NAME.now) (value given) (cond (bytes_eq name m.name) (cond (gives given m) (unless_empty m.value) None) (value given))
  value-after given m =
      elim (bytes_eq m.name METRIC_NAME.now) as (λ b. value (cond b given (cond (gives given m) (with_label given m) (without_label given m)))
      ≡ cond b (value given) (cond (bytes_eq name m.name) (cond (gives given m) (unless_empty m.value) None) (value given))) [
        | true ↦ refl
        | false ↦ elim (gives given m) as (λ b. value (cond b (with_label given m) (without_label given m))
            ≡ cond (bytes_eq name m.name) (cond b (unless_empty m.value) None) (value given)) [
              | true ↦ with-at name given.labels m.name m.value
              | false ↦ without-at name given.labels m.name
            ]
      ]

  has-after : (given : Given) (m : Matcher)
      → has (after_matcher given m) ≡ cond (bytes_eq m.name METRIC_NAME.now) (has given) (cond (gives given m) (cond (bytes_eq name m.name) true (has given)) (has given))
  has-after given m =
      elim (bytes_eq m.name METRIC_NAME.now) as (λ b. has (cond b given (cond (gives given m) (with_label given m) (without_label given m)))
      ≡ cond b (has given) (cond (gives given m) (cond (bytes_eq name m.name) true (has given)) (has given))) [
        | true ↦ refl
        | false ↦ elim (gives given m) as (λ b. has (cond b (with_label given m) (without_label given m))
            ≡ cond b (cond (bytes_eq name m.name) true (has given)) (has given)) [
              | true ↦ ap is_some (find-put (slice_cmp nat_cmp) nat_list_cmp_total name m.name tt given.names)
                  ∙ ap (λ t. is_some (cond t (Some tt) (value_at given.names name))) (sym (texts_ties name m.name))
                  ∙ put (bytes_eq name m.name)
              | false ↦ refl
            ]
      ]
    where
      put : (b : Bool) → is_some (cond b (Some tt) (value_at given.names name)) ≡ cond b true (has given)
      put true = refl
      put false = refl

  same_either : {X : Type 0} (a b : Bool) (x : X) → x ≡ cond a x (cond b x x)
  same_either true b x = refl
  same_either false true x = refl
  same_either false false x = refl

  -- a matcher on another name changes neither
  value-other : (given : Given) (m : Matcher) → is_on name m ≡ false → value (after_matcher given m) ≡ value given
  value-other given m other =
      let apart : bytes_eq name m.name ≡ false = nat_list_eq_equiv.symm name m.name ∙ other in
      value-after given m
      ∙ ap (λ b. cond (bytes_eq m.name METRIC_NAME.now) (value given) (cond b (cond (gives given m) (unless_empty m.value) None) (value given))) apart
      ∙ sym (same_either (bytes_eq m.name METRIC_NAME.now) true (value given))

  has-other : (given : Given) (m : Matcher) → is_on name m ≡ false → has (after_matcher given m) ≡ has given
  has-other given m other =
      let apart : bytes_eq name m.name ≡ false = nat_list_eq_equiv.symm name m.name ∙ other in
      has-after given m
      ∙ ap (λ b. cond (bytes_eq m.name METRIC_NAME.now) (has given) (cond (gives given m) (cond b true (has given)) (has given))) apart
      ∙ sym (same_either (bytes_eq m.name METRIC_NAME.now) (gives given m) (has given))

  module _ (asked : bytes_eq name METRIC_NAME.now ≡ false) where
    -- a matcher on the name gives its value where it is the first equality, and else takes the label away
    first_on : (given : Given) (m : Matcher) → is_on name m ≡ true → gives given m ≡ (is_equality m.op && not (has given))
    first_on given m on = ap (λ n. is_equality m.op && not (is_given n given.names)) ((bytes_decides m.name name).0 on)

    value-on : (given : Given) (m : Matcher) → is_on name m ≡ true
        → value (after_matcher given m) ≡ cond (is_equality m.op && not (has given)) (unless_empty m.value) None
    value-on given m on =
        let same : m.name ≡ name = (bytes_decides m.name name).0 on in
        value-after given m
        ∙ ap (λ b. cond b (value given) (cond (bytes_eq name m.name) (cond (gives given m) (unless_empty m.value) None) (value given))) (ap (λ n. bytes_eq n METRIC_NAME.now) same ∙ asked)
        ∙ ap (λ b. cond b (cond (gives given m) (unless_empty m.value) None) (value given)) (nat_list_eq_equiv.symm name m.name ∙ on)
        ∙ ap (λ b. cond b (unless_empty m.value) None) (first_on given m on)

    has-on : (given : Given) (m : Matcher) → is_on name m ≡ true
        → has (after_matcher given m) ≡ cond (is_equality m.op && not (has given)) true (has given)
    has-on given m on =
        let same : m.name ≡ name = (bytes_decides m.name name).0 on in
        has-after given m
        ∙ ap (λ b. cond b (has given) (cond (gives given m) (cond (bytes_eq name m.name) true (has given)) (has given))) (ap (λ n. bytes_eq n METRIC_NAME.now) same ∙ asked)
        ∙ ap (λ b. cond (gives given m) (cond b true (has given)) (has given)) (nat_list_eq_equiv.symm name m.name ∙ on)
        ∙ ap (λ b. cond b true (has given)) (first_on given m on)

    -- what stays of a value, with further matchers on its name
    abbrev kept : Option (List ℕ) → List Matcher → Option (List ℕ)
    kept given [] = given
    kept given (m ∷ matchers) = None

    kept-none : (matchers : List Matcher) → kept None matchers ≡ None
    kept-none [] = refl
    kept-none (m ∷ matchers) = refl

    -- after an equality a further matcher takes the label away
    taken : (given : Given) (matchers : List Matcher) → has given ≡ true → value (fold after_matcher given matchers) ≡ kept (value given) (filter (is_on name) matchers)
    taken given [] h = refl
    taken given (m ∷ matchers) h =
        let rest = filter (is_on name) matchers in
        elim (is_on name m) as (λ b. is_on name m ≡ b → value (fold after_matcher (after_matcher given m) matchers) ≡ kept (value given) (cond b (m ∷ rest) rest)) [
          | true ↦ λ on.
              let gone : (is_equality m.op && not (has given)) ≡ false = ap (λ b. is_equality m.op && not b) h ∙ and-false (is_equality m.op) in
              taken (after_matcher given m) matchers (has-on given m on ∙ ap (λ b. cond b true (has given)) gone ∙ h)
              ∙ ap (λ v. kept v rest) (value-on given m on ∙ ap (λ b. cond b (unless_empty m.value) None) gone) ∙ kept-none rest
          | false ↦ λ other.
              taken (after_matcher given m) matchers (has-other given m other ∙ h) ∙ ap (λ v. kept v rest) (value-other given m other)
        ] refl

    sole-equality : (m : Matcher) (rest : List Matcher) → is_equality m.op ≡ true → kept (unless_empty m.value) rest ≡ unless_empty (sole_value (m ∷ rest))
    sole-equality m [] is = ap (λ b. unless_empty (cond b m.value [])) (sym is)
    sole-equality m (other ∷ rest) is = ap (λ b. unless_empty (cond b [] (sole_value (other ∷ rest)))) (sym is)

    sole-other : (m : Matcher) (rest : List Matcher) → is_equality m.op ≡ false → sole_value rest ≡ sole_value (m ∷ rest)
    sole-other m [] is = ap (λ b. cond b m.value []) (sym is)
    sole-other m (other ∷ rest) is = ap (λ b. cond b [] (sole_value (other ∷ rest))) (sym is)

    -- before one, the first equality gives its value
    free : (given : Given) (matchers : List Matcher) → has given ≡ false → value given ≡ None
        → value (fold after_matcher given matchers) ≡ unless_empty (sole_value (filter (is_on name) matchers))
    free given [] h none = none
    free given (m ∷ matchers) h none =
        let rest = filter (is_on name) matchers in
        elim (is_on name m) as (λ b. is_on name m ≡ b
        → value (fold after_matcher (after_matcher given m) matchers) ≡ unless_empty (sole_value (cond b (m ∷ rest) rest))) [
          | true ↦ λ on.
              let step : (is_equality m.op && not (has given)) ≡ is_equality m.op = ap (λ b. is_equality m.op && not b) h ∙ and-true (is_equality m.op) in
              let now = value-on given m on ∙ ap (λ b. cond b (unless_empty m.value) None) step in
              let came = has-on given m on ∙ ap (λ b. cond b true (has given)) step in
              elim (is_equality m.op) as (λ e. is_equality m.op ≡ e
              → value (fold after_matcher (after_matcher given m) matchers) ≡ unless_empty (sole_value (m ∷ rest))) [
                | true ↦ λ is.
                    taken (after_matcher given m) matchers (came ∙ ap (λ b. cond b true (has given)) is)
                    ∙ ap (λ v. kept v rest) (now ∙ ap (λ b. cond b (unless_empty m.value) None) is) ∙ sole-equality m rest is
                | false ↦ λ is.
                    free (after_matcher given m) matchers (came ∙ ap (λ b. cond b true (has given)) is ∙ h) (now ∙ ap (λ b. cond b (unless_empty m.value) None) is)
                    ∙ ap unless_empty (sole-other m rest is)
              ] refl
          | false ↦ λ other.
              free (after_matcher given m) matchers (has-other given m other ∙ h) (value-other given m other ∙ none)
        ] refl

  -- the metric's name is passed over
  unnamed : bytes_eq name METRIC_NAME.now ≡ true → (given : Given) (matchers : List Matcher) → value given ≡ None → value (fold after_matcher given matchers) ≡ None
  unnamed metric given [] none = none
  unnamed metric given (m ∷ matchers) none =
      unnamed metric (after_matcher given m) matchers (elim (is_on name m) as (λ b. is_on name m ≡ b → value (after_matcher given m) ≡ None) [
        | true ↦ λ on.
            value-after given m
            ∙ ap (λ b. cond b (value given) (cond (bytes_eq name m.name) (cond (gives given m) (unless_empty m.value) None) (value given)))
            (ap (λ n. bytes_eq n METRIC_NAME.now) ((bytes_decides m.name name).0 on) ∙ metric) ∙ none
        | false ↦ λ other. value-other given m other ∙ none
      ] refl)

pub absent-by-name : AbsentByName
absent-by-name asked name =
    elim (bytes_eq name METRIC_NAME.now) as (λ b. bytes_eq name METRIC_NAME.now ≡ b
    → value name (fold after_matcher nothing_given asked) ≡ cond b None (unless_empty (sole_value (filter (is_on name) asked)))) [
      | true ↦ λ metric. unnamed name metric nothing_given asked refl
      | false ↦ λ plain. free name plain nothing_given asked refl refl
    ] refl
