-- The rules of a namespace that aren't skipped are those of its objects.
use Rattle.std.proofs.Common.{◌≡◌, ℕ, ◌<◌, length, map, Bool, true, false, cond, List, [], ◌∷◌, filter, Option, Some, None, option_map, nat_eq, refl, ap, ◌∙◌}
use Rattle.std.specs.List.{AllByRecursion, filter_map, cons_option}
use Rattle.std.specs.Cmp.Lexicographic.{pointwise}
use Rattle.ql_tree.specs.declared.tree.Expr.{Expr}
use Rattle.op_thin.specs.declared.rule.ThinRule.{ThinRule}
use Rattle.op_thin.specs.declared.recording.Recording.{Recording}
use Rattle.op_thin.specs.Judged.{judged_expr}
use Rattle.op_thin.specs.Compiled.{with_tree, recording_of, file_of}
use Rattle.cfg_types.specs.declared.config.RuleFile.{RuleFile}
use Rattle.tenant_world.specs.Tenants.{written_file}
use Rattle.tenant_world.proofs.EnforcedFiles.{enforced_file, IsFineFile, is_of as is_home}

abbrev pub is_of : List ℕ → Recording → Bool
is_of n r = pointwise nat_eq n r.namespace

abbrev pub recordings : List ThinRule → List Recording
recordings = filter_map recording_of

abbrev of_home : List ℕ → ThinRule → Bool
of_home n r = pointwise nat_eq n r.namespace

same_twice : {A : Type 0} (b : Bool) (x : A) → x ≡ cond b x x
same_twice true x = refl
same_twice false x = refl

first-of : (n : List ℕ) (r : ThinRule) (tree : Option Expr) (those of_those : List Recording) → filter (is_of n) those ≡ of_those
    → filter (is_of n) (cons_option (option_map (with_tree r) tree) those)
    ≡ cond (of_home n r) (cons_option (option_map (with_tree r) tree) of_those) of_those
first-of n r None those of_those is = is ∙ same_twice (of_home n r) of_those
first-of n r (Some tree) those of_those is = ap (λ l. cond (of_home n r) (with_tree r tree ∷ l) l) is

pub recordings-of : (n : List ℕ) (rules : List ThinRule) → filter (is_of n) (recordings rules) ≡ recordings (filter (of_home n) rules)
recordings-of n [] = refl
recordings-of n (r ∷ rules) =
    first-of n r (judged_expr r.judged) (recordings rules) (recordings (filter (of_home n) rules)) (recordings-of n rules)
    ∙ elim (of_home n r) as (λ b. cond b (cons_option (recording_of r) (recordings (filter (of_home n) rules))) (recordings (filter (of_home n) rules))
    ≡ recordings (cond b (r ∷ filter (of_home n) rules) (filter (of_home n) rules))) [
      | true ↦ refl
      | false ↦ refl
    ]

-- what holds of the namespaces of rules holds of those that aren't skipped
first-has : (P : List ℕ → Type 0) (r : ThinRule) (tree : Option Expr) (those : List Recording) → P r.namespace
    → AllByRecursion (λ (x : Recording). P x.namespace) those
    → AllByRecursion (λ (x : Recording). P x.namespace) (cons_option (option_map (with_tree r) tree) those)
first-has P r None those one all = all
first-has P r (Some tree) those one all = (one, all)

pub recordings-have : (P : List ℕ → Type 0) (rules : List ThinRule) → AllByRecursion (λ (r : ThinRule). P r.namespace) rules
    → AllByRecursion (λ (x : Recording). P x.namespace) (recordings rules)
recordings-have P [] all = tt
recordings-have P (r ∷ rules) all = first-has P r (judged_expr r.judged) (recordings rules) all.0 (recordings-have P rules all.1)

-- the rule files of such rules
pub enforced-written : (rules : List Recording) → map file_of rules ≡ map enforced_file (map written_file rules)
enforced-written [] = refl
enforced-written (r ∷ rules) = ap (λ l. file_of r ∷ l) (enforced-written rules)

pub written-of : (n : List ℕ) (rules : List Recording) → filter (is_home n) (map written_file rules) ≡ map written_file (filter (is_of n) rules)
written-of n [] = refl
written-of n (r ∷ rules) =
    ap (λ l. cond (is_of n r) (written_file r ∷ l) l) (written-of n rules)
    ∙ elim (is_of n r) as (λ b. cond b (written_file r ∷ map written_file (filter (is_of n) rules)) (map written_file (filter (is_of n) rules)) ≡ map written_file (cond b (r ∷ filter (is_of n) rules) (filter (is_of n) rules))) [
      | true ↦ refl
      | false ↦ refl
    ]

pub written-have : (P : List ℕ → Type 0) (rules : List Recording) → AllByRecursion (λ (x : Recording). P x.namespace) rules → AllByRecursion (λ (file : RuleFile). P file.namespace) (map written_file rules)
written-have P [] h = tt
written-have P (r ∷ rules) h = (h.0, written-have P rules h.1)

pub written-fine : (rules : List Recording) → AllByRecursion (λ (x : Recording). 0 < length x.namespace) rules → AllByRecursion IsFineFile (map written_file rules)
written-fine [] h = tt
written-fine (r ∷ rules) h = ((h.0, (((λ x. refl), tt), tt)), written-fine rules h.1)
