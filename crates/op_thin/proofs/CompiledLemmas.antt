-- What each configuration has: spans of 0 or more, rules whose patterns are patterns, and rule files that
-- are those of thin rules.
use Rattle.std.proofs.Common.{ℕ, List, [], ◌∷◌, map, fold, option_map}
use Rattle.std.specs.List.{AllByRecursion, filter_map, cons_option}
use Rattle.std.specs.Int.Signed.{le_z_yes}
use Rattle.std.specs.declared.cmp.Ordering.TheVariants.{Less, Equal, Greater}
use Rattle.std.specs.Ordering.{nat_cmp}
use Rattle.std.specs.Cmp.Lexicographic.{slice_cmp}
use Rattle.std.specs.FinMap.Entries.{by_order}
use Rattle.op_base.specs.declared.label_names.TheConstants.{NAMESPACE_LABEL}
use Rattle.op_base.specs.Maps.{Map, values_of, with_entry}
use Rattle.cfg_types.specs.declared.job.Job.{Job}
use Rattle.cfg_types.specs.Jobs.{jobs_of, HasJobSpans}
use Rattle.cfg_types.specs.Written.{HasSpans, file_text}
use Rattle.cfg_types.specs.declared.config.RuleFile.{RuleFile}
use Rattle.op_thin.specs.declared.rule.ThinRule.{ThinRule}
use Rattle.op_thin.specs.declared.probe.ThinProbe.{ThinProbe}
use Rattle.op_thin.specs.declared.recording.Recording.{Recording}
use Rattle.op_thin.specs.declared.judged.Judged.{Judged}
use Rattle.op_thin.specs.declared.judged.Judged.TheVariants.{Tree, NotExpr, IllTyped, Nameless}
use Rattle.op_thin.specs.Judged.{judged_expr, IsTyped}
use Rattle.op_thin.proofs.JudgedLemmas.{enforced_patterns}
use Rattle.op_thin.specs.Objects.{Present, all_of}
use Rattle.op_thin.specs.FileOrder.{in_order}
use Rattle.op_thin.specs.Compiled.{job_of, with_tree, recording_of, file_of, config_of}
use Rattle.op_thin.specs.CompiledPatterns.{FileHasPatterns, RulesHavePatterns}

-- what holds of each image holds of all
all_images : {A B : Type 0} (P : B → Type 0) (f : A → B) (xs : List A) → ((x : A) → P (f x)) → AllByRecursion P (map f xs)
all_images P f [] holds = tt
all_images P f (x ∷ xs) holds = (holds x, all_images P f xs holds)

-- what holds of the values holds of them and of one more
values_with : {X : Type 0} (P : X → Type 0) (key : List ℕ) (value : X) (entries : Map X)
    → P value → AllByRecursion P (values_of entries) → AllByRecursion P (values_of (with_entry entries key value))
values_with P key value [] one all = (one, tt)
values_with P key value (e ∷ entries) one all =
    elim (slice_cmp nat_cmp key e.0) as (λ o. AllByRecursion P
    (values_of (by_order o ((key, value) ∷ e ∷ entries) ((e.0, value) ∷ entries) (e ∷ with_entry entries key value)))) [
      | Less ↦ (one, all)
      | Equal ↦ (one, all.1)
      | Greater ↦ (all.0, values_with P key value entries one all.1)
    ]

all_placed : (P : RuleFile → Type 0) (placed : Map RuleFile) (files : List RuleFile)
    → AllByRecursion P (values_of placed) → AllByRecursion P files
    → AllByRecursion P (values_of (fold (λ placed file. with_entry placed (file_text file) file) placed files))
all_placed P placed [] there all = there
all_placed P placed (file ∷ files) there all =
    all_placed P (with_entry placed (file_text file) file) files (values_with P (file_text file) file placed all.0 there) all.1

-- what holds of each file holds of them in order
pub all_in_order : (P : RuleFile → Type 0) (files : List RuleFile) → AllByRecursion P files → AllByRecursion P (in_order files)
all_in_order P files all = all_placed P [] files tt all

-- what holds of each thin probe's job holds of the jobs
pub jobs_have : (P : Job → Type 0) (objects : Present) → ((probe : ThinProbe) → P (job_of probe))
    → AllByRecursion P (jobs_of (config_of objects))
jobs_have P objects holds = all_images P job_of (all_of objects.probes) holds

job_spans : (probe : ThinProbe) → HasJobSpans (job_of probe)
job_spans probe = (le_z_yes tt, le_z_yes tt)

-- all spans have texts
pub config_spans : (objects : Present) → HasSpans (config_of objects)
config_spans objects = ((le_z_yes tt, le_z_yes tt, le_z_yes tt), jobs_have HasJobSpans objects job_spans)

-- a rule whose expression is taken asks for patterns alone
first_file : (r : ThinRule) (j : Judged) (rest : List Recording) → IsTyped j → AllByRecursion FileHasPatterns (map file_of rest)
    → AllByRecursion FileHasPatterns (map file_of (cons_option (option_map (with_tree r) (judged_expr j)) rest))
first_file r (Tree e) rest typed all = (((enforced_patterns NAMESPACE_LABEL.now r.namespace e typed, tt), tt), all)
first_file r NotExpr rest typed all = all
first_file r IllTyped rest typed all = all
first_file r Nameless rest typed all = all

typed_files : (rules : List ThinRule) → AllByRecursion (λ (r : ThinRule). IsTyped r.judged) rules
    → AllByRecursion FileHasPatterns (map file_of (filter_map recording_of rules))
typed_files [] all = tt
typed_files (r ∷ rules) all = first_file r r.judged (filter_map recording_of rules) all.0 (typed_files rules all.1)

-- no rule asks for a pattern that isn't one
pub rules_patterns : (objects : Present) → AllByRecursion (λ (r : ThinRule). IsTyped r.judged) (all_of objects.rules)
    → RulesHavePatterns (config_of objects)
rules_patterns objects judged =
    all_in_order FileHasPatterns (map file_of (filter_map recording_of (all_of objects.rules))) (typed_files (all_of objects.rules) judged)
