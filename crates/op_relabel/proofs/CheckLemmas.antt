-- What a step has that passes, and which steps pass.
use Rattle.std.proofs.Common.{◌≡◌, true, List, [], ◌∷◌, ◌++◌, cond, Option, Some, None, is_some, refl, ap, true≢false}
use Rattle.std.specs.Option.{option_or}
use Rattle.op_base.specs.Names.{is_label_name}
use Rattle.op_base.specs.Patterns.{Meaning, IsPattern, meaning_of}
use Rattle.op_relabel.specs.declared.checking.StepFault.{StepFault}
use Rattle.op_relabel.specs.declared.checking.StepFault.TheVariants.{BadPattern}
use Rattle.op_relabel.specs.declared.step.Action.TheVariants.{HashMod}
use Rattle.op_relabel.specs.declared.step.Step.{Step}
use Rattle.op_relabel.specs.Steps.{replacing}
use Rattle.op_relabel.specs.Checks.{field_fault, pattern_fault, Passes, AllPass}

-- without a fault in front, the last is asked for
last_asked : (first last : Option StepFault) → option_or first last ≡ None → last ≡ None
last_asked None last is = is
last_asked (Some fault) last is = absurd (true≢false (ap is_some is))

first_asked : (first last : Option StepFault) → option_or first last ≡ None → first ≡ None
first_asked None last is = refl
first_asked (Some fault) last is = absurd (true≢false (ap is_some is))

-- the pattern of a step that passes is one
pub passes-pattern : (step : Step) → Passes step → IsPattern step.pattern
passes-pattern step passes = some (meaning_of step.pattern) (last_asked (field_fault step) (pattern_fault step) passes)
  where
    some : (meaning : Option Meaning) → cond (is_some meaning) None (Some BadPattern) ≡ None → is_some meaning ≡ true
    some None is = absurd (true≢false (ap is_some is))
    some (Some meaning) is = refl

-- all steps pass, and one more
pub all_pass-and_one : (steps : List Step) (step : Step) → AllPass steps → Passes step → AllPass (steps ++ step ∷ [])
all_pass-and_one [] step all one = (one, tt)
all_pass-and_one (first ∷ steps) step all one = (all.0, all_pass-and_one steps step all.1 one)
