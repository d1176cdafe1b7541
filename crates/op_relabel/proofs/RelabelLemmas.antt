-- What the steps that copy a label or put a value do, alone and before other steps.
use Rattle.std.proofs.Common.{◌≡◌, ℕ, Bool, true, List, [], ◌∷◌, ◌++◌, cond, Option, Some, None, option_and_then, refl, ap, ◌∙◌, append-nil}
use Rattle.std.specs.List.{list_all}
use Rattle.std.specs.Cmp.{first_so, second_so}
use Rattle.regex.specs.Templates.{written_after, name_at, group_called, number_in}
use Rattle.op_base.specs.Labels.{Texts, labels_with}
use Rattle.op_base.specs.Matchers.{label_value}
use Rattle.op_base.specs.Patterns.{IsPattern, written_whole}
use Rattle.op_relabel.specs.declared.step.Step.{Step}
use Rattle.op_relabel.specs.Steps.{default_pattern, default_replacement, is_no_dollar, copy_step, put_step}
use Rattle.op_relabel.specs.Actions.{step_text}
use Rattle.op_relabel.specs.Relabelled.{after_step, relabelled}

taken : {A : Type 0} (t : Bool) (a b : A) → t ≡ true → cond t a b ≡ a
taken t a b is = ap (λ x. cond x a b) is

-- a template without `$` stands for itself
pub written-plain : (names : List (Option (List ℕ))) (f : ℕ → List ℕ) (value : List ℕ) → list_all is_no_dollar value ≡ true
    → written_after names f value 0 ≡ value
unfolding written_after
written-plain names f [] plain = refl
written-plain names f (b ∷ value) plain =
    taken (is_no_dollar b) _ _ (first_so (is_no_dollar b) (list_all is_no_dollar value) plain)
    ∙ ap (λ l. b ∷ l) (written-plain names f value (second_so (is_no_dollar b) (list_all is_no_dollar value) plain))

-- `$1` stands for the whole value
pub written-first : (value : List ℕ) → written_whole 2 value default_replacement ≡ value
unfolding written_after name_at group_called number_in
written-first value = append-nil value

-- the default pattern is one
pub default-pattern : IsPattern default_pattern
default-pattern = refl

-- the first step, and then the others
pub relabelled-first : (step : Step) (steps : List Step) (labels : Texts)
    → relabelled (step ∷ steps) labels ≡ option_and_then (relabelled steps) (after_step step labels)
relabelled-first step steps labels = refl

-- a value without `$` is put
pub after-put : (target value : List ℕ) (labels : Texts) → list_all is_no_dollar value ≡ true
    → after_step (put_step target value) labels ≡ Some (labels_with labels target value)
after-put target value labels plain = ap (λ text. Some (labels_with labels target text)) (written-plain _ _ value plain)

pub relabelled-put : (target value : List ℕ) (steps : List Step) (labels : Texts) → list_all is_no_dollar value ≡ true
    → relabelled (put_step target value ∷ steps) labels ≡ relabelled steps (labels_with labels target value)
relabelled-put target value steps labels plain = ap (option_and_then (relabelled steps)) (after-put target value labels plain)

-- the source label's value is copied
pub after-copy : (source target : List ℕ) (labels : Texts)
    → after_step (copy_step source target) labels ≡ Some (labels_with labels target (label_value labels source))
after-copy source target labels =
    ap (λ text. Some (labels_with labels target text)) (written-first (step_text (copy_step source target) labels) ∙ append-nil (label_value labels source))

pub relabelled-copy : (source target : List ℕ) (steps : List Step) (labels : Texts)
    → relabelled (copy_step source target ∷ steps) labels ≡ relabelled steps (labels_with labels target (label_value labels source))
relabelled-copy source target steps labels = ap (option_and_then (relabelled steps)) (after-copy source target labels)

-- steps in two runs
pub relabelled-append : (steps more : List Step) (labels : Texts)
    → relabelled (steps ++ more) labels ≡ option_and_then (relabelled more) (relabelled steps labels)
relabelled-append [] more labels = refl
relabelled-append (step ∷ steps) more labels = rest (relabelled-append steps more) (after_step step labels)
  where
    rest : ((left : Texts) → relabelled (steps ++ more) left ≡ option_and_then (relabelled more) (relabelled steps left)) → (o : Option Texts)
        → option_and_then (relabelled (steps ++ more)) o ≡ option_and_then (relabelled more) (option_and_then (relabelled steps) o)
    rest alike None = refl
    rest alike (Some left) = alike left
