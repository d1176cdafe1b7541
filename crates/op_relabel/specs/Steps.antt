-- The defaults of a relabelling step, after the Prometheus documentation, and two steps of which
-- all else is the default: one copies a label, one puts a value.
use Rattle.std.specs.Prelude.{ℕ, List, [], ◌∷◌, Bool, not, ◌==◌, codes}
use Rattle.op_relabel.specs.declared.step.Step.{Step}
use Rattle.op_relabel.specs.declared.step.Action.TheVariants.{Replace}

-- what stands between the values of several source labels
abbrev pub default_separator : List ℕ
default_separator = codes ";"

-- the pattern that every value matches, which captures all of it
abbrev pub default_pattern : List ℕ
default_pattern = codes "(.*)"

-- what the default pattern captured
abbrev pub default_replacement : List ℕ
default_replacement = codes "$1"

-- the byte isn't `$`, which begins a reference in a replacement
abbrev pub is_no_dollar : ℕ → Bool
is_no_dollar b = not (b == 36)

-- no modulus
abbrev pub default_modulus : ℕ
default_modulus = 0

-- a replacement with these source labels, this replacement and this target
abbrev pub replacing : List (List ℕ) → List ℕ → List ℕ → Step
replacing source replacement target = record {
  action = Replace;
  source = source;
  separator = default_separator;
  pattern = default_pattern;
  replacement = replacement;
  target = target;
  modulus = default_modulus;
}

-- the target label gets the value of the source label
abbrev pub copy_step : List ℕ → List ℕ → Step
copy_step source target = replacing (source ∷ []) default_replacement target

-- the target label gets the value
abbrev pub put_step : List ℕ → List ℕ → Step
put_step target value = replacing [] value target
