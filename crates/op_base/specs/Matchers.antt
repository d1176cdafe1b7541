-- What a matcher means on a label set, after PromQL: a missing label counts as the empty text.
use Rattle.std.specs.Prelude.{◌≡◌, ℕ, Bool, false, not, List, [], Option, Some, None, bytes_eq, unwrap_or}
use Rattle.op_base.specs.declared.matcher.MatchOp.{MatchOp}
use Rattle.op_base.specs.declared.matcher.MatchOp.TheVariants.{Eq, Ne, Re, Nr}
use Rattle.op_base.specs.declared.matcher.Matcher.{Matcher}
use Rattle.op_base.specs.declared.matcher.MatchFault as declared
use Rattle.op_base.specs.declared.matcher.MatchFault.TheVariants as fault
use Rattle.op_base.specs.declared.prepared.HeldPattern.{HeldPattern}
use Rattle.op_base.specs.declared.prepared.HeldPattern.TheVariants.{Nowhere, Here, Lent}
use Rattle.op_base.specs.declared.pattern.PatternFault.{PatternFault}
use Rattle.op_base.specs.declared.pattern.PatternFault.TheVariants.{BadPattern, NoMemory}
use Rattle.op_base.specs.Maps.{value_at}
use Rattle.op_base.specs.Labels.{Texts}
use Rattle.op_base.specs.Patterns.{IsPattern, meaning_of, pattern_matches}

-- the value of a label, or the empty text
abbrev pub label_value : Texts → List ℕ → List ℕ
label_value labels name = unwrap_or (value_at labels name) []

-- whether the value passes
abbrev pub passes : MatchOp → List ℕ → List ℕ → Bool
passes Eq text value = bytes_eq text value
passes Ne text value = not (bytes_eq text value)
passes Re text value = pattern_matches text value
passes Nr text value = not (pattern_matches text value)

-- whether the matcher holds on the labels
abbrev pub holds_on : Matcher → Texts → Bool
holds_on matcher labels = passes matcher.op matcher.value (label_value labels matcher.name)

-- with `=~` and `!~`, the text is a pattern
abbrev pub HasPattern : MatchOp → List ℕ → Type 0
HasPattern Eq text = Unit {0}
HasPattern Ne text = Unit {0}
HasPattern Re text = IsPattern text
HasPattern Nr text = IsPattern text

-- the fault of a matcher's pattern
abbrev pub fault_of : PatternFault → declared.MatchFault
fault_of BadPattern = fault.BadPattern
fault_of NoMemory = fault.NoMemory

-- what is held is the pattern that the text is; nothing is held of a text that is none
abbrev pub IsHeld : List ℕ → HeldPattern → Type 0
IsHeld text Nowhere = meaning_of text ≡ None
IsHeld text (Here pattern) = pattern ≡ text
IsHeld text (Lent pattern) = pattern.now ≡ text

-- what is held of a matcher is the pattern of its value, where it asks for one
abbrev pub HoldsPattern : MatchOp → List ℕ → HeldPattern → Type 0
HoldsPattern Eq text held = Unit {0}
HoldsPattern Ne text held = Unit {0}
HoldsPattern Re text held = IsHeld text held
HoldsPattern Nr text held = IsHeld text held

-- the same of the matcher
abbrev pub IsPrepared : Matcher → HeldPattern → Type 0
IsPrepared matcher held = HoldsPattern matcher.op matcher.value held

-- whether a value matches the pattern that is held, if any
abbrev pub found_in : HeldPattern → List ℕ → Bool
found_in Nowhere value = false
found_in (Here pattern) value = pattern_matches pattern value
found_in (Lent pattern) value = pattern_matches pattern.now value
