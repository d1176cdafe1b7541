-- What a selector gives at a moment. Beside the store stand ambient labels: a matcher on the name of one
-- is passed over.
use Rattle.std.specs.Prelude.{ℕ, ◌^◌, ℤ, pos, negsuc, ◌-ℤ◌, ◌≤ℤ◌, List, [], ◌∷◌, Option, Some, None, Bool, not, filter, is_some, map}
use Rattle.std.specs.List.{flat_map}
use Rattle.op_base.specs.declared.matcher.Matcher.{Matcher}
use Rattle.op_base.specs.declared.matcher.MatchOp.TheVariants.{Eq}
use Rattle.op_base.specs.declared.moment.Moment.{Moment}
use Rattle.op_base.specs.declared.span.Span.{Span}
use Rattle.op_base.specs.Maps.{value_at}
use Rattle.op_base.specs.Labels.{Texts}
use Rattle.op_base.specs.declared.label_names.TheConstants.{METRIC_NAME}
use Rattle.srv_store.specs.declared.entry.Entry.{Entry}
use Rattle.srv_store.specs.Stores.{Store, newest, ranged}
use Rattle.ql_call.specs.Elements.{Element}
use Rattle.ql_call.specs.declared.operand.Operand.{Operand}
use Rattle.ql_call.specs.declared.operand.Operand.TheVariants as operand
use Rattle.ql_eval.specs.Absent.{absent_labels}
use Rattle.ql_eval.specs.declared.selector.TheConstants.{LOOKBACK}

-- `__name__="NAME"`
abbrev pub name_matcher : List ℕ → Matcher
name_matcher name = record { name = METRIC_NAME.now; op = Eq; value = name }

-- a selector's name counts as the first matcher
abbrev pub with_name : Option (List ℕ) → List Matcher → List Matcher
with_name None matchers = matchers
with_name (Some name) matchers = name_matcher name ∷ matchers

-- the matcher is on a name that no ambient label has
abbrev pub is_asked : Texts → Matcher → Bool
is_asked ambient m = not (is_some (value_at ambient m.name))

-- what the store is asked: the matchers with one for the name, without those that the ambient label answers
abbrev pub asked_of : Texts → Option (List ℕ) → List Matcher → List Matcher
asked_of ambient name matchers = filter (is_asked ambient) (with_name name matchers)

-- the moment less the offset
abbrev pub moment_before : Moment → Option Span → ℤ
moment_before t None = t.0
moment_before t (Some offset) = t.0 -ℤ offset.0

-- the arithmetic of 128 bits can go on from there
abbrev pub IsNear : ℤ → Type 0
IsNear t = (negsuc (2 ^ 70) ≤ℤ t) × (t ≤ℤ pos (2 ^ 70))

-- the element of an entry; the newest ones aren't stale
abbrev pub element_of : Texts → Option ℤ → List Element
element_of labels None = []
element_of labels (Some value) = (labels, value) ∷ []

-- the elements of entries that aren't stale
abbrev pub elements_in : List Entry → List Element
elements_in entries = flat_map (λ (entry : Entry). element_of entry.labels entry.value) entries

-- the moments of entries
abbrev pub moments_in : List Entry → List Moment
moments_in entries = map (λ (entry : Entry). entry.at) entries

-- how long an entry counts as the newest one, in milliseconds
abbrev pub lookback : ℤ
lookback = LOOKBACK

-- the newest elements, and their moments
abbrev pub instant : List Entry → Texts → Operand
instant entries labels = operand.Selected (elements_in entries) (moments_in entries) labels

-- the samples of a range that ends at a moment
abbrev pub range_before : Store → List Matcher → ℤ → Span → Texts → Operand
range_before store asked t range labels = operand.Ranged (ranged store asked (t -ℤ range.0) t) range labels

-- what a selector gives: the newest entries before the moment, or with a range their samples
abbrev pub selected_at : Store → List Matcher → ℤ → Option Span → Texts → Operand
selected_at store asked t None labels = instant (newest store asked (t -ℤ lookback) t) labels
selected_at store asked t (Some range) labels = range_before store asked t range labels

-- a selector over a store with ambient labels, at a moment
abbrev pub selected : Texts → Store → Moment → Option (List ℕ) → List Matcher → Option Span → Option Span → Operand
selected ambient store t name matchers range offset =
    let asked = asked_of ambient name matchers in
    selected_at store asked (moment_before t offset) range (absent_labels ambient asked)
