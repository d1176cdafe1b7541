-- The labels that `absent` and `absent_over_time` of a selector give. The matchers are taken in order, those
-- on `__name__` passed over. The first equality on a label gives it its value, which is none where the value
-- is empty; any other matcher takes its label away, and it isn't given again.
use Rattle.std.specs.Prelude.{ℕ, List, [], Bool, true, false, ◌&&◌, bytes_eq, fold, is_some, not, if◌then◌else◌}
use Rattle.op_base.specs.declared.matcher.Matcher.{Matcher}
use Rattle.op_base.specs.declared.matcher.MatchOp.{MatchOp}
use Rattle.op_base.specs.declared.matcher.MatchOp.TheVariants.{Eq, Ne, Re, Nr}
use Rattle.op_base.specs.Maps.{Map, value_at, with_entry, without_entry}
use Rattle.op_base.specs.Labels.{Texts, labels_with, labels_with_all}
use Rattle.op_base.specs.declared.label_names.TheConstants.{METRIC_NAME}

-- the names on which an equality came, and the labels
pub record Given : Type 0 where
  pub names : Map (Unit {0})
  pub labels : Texts

-- no label is given yet
abbrev pub nothing_given : Given
nothing_given = record { names = []; labels = [] }

-- a matcher before has been on the label
abbrev pub is_given : List ℕ → Map (Unit {0}) → Bool
is_given name names = is_some (value_at names name)

-- the matcher asks for one value
abbrev pub is_equality : MatchOp → Bool
is_equality Eq = true
is_equality Ne = false
is_equality Re = false
is_equality Nr = false

-- the first equality on a name
abbrev pub gives : Given → Matcher → Bool
gives given m = is_equality m.op && not (is_given m.name given.names)

-- an empty value is no label
abbrev pub with_label : Given → Matcher → Given
with_label given m = record { names = with_entry given.names m.name tt; labels = labels_with given.labels m.name m.value }

-- the label is given no longer
abbrev pub without_label : Given → Matcher → Given
without_label given m = record { names = given.names; labels = without_entry given.labels m.name }

-- what is given after a matcher; one on the metric's name gives nothing
abbrev pub after_matcher : Given → Matcher → Given
after_matcher given m =
    if bytes_eq m.name METRIC_NAME.now then given else if gives given m then with_label given m else without_label given m

-- the labels that the matchers give, one after the other
abbrev pub given_labels : List Matcher → Given
given_labels matchers = fold after_matcher nothing_given matchers

-- the labels of the matchers that are asked, and the ambient ones over them
abbrev pub absent_labels : Texts → List Matcher → Texts
absent_labels ambient asked = let given = given_labels asked in labels_with_all given.labels ambient
