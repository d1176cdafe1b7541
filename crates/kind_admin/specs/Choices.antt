-- Which objects of a kind are taken: by a selector on their labels, and one on those of their namespaces.
use Rattle.std.specs.Prelude.{ℕ, List, ◌++◌}
use Rattle.serde_json.specs.Data.{Data}
use Rattle.op_manifest.specs.Checks.{Check, Row, optional}
use Rattle.op_manifest.specs.Selectors.{selector, selector_in}
use Rattle.kind_admin.specs.declared.choice.Choice.{Choice}

-- the field of the selector on objects, then that on namespaces
unfoldable pub choice_wrongs : List ℕ → List ℕ → Check
choice_wrongs objects namespaces path d = optional selector objects path d ++ optional selector namespaces path d

-- the row of both fields
abbrev pub choosing : List ℕ → List ℕ → Row
choosing objects namespaces = record { name = objects; wrongs = choice_wrongs objects namespaces }

-- both selectors
abbrev pub choice_in : List ℕ → List ℕ → Data → Choice
choice_in objects namespaces d = record { objects = selector_in objects d; namespaces = selector_in namespaces d }
