-- Alertmanager objects, after the API reference of `monitoring.coreos.com/v1`: the head of the manifest, then `spec`,
-- which has to stand. Its fields in reading order, and what they are read as; all other fields are passed over.
use Rattle.std.specs.Prelude.{ℕ, Bool, true, List, [], ◌∷◌, ◌++◌, Option, Some, None, codes, bytes_eq, is_some, option_and_then, unwrap_or, if◌then◌else◌}
use Rattle.serde_json.specs.Data.{Data, null}
use Rattle.op_manifest.specs.declared.shape.Shape.{Shape}
use Rattle.op_manifest.specs.declared.shape.TheConstants.ShapeRule.{BAD_CHOICE}
use Rattle.op_manifest.specs.AmSpecs.{am_spec, am_spec_of}
use Rattle.op_manifest.specs.Checks.{Row, field, may, required, rows_wrongs, table, worded}
use Rattle.op_manifest.specs.Heads.{head_wrongs, key_of, tags_of}
use Rattle.op_manifest.specs.Parts.{item_in}
use Rattle.op_manifest.specs.Values.{text_in}
use Rattle.kind_admin.specs.declared.alertmanager.AlertmanagerParts.{AlertmanagerParts}
use Rattle.kind_admin.specs.declared.alertmanager.AlertmanagerSpec.{AlertmanagerSpec}
use Rattle.kind_admin.specs.declared.strategy.MatcherStrategy.{MatcherStrategy}
use Rattle.kind_admin.specs.declared.strategy.MatcherStrategy.TheVariants.{OnNamespace, NoMatcher}
use Rattle.kind_admin.specs.Choices.{choosing, choice_in}
use Rattle.kind_admin.specs.OpenTables.{never, an_object}

-- the strategy of a word
abbrev pub strategy_named : List ℕ → Option MatcherStrategy
strategy_named word =
    if bytes_eq word (codes "OnNamespace") then Some OnNamespace
    else if bytes_eq word (codes "None") then Some NoMatcher
    else None

-- the word is a strategy's
abbrev pub is_strategy : List ℕ → Bool
is_strategy word = is_some (strategy_named word)

-- the fields of the strategy
abbrev pub strategy_rows : List Row
strategy_rows = may (codes "type") (worded BAD_CHOICE is_strategy) ∷ []

-- the strategy of a word that may be absent
abbrev pub strategy_or_default : Option (List ℕ) → MatcherStrategy
strategy_or_default word = unwrap_or (option_and_then strategy_named word) OnNamespace

-- the strategy
unfoldable pub strategy_of : Data → MatcherStrategy
strategy_of d = strategy_or_default (text_in (codes "type") d)

-- the fields of `spec`: at first those that would change what the object means, in the order of their bytes
abbrev pub alertmanager_rows : List Row
alertmanager_rows =
    an_object
    ∷ never (codes "alertmanagerConfiguration")
    ∷ never (codes "configSecret")
    ∷ choosing (codes "alertmanagerConfigSelector") (codes "alertmanagerConfigNamespaceSelector")
    ∷ may (codes "alertmanagerConfigMatcherStrategy") (table strategy_rows)
    ∷ may (codes "baseConfig") (am_spec true)
    ∷ []

-- what `spec` is read as
unfoldable pub parts_of : Data → AlertmanagerParts
parts_of d =
    record {
      configs = choice_in (codes "alertmanagerConfigSelector") (codes "alertmanagerConfigNamespaceSelector") d;
      strategy = unwrap_or (item_in strategy_of (codes "alertmanagerConfigMatcherStrategy") d) OnNamespace;
      base_config = item_in (am_spec_of true) (codes "baseConfig") d;
    }

-- all that can be wrong with `spec`
abbrev pub spec_wrongs : Data → List Shape
spec_wrongs d = required (rows_wrongs alertmanager_rows) (codes "spec") [] d

-- what the object's `spec` is read as
abbrev pub spec_parts : Data → AlertmanagerParts
spec_parts d = parts_of (unwrap_or (field (codes "spec") d) null)

-- all that can be wrong with an object
abbrev pub alertmanager_wrongs : Data → List Shape
alertmanager_wrongs d = head_wrongs [] d ++ spec_wrongs d

-- an object
abbrev pub alertmanager_of : Data → AlertmanagerSpec
alertmanager_of d =
    record {
      key = key_of d;
      tags = tags_of d;
      alertmanager_config_selector = (spec_parts d).configs.objects;
      alertmanager_config_namespace_selector = (spec_parts d).configs.namespaces;
      alertmanager_config_matcher_strategy = (spec_parts d).strategy;
      base_config = (spec_parts d).base_config;
    }
