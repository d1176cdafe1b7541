-- What the bytes of a manifest are.
use Rattle.std.specs.Prelude.{◌≡◌, ℕ, Bool, true, List, Option, Some, None}
use Rattle.serde_json.specs.Data.{Data}
use Rattle.op_base.specs.Names.{is_namespace}
use Rattle.op_json.specs.Reading.{json_of}
use Rattle.op_thin.specs.declared.item.Item.{Item}
use Rattle.op_thin.specs.declared.item.Item.TheVariants.{Broken, NotYet, Rule, Probe}
use Rattle.op_thin.specs.declared.rule.ThinRule.{ThinRule}
use Rattle.op_thin.specs.declared.probe.ThinProbe.{ThinProbe}
use Rattle.op_thin.specs.Judged.{IsTyped}
use Rattle.op_thin.specs.ThinRules.{thin_rule_of}
use Rattle.op_thin.specs.ThinProbes.{thin_probe_of, is_thin_text}

-- a thin rule, or else a thin probe, or else of a form that isn't read yet
abbrev pub item_of_objects : Option ThinRule → Option ThinProbe → Item
item_of_objects (Some rule) probe = Rule rule
item_of_objects None (Some probe) = Probe probe
item_of_objects None None = NotYet

-- what a value is, where the bytes are JSON at all
abbrev pub item_of_json : Option Data → Item
item_of_json None = Broken
item_of_json (Some d) = item_of_objects (thin_rule_of d) (thin_probe_of d)

-- what the bytes of a manifest are
abbrev pub item_of : List ℕ → Item
item_of bytes = item_of_json (json_of bytes)

-- a probe's namespace is well formed, and its texts are thin
abbrev pub IsThinProbe : ThinProbe → Type 0
IsThinProbe probe =
    (is_namespace probe.namespace ≡ true) × (is_thin_text probe.url ≡ true) × (is_thin_text probe.target ≡ true)

-- an object's namespace is well formed, and a probe's texts are thin
abbrev pub IsNamed : Item → Type 0
IsNamed Broken = Unit {0}
IsNamed NotYet = Unit {0}
IsNamed (Rule rule) = is_namespace rule.namespace ≡ true
IsNamed (Probe probe) = IsThinProbe probe

-- the expression of a rule that is taken is a scalar or a vector
abbrev pub IsJudged : Item → Type 0
IsJudged Broken = Unit {0}
IsJudged NotYet = Unit {0}
IsJudged (Rule rule) = IsTyped rule.judged
IsJudged (Probe probe) = Unit {0}
