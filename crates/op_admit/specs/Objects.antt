-- Objects of all kinds, each read as its kind.
use Rattle.std.specs.Prelude.{◌≡◌, List, [], Option, Some, None, if◌then◌else◌}
use Rattle.serde_json.specs.Data.{Data}
use Rattle.op_base.specs.Labels.{Texts}
use Rattle.op_base.specs.declared.key.Key.{Key}
use Rattle.op_base.specs.declared.kind.Kind.{Kind}
use Rattle.op_manifest.specs.declared.shape.Shape.{Shape}
use Rattle.op_manifest.specs.declared.shape.ShapeFault.{ShapeFault}
use Rattle.op_manifest.specs.declared.shape.ShapeFault.TheVariants.{Broken, NoMemory}
use Rattle.op_manifest.specs.Heads.{head_wrongs}
use Rattle.op_manifest.specs.Shapes.{first}
use Rattle.kind_admin.specs.AdminObjects.{admin_wrongs, admin_of}
use Rattle.kind_admin.specs.declared.admin.AdminObject.TheVariants as admin
use Rattle.kind_rules.specs.RuleObjects.{is_rule_kind, rules_wrongs, rules_of}
use Rattle.kind_rules.specs.declared.object.RuleObject.TheVariants as rule
use Rattle.kind_scrape.specs.ScrapeObjects.{is_scrape_kind, scrape_wrongs, scrape_of}
use Rattle.kind_scrape.specs.declared.object.ScrapeObject.TheVariants as scrape
use Rattle.op_admit.specs.declared.object.Object.{Object}
use Rattle.op_admit.specs.declared.object.Object.TheVariants.{Scrape, Rules, Admin}

-- all that can be wrong with an object of the kind; where none is named, that is a breach of the head
abbrev pub object_wrongs : Option Kind → Data → List Shape
object_wrongs None d = head_wrongs [] d
object_wrongs (Some kind) d =
    if is_scrape_kind (Some kind) then scrape_wrongs (Some kind) d
    else if is_rule_kind (Some kind) then rules_wrongs (Some kind) d
    else admin_wrongs (Some kind) d

-- an object of the kind
abbrev pub object_of : Option Kind → Data → Option Object
object_of None d = None
object_of (Some kind) d =
    if is_scrape_kind (Some kind) then Some (Scrape (scrape_of (Some kind) d))
    else if is_rule_kind (Some kind) then Some (Rules (rules_of (Some kind) d))
    else Some (Admin (admin_of (Some kind) d))

-- the fault tells the first of the breaches, of which there is one
abbrev pub IsFirstOf : ShapeFault → List Shape → Type 0
IsFirstOf (Broken shape) wrongs = first wrongs ≡ Some shape
IsFirstOf NoMemory wrongs = Unit {0}

-- what names the object
abbrev pub key_of : Object → Key
key_of (Scrape (scrape.Service monitor)) = monitor.key
key_of (Scrape (scrape.Pod monitor)) = monitor.key
key_of (Scrape (scrape.Probe probe)) = probe.key
key_of (Rules (rule.Rules rules)) = rules.key
key_of (Rules (rule.Routes routes)) = routes.key
key_of (Admin (admin.Prometheus prometheus)) = prometheus.key
key_of (Admin (admin.Alertmanager alertmanager)) = alertmanager.key
key_of (Admin (admin.Namespace namespace)) = namespace.key
key_of (Admin (admin.Secret secret)) = secret.key

-- its labels
abbrev pub tags_of : Object → Texts
tags_of (Scrape (scrape.Service monitor)) = monitor.tags
tags_of (Scrape (scrape.Pod monitor)) = monitor.tags
tags_of (Scrape (scrape.Probe probe)) = probe.tags
tags_of (Rules (rule.Rules rules)) = rules.tags
tags_of (Rules (rule.Routes routes)) = routes.tags
tags_of (Admin (admin.Prometheus prometheus)) = prometheus.tags
tags_of (Admin (admin.Alertmanager alertmanager)) = alertmanager.tags
tags_of (Admin (admin.Namespace namespace)) = namespace.tags
tags_of (Admin (admin.Secret secret)) = secret.tags
