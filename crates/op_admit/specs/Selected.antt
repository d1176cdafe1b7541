-- Which objects the settings choose, after the Prometheus Operator's API reference: for each kind a selector on the
-- labels of objects and one on those of their namespaces, in the Prometheus object, or in the Alertmanager object for
-- AlertmanagerConfigs.
use Rattle.std.specs.Prelude.{ℕ, Bool, true, false, ◌&&◌, List, Option, Some, None, bytes_eq}
use Rattle.std.specs.Option.{option_map_or}
use Rattle.op_base.specs.Labels.{Texts}
use Rattle.op_base.specs.Maps.{with_entry}
use Rattle.op_base.specs.Selectors.{chosen}
use Rattle.op_base.specs.declared.key.Key.{Key}
use Rattle.op_base.specs.declared.selector.Selector.{Selector}
use Rattle.kind_admin.specs.declared.admin.Settings.{Settings}
use Rattle.kind_admin.specs.declared.prometheus.PrometheusSpec.{PrometheusSpec}
use Rattle.kind_rules.specs.declared.object.RuleObject.TheVariants as rule
use Rattle.kind_scrape.specs.declared.object.ScrapeObject.{ScrapeObject}
use Rattle.kind_scrape.specs.declared.object.ScrapeObject.TheVariants as scrape
use Rattle.op_admit.specs.declared.namespace_tags.TheConstants.{NAMESPACE_NAME_TAG}
use Rattle.op_admit.specs.declared.object.Object.{Object}
use Rattle.op_admit.specs.declared.object.Object.TheVariants.{Scrape, Rules, Admin}

-- the object is of a kind that is compiled: one that scrapes, a PrometheusRule or an AlertmanagerConfig
abbrev pub is_compiled : Object → Bool
is_compiled (Scrape object) = true
is_compiled (Rules object) = true
is_compiled (Admin object) = false

-- the tags of a namespace: those of its Namespace object, and always its name at `kubernetes.io/metadata.name`
abbrev pub namespace_tags : List ℕ → Texts → Texts
namespace_tags namespace tags = with_entry tags NAMESPACE_NAME_TAG.now namespace

-- the selector on objects is there and holds; an absent one chooses nothing
abbrev pub takes_object : Option Selector → Texts → Bool
takes_object None tags = false
takes_object (Some selector) tags = chosen selector tags

-- the selector on namespaces holds; an absent one chooses the settings object's own namespace, an empty one all
abbrev pub takes_namespace : Option Selector → List ℕ → List ℕ → Texts → Bool
takes_namespace None own namespace tags = bytes_eq namespace own
takes_namespace (Some selector) own namespace tags = chosen selector (namespace_tags namespace tags)

-- both hold, for a settings object in the namespace `own`, and an object of that key and labels, where `tags` are those
-- of the object's Namespace object
abbrev pub takes : Option Selector → Option Selector → List ℕ → Texts → Key → Texts → Bool
takes objects namespaces own tags key labels =
    takes_object objects labels && takes_namespace namespaces own key.namespace tags

-- the Prometheus object chooses an object that scrapes by the selectors for its kind
abbrev pub takes_scrape : PrometheusSpec → Texts → ScrapeObject → Bool
takes_scrape p tags (scrape.Service monitor) =
    takes p.service_monitor_selector p.service_monitor_namespace_selector p.key.namespace tags monitor.key monitor.tags
takes_scrape p tags (scrape.Pod monitor) =
    takes p.pod_monitor_selector p.pod_monitor_namespace_selector p.key.namespace tags monitor.key monitor.tags
takes_scrape p tags (scrape.Probe probe) =
    takes p.probe_selector p.probe_namespace_selector p.key.namespace tags probe.key probe.tags

-- the settings object for the kind is present and chooses the object; an object that isn't compiled none chooses
abbrev pub selected : Settings → Texts → Object → Bool
selected settings tags (Scrape object) = option_map_or (λ p. takes_scrape p tags object) settings.prometheus false
selected settings tags (Rules (rule.Rules rules)) =
    option_map_or (λ p. takes p.rule_selector p.rule_namespace_selector p.key.namespace tags rules.key rules.tags)
    settings.prometheus false
selected settings tags (Rules (rule.Routes routes)) =
    option_map_or
    (λ a. takes a.alertmanager_config_selector a.alertmanager_config_namespace_selector a.key.namespace tags routes.key routes.tags)
    settings.alertmanager false
selected settings tags (Admin object) = false
