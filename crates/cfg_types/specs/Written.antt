-- The JSON of a configuration; the bytes that are written for it are its compact text.
use Rattle.std.specs.Prelude.{ℕ, List, [], ◌∷◌, ◌++◌, Option, Some, None, IfSome, map, codes}
use Rattle.std.specs.List.{AllByRecursion}
use Rattle.op_json.specs.Json.{Json, null, text, array_of, object_of, json_text}
use Rattle.cfg_types.specs.declared.config.Config.{Config}
use Rattle.cfg_types.specs.declared.config.PromPart.{PromPart}
use Rattle.cfg_types.specs.declared.config.RuleFile.{RuleFile}
use Rattle.cfg_types.specs.declared.config.Group.{Group}
use Rattle.cfg_types.specs.declared.config.Rule.{Rule}
use Rattle.cfg_types.specs.Jobs.{job_json, HasText, HasJobSpans}
use Rattle.ql_tree.specs.Printed.{printed}
use Rattle.cfg_types.specs.Texts.{texts_json, labels_field, span_json}

-- {"expr":EXPR,"labels":LABELS,"record":NAME}
abbrev pub rule_json : Rule → Json
rule_json rule = object_of (((codes "expr", text (printed rule.expr)) ∷ (codes "record", text rule.name) ∷ []) ++ labels_field rule.labels)

-- {"name":NAME,"rules":[RULE]}
abbrev pub group_json : Group → Json
group_json group = object_of ((codes "name", text group.name) ∷ (codes "rules", array_of (map rule_json group.rules)) ∷ [])

-- the name of a rule file: NAMESPACE/NAME
abbrev pub file_text : RuleFile → List ℕ
file_text file = file.namespace ++ codes "/" ++ file.name

-- {"groups":[GROUP]}
abbrev pub file_json : RuleFile → Json
file_json file = object_of ((codes "groups", array_of (map group_json file.groups)) ∷ [])

-- {"evaluation_interval":SPAN,"external_labels":LABELS,"scrape_interval":SPAN,"scrape_timeout":SPAN}
abbrev pub global_json : PromPart → Json
global_json part = object_of
    ((codes "evaluation_interval", span_json part.evaluation_interval)
    ∷ (codes "external_labels", texts_json part.external_labels)
    ∷ (codes "scrape_interval", span_json part.scrape_interval)
    ∷ (codes "scrape_timeout", span_json part.scrape_timeout)
    ∷ [])

-- {"global":GLOBAL,"scrape_configs":[JOB]}
abbrev pub part_json : PromPart → Json
part_json part = object_of
    ((codes "global", global_json part) ∷ (codes "scrape_configs", array_of (map job_json part.jobs)) ∷ [])

-- the part, or null where there is none
abbrev pub prometheus_json : Option PromPart → Json
prometheus_json None = null
prometheus_json (Some part) = part_json part

-- {"alertmanager":null,"prometheus":PART,"rules":{FILE:{"groups":[GROUP]}}}
abbrev pub config_json : Config → Json
config_json config = object_of
    ((codes "alertmanager", null)
    ∷ (codes "prometheus", prometheus_json config.prometheus)
    ∷ (codes "rules", object_of (map (λ file. (file_text file, file_json file)) config.rules))
    ∷ [])

-- the bytes of a configuration
abbrev pub config_text : Config → List ℕ
config_text config = json_text (config_json config)

-- the spans of the Prometheus part have texts, and those of its jobs
abbrev pub HasPartSpans : PromPart → Type 0
HasPartSpans part =
    (HasText part.evaluation_interval × HasText part.scrape_interval × HasText part.scrape_timeout)
    × AllByRecursion HasJobSpans part.jobs

-- all spans of a configuration have texts
abbrev pub HasSpans : Config → Type 0
HasSpans config = IfSome config.prometheus HasPartSpans
