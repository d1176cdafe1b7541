-- The configuration of the objects present, made from them alone. Until settings are read, every
-- object is selected and enforced with the label `namespace`.
use Rattle.std.specs.Prelude.{ℕ, List, [], ◌∷◌, Option, Some, None, false, codes, map, option_map}
use Rattle.std.specs.List.{filter_map}
use Rattle.op_base.specs.declared.label_names.TheConstants.{NAMESPACE_LABEL}
use Rattle.op_relabel.specs.declared.step.Step.{Step}
use Rattle.op_relabel.specs.Steps.{copy_step, put_step}
use Rattle.cfg_types.specs.declared.config.Config.{Config}
use Rattle.cfg_types.specs.declared.config.PromPart.{PromPart}
use Rattle.cfg_types.specs.declared.config.RuleFile.{RuleFile}
use Rattle.cfg_types.specs.declared.config.Group.{Group}
use Rattle.cfg_types.specs.declared.config.Rule.{Rule}
use Rattle.cfg_types.specs.declared.job.Job.{Job}
use Rattle.ql_tree.specs.Enforced.{enforced}
use Rattle.ql_tree.specs.declared.tree.Expr.{Expr}
use Rattle.op_thin.specs.declared.compiled.TheConstants.{INTERVAL, TIMEOUT}
use Rattle.op_thin.specs.declared.recording.Recording.{Recording}
use Rattle.op_thin.specs.declared.rule.ThinRule.{ThinRule}
use Rattle.op_thin.specs.declared.probe.ThinProbe.{ThinProbe}
use Rattle.op_thin.specs.Judged.{judged_expr}
use Rattle.op_thin.specs.Objects.{Present, all_of}
use Rattle.op_thin.specs.FileOrder.{in_order}
use Rattle.op_thin.specs.ThinProbes.{job_name}

-- each selector asks for entries of the rule's own namespace
abbrev pub enforced_expr : Recording → Expr
enforced_expr rule = enforced NAMESPACE_LABEL.now rule.namespace rule.tree

-- the rule with the enforced label among its labels
abbrev pub config_rule : Recording → Rule
config_rule rule = record {
  name = rule.record_name;
  expr = enforced_expr rule;
  labels = (NAMESPACE_LABEL.now, rule.namespace) ∷ [];
}

-- the rule group of one recording rule
abbrev pub group_of : Recording → Group
group_of rule = record { name = rule.group; rules = config_rule rule ∷ [] }

-- the rule file of one recording rule, of its object's namespace and name
abbrev pub file_of : Recording → RuleFile
file_of rule = record { namespace = rule.namespace; name = rule.name; groups = group_of rule ∷ [] }

-- the enforced label is put last
abbrev pub enforced_step : List ℕ → Step
enforced_step namespace = put_step NAMESPACE_LABEL.now namespace

-- the target is the prober's parameter and the instance, and the prober is asked in its place
abbrev pub probe_steps : ThinProbe → List Step
probe_steps probe =
    copy_step (codes "__address__") (codes "__param_target")
    ∷ copy_step (codes "__param_target") (codes "instance")
    ∷ put_step (codes "__address__") probe.url
    ∷ enforced_step probe.namespace
    ∷ []

-- the job of a probe
abbrev pub job_of : ThinProbe → Job
job_of probe = record {
  honor_labels = false;
  job_name = job_name probe;
  metric_relabel_configs = enforced_step probe.namespace ∷ [];
  metrics_path = codes "/probe";
  relabel_configs = probe_steps probe;
  sample_limit = None;
  scheme = codes "http";
  scrape_interval = INTERVAL;
  scrape_timeout = TIMEOUT;
  static_configs = record { labels = (NAMESPACE_LABEL.now, probe.namespace) ∷ []; targets = probe.target ∷ [] };
}

-- the Prometheus part: the settings that stand, and the jobs by namespace and name
abbrev pub prometheus_of : List ThinProbe → PromPart
prometheus_of probes = record {
  evaluation_interval = INTERVAL;
  external_labels = [];
  scrape_interval = INTERVAL;
  scrape_timeout = TIMEOUT;
  jobs = map job_of probes;
}

-- the rule with a tree of its expression
abbrev pub with_tree : ThinRule → Expr → Recording
with_tree rule tree = record {
  namespace = rule.namespace;
  name = rule.name;
  group = rule.group;
  record_name = rule.record_name;
  tree = tree;
}

-- the rule, where its expression is taken; one whose object is skipped contributes nothing
abbrev pub recording_of : ThinRule → Option Recording
recording_of rule = option_map (with_tree rule) (judged_expr rule.judged)

-- the configuration: the jobs, and the rule files in the order of their texts
abbrev pub config_of : Present → Config
config_of objects = record {
  prometheus = Some (prometheus_of (all_of objects.probes));
  rules = in_order (map file_of (filter_map recording_of (all_of objects.rules)));
}
