-- The targets of a job, by the job's own steps. After Prometheus on scrape configurations.
use Rattle.std.specs.Prelude.{ℕ, List, [], ◌∷◌, ◌++◌, Bool, not, Option, Some, None, codes, filter, fold, drop, is_some, option_map, option_and_then, nat_eq, if◌then◌else◌}
use Rattle.std.specs.List.{filter_map, starts_with}
use Rattle.form_urlencoded.specs.Form.{append_pair}
use Rattle.op_base.specs.Maps.{value_at, without_entry}
use Rattle.op_base.specs.Labels.{Texts, labels_with, labels_with_all}
use Rattle.op_base.specs.Matchers.{label_value}
use Rattle.op_relabel.specs.Relabelled.{relabelled}
use Rattle.cfg_types.specs.declared.job.Job.{Job}
use Rattle.srv_scrape.specs.declared.target.Target.{Target}

-- the label that holds a target's host and port
abbrev pub ADDRESS : List ℕ
ADDRESS = codes "__address__"

-- the label that holds the scheme of a target's URL
abbrev pub SCHEME : List ℕ
SCHEME = codes "__scheme__"

-- the label that holds the path of a target's URL
abbrev pub METRICS_PATH : List ℕ
METRICS_PATH = codes "__metrics_path__"

-- the front of a label that holds a parameter of a target's URL
abbrev pub PARAMETER : List ℕ
PARAMETER = codes "__param_"

-- the label, where none of its name is there
abbrev pub with_default : List ℕ → List ℕ → Texts → Texts
with_default name value labels = if is_some (value_at labels name) then labels else labels_with labels name value

-- texts as labels: those that aren't empty
abbrev pub as_labels : Texts → Texts
as_labels texts = labels_with_all [] texts

-- the labels with the address, in place of any that they have
abbrev pub with_address : List ℕ → Texts → Texts
with_address address labels = labels_with (without_entry labels ADDRESS) ADDRESS address

-- where they have none, `job`, `__scheme__` and `__metrics_path__` of the job
abbrev pub with_job : Job → Texts → Texts
with_job job labels =
    with_default METRICS_PATH job.metrics_path (with_default SCHEME job.scheme (with_default (codes "job") job.job_name labels))

-- a static target before the job's steps
abbrev pub discovered : Job → List ℕ → Texts
discovered job address = with_job job (with_address address (as_labels job.static_configs.labels))

-- the name of the parameter that a label of this name gives
abbrev pub parameter_name : List ℕ → Option (List ℕ)
parameter_name name = if starts_with nat_eq name PARAMETER then Some (drop 8 name) else None

-- the parameter that a label gives
abbrev pub parameter_of : List ℕ × List ℕ → Option (List ℕ × List ℕ)
parameter_of label = option_map (λ name. (name, label.1)) (parameter_name label.0)

-- the labels' parameters, in the order of their names
abbrev pub parameters_of : Texts → List (List ℕ × List ℕ)
parameters_of labels = filter_map parameter_of labels

-- the parameters as a form
abbrev pub form_of : List (List ℕ × List ℕ) → List ℕ
form_of parameters = fold (λ form pair. append_pair form pair.0 pair.1) [] parameters

-- `?` and the form, where there are parameters
abbrev pub query_of : List (List ℕ × List ℕ) → List ℕ
query_of [] = []
query_of (pair ∷ pairs) = codes "?" ++ form_of (pair ∷ pairs)

-- SCHEME://ADDRESS and the path, by the labels that stand then, and the parameters
abbrev pub url_of : Texts → List ℕ
url_of labels =
    label_value labels SCHEME ++ codes "://" ++ label_value labels ADDRESS ++ label_value labels METRICS_PATH
    ++ query_of (parameters_of labels)

-- the label is the target's own: its name doesn't begin with `__`
abbrev pub is_kept : List ℕ × List ℕ → Bool
is_kept label = not (starts_with nat_eq label.0 (codes "__"))

-- the labels of a target: `instance` is the address where it is missing, and labels that begin with `__` go
abbrev pub target_labels : Texts → Texts
target_labels labels = filter is_kept (with_default (codes "instance") (label_value labels ADDRESS) labels)

-- the target that labels are after the steps; without an address there is none
abbrev pub target_from : Texts → Option Target
target_from labels =
    if is_some (value_at labels ADDRESS) then Some (record { labels = target_labels labels; url = url_of labels }) else None

-- the target of a static address; an address that the steps drop gives none
abbrev pub target_at : Job → List ℕ → Option Target
target_at job address = option_and_then target_from (relabelled job.relabel_configs (discovered job address))

-- the targets of a job, in the order of its static ones
abbrev pub job_targets : Job → List Target
job_targets job = filter_map (target_at job) job.static_configs.targets
