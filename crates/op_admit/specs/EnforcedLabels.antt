-- The label that is enforced upon an object, after the Prometheus Operator's API reference.
use Rattle.std.specs.Prelude.{ℕ, Bool, true, ◌&&◌, List, Option, None, option_and_then, bytes_eq, if◌then◌else◌}
use Rattle.std.specs.List.{list_any}
use Rattle.std.specs.Option.{option_map_or}
use Rattle.op_base.specs.Keys.{kind_name}
use Rattle.op_base.specs.declared.key.Key.{Key}
use Rattle.kind_admin.specs.declared.admin.Settings.{Settings}
use Rattle.kind_admin.specs.declared.exclusion.Exclusion.{Exclusion}
use Rattle.kind_admin.specs.declared.prometheus.PrometheusSpec.{PrometheusSpec}
use Rattle.op_admit.specs.declared.object.Object.{Object}
use Rattle.op_admit.specs.Objects.{key_of}

-- the exclusion names the object: its kind and its namespace, with its name or with none
abbrev pub excludes : Key → Exclusion → Bool
excludes key exclusion =
    bytes_eq (kind_name exclusion.resource) (kind_name key.kind) && bytes_eq exclusion.namespace key.namespace
    && option_map_or (λ name. bytes_eq name key.name) exclusion.name true

-- the Prometheus object's label, unless an exclusion names the object
abbrev pub label_upon : Key → PrometheusSpec → Option (List ℕ)
label_upon key prometheus =
    if list_any (excludes key) prometheus.excluded_from_enforcement then None else prometheus.enforced_namespace_label

-- the label that is enforced upon the object; its value is the object's namespace
abbrev pub enforced_label : Settings → Object → Option (List ℕ)
enforced_label settings object = option_and_then (label_upon (key_of object)) settings.prometheus
