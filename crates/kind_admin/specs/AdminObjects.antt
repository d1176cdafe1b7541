-- The administrator's objects and Secrets, each read as its kind.
use Rattle.std.specs.Prelude.{Bool, true, false, List, [], Option, Some}
use Rattle.serde_json.specs.Data.{Data}
use Rattle.op_base.specs.declared.kind.Kind.{Kind}
use Rattle.op_base.specs.declared.kind.Kind.TheVariants.{Secret, Namespace, Prometheus, Alertmanager}
use Rattle.op_manifest.specs.declared.shape.Shape.{Shape}
use Rattle.op_manifest.specs.Heads.{head_wrongs}
use Rattle.kind_admin.specs.declared.admin.AdminObject.{AdminObject}
use Rattle.kind_admin.specs.declared.admin.AdminObject.TheVariants as admin
use Rattle.kind_admin.specs.AlertmanagerTables.{alertmanager_wrongs, alertmanager_of}
use Rattle.kind_admin.specs.Namespaces.{namespace_of}
use Rattle.kind_admin.specs.PrometheusObjects.{object_wrongs, prometheus_of}
use Rattle.kind_admin.specs.Secrets.{secret_wrongs, secret_of}

-- the kind is one of these
abbrev pub is_admin : Option Kind → Bool
is_admin (Some Prometheus) = true
is_admin (Some Alertmanager) = true
is_admin (Some Namespace) = true
is_admin (Some Secret) = true
is_admin _ = false

-- all that can be wrong with an object of the kind
abbrev pub admin_wrongs : Option Kind → Data → List Shape
admin_wrongs (Some Prometheus) d = object_wrongs d
admin_wrongs (Some Alertmanager) d = alertmanager_wrongs d
admin_wrongs (Some Namespace) d = head_wrongs [] d
admin_wrongs _ d = secret_wrongs d

-- an object of the kind
abbrev pub admin_of : Option Kind → Data → AdminObject
admin_of (Some Prometheus) d = admin.Prometheus (prometheus_of d)
admin_of (Some Alertmanager) d = admin.Alertmanager (alertmanager_of d)
admin_of (Some Namespace) d = admin.Namespace (namespace_of d)
admin_of _ d = admin.Secret (secret_of d)
