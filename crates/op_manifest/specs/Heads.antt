-- The head of a manifest, as Kubernetes objects have it: apiVersion and kind, and in `metadata` namespace, name and
-- labels. All else of `metadata`, and `status`, is passed over.
use Rattle.std.specs.Prelude.{ℕ, Bool, true, false, List, [], ◌∷◌, ◌++◌, Option, Some, None, option_and_then, unwrap_or, is_some, codes, if◌then◌else◌}
use Rattle.std.specs.Option.{option_map_or}
use Rattle.serde_json.specs.Data.{Data, null}
use Rattle.serde_json.specs.Find.{as_str, as_object}
use Rattle.op_base.specs.declared.key.Key.{Key}
use Rattle.op_base.specs.declared.kind.Kind.{Kind}
use Rattle.op_base.specs.declared.kind.Kind.TheVariants.{ServiceMonitor, PodMonitor, Probe, PrometheusRule, AlertmanagerConfig, Secret, Namespace, Prometheus, Alertmanager}
use Rattle.op_base.specs.Keys.{kind_name}
use Rattle.op_base.specs.Labels.{Texts}
use Rattle.op_base.specs.Names.{is_namespace, is_name}
use Rattle.op_json.specs.Reading.{is_text}
use Rattle.op_manifest.specs.declared.head.Head.{Head}
use Rattle.op_manifest.specs.declared.shape.TheConstants.ShapeRule.{UNKNOWN_KIND, BAD_NAME, WRONG_TYPE}
use Rattle.op_manifest.specs.Checks.{Check, field, known, optional, required, worded}
use Rattle.op_manifest.specs.Maps.{map_in, tags}
use Rattle.op_manifest.specs.Shapes.{path_to, wrong, unless}
use Rattle.op_manifest.specs.Values.{text_in}

-- the `apiVersion` that goes with a kind
abbrev pub version_of : Kind → List ℕ
version_of ServiceMonitor = codes "monitoring.coreos.com/v1"
version_of PodMonitor = codes "monitoring.coreos.com/v1"
version_of Probe = codes "monitoring.coreos.com/v1"
version_of PrometheusRule = codes "monitoring.coreos.com/v1"
version_of AlertmanagerConfig = codes "monitoring.coreos.com/v1alpha1"
version_of Secret = codes "v1"
version_of Namespace = codes "v1"
version_of Prometheus = codes "monitoring.coreos.com/v1"
version_of Alertmanager = codes "monitoring.coreos.com/v1"

-- all kinds
abbrev pub kinds : List Kind
kinds =
    ServiceMonitor ∷ PodMonitor ∷ Probe ∷ PrometheusRule ∷ AlertmanagerConfig ∷ Secret ∷ Namespace ∷ Prometheus ∷ Alertmanager ∷ []

-- the first of the kinds with the name
abbrev pub kind_among : List Kind → List ℕ → Option Kind
kind_among [] name = None
kind_among (kind ∷ kinds) name = if is_text (kind_name kind) name then Some kind else kind_among kinds name

-- the kind with the name
unfoldable pub kind_named : List ℕ → Option Kind
kind_named name = kind_among kinds name

-- a Namespace object is in no namespace
abbrev pub is_namespaced : Kind → Bool
is_namespaced Namespace = false
is_namespaced _ = true

-- a Secret
abbrev pub is_secret : Kind → Bool
is_secret Secret = true
is_secret _ = false

-- the fields of a Secret
abbrev pub secret_fields : List (List ℕ)
secret_fields =
    codes "apiVersion" ∷ codes "data" ∷ codes "immutable" ∷ codes "kind" ∷ codes "metadata" ∷ codes "status" ∷ codes "stringData" ∷ codes "type" ∷ []

-- the fields of any other manifest
abbrev pub spec_fields : List (List ℕ)
spec_fields = codes "apiVersion" ∷ codes "kind" ∷ codes "metadata" ∷ codes "spec" ∷ codes "status" ∷ []

-- the fields of a manifest
abbrev pub fields_of : Kind → List (List ℕ)
fields_of kind = if is_secret kind then secret_fields else spec_fields

-- an object
unfoldable pub object : Check
object path d = unless (is_some (as_object d)) WRONG_TYPE path

-- a field by which the kind is known: where it is absent too, no kind is
unfoldable pub naming : (List ℕ → Bool) → List ℕ → Check
naming passes name path d =
    option_map_or (worded UNKNOWN_KIND passes (path_to path name)) (field name d) (wrong UNKNOWN_KIND (path_to path name))

-- the kind that `kind` names
unfoldable pub named_kind : Data → Option Kind
named_kind d = option_and_then kind_named (option_and_then as_str (field (codes "kind") d))

-- the kind; where none is named, which is a breach, any stands
abbrev pub kind_of : Data → Kind
kind_of d = unwrap_or (named_kind d) ServiceMonitor

-- `kind` comes before `apiVersion`
abbrev pub kind_wrongs : Check
kind_wrongs path d =
    naming (λ name. is_some (kind_named name)) (codes "kind") path d
    ++ naming (is_text (version_of (kind_of d))) (codes "apiVersion") path d

-- the kind that `kind` and `apiVersion` name together
unfoldable pub kind_in : Data → Option Kind
kind_in d =
    option_and_then (λ kind. if option_map_or (is_text (version_of kind)) (text_in (codes "apiVersion") d) false then Some kind else None) (named_kind d)

-- the namespace, which a Namespace object hasn't
abbrev pub namespace_wrongs : Kind → Check
namespace_wrongs kind path d =
    if is_namespaced kind then optional (worded BAD_NAME is_namespace) (codes "namespace") path d else []

-- the namespace comes before the name
abbrev pub metadata : Kind → Check
metadata kind path d =
    object path d ++ namespace_wrongs kind path d ++ required (worded BAD_NAME is_name) (codes "name") path d

-- all that can be wrong with what names the object
abbrev pub key_wrongs : Check
key_wrongs path d = object path d ++ kind_wrongs path d ++ required (metadata (kind_of d)) (codes "metadata") path d

-- the namespace of an object's metadata; an absent one is `default`
abbrev pub namespace_in : Kind → Data → List ℕ
namespace_in kind d = if is_namespaced kind then unwrap_or (text_in (codes "namespace") d) (codes "default") else []

-- the key that an object's metadata give
abbrev pub key_in : Kind → Data → Key
key_in kind d = record { kind = kind; namespace = namespace_in kind d; name = unwrap_or (text_in (codes "name") d) [] }

-- the metadata, or null where there are none
abbrev pub metadata_of : Data → Data
metadata_of d = unwrap_or (field (codes "metadata") d) null

-- the key
abbrev pub key_of : Data → Key
key_of d = key_in (kind_of d) (metadata_of d)

-- all that can be wrong with the labels, which stand in the metadata
abbrev pub tags_wrongs : Check
tags_wrongs path d = optional tags (codes "labels") (path_to path (codes "metadata")) (metadata_of d)

-- the labels
abbrev pub tags_of : Data → Texts
tags_of d = unwrap_or (map_in (codes "labels") (metadata_of d)) []

-- all that can be wrong with the head: what names the object, the labels, and then the manifest's other fields
abbrev pub head_wrongs : Check
head_wrongs path d = key_wrongs path d ++ tags_wrongs path d ++ known (fields_of (kind_of d)) path d

-- the head
abbrev pub head_of : Data → Head
head_of d = record { key = key_of d; tags = tags_of d }
