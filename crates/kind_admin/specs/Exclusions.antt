-- Objects that are excluded from enforcement: a resource by its plural name, a namespace, and where it is given the
-- name of one object.
use Rattle.std.specs.Prelude.{ℕ, Bool, List, [], ◌∷◌, codes, bytes_eq, Option, Some, None, option_and_then, unwrap_or, is_some, if◌then◌else◌}
use Rattle.serde_json.specs.Data.{Data}
use Rattle.op_base.specs.declared.kind.Kind.{Kind}
use Rattle.op_base.specs.declared.kind.Kind.TheVariants.{ServiceMonitor, PodMonitor, Probe, PrometheusRule}
use Rattle.op_manifest.specs.declared.shape.TheConstants.ShapeRule.{BAD_CHOICE}
use Rattle.op_manifest.specs.Checks.{Row, may, must, ignored, text, worded}
use Rattle.op_manifest.specs.Values.{text_in}
use Rattle.op_manifest.specs.Optional.{unless_empty}
use Rattle.kind_admin.specs.declared.exclusion.Exclusion.{Exclusion}

-- the kind of the resource
abbrev pub resource_named : List ℕ → Option Kind
resource_named word =
    if bytes_eq word (codes "servicemonitors") then Some ServiceMonitor
    else if bytes_eq word (codes "podmonitors") then Some PodMonitor
    else if bytes_eq word (codes "probes") then Some Probe
    else if bytes_eq word (codes "prometheusrules") then Some PrometheusRule
    else None

-- the word is a resource's
abbrev pub is_resource : List ℕ → Bool
is_resource word = is_some (resource_named word)

-- the fields of an exclusion; its names are any texts
abbrev pub exclusion_rows : List Row
exclusion_rows =
    ignored (codes "group")
    ∷ must (codes "resource") (worded BAD_CHOICE is_resource)
    ∷ must (codes "namespace") text
    ∷ may (codes "name") text
    ∷ []

-- the kind of a resource; where none is named, which is a breach, any stands
abbrev pub resource_of : Option (List ℕ) → Kind
resource_of word = unwrap_or (option_and_then resource_named word) ServiceMonitor

-- an exclusion
unfoldable pub exclusion_of : Data → Exclusion
exclusion_of d =
    record {
      resource = resource_of (text_in (codes "resource") d);
      namespace = unwrap_or (text_in (codes "namespace") d) [];
      name = unless_empty (text_in (codes "name") d);
    }
