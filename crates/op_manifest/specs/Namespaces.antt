-- The namespaces in which a monitor looks for objects.
use Rattle.std.specs.Prelude.{false, List, [], ◌∷◌, codes, unwrap_or}
use Rattle.serde_json.specs.Data.{Data}
use Rattle.op_base.specs.Names.{is_namespace}
use Rattle.op_manifest.specs.declared.namespaces.NamespaceSelector.{NamespaceSelector}
use Rattle.op_manifest.specs.declared.shape.TheConstants.ShapeRule.{BAD_NAME}
use Rattle.op_manifest.specs.Checks.{Row, may, flag, list, worded}
use Rattle.op_manifest.specs.Values.{text_of, flag_in, items_in}

-- the fields
abbrev pub namespaces_rows : List Row
namespaces_rows =
    may (codes "any") flag
    ∷ may (codes "matchNames") (list (worded BAD_NAME is_namespace))
    ∷ []

-- any namespace, or those that are named
unfoldable pub namespaces_of : Data → NamespaceSelector
namespaces_of d =
    record {
      any = unwrap_or (flag_in (codes "any") d) false;
      match_names = unwrap_or (items_in text_of (codes "matchNames") d) [];
    }
