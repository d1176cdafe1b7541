-- The spec of an AlertmanagerConfig, and the base configuration of an Alertmanager, which is written alike.
use Rattle.std.specs.Prelude.{Bool, List, [], ◌∷◌, codes, unwrap_or}
use Rattle.serde_json.specs.Data.{Data}
use Rattle.serde_json.specs.Read.{max_depth}
use Rattle.op_manifest.specs.declared.am_spec.AmSpec.{AmSpec}
use Rattle.op_manifest.specs.declared.route.Route.{Route}
use Rattle.op_manifest.specs.Checks.{Check, Row, may, list, table}
use Rattle.op_manifest.specs.Values.{items_in}
use Rattle.op_manifest.specs.Parts.{item_in}
use Rattle.op_manifest.specs.Routes.{route_within, route_of_within, receiver, receiver_of, inhibit_rows, inhibit_of}

-- a route, which is looked at as deep as JSON texts nest
abbrev pub route : Check
route = route_within max_depth

-- the route that a value is
abbrev pub route_of : Data → Route
route_of = route_of_within max_depth

-- the fields of the spec; `base` tells whether it is the base configuration
abbrev pub am_spec_rows : Bool → List Row
am_spec_rows base =
    may (codes "route") route
    ∷ may (codes "receivers") (list (receiver base))
    ∷ may (codes "inhibitRules") (list (table inhibit_rows))
    ∷ []

-- the spec
abbrev pub am_spec : Bool → Check
am_spec base = table (am_spec_rows base)

-- the spec that a value is
unfoldable pub am_spec_of : Bool → Data → AmSpec
am_spec_of base d = record {
  route = item_in route_of (codes "route") d;
  receivers = unwrap_or (items_in (receiver_of base) (codes "receivers") d) [];
  inhibit_rules = unwrap_or (items_in inhibit_of (codes "inhibitRules") d) [];
}
