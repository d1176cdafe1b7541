-- Parameters of a URL: a map from names to lists of texts, in the order of the names. An entry that is null is no entry.
use Rattle.std.specs.Prelude.{ℕ, List, [], ◌∷◌, ◌++◌, option_and_then}
use Rattle.std.specs.Option.{option_map_or}
use Rattle.serde_json.specs.Data.{Data, Members, no_members, member}
use Rattle.serde_json.specs.Find.{as_array, as_object}
use Rattle.op_manifest.specs.declared.shape.TheConstants.ShapeRule.{BAD_LABEL}
use Rattle.op_manifest.specs.Checks.{Check, field, text, list, keyed}
use Rattle.op_manifest.specs.Maps.{is_any}
use Rattle.op_manifest.specs.Values.{each_of, text_of}
use Rattle.kind_scrape.specs.declared.params.Parameter.{Parameter}

-- a map of any names to lists of texts
abbrev pub params : Check
params = keyed is_any BAD_LABEL (list text)

-- the parameter of a name, where its value is a list
abbrev pub param_of : List ℕ → Data → List Parameter
param_of name d =
    option_map_or (λ items. record { name = name; values = each_of text_of items } ∷ []) (as_array d) []

-- the parameters of members
abbrev pub params_of : Members → List Parameter
params_of no_members = []
params_of (member name d ms) = param_of name d ++ params_of ms

-- the parameters of a field; none where it isn't there
unfoldable pub params_in : List ℕ → Data → List Parameter
params_in name d = option_map_or params_of (option_and_then as_object (field name d)) []
