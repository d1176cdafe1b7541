-- What a selector means on tags, after Kubernetes label selectors, and its text.
use Rattle.std.specs.Prelude.{ℕ, Bool, false, not, List, [], ◌∷◌, ◌++◌, map, flat_map, codes, bytes_eq, is_some, is_none}
use Rattle.std.specs.Option.{option_map_or}
use Rattle.std.specs.List.{list_all, list_any}
use Rattle.op_base.specs.declared.selector.Requirement.{Requirement}
use Rattle.op_base.specs.declared.selector.Requirement.TheVariants.{Is, In, NotIn, Exists, Absent}
use Rattle.op_base.specs.declared.selector.Selector.{Selector}
use Rattle.op_base.specs.Maps.{value_at}
use Rattle.op_base.specs.Labels.{Texts}

-- the tags have the key with one of the values
abbrev pub has_one_of : Texts → List ℕ → List (List ℕ) → Bool
has_one_of tags key values = option_map_or (λ value. list_any (λ other. bytes_eq other value) values) (value_at tags key) false

-- one requirement; `NotIn` holds where the key is missing
abbrev pub requirement_holds : Texts → Requirement → Bool
requirement_holds tags (Is key value) = option_map_or (λ other. bytes_eq other value) (value_at tags key) false
requirement_holds tags (In key values) = has_one_of tags key values
requirement_holds tags (NotIn key values) = not (has_one_of tags key values)
requirement_holds tags (Exists key) = is_some (value_at tags key)
requirement_holds tags (Absent key) = is_none (value_at tags key)

-- the selector chooses the tags: all its requirements hold
abbrev pub chosen : Selector → Texts → Bool
chosen selector tags = list_all (requirement_holds tags) selector.all

-- texts with a comma between two
abbrev pub with_commas : List (List ℕ) → List ℕ
with_commas [] = []
with_commas (text ∷ more) = text ++ flat_map (λ other. codes "," ++ other) more

-- `k=v`, `k in (a,b)`, `k notin (a,b)`, `k` and `!k`
abbrev pub requirement_text : Requirement → List ℕ
requirement_text (Is key value) = key ++ codes "=" ++ value
requirement_text (In key values) = key ++ codes " in (" ++ with_commas values ++ codes ")"
requirement_text (NotIn key values) = key ++ codes " notin (" ++ with_commas values ++ codes ")"
requirement_text (Exists key) = key
requirement_text (Absent key) = codes "!" ++ key

-- a selector's text: its requirements with a comma between two
abbrev pub selector_text : Selector → List ℕ
selector_text selector = with_commas (map requirement_text selector.all)
