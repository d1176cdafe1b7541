use Rattle.std.proofs.Common.{◌≡◌, ◌∙◌, ℕ, List, [], Some, sym, ap, map}
use Rattle.std.proofs.lemmas.List.Folds.{list_all-map}
use Rattle.std.specs.List.{list_all}
use Rattle.std.specs.Option.{option_map_or}
use Rattle.serde_json.specs.Data.{Data}
use Rattle.serde_json.specs.Find.{as_object}
use Rattle.op_manifest.specs.declared.tree.Tree.{Tree}
use Rattle.op_manifest.specs.Trees.{data_of, each_member, field_seen, members_in, named_parts}
use Rattle.op_manifest.proofs.TreeLemmas.{fields_are_named}
use Rattle.op_input.specs.Keys.{is_null_or}
use Rattle.op_input.proofs.keys.stands_alone.Goals as goal

-- the fields of an object, with their trees seen as values
seen : (d : Data) (fields : List (List ℕ × Tree)) → Some (members_in fields) ≡ as_object d → named_parts d ≡ map field_seen fields
unfolding named_parts
seen d fields is = ap (λ members. option_map_or each_member members []) (sym is) ∙ fields_are_named fields

pub returns-in-Some : goal.returns-in-Some
returns-in-Some c =
    let test = is_null_or c.args.name.now in
    c.all_null_or.ensures ∙ sym (list_all-map test field_seen c.in-Some.fields.now)
    ∙ ap (list_all test) (sym (seen (data_of c.args.tree.now) c.in-Some.fields.now c.in-Some.ensures))
