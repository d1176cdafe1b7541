-- A place below the length has a name.
use Rattle.std.proofs.Common.{◌≡◌, ◌<◌, [], Some, slice_get, get_or, map, length, subst}
use Rattle.std.proofs.lemmas.Option.{slice_get-get_or}
use Rattle.op_manifest.specs.Trees.{data_of, name_of, named_parts}
use Rattle.op_manifest.proofs.TreeLemmas.{names_of_fields}
use Rattle.op_manifest.proofs.tree.Tree.name_at.Goals as goal

pub unreachable-requires : goal.unreachable-requires
unreachable-requires c =
    let d = data_of c.args.self.now in
    let names = map name_of (named_parts d) in
    let below : c.args.index < length names = subst (λ n. c.args.index < n) (names_of_fields d c.requires.form) c.requires.index in
    let within : slice_get names c.args.index ≡ Some (get_or names c.args.index []) = slice_get-get_or names c.args.index [] below in
    cc (within, c.in-None.ensures)
