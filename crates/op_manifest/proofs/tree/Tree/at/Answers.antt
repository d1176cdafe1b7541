-- A place below the length has a part.
use Rattle.std.proofs.Common.{◌≡◌, Some, slice_get, get_or}
use Rattle.std.proofs.lemmas.Option.{slice_get-get_or}
use Rattle.serde_json.specs.Data.{null}
use Rattle.op_manifest.specs.Trees.{data_of, parts_of}
use Rattle.op_manifest.proofs.tree.Tree.at.Goals as goal

pub unreachable-requires : goal.unreachable-requires
unreachable-requires c =
    let parts = parts_of (data_of c.args.self.now) in
    let within : slice_get parts c.args.index ≡ Some (get_or parts c.args.index null) = slice_get-get_or parts c.args.index null c.requires in
    cc (within, c.in-None.ensures)
