-- The table, row by row.
use Rattle.std.proofs.Common.{[], sym}
use Rattle.std.proofs.lemmas.Result.{on_ok_weaker}
use Rattle.op_manifest.specs.Files.{list_rows}
use Rattle.op_manifest.specs.Trees.{data_of}
use Rattle.op_manifest.proofs.RowLemmas.{read_table, row, end}
use Rattle.op_manifest.proofs.ShapeLemmas.{later_none}
use Rattle.op_manifest.proofs.lists.note_list.Goals as goal

pub returns : goal.returns
returns c =
    on_ok_weaker c.note_items.result
    (λ noted. read_table list_rows [] (data_of c.args.tree.now) _ _ _ c.in_ok-noted_known.ensures
    (row (sym (later_none c.noted_known.new.found))
    (row (sym (later_none c.noted_known.new.found))
    (row (sym (later_none c.noted_known.new.found))
    (row noted
    end)))))
    c.note_items.ensures
