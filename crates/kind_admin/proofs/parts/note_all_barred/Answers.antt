-- Row by row.
use Rattle.op_manifest.specs.Trees.{data_of}
use Rattle.op_manifest.proofs.RowLemmas.{read_rows, row, end}
use Rattle.kind_admin.specs.PrometheusTables.{barred_rows}
use Rattle.kind_admin.proofs.parts.note_all_barred.Goals as goal

pub returns : goal.returns
returns c =
    read_rows c.args.path.now (data_of c.args.tree.now) barred_rows _ _
    (row c.in_ok-note_barred.ensures
    (row c.in_ok-note_barred-2.ensures
    (row c.in_ok-note_barred-3.ensures
    (row c.in_ok-note_barred-4.ensures
    (row c.in_ok-note_barred-5.ensures
    (row c.in_ok-note_barred-6.ensures
    end))))))
