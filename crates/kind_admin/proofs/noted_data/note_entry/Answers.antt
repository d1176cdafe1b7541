use Rattle.std.proofs.Common.{sym}
use Rattle.op_manifest.proofs.ShapeLemmas.{later_none}
use Rattle.op_manifest.proofs.TreeLemmas.{data-Null}
use Rattle.kind_admin.proofs.noted_data.note_entry.Goals as goal

pub returns-in-Null : goal.returns-in-Null
returns-in-Null c = rw (c.in-Null.is, data-Null) (sym (later_none c.args.found.now))
