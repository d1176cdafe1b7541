use Rattle.std.proofs.Common.{sym}
use Rattle.op_manifest.proofs.ShapeLemmas.{later_none}
use Rattle.op_manifest.proofs.TreeLemmas.{data-Null}
use Rattle.op_manifest.proofs.maps.read_entry.Goals as goal

pub returns-in-Null-clause-wrongs : goal.returns-in-Null-clause-wrongs
returns-in-Null-clause-wrongs g c = rw (c.in-Null.is, data-Null) (sym (later_none c.args.found.now))
