use Rattle.std.proofs.Common.{sym, append-nil}
use Rattle.op_manifest.proofs.ShapeLemmas.{later_none}
use Rattle.op_manifest.proofs.TreeLemmas.{data-Null}
use Rattle.kind_scrape.proofs.params.read_param.Goals as goal

pub returns-in-Null-clause-wrongs : goal.returns-in-Null-clause-wrongs
returns-in-Null-clause-wrongs c = rw (c.in-Null.is, data-Null) (sym (later_none c.args.found.now))

pub returns-in-Null-clause-params : goal.returns-in-Null-clause-params
returns-in-Null-clause-params c = rw (c.in-Null.is, data-Null) (sym (append-nil c.args.all.now))
