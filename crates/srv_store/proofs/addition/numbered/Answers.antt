use Rattle.std.proofs.Common.{sym}
use Rattle.srv_store.proofs.KeptLemmas.{numbered_known}
use Rattle.srv_store.proofs.addition.numbered.Goals as goal

pub returns-in-Some-clause-ok : goal.returns-in-Some-clause-ok
returns-in-Some-clause-ok c =
    numbered_known c.args.keys.now.keys c.args.runs.now.items c.args.labels.now c.in-Some.number c.len-distinct.ensures.unique (sym c.in-Some.ensures.index)
