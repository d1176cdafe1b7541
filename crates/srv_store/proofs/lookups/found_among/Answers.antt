use Rattle.std.proofs.Common.{refl}
use Rattle.srv_store.proofs.MatchLemmas.{found_answer}
use Rattle.srv_store.proofs.lookups.found_among.Goals as goal

pub returns : goal.returns
returns c = found_answer c.matching.result c.args.keys.now.keys c.as_slice-labels.result.now c.args.prepared.now c.as_slice-read.result.now c.args.numbers.now c.args.numbers.now
    c.as_slice-labels.ensures.unique c.as_slice-labels.ensures.keys c.as_slice-read.ensures c.requires refl c.matching.ensures
