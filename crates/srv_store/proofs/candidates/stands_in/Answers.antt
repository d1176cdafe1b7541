use Rattle.std.proofs.Common.{◌∙◌}
use Rattle.srv_store.proofs.CandidateLemmas.{search_told}
use Rattle.srv_store.proofs.candidates.stands_in.Goals as goal

pub returns : goal.returns
returns c = c.is_ok.ensures.value ∙ search_told c.args.list.now c.args.number c.binary_search.result c.binary_search.ensures.position c.requires
