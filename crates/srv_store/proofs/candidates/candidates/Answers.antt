-- The shortest list has all that stand in each.
use Rattle.std.proofs.Common.{◌∙◌, ap, map}
use Rattle.srv_store.proofs.CandidateLemmas.{lists_rise, kept_answer, all_answer}
use Rattle.srv_store.proofs.candidates.candidates.Goals as goal

pub in_all-requires : goal.in_all-requires
in_all-requires c = lists_rise c.args.keys.now.keys c.args.index.now c.requires c.args.matchers.now c.as_slice-lists.result.now
    (ap (map (λ list. list.now)) c.as_slice-lists.ensures ∙ c.in_ok-asked.ensures)

pub returns-in-Some : goal.returns-in-Some
returns-in-Some c = kept_answer c.args.keys.now.keys c.args.index.now c.requires c.in_all.result c.args.matchers.now c.as_slice-lists.result.now
    (ap (map (λ list. list.now)) c.as_slice-lists.ensures ∙ c.in_ok-asked.ensures) c.shortest.result c.in-Some.numbers.now c.in-Some.ensures.lookup.3.0 (c.in-Some.ensures.lookup.3.1 c.in-Some.numbers.now) c.in_all.ensures

pub returns : goal.returns
returns c = all_answer c.args.keys.now.keys c.args.index.now c.requires c.all_numbers.result c.args.matchers.now c.as_slice-lists.result.now
    (ap (map (λ list. list.now)) c.as_slice-lists.ensures ∙ c.in_ok-asked.ensures) c.shortest.result c.len.result c.in-None.ensures.lookup.3 c.shortest.ensures c.len.ensures.len c.all_numbers.ensures
