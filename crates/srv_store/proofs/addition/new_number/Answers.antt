-- A new label set has the next number, which is listed at its labels.
use Rattle.std.proofs.Common.{◌≡◌, ◌<◌, true, [], ◌∷◌, ◌++◌, ◌∙◌, ap, length, Some, slice_get, arith}
use Rattle.std.proofs.lemmas.Grind.{common_steps}
use Rattle.indexmap.specs.IndexSet.{insert_key}
use Rattle.op_base.specs.Labels.{Texts}
use Rattle.srv_store.specs.Stores.{same_labels}
use Rattle.srv_store.proofs.IndexLemmas.{index_grown}
use Rattle.srv_store.proofs.KeptLemmas.{numbered_new, told_ok}
use Rattle.srv_store.proofs.addition.new_number.Goals as goal

pub returns-clause-ok : goal.returns-clause-ok
returns-clause-ok c =
    let pushed : c.push.new.self.items ≡ c.args.runs.now.items ++ [] ∷ [] = grind (arith, common_steps) in
    let keys = c.insert_full.new.self.keys in
    let is = told_ok c.insert_full.result c.unwrap-number.result (λ r. keys ≡ insert_key same_labels c.reserve-2.new.self.keys c.args.labels) c.unwrap-number.ensures c.insert_full.ensures.keys in
    let within = told_ok c.insert_full.result c.unwrap-number.result (λ r. r.0 < length keys) c.unwrap-number.ensures c.insert_full.ensures.within in
    let stored = told_ok c.insert_full.result c.unwrap-number.result (λ r. (k : Texts) × (slice_get keys r.0 ≡ Some k) × (same_labels c.args.labels k ≡ true)) c.unwrap-number.ensures c.insert_full.ensures.stored in
    numbered_new c.args.keys.now.keys keys c.args.runs.now.items c.push.new.self.items c.args.labels c.unwrap-number.result.0 c.requires
    (is ∙ ap (λ keys. insert_key same_labels keys c.args.labels) c.in_ok-reserve-2.ensures.keys) c.insert_full.ensures.unique within stored pushed

pub returns-clause-index : goal.returns-clause-index
returns-clause-index c = λ old.
    let keys = c.insert_full.new.self.keys in
    let is = told_ok c.insert_full.result c.unwrap-number.result (λ r. keys ≡ insert_key same_labels c.reserve-2.new.self.keys c.args.labels) c.unwrap-number.ensures c.insert_full.ensures.keys in
    index_grown c.args.keys.now.keys keys c.args.index.now c.list_labels.new.index c.args.labels c.len.result old c.requires
    (is ∙ ap (λ keys. insert_key same_labels keys c.args.labels) c.in_ok-reserve-2.ensures.keys)
    (c.len.ensures.len ∙ ap length c.in_ok-reserve-2.ensures.keys) c.in_ok-list_labels.ensures.ok
