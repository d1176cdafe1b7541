use Rattle.srv_store.proofs.SelectedLemmas.{selected_answer}
use Rattle.srv_store.proofs.store.Store.selected.Goals as goal

pub returns : goal.returns
returns c = selected_answer c.selected_entries.result c.as_slice.result.now c.args.self.now c.args.matchers.now c.args.from.now c.args.to.now c.in_ok-found.found
    c.self.invariant.0 c.in_ok-found.ensures c.as_slice.ensures.value c.self.view_is c.selected_entries.ensures
