use Rattle.srv_store.proofs.TwinLemmas.{selected-are-the-window}
use Rattle.srv_store.proofs.laws.selected_are_the_window.Goals as goal

pub returns : goal.returns
returns c = selected-are-the-window
