-- The entry at the place of the name, where it has it.
use Rattle.std.proofs.Common.{◌∙◌, sym, ap}
use Rattle.std.specs.Prelude.{slice_get, option_and_then}
use Rattle.op_base.specs.Entries.{value_if}
use Rattle.op_base.proofs.EntryLemmas.{found_at}
use Rattle.op_base.proofs.entries.find.Goals as goal

pub returns : goal.returns
returns c =
    c.value_there.ensures
    ∙ ap (λ place. option_and_then (value_if c.args.name.now) (slice_get c.args.entries.now place)) c.place_of.ensures
    ∙ sym (found_at c.args.entries.now c.args.name.now c.requires)
