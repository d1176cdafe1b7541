-- What is taken out is the value of the one key.
use Rattle.std.proofs.Common.{◌≡◌, ◌∙◌, IfOk, ap, subst, sym}
use Rattle.op_manifest.specs.Trees.{data_of}
use Rattle.op_input.specs.Events.{event_of}
use Rattle.op_input.specs.InputLines.{deleted}
use Rattle.op_input.specs.Puts.{put_of}
use Rattle.op_input.proofs.PutLemmas.{put_alone}
use Rattle.op_input.proofs.reading.change_in.Goals as goal

pub returns-then-is_put-clause-event : goal.returns-then-is_put-clause-event
returns-then-is_put-clause-event c =
    let d = data_of c.args.tree in
    subst (λ asked. IfOk c.read_put.result (λ event. event_of event ≡ asked))
    (ap put_of c.taken_out.ensures ∙ put_alone d (deleted d) (sym c.is_put.ensures ∙ c.if-is_put.true))
    c.read_put.ensures.event
