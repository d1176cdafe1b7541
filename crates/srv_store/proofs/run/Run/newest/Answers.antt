use Rattle.std.proofs.Common.{◌∙◌, ap}
use Rattle.srv_store.specs.Runs.{last_of}
use Rattle.srv_store.proofs.WindowLemmas.{last-get, newest_last}
use Rattle.srv_store.proofs.run.Run.newest.Goals as goal

pub returns-in-Some : goal.returns-in-Some
returns-in-Some c = c.in-Some.ensures.value ∙ last-get c.window.result.now ∙ ap last_of c.window.ensures ∙ newest_last c.args.from.now c.args.to.now c.args.self.now

pub returns-in-None : goal.returns-in-None
returns-in-None c = c.in-None.ensures.value ∙ last-get c.window.result.now ∙ ap last_of c.window.ensures ∙ newest_last c.args.from.now c.args.to.now c.args.self.now
