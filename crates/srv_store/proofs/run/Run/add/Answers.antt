use Rattle.srv_store.proofs.NewestLemmas.{run_kept}
use Rattle.srv_store.proofs.run.Run.add.Goals as goal

pub invariant_of-self : goal.invariant_of-self
invariant_of-self c = run_kept c.add_new.result c.self.inside.readings.items c.add_new.new.entries.items c.args.at c.args.value c.add_new.ensures.ok c.add_new.ensures.err c.self.invariant
