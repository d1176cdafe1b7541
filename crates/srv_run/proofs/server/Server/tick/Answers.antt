-- A late tick stores nothing.
use Rattle.std.proofs.Common.{refl}
use Rattle.srv_run.proofs.PrefixLemmas.{none_of_tick}
use Rattle.srv_run.proofs.server.Server.tick.Goals as goal

pub returns-in-Some-clause-cut_off : goal.returns-in-Some-clause-cut_off
returns-in-Some-clause-cut_off c = record {
  config = refl;
  pages = refl;
  known = refl;
  scraped = refl;
  states = refl;
  last = refl;
  stored = none_of_tick c.args.self.now.config c.args.self.now.served.pages c.args.self.now.served.memory c.args.t;
}
