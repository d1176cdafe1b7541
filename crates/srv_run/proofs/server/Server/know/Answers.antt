-- The namespace is well formed, as those known before are.
use Rattle.std.proofs.Common.{subst, sym}
use Rattle.srv_run.specs.Served.{AreKnown}
use Rattle.srv_run.proofs.KnownLemmas.{known-more}
use Rattle.srv_run.proofs.server.Server.know.Goals as goal

pub invariant_of-self-2 : goal.invariant_of-self-2
invariant_of-self-2 c = (
  subst AreKnown (sym c.in_ok-insert.ensures.ok)
      (known-more c.self.inside.known c.args.namespace tt c.requires c.self.invariant.0),
  c.self.invariant.1,
)
