use Rattle.std.proofs.Common.{◌≡◌, ◌++◌, take}
use Rattle.srv_scrape.specs.Ticks as spec
use Rattle.srv_scrape.proofs.jobs.push_scrapes.Given as goal

abbrev pub invariant-loop-target : goal.invariant-loop-target
invariant-loop-target l =
    l.entries ≡ l.initial.entries ++ spec.target_entries l.pages l.t l.manner (take l.target-index l.targets)
