use Rattle.std.proofs.Common.{◌≡◌, ◌++◌, take}
use Rattle.srv_scrape.specs.Ticks as spec
use Rattle.srv_scrape.proofs.jobs.push_jobs.Given as goal

abbrev pub invariant-loop-job : goal.invariant-loop-job
invariant-loop-job l = l.entries ≡ l.initial.entries ++ spec.scraped_entries l.pages l.t (take l.job-index l.jobs)
