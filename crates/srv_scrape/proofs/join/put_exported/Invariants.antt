-- What is left, put under new names beside those given so far, ends as all of them.
use Rattle.std.proofs.Common.{◌≡◌}
use Rattle.srv_scrape.specs.Joined as spec
use Rattle.srv_scrape.proofs.join.put_exported.Given as goal

abbrev pub invariant-loop-name : goal.invariant-loop-name
invariant-loop-name l =
    goal.iterator-loop-name.can_next l.name-iterator ×
    goal.iterator-loop-name.is_finite l.name-iterator ×
    (spec.all_exported l.scraped l.initial.labels l.initial.name-iterator ≡ spec.all_exported l.scraped l.labels l.name-iterator)
