-- The name so far ends as the first one, and each turn makes it longer.
use Rattle.std.proofs.Common.{◌≡◌, ◌+◌, ◌-◌, ◌<◌, length}
use Rattle.srv_scrape.specs.Joined as spec
use Rattle.srv_scrape.proofs.join.exported.Given as goal

abbrev pub invariant-loop-alloc : goal.invariant-loop-alloc
invariant-loop-alloc l =
    (spec.exported (spec.room_of l.scraped l.given) l.scraped l.given l.text ≡ spec.new_name l.scraped l.given l.name)
    × (0 < length l.text)

abbrev pub decreases-loop-alloc : goal.decreases-loop-alloc
decreases-loop-alloc l = spec.room_of l.scraped l.given + 1 - length l.text
