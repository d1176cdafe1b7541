-- What was kept so far are those of the first numbers that stand in all lists.
use Rattle.std.proofs.Common.{◌≡◌, filter, map, take}
use Rattle.srv_store.specs.Indexes as spec
use Rattle.srv_store.proofs.candidates.in_all.Given as goal

abbrev pub invariant-loop-number : goal.invariant-loop-number
invariant-loop-number l = l.kept ≡ filter (spec.stands_in_all (map (λ list. list.now) l.lists)) (take l.number-index l.numbers)
