-- The lists that are left decide.
use Rattle.std.proofs.Common.{◌≡◌, drop, map}
use Rattle.srv_store.specs.Indexes as spec
use Rattle.srv_store.proofs.candidates.stands_in_all.Given as goal

abbrev pub invariant-loop-list : goal.invariant-loop-list
invariant-loop-list l =
    spec.stands_in_all (map (λ list. list.now) l.lists) l.number ≡ spec.stands_in_all (map (λ list. list.now) (drop l.list-index l.lists)) l.number
