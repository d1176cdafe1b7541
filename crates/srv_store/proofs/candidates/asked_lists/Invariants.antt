-- The lists so far are those of the first matchers.
use Rattle.std.proofs.Common.{◌≡◌, map, take}
use Rattle.std.specs.List.{flat_map}
use Rattle.srv_store.specs.Indexes as spec
use Rattle.srv_store.proofs.candidates.asked_lists.Given as goal

abbrev pub invariant-loop-matcher : goal.invariant-loop-matcher
invariant-loop-matcher l = map (λ list. list.now) l.lists ≡ flat_map (spec.asked_list l.index) (take l.matcher-index l.matchers)
