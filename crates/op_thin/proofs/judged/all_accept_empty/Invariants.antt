-- The matchers so far accept the empty text.
use Rattle.std.proofs.Common.{◌≡◌, take, true}
use Rattle.std.specs.List.{list_all}
use Rattle.op_thin.specs.Nameless.{accepts_empty}
use Rattle.op_thin.proofs.judged.all_accept_empty.Given as goal

abbrev pub invariant-loop-matcher : goal.invariant-loop-matcher
invariant-loop-matcher l = list_all accepts_empty (take l.matcher-index l.matchers) ≡ true
