use Rattle.std.proofs.Common.{◌≡◌, take, []}
use Rattle.std.specs.List.{filter}
use Rattle.ql_tree.specs.Enforced.{conflicts}
use Rattle.ql_rewrite.proofs.conflicts.first_in.Given as goal

abbrev pub invariant-loop-m : goal.invariant-loop-m
invariant-loop-m l = filter (conflicts l.name l.value) (take l.m-index l.matchers) ≡ []
