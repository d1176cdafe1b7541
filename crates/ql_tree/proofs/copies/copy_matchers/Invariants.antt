use Rattle.std.proofs.Common.{◌≡◌, take}
use Rattle.ql_tree.proofs.copies.copy_matchers.Given as goal

abbrev pub invariant-loop-m : goal.invariant-loop-m
invariant-loop-m l = l.copies ≡ take l.m-index l.matchers
