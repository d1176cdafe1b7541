use Rattle.std.proofs.Common.{◌≡◌, true, take}
use Rattle.std.specs.List.{list_all}
use Rattle.ql_tree.specs.Typed.{is_sound}
use Rattle.ql_tree.proofs.typing.all_sound.Given as goal

abbrev pub invariant-loop-m : goal.invariant-loop-m
invariant-loop-m l = list_all is_sound (take l.m-index l.matchers) ≡ true
