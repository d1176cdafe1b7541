use Rattle.std.proofs.Common.{◌≡◌, ◌++◌}
use Rattle.std.specs.Prelude.{encode_utf8}
use Rattle.std.specs.List.{flat_map}
use Rattle.ql_tree.specs.Pieces.{escaped}
use Rattle.ql_rewrite.proofs.selectors.push_escaped.Given as goal

abbrev pub invariant-loop-c : goal.invariant-loop-c
invariant-loop-c l = l.text ≡ l.initial.text ++ flat_map (λ c. flat_map escaped (encode_utf8 c)) l.yielded
