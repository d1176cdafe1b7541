use Rattle.std.proofs.Common.{◌≡◌, ◌++◌}
use Rattle.std.specs.Prelude.{encode_utf8}
use Rattle.std.specs.List.{flat_map}
use Rattle.gen_scrape.specs.Dollars.{doubled}
use Rattle.gen_scrape.proofs.dollars.push_doubled.Given as goal

abbrev pub invariant-loop-c : goal.invariant-loop-c
invariant-loop-c l = l.written ≡ l.initial.written ++ flat_map (λ c. flat_map doubled (encode_utf8 c)) l.yielded
