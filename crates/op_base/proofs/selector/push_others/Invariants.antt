-- The requirements so far stand in the text.
use Rattle.std.proofs.Common.{◌≡◌, ◌++◌, map, codes, take}
use Rattle.std.specs.List.{flat_map}
use Rattle.op_base.specs.Selectors.{requirement_text}
use Rattle.op_base.proofs.selector.push_others.Given as goal

abbrev pub invariant-loop-other : goal.invariant-loop-other
invariant-loop-other l =
    l.text ≡ l.initial.text ++ flat_map (λ other. codes "," ++ other) (map requirement_text (take l.other-index l.others))
