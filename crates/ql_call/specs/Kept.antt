-- What `topk` and `bottomk` keep of one group.
use Rattle.std.specs.Prelude.{ℤ, List, Bool}
use Rattle.op_base.specs.Labels.{Texts}
use Rattle.ql_call.specs.Elements.{Element}
use Rattle.ql_call.specs.Ranked.{first_ranked}

-- of a group with its labels, the elements that are kept
abbrev pub kept_of : Bool → ℤ → Texts × List Element → List Element
kept_of top k group = first_ranked top k group.1
