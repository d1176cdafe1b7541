-- A matcher finds what the reading finds, since they match alike.
use Rattle.std.proofs.Common.{◌∙◌, ap, is_some, true}
use Rattle.regex.specs.Patterns.{find_str}
use Rattle.regex.proofs.ForCallers.{is_match_alike}
use Rattle.op_base.proofs.pattern.finds.Goals as goal

pub returns : goal.returns
returns c re same =
    c.is_match.ensures.found ∙ ap (λ found. is_some (find_str found c.args.value.now 0)) c.in_ok-matcher.ensures.pattern
    ∙ is_match_alike same c.args.value.now (λ k. (c.type_inv.value k).fits) true 0
