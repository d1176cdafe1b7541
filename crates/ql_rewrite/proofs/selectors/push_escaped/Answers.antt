use Rattle.std.proofs.Common.{◌∙◌, ◌++◌, ap, sym, map-id}
use Rattle.std.specs.Prelude.{encode_utf8}
use Rattle.std.specs.List.{flat_map}
use Rattle.std.proofs.lemmas.Iterator.{YieldsList-from_chars}
use Rattle.std.proofs.lemmas.Iterator.Consumers.{YieldsList-end}
use Rattle.ql_tree.specs.Pieces.{escaped}
use Rattle.ql_rewrite.proofs.EscapeLemmas.{escaped_text}
use Rattle.ql_rewrite.proofs.selectors.push_escaped.Goals as goal

pub returns : goal.returns
returns c =
    let end = YieldsList-end (YieldsList-from_chars c.args.value.now c.utf8.value cc) c.loop-c.yielded _ c.loop-c.yielded_by _ _ c.in-None.is c.next.ensures.steps in
    c.loop-c.invariant
    ∙ ap (λ cs. c.args.text.now ++ flat_map (λ c. flat_map escaped (encode_utf8 c)) cs) (sym (map-id c.loop-c.yielded) ∙ end.0)
    ∙ ap (λ text. c.args.text.now ++ text) (escaped_text c.args.value.now c.utf8.value)
