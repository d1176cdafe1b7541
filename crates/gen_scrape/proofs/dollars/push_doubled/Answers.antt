use Rattle.std.proofs.Common.{◌∙◌, ◌++◌, ap, sym, map-id}
use Rattle.std.specs.Prelude.{encode_utf8}
use Rattle.std.specs.List.{flat_map}
use Rattle.std.proofs.lemmas.Iterator.{YieldsList-from_chars}
use Rattle.std.proofs.lemmas.Iterator.Consumers.{YieldsList-end}
use Rattle.gen_scrape.specs.Dollars.{doubled}
use Rattle.gen_scrape.proofs.DollarLemmas.{doubled_text}
use Rattle.gen_scrape.proofs.dollars.push_doubled.Goals as goal

pub returns : goal.returns
returns c =
    let end = YieldsList-end (YieldsList-from_chars c.args.text.now c.utf8.text cc) c.loop-c.yielded _ c.loop-c.yielded_by _ _ c.in-None.is c.next.ensures.steps in
    c.loop-c.invariant
    ∙ ap (λ cs. c.args.written.now ++ flat_map (λ c. flat_map doubled (encode_utf8 c)) cs) (sym (map-id c.loop-c.yielded) ∙ end.0)
    ∙ ap (λ text. c.args.written.now ++ text) (doubled_text c.args.text.now c.utf8.text)
