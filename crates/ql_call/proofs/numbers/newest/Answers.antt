use Rattle.std.proofs.Common.{SFits, ◌∙◌, rules}
use mir.Syntax.{w64}
use Rattle.std.proofs.lemmas.Int.{to_z-of_z}
use Rattle.ql_call.proofs.NumberLemmas.{newest_of-last, newest_of-none}
use Rattle.ql_call.proofs.numbers.newest.Goals as goal

pub returns-in-Some : goal.returns-in-Some
returns-in-Some g c =
    let fits : SFits w64 c.in-Some.thing.now.1 = search rules in
    to_z-of_z w64 c.in-Some.thing.now.1 fits ∙ newest_of-last c.args.things.now c.in-Some.thing.now c.in-Some.ensures.value

pub returns-in-None : goal.returns-in-None
returns-in-None g c = newest_of-none c.args.things.now c.in-None.ensures.value
