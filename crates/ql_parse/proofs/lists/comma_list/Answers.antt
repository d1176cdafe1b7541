use Rattle.std.proofs.Common.{sym, ◌∙◌, length}
use Rattle.ql_parse.specs.CommaLists.{comma_list}
use Rattle.ql_parse.proofs.ListSteps.{Turn, no_more, no_turns, no_item, last_one, no_comma, one_more, no_list, list_ends, list_reads}
use Rattle.ql_parse.proofs.lists.comma_list.Given.{Over}
use Rattle.ql_parse.proofs.lists.comma_list.Goals.{In-None}
use Rattle.ql_parse.proofs.lists.comma_list.Goals as goal

-- where the list isn't closed an item is to be read
turn : (g : Over) (c : In-None g)
    → Turn (comma_list g.T.Item.closing g.T.Item.reading) g.T.Item.closing g.T.Item.reading
    (comma_list g.T.Item.closing g.T.Item.reading (length c.args.words.now) c.args.words.now)
    c.loop-step.found (length c.args.words.now) c.loop-step.step c.loop-step.behind.now
turn g c = record {
  so_far = c.loop-step.invariant;
  inside = c.loop-step-test.true;
  reads = list_reads g.T.Item.closing g.T.Item.reading c.loop-step.behind.now (sym c.in-None.ensures);
}

pub returns-in-Some : goal.returns-in-Some
returns-in-Some g c =
    no_more
    (comma_list g.T.Item.closing g.T.Item.reading) _ c.loop-step.found (length c.args.words.now)
    c.loop-step.step c.loop-step.behind.now c.loop-step.invariant
    c.in-Some.end.now c.loop-step-test.true
    (list_ends g.T.Item.closing g.T.Item.reading c.loop-step.behind.now c.in-Some.end.now
    (sym c.in-Some.ensures))

pub returns-in-End : goal.returns-in-End
returns-in-End g c =
    last_one (turn g (goal.at.returns-in-End g c).In-None) c.in-Ok.one c.in-Ok.after.now c.in-Ok.ensures
    c.push.new.self c.in-End.end.now c.in_ok-push-in-Ok.ensures.ok
    (sym c.close-in-Ok.ensures ∙ c.in-End.ensures)

pub returns-in-Broken : goal.returns-in-Broken
returns-in-Broken g c =
    no_comma (turn g (goal.at.returns-in-Broken g c).In-None) c.in-Ok.one c.in-Ok.after.now c.in-Ok.ensures
    (sym c.close-in-Ok.ensures ∙ c.in-Broken.ensures.0) c.in-Broken.ensures.1

pub returns-in-Err : goal.returns-in-Err
returns-in-Err g c =
    no_item (turn g (goal.at.returns-in-Err g c).In-None) c.in-Err.fault c.in-Err.ensures

pub loop-step-preserved : goal.loop-step-preserved
loop-step-preserved g c =
    one_more (turn g (goal.at.loop-step-preserved g c).In-None) c.in-Ok.one c.in-Ok.after.now c.in-Ok.ensures
    c.push.new.self c.in-More.next.now c.in_ok-push-in-Ok.ensures.ok
    (sym c.close-in-Ok.ensures ∙ c.in-More.ensures.0) c.in-More.ensures.1

pub returns : goal.returns
returns g c =
    no_turns
    (comma_list g.T.Item.closing g.T.Item.reading) _ c.loop-step.found (length c.args.words.now)
    c.loop-step.step c.loop-step.behind.now c.loop-step.invariant
    c.loop-step-test.false (no_list g.T.Item.closing g.T.Item.reading)
