-- Levels, rows and children, one after the other.
use Rattle.std.proofs.Common.{◌≡◌, ◌≤◌, ◌-◌, ◌∙◌, suc, [], length, sym, ap, unwrap_or, false, arith}
use Rattle.op_manifest.specs.declared.route.Route.{roll-Route}
use Rattle.op_manifest.specs.Trees.{data_of}
use Rattle.op_manifest.specs.Shapes.{later}
use Rattle.op_manifest.specs.Routes.{route_rows, route_within, route_of_within, route_by}
use Rattle.op_manifest.proofs.ItemLemmas.{wrongs_step, wrongs_end, items_step, items_end}
use Rattle.op_manifest.proofs.RouteLemmas.{route_step, value_step}
use Rattle.op_manifest.proofs.RowLemmas.{read_table, row, end}
use Rattle.op_manifest.proofs.route.+routes.Goals as goal

pub read_route-returns-in_ok-route : goal.read_route-returns-in_ok-route
read_route-returns-in_ok-route t c =
    let is : c.args.levels ≡ suc (c.args.levels - 1) = omega (arith, c.if-levels-eq0.false) in (
      c.in_ok-route.ensures.0 ∙ ap (later c.args.found.now) (sym (route_step c.args.levels (c.args.levels - 1) c.args.path.now (data_of c.args.tree.now) is)),
      c.in_ok-route.ensures.1 ∙ sym (value_step c.args.levels (c.args.levels - 1) (data_of c.args.tree.now) is),
    )

pub read_fields-returns : goal.read_fields-returns
unfolding route_by
read_fields-returns t c = (
  read_table (route_rows (route_within c.args.below)) c.args.path.now (data_of c.args.tree.now) _ _ _ c.in_ok-note_unknown_fields.ensures
      (row c.in_ok-receiver.ensures.0
      (row c.in_ok-groups.ensures.0
      (row c.in_ok-group_wait.ensures.0
      (row c.in_ok-group_interval.ensures.0
      (row c.in_ok-repeat_interval.ensures.0
      (row c.in_ok-tests.ensures.0
      (row c.in_ok-more.ensures.0
      (row c.in_ok-children.ensures.0
      end)))))))),
  λ i. roll-Route (record {
    receiver = c.in_ok-receiver.ensures.1 i;
    group_by = (c.or_none-group_by.ensures ∙ ap (λ all. unwrap_or all []) c.in_ok-groups.ensures.1) i;
    group_wait = c.in_ok-group_wait.ensures.1 i;
    group_interval = c.in_ok-group_interval.ensures.1 i;
    repeat_interval = c.in_ok-repeat_interval.ensures.1 i;
    matchers = (c.or_none-matchers.ensures ∙ ap (λ all. unwrap_or all []) c.in_ok-tests.ensures.1) i;
    goes_on = (c.unwrap_or-goes_on.ensures ∙ ap (λ goes. unwrap_or goes false) c.in_ok-more.ensures.1) i;
    routes = (c.or_none-routes.ensures ∙ ap (λ all. unwrap_or all []) c.in_ok-children.ensures.1) i;
  }),
)

pub each_route-loop-index-preserved : goal.each_route-loop-index-preserved
each_route-loop-index-preserved t c = record {
  wrongs = c.loop-index.invariant.wrongs
      ∙ wrongs_step (route_within c.args.levels) c.args.path.now c.as_str.result.now c.args.items.now c.loop-index.index c.index-items-index.result
      c.loop-index.found c.read_route.new.found c.loop-index-test.true c.index-items-index.is (c.as_str.ensures ∙ c.in_ok-path.ensures) c.in_ok-read_route.ensures.0;
  items = c.loop-index.invariant.items
      ∙ items_step (route_of_within c.args.levels) c.loop-index.all c.push.new.self c.args.items.now c.loop-index.index c.index-items-index.result
      c.in_ok-read_route.field-0 c.loop-index-test.true c.index-items-index.is c.in_ok-read_route.ensures.1 c.in_ok-push.ensures.ok;
}

pub each_route-returns : goal.each_route-returns
each_route-returns t c =
    let end : length c.args.items.now ≤ c.loop-index.index = omega (arith, c.loop-index-test.false) in (
      sym (c.loop-index.invariant.wrongs ∙ wrongs_end (route_within c.args.levels) c.args.path.now c.args.items.now c.loop-index.index c.loop-index.found end),
      sym (c.loop-index.invariant.items ∙ items_end (route_of_within c.args.levels) c.loop-index.all c.args.items.now c.loop-index.index end),
    )
