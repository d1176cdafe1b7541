-- Each call goes on to one level less, or stands nearer to the child routes than its caller does.
use Rattle.std.proofs.Common.{◌≡◌, ◌++◌, ◌+◌, ◌*◌, drop}
use Rattle.op_manifest.specs.Trees.{items_in}
use Rattle.op_manifest.specs.Shapes.{later}
use Rattle.op_manifest.specs.Checks.{items_from}
use Rattle.op_manifest.specs.Values.{each_of}
use Rattle.op_manifest.specs.Routes.{route_within, route_of_within}
use Rattle.op_manifest.proofs.route.+routes.Given as goal

abbrev pub decreases-read_route : goal.decreases-read_route
decreases-read_route l = 4 * l.levels

abbrev pub decreases-read_fields : goal.decreases-read_fields
decreases-read_fields l = 4 * l.below + 3

abbrev pub decreases-child_routes : goal.decreases-child_routes
decreases-child_routes l = 4 * l.levels + 2

abbrev pub decreases-each_route : goal.decreases-each_route
decreases-each_route l = 4 * l.levels + 1

-- what is left gives the rest of the breaches and of the routes
abbrev pub invariant-each_route-loop-index : goal.invariant-each_route-loop-index
invariant-each_route-loop-index l = record {
  wrongs : later l.initial.found (items_from (route_within l.levels) l.path 0 (items_in l.items))
      ≡ later l.found (items_from (route_within l.levels) l.path l.index (items_in (drop l.index l.items)));
  items : each_of (route_of_within l.levels) (items_in l.items) ≡ l.all ++ each_of (route_of_within l.levels) (items_in (drop l.index l.items));
}
