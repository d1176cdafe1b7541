-- Routes, level by level.
use Rattle.std.proofs.Common.{ap}
use Rattle.std.specs.Prelude.{ℕ, suc, List, [], ◌≡◌}
use Rattle.serde_json.specs.Data.{Data}
use Rattle.op_manifest.specs.Checks.{table}
use Rattle.op_manifest.specs.Routes.{route_rows, route_within, route_by, route_of_within, no_route}

-- nothing is looked at where no level is left
pub route_none : (levels : ℕ) (path : List ℕ) (d : Data) → levels ≡ 0 → route_within levels path d ≡ []
unfolding route_within
route_none levels path d is = ap (λ n. route_within n path d) is

-- and the route has nothing
pub value_none : (levels : ℕ) (d : Data) → levels ≡ 0 → route_of_within levels d ≡ no_route
unfolding route_of_within
value_none levels d is = ap (λ n. route_of_within n d) is

-- a route, over the routes that stand one level lower
pub route_step : (levels below : ℕ) (path : List ℕ) (d : Data) → levels ≡ suc below
    → route_within levels path d ≡ table (route_rows (route_within below)) path d
unfolding route_within
route_step levels below path d is = ap (λ n. route_within n path d) is

-- the route likewise
pub value_step : (levels below : ℕ) (d : Data) → levels ≡ suc below
    → route_of_within levels d ≡ route_by (route_of_within below) d
unfolding route_of_within
value_step levels below d is = ap (λ n. route_of_within n d) is
