-- The functions by their names.
use Rattle.std.specs.Prelude.{ℕ, List, Option, Some, None, codes, bytes_eq, if◌then◌else◌}
use Rattle.ql_call.specs.declared.function.Function.{Function}
use Rattle.ql_call.specs.declared.function.Function.TheVariants as function
use Rattle.ql_call.specs.declared.function.RangeFunction.{RangeFunction}
use Rattle.ql_call.specs.declared.function.RangeFunction.TheVariants as range

-- those of a range
unfoldable pub range_function : List ℕ → Option RangeFunction
range_function name =
    if bytes_eq name (codes "avg_over_time") then Some range.Avg
    else if bytes_eq name (codes "sum_over_time") then Some range.Sum
    else if bytes_eq name (codes "min_over_time") then Some range.Min
    else if bytes_eq name (codes "max_over_time") then Some range.Max
    else if bytes_eq name (codes "count_over_time") then Some range.Count
    else if bytes_eq name (codes "last_over_time") then Some range.Last
    else if bytes_eq name (codes "present_over_time") then Some range.Present
    else if bytes_eq name (codes "changes") then Some range.Changes
    else if bytes_eq name (codes "resets") then Some range.Resets
    else if bytes_eq name (codes "increase") then Some range.Increase
    else if bytes_eq name (codes "rate") then Some range.Rate else None

-- all others
unfoldable pub other_function : List ℕ → Option Function
other_function name =
    if bytes_eq name (codes "abs") then Some function.Abs
    else if bytes_eq name (codes "sgn") then Some function.Sgn
    else if bytes_eq name (codes "absent") then Some function.Absent
    else if bytes_eq name (codes "absent_over_time") then Some function.AbsentOverTime
    else if bytes_eq name (codes "clamp") then Some function.Clamp
    else if bytes_eq name (codes "clamp_min") then Some function.ClampMin
    else if bytes_eq name (codes "clamp_max") then Some function.ClampMax
    else if bytes_eq name (codes "label_replace") then Some function.LabelReplace
    else if bytes_eq name (codes "label_join") then Some function.LabelJoin
    else if bytes_eq name (codes "time") then Some function.Time
    else if bytes_eq name (codes "timestamp") then Some function.Timestamp
    else if bytes_eq name (codes "vector") then Some function.Vector else None

-- the function over ranges where there is one, else the other
abbrev pub or_over : Option RangeFunction → Option Function → Option Function
or_over None other = other
or_over (Some f) other = Some (function.Over f)

-- the function of a name
abbrev pub function_of : List ℕ → Option Function
function_of name = or_over (range_function name) (other_function name)
