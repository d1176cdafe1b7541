-- The calls of functions. All but `last_over_time`, `label_replace` and `label_join` drop the name of what
-- they are given.
use Rattle.std.specs.Prelude.{ℕ, ℤ, pos, List, [], ◌∷◌, Option, Some, None, drop, map, unsigned_abs, int_div, int_lt, if◌then◌else◌}
use Rattle.std.specs.Int.{int_max, int_min, int_signum}
use Rattle.std.specs.List.{flat_map}
use Rattle.op_base.specs.declared.moment.Moment.{Moment}
use Rattle.op_base.specs.declared.span.Span.{Span}
use Rattle.op_base.specs.Labels.{Texts}
use Rattle.ql_tree.specs.Arithmetic.{clamped}
use Rattle.ql_call.specs.Clashes.{gathered}
use Rattle.ql_call.specs.Elements.{Element, without_name}
use Rattle.ql_call.specs.Functions.{function_of}
use Rattle.ql_call.specs.LabelCalls.{label_replace, label_join}
use Rattle.ql_call.specs.Operands.{elements_of, elements_at, scalar_at, text_at, text_of}
use Rattle.ql_call.specs.Operators.{changed_to, changed_by}
use Rattle.ql_call.specs.Over.{over, second}
use Rattle.srv_store.specs.Stores.{Point}
use Rattle.ql_call.specs.declared.changed.Changed.{Changed}
use Rattle.ql_call.specs.declared.function.Function.{Function}
use Rattle.ql_call.specs.declared.function.Function.TheVariants as function
use Rattle.ql_call.specs.declared.function.RangeFunction.{RangeFunction}
use Rattle.ql_call.specs.declared.function.RangeFunction.TheVariants as range_function
use Rattle.ql_call.specs.declared.operand.Operand.{Operand}
use Rattle.ql_call.specs.declared.operand.Operand.TheVariants as operand
use Rattle.ql_call.specs.declared.outcome.Outcome.{Outcome}
use Rattle.ql_call.specs.declared.outcome.Outcome.TheVariants as outcome

-- a function of each element's value
abbrev pub unnamed : (ℤ → ℤ) → Element → Changed
unnamed f e = changed_to e.0 (without_name e.0) (f e.1)

-- a function of each element's value, whose name goes
abbrev pub each_value : (ℤ → ℤ) → List Element → Outcome
each_value f elements = gathered (map (unnamed f) elements)

-- the absolute value of a number
abbrev pub size_of : ℤ → ℤ
size_of n = clamped (pos (unsigned_abs n))

-- 1 where there is nothing, else nothing
abbrev pub one_where_empty : {X : Type 0} → Texts → List X → Outcome
one_where_empty labels [] = outcome.Vector ((labels, pos 1) ∷ [])
one_where_empty labels (x ∷ some) = outcome.Vector []

-- `absent` and `absent_over_time`: a selector gives its labels, all else none
abbrev pub absent : Operand → Outcome
absent (operand.Text text) = one_where_empty {X = Element} [] []
absent (operand.Selected elements moments labels) = one_where_empty labels elements
absent (operand.Ranged series range labels) = one_where_empty labels series
absent (operand.Value given) = one_where_empty [] (elements_of (operand.Value given))

-- the name stays with `last_over_time` alone
abbrev pub over_labels : RangeFunction → Texts → Texts
over_labels range_function.Last labels = labels
over_labels _ labels = without_name labels

-- what a function makes of one range of samples, with the labels that it leaves
abbrev pub over_one : RangeFunction → Span → Texts × List Point → List Changed
over_one f range series = changed_by series.0 (over_labels f series.0) (over f series.1 range)

-- what a function makes of each range of samples
abbrev pub over_series : RangeFunction → Span → List (Texts × List Point) → Outcome
over_series f range series = gathered (flat_map (over_one f range) series)

-- a function of a range, of each label set that has a sample in it
abbrev pub over_operand : RangeFunction → Operand → Outcome
over_operand f (operand.Text text) = outcome.Vector []
over_operand f (operand.Selected elements moments labels) = outcome.Vector []
over_operand f (operand.Ranged series range labels) = over_series f range series
over_operand f (operand.Value given) = outcome.Vector []

-- values between two bounds; nothing where the lower is above the upper
abbrev pub between : ℤ → ℤ → ℤ → ℤ
between low high n = int_max low (int_min high n)

-- each value brought between the bounds; nothing where the bounds are crossed
abbrev pub clamp : ℤ → ℤ → List Element → Outcome
clamp low high elements = if int_lt high low then outcome.Vector [] else each_value (between low high) elements

-- a moment in whole seconds, cut towards zero
abbrev pub seconds_of : Moment → ℤ
seconds_of t = int_div t.0 second

-- each element's moment as its value, where there are moments
abbrev pub stamped : List Element → List Moment → List Changed
stamped [] moments = []
stamped (e ∷ elements) [] = []
stamped (e ∷ elements) (at ∷ moments) = changed_to e.0 (without_name e.0) (seconds_of at) ∷ stamped elements moments

-- `timestamp`: a selector gives the moments of its samples, all else the moment of the evaluation
abbrev pub timestamp : Moment → Operand → Outcome
timestamp t (operand.Text text) = outcome.Vector []
timestamp t (operand.Selected elements moments labels) = gathered (stamped elements moments)
timestamp t (operand.Ranged series range labels) = outcome.Vector []
timestamp t (operand.Value given) = each_value (λ n. seconds_of t) (elements_of (operand.Value given))

-- the first operand, which is a text where there is none
abbrev pub first_of : List Operand → Operand
first_of [] = operand.Text []
first_of (given ∷ operands) = given

-- what a function makes of its operands at a moment
abbrev pub call : Function → Moment → List Operand → Outcome
call function.Abs t args = each_value size_of (elements_at 0 args)
call function.Sgn t args = each_value int_signum (elements_at 0 args)
call function.Absent t args = absent (first_of args)
call function.AbsentOverTime t args = absent (first_of args)
call (function.Over f) t args = over_operand f (first_of args)
call function.Clamp t args = clamp (scalar_at 1 args) (scalar_at 2 args) (elements_at 0 args)
call function.ClampMin t args = each_value (int_max (scalar_at 1 args)) (elements_at 0 args)
call function.ClampMax t args = each_value (int_min (scalar_at 1 args)) (elements_at 0 args)
call function.LabelReplace t args = label_replace (text_at 1 args) (text_at 2 args) (text_at 3 args) (text_at 4 args) (elements_at 0 args)
call function.LabelJoin t args = label_join (text_at 1 args) (text_at 2 args) (map text_of (drop 3 args)) (elements_at 0 args)
call function.Time t args = outcome.Scalar (seconds_of t)
call function.Timestamp t args = timestamp t (first_of args)
call function.Vector t args = outcome.Vector (([], scalar_at 0 args) ∷ [])

-- a call by name; no expression that has a type calls another function
abbrev pub call_known : Option Function → Moment → List Operand → Outcome
call_known None t args = outcome.Vector []
call_known (Some f) t args = call f t args

-- what the function of a name makes of its operands, where there is one
abbrev pub call_of : List ℕ → Moment → List Operand → Outcome
call_of name t args = call_known (function_of name) t args
