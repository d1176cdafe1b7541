-- What of a tick is said to whom: each entry and each failed rule stands in the line of one known
-- namespace, or in the line for everyone.
use Rattle.std.specs.Prelude.{ℕ, List, [], ◌∷◌, ◌++◌, not, Some, None, bytes_eq, filter, map}
use Rattle.std.specs.List.{list_any}
use Rattle.op_base.specs.declared.moment.Moment.{Moment}
use Rattle.op_report.specs.declared.view.Report.{Report}
use Rattle.op_report.specs.declared.view.View.{View}
use Rattle.op_report.specs.declared.view.View.TheVariants.{Tick}
use Rattle.srv_store.specs.declared.entry.Entry.{Entry}
use Rattle.srv_store.specs.Stores.{owns, of_namespace}
use Rattle.srv_scrape.specs.Ticks.{by_labels}
use Rattle.srv_rule.specs.declared.view.FailedRule.{FailedRule}
use Rattle.srv_run.specs.Memories.{Ticked}

-- the failed rules of a namespace's objects
abbrev pub failed_of : List ℕ → List FailedRule → List FailedRule
failed_of namespace failed = filter (λ rule. bytes_eq namespace rule.namespace) failed

-- the entries whose label `namespace` names none of the namespaces
abbrev pub homeless : List (List ℕ) → List Entry → List Entry
homeless known entries = filter (λ entry. not (list_any (λ namespace. owns namespace entry.labels) known)) entries

-- the failed rules of objects in none of the namespaces
abbrev pub failed_elsewhere : List (List ℕ) → List FailedRule → List FailedRule
failed_elsewhere known failed = filter (λ rule. not (list_any (λ namespace. bytes_eq namespace rule.namespace) known)) failed

-- a failed rule as its line lists it
abbrev pub failed_parts : FailedRule → List ℕ × List ℕ × ℕ
failed_parts rule = (rule.name, rule.group, rule.index)

-- what a tick's line says: failed rules in their order, and stored entries in label order
abbrev pub tick_view : List FailedRule → List Entry → Moment → View
tick_view failed added t = Tick [] (map failed_parts failed) (by_labels added) t

-- the line of a namespace
abbrev pub tenant_report : Ticked → Moment → List ℕ → Report
tenant_report ticked t namespace = record {
  to = Some namespace;
  view = tick_view (failed_of namespace ticked.failed) (of_namespace namespace ticked.added) t;
}

-- the line for everyone
abbrev pub global_report : List (List ℕ) → Ticked → Moment → Report
global_report known ticked t = record {
  to = None;
  view = tick_view (failed_elsewhere known ticked.failed) (homeless known ticked.added) t;
}

-- the lines of a tick: for each known namespace in order, then for everyone
abbrev pub tick_reports : List (List ℕ) → Ticked → Moment → List Report
tick_reports known ticked t = map (tenant_report ticked t) known ++ global_report known ticked t ∷ []
