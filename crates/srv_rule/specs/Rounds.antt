-- A round: the rules of all files, one after the other, at one moment.
use Rattle.std.specs.Prelude.{ℕ, ℤ, ◌+◌, List, [], ◌∷◌, ◌++◌, not, Option, Some, None, filter, fold, map, unwrap_or, is_some, option_to_list}
use Rattle.std.specs.FinMap as finite
use Rattle.std.specs.List.{flat_map}
use Rattle.std.specs.Cmp.Lexicographic.{slice_cmp}
use Rattle.std.specs.Ordering.{nat_cmp, on, then_cmp}
use Rattle.std.specs.declared.cmp.Ordering.{Ordering}
use Rattle.op_base.specs.declared.moment.Moment.{Moment}
use Rattle.op_base.specs.Labels.{Texts}
use Rattle.cfg_types.specs.declared.config.RuleFile.{RuleFile}
use Rattle.cfg_types.specs.declared.config.Group.{Group}
use Rattle.cfg_types.specs.declared.config.Rule.{Rule}
use Rattle.cfg_types.specs.Written.{file_text}
use Rattle.srv_store.specs.declared.entry.Entry.{Entry}
use Rattle.srv_store.specs.LabelMaps.{labels_in, stale_entries}
use Rattle.srv_store.specs.Stores.{Store, Vector, with_all}
use Rattle.srv_rule.specs.declared.states.RuleId.{RuleId}
use Rattle.srv_rule.specs.declared.view.FailedRule.{FailedRule}
use Rattle.ql_eval.specs.Values.{Around, value_of}
use Rattle.srv_rule.specs.Recorded.{results_of}

-- rules before one another: by the text of the object, the group, the place in it, and the name
abbrev pub id_cmp : RuleId → RuleId → Ordering
id_cmp = then_cmp (on (λ id. id.file) (slice_cmp nat_cmp))
    (then_cmp (on (λ id. id.namespace) (slice_cmp nat_cmp))
    (then_cmp (on (λ id. id.group) (slice_cmp nat_cmp))
    (then_cmp (on (λ id. id.place) nat_cmp) (on (λ id. id.name) (slice_cmp nat_cmp)))))

-- the states of rules: for each rule that succeeded the label sets that it gave then, in label order
abbrev pub States : Type 0
States = List (RuleId × List Texts)

-- the label sets that a rule gave at its last success
abbrev pub last_of : States → RuleId → Option (List Texts)
last_of states id = finite.find id_cmp id states

-- one rule of a file, with its object, its group and its place there
pub record Placed : Type 0 where
  pub namespace : List ℕ
  pub object : List ℕ
  pub file : List ℕ
  pub group : List ℕ
  pub place : ℕ
  pub rule : Rule

-- what a rule is known by, whatever its expression
abbrev pub id_of : Placed → RuleId
id_of placed = record {
  file = placed.file;
  namespace = placed.namespace;
  group = placed.group;
  place = placed.place;
  name = placed.rule.name;
}

-- a rule of a file, at a place of a group
abbrev pub placed_at : RuleFile → List ℕ → ℕ → Rule → Placed
placed_at file group place rule = record {
  namespace = file.namespace;
  object = file.name;
  file = file_text file;
  group = group;
  place = place;
  rule = rule;
}

-- the rules of a group, counted from a place on
abbrev pub placed_from : RuleFile → List ℕ → ℕ → List Rule → List Placed
placed_from file group place [] = []
placed_from file group place (rule ∷ rules) = placed_at file group place rule ∷ placed_from file group (place + 1) rules

-- the rules of a file, group by group
abbrev pub placed_in : RuleFile → List Placed
placed_in file = flat_map (λ (group : Group). placed_from file group.name 0 group.rules) file.groups

-- the rules of all files
abbrev pub placed_of : List RuleFile → List Placed
placed_of files = flat_map placed_in files

-- the entries of results
abbrev pub value_entries : Moment → Vector → List Entry
value_entries t results = map (λ result. record { labels = result.0; at = t; value = Some result.1 }) results

-- what a round has done so far: the store, the states of the rules that ran, and which rules failed
pub record Ran : Type 0 where
  pub store : Store
  pub states : States
  pub failed : List FailedRule

-- what stands so far in a round
abbrev pub ran_of : Store → States → List FailedRule → Ran
ran_of store states failed = record { store = store; states = states; failed = failed }

-- the store after it
abbrev pub stored : Ran → Store
stored ran = ran.store

-- a rule failed: it stores nothing, and its state stays
abbrev pub after_failure : Ran → Placed → Option (List Texts) → Ran
after_failure ran placed last = record {
  store = ran.store;
  states = fold (λ states labels. finite.put id_cmp (id_of placed) labels states) ran.states (option_to_list last);
  failed = ran.failed ++ (record { namespace = placed.namespace; name = placed.object; group = placed.group; index = placed.place }) ∷ [];
}

-- a rule succeeded: it stores its results, and stale entries for what it gave last and doesn't give now
abbrev pub after_success : Moment → Ran → Placed → List Texts → Vector → Ran
after_success t ran placed last results = record {
  store = with_all ran.store (value_entries t results ++ stale_entries t last results);
  states = finite.put id_cmp (id_of placed) (labels_in results) ran.states;
  failed = ran.failed;
}

-- after a rule: none are the results of one that failed
abbrev pub after_results : Moment → Ran → Placed → Option (List Texts) → Option Vector → Ran
after_results t ran placed last None = after_failure ran placed last
after_results t ran placed last (Some results) = after_success t ran placed (unwrap_or last []) results

-- a store at a moment, beside ambient labels
abbrev pub around : Texts → Store → Moment → Around
around ambient store t = record { store = store; ambient = ambient; at = t }

-- the next rule runs; before: the states that stood when the round began
abbrev pub after_rule : Texts → Texts → Moment → States → Ran → Placed → Ran
after_rule ambient force t before ran placed = after_results t ran placed (last_of before (id_of placed))
    (results_of placed.rule.name placed.rule.labels force (value_of (around ambient ran.store t) placed.rule.expr))

-- rules run one after the other
abbrev pub after_each : Texts → Texts → Moment → States → Ran → List Placed → Ran
after_each ambient force t before = fold (after_rule ambient force t before)

-- all rules of the files run
abbrev pub after_rules : List RuleFile → Texts → Texts → Moment → States → Store → Ran
after_rules files ambient force t before store = after_each ambient force t before (ran_of store [] []) (placed_of files)

-- the states whose rule didn't run: it is no longer there
abbrev pub gone : States → States → States
gone before states = filter (λ state. not (is_some (last_of states state.0))) before

-- stale entries for the last label sets of rules that are no longer there
abbrev pub gone_entries : Moment → States → List Entry
gone_entries t states = flat_map (λ state. stale_entries {X = ℤ} t state.1 []) states

-- the store with staleness markers for what rules gave before that are gone
abbrev pub without_gone : Moment → States → Ran → Ran
without_gone t before ran = record {
  store = with_all ran.store (gone_entries t (gone before ran.states));
  states = ran.states;
  failed = ran.failed;
}

-- a round of the files at a moment
abbrev pub round_of : List RuleFile → Texts → Texts → Moment → States → Store → Ran
round_of files ambient force t before store = without_gone t before (after_rules files ambient force t before store)
