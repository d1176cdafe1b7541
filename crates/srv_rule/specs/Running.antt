-- A round under way, as the code holds it. No labels are ambient in it, and nothing is forced.
use Rattle.std.specs.Prelude.{◌≡◌, List, [], ◌++◌, unwrap_or}
use Rattle.op_base.specs.declared.moment.Moment.{Moment}
use Rattle.srv_store.specs.Stores.{Store, Vector}
use Rattle.srv_rule.specs.declared.rounds.Place.{Place}
use Rattle.srv_rule.specs.declared.rounds.Progress.{Progress}
use Rattle.srv_rule.specs.Rounds.{States, Placed, Ran, ran_of, id_of, last_of, placed_at, after_success, after_each}

-- the rule at its place, which is held by references
abbrev pub placed_as : Place → Placed
placed_as place = placed_at place.file.now place.group.now.name place.index place.rule.now

-- what was done so far
abbrev pub ran : Store → Progress → Ran
ran store progress = ran_of store progress.states progress.failed

-- what was added since a store was left stands behind it
abbrev pub IsBehind : Store → Store → Progress → Type 0
IsBehind base store progress = store ≡ base ++ progress.added

-- the rules run one after the other
abbrev pub after : Moment → States → Ran → List Placed → Ran
after = after_each [] []

-- a rule succeeded, which had a state before or had none
abbrev pub succeeded : Moment → States → Ran → Placed → Vector → Ran
succeeded t before done placed results = after_success t done placed (unwrap_or (last_of before (id_of placed)) []) results
