-- The names by which what a tick gives is shared out.
use Rattle.std.specs.Prelude.{ℕ, List}
use Rattle.op_base.specs.declared.label_names.TheConstants.{NAMESPACE_LABEL}
use Rattle.op_base.specs.Matchers.{label_value}
use Rattle.srv_store.specs.declared.entry.Entry.{Entry}
use Rattle.srv_rule.specs.declared.view.FailedRule.{FailedRule}

-- the namespace that an entry's labels name
abbrev pub home_of : Entry → List ℕ
home_of entry = label_value entry.labels NAMESPACE_LABEL.now

-- the namespace of a failed rule's object
abbrev pub place_of : FailedRule → List ℕ
place_of rule = rule.namespace
