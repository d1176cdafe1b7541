-- The labels so far are the names.
use Rattle.std.proofs.Common.{◌≡◌, ℕ, List, is_some, take}
use Rattle.std.specs.Prelude.{bytes_eq}
use Rattle.std.specs.List.{list_any}
use Rattle.op_base.specs.Maps.{value_at}
use Rattle.ql_tree.proofs.rules.names_of.Given as goal

abbrev pub invariant-loop-label : goal.invariant-loop-label
invariant-loop-label l = (name : List ℕ) → is_some (value_at l.names name) ≡ list_any (bytes_eq name) (take l.label-index l.labels)
