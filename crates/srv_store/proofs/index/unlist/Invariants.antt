-- The number is listed at the labels that are left.
use Rattle.std.proofs.Common.{ℕ, drop}
use Rattle.srv_store.specs.Indexes as spec
use Rattle.srv_store.proofs.index.unlist.Given as goal

abbrev pub invariant-loop-label : goal.invariant-loop-label
invariant-loop-label l =
    (listed : spec.Index) (n : ℕ) → spec.ListsAt listed l.initial.index l.labels n → spec.ListsAt listed l.index (drop l.label-index l.labels) n
