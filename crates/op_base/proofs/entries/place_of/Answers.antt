-- The names below the name stand in front.
use Rattle.std.proofs.Common.{rules}
use Rattle.std.proofs.lemmas.List.Sorted.{IsPartitionPoint-from_clause}
use Rattle.op_base.proofs.EntryLemmas.{is_below, parted, place_at}
use Rattle.op_base.proofs.entries.place_of.Goals as goal

pub returns : goal.returns
returns c =
    let point = IsPartitionPoint-from_clause (is_below c.args.name.now) _ _ c.partition_point.ensures.partitioned
    (parted c.args.name.now c.args.entries.now c.requires) (λ a r q k. search rules) in
    place_at c.args.entries.now c.args.name.now c.partition_point.result point.0 point.1 c.partition_point.ensures.bound
