-- The keys in order are parted by the test.
use Rattle.std.proofs.Common.{rules}
use Rattle.std.specs.Ordering.{is_gt}
use Rattle.std.proofs.lemmas.List.Sorted.{IsPartitionPoint-from_clause}
use Rattle.srv_store.proofs.PlaceLemmas.{parted, point_is}
use Rattle.srv_store.proofs.places.place_of.Goals as goal

pub returns : goal.returns
returns g c =
    point_is (λ e. is_gt (g.K.Ord.cmp c.args.key.now e.0)) c.args.entries.now c.partition_point.result c.partition_point.ensures.bound
    (IsPartitionPoint-from_clause (λ e. is_gt (g.K.Ord.cmp c.args.key.now e.0)) _ _ c.partition_point.ensures.partitioned
    (parted g.K.Ord.cmp g.met.K.Ord.total c.args.key.now c.args.entries.now c.requires) (λ a r q k. search rules))
