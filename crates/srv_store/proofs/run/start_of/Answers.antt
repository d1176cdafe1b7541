-- The readings in order are parted by the test.
use Rattle.std.proofs.Common.{not, int_le, rules}
use Rattle.std.proofs.lemmas.List.Sorted.{IsPartitionPoint-from_clause}
use Rattle.srv_store.specs.Runs.{Reading, moment_cmp}
use Rattle.srv_store.proofs.PlaceLemmas.{parted_by, point_is}
use Rattle.srv_store.proofs.KeptLemmas.{moments_total}
use Rattle.srv_store.proofs.WindowLemmas.{before_falls}
use Rattle.srv_store.proofs.run.start_of.Goals as goal

pub returns : goal.returns
returns c =
    point_is (λ (r : Reading). not (int_le c.args.from.now r.0.0)) c.args.readings.now c.partition_point.result c.partition_point.ensures.bound
    (IsPartitionPoint-from_clause (λ (r : Reading). not (int_le c.args.from.now r.0.0)) _ _ c.partition_point.ensures.partitioned
    (parted_by moment_cmp moments_total (λ m. not (int_le c.args.from.now m.0)) (before_falls c.args.from.now c.args.from.now) c.args.readings.now c.requires) (λ a r q k. search rules))
