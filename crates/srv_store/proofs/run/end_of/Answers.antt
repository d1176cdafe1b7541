-- The readings in order are parted by the test.
use Rattle.std.proofs.Common.{int_le, rules}
use Rattle.std.proofs.lemmas.List.Sorted.{IsPartitionPoint-from_clause}
use Rattle.srv_store.specs.Runs.{Reading, moment_cmp}
use Rattle.srv_store.proofs.PlaceLemmas.{parted_by, point_is}
use Rattle.srv_store.proofs.KeptLemmas.{moments_total}
use Rattle.srv_store.proofs.WindowLemmas.{until_falls}
use Rattle.srv_store.proofs.run.end_of.Goals as goal

pub returns-clause-place : goal.returns-clause-place
returns-clause-place c =
    point_is (λ (r : Reading). int_le r.0.0 c.args.to.now) c.args.readings.now c.partition_point.result c.partition_point.ensures.bound
    (IsPartitionPoint-from_clause (λ (r : Reading). int_le r.0.0 c.args.to.now) _ _ c.partition_point.ensures.partitioned
    (parted_by moment_cmp moments_total (λ m. int_le m.0 c.args.to.now) (until_falls c.args.to.now c.args.to.now) c.args.readings.now c.requires) (λ a r q k. search rules))
