use Rattle.std.proofs.Common.{string_bytes, ◌∙◌}
use Rattle.std.specs.Ordering.{nat_cmp}
use Rattle.std.specs.Cmp.Lexicographic.{slice_cmp}
use Rattle.op_base.proofs.MapLemmas.{risen}
use Rattle.op_base.proofs.TableLemmas.{listed}
use Rattle.op_base.proofs.table.Table.keys.Goals as goal

pub returns-clause-sorted : goal.returns-clause-sorted
returns-clause-sorted g c = risen string_bytes (slice_cmp nat_cmp) _ _ c.self.view_is c.len-rising.ensures.ordered

pub returns-in_err-from_str-clause-sorted : goal.returns-in_err-from_str-clause-sorted
returns-in_err-from_str-clause-sorted g c = risen string_bytes (slice_cmp nat_cmp) _ _ c.self.view_is c.len-rising.ensures.ordered

pub returns-in_err-push-clause-sorted : goal.returns-in_err-push-clause-sorted
returns-in_err-push-clause-sorted g c = risen string_bytes (slice_cmp nat_cmp) _ _ c.self.view_is c.len-rising.ensures.ordered

pub returns-clause-keys : goal.returns-clause-keys
returns-clause-keys g c = listed _ c.args.self.now c.loop-key.keys c.into_iter-key-iterator.result c.loop-key.key-iterator c.self.view_is
    (c.into_iter-key-iterator.ensures.into_iter_gives ∙ c.keys-key-items.ensures.rest) c.loop-key.invariant.2 c.in-None.ensures.steps.0
