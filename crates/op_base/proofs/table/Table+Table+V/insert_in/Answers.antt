use Rattle.std.proofs.Common.{string_bytes, ◌∙◌, ap}
use Rattle.std.specs.Ordering.{nat_cmp}
use Rattle.std.specs.Cmp.Lexicographic.{slice_cmp}
use Rattle.std.proofs.lemmas.Result.{on_ok_weaker, on_err_weaker}
use Rattle.op_base.specs.Maps.{shown_entries, with_entry}
use Rattle.op_base.proofs.MapLemmas.{refilled_alike}
use Rattle.op_base.proofs.TableLemmas.{filled_inner, added_inner}
use Rattle.op_base.proofs.table.Table+Table+V.insert_in.Goals as goal

pub returns-in-Some-clause-ok : goal.returns-in-Some-clause-ok
returns-in-Some-clause-ok g c =
    on_ok_weaker c.insert.result
    (filled_inner c.as_str.result.now c.args.outer c.args.inner c.args.value c.in-Some.table.now c.insert.new.self c.self.inside.entries.entries
    (c.get_mut.follows.lender c.insert.new.self).entries c.args.self.now c.as_str.ensures c.self.view_is c.in-Some.ensures.ordered c.in-Some.ensures.value
    (c.get_mut.follows.holds c.insert.new.self).0)
    c.insert.ensures.ok

pub returns-in-Some-clause-err : goal.returns-in-Some-clause-err
returns-in-Some-clause-err g c =
    on_err_weaker c.insert.result
    (refilled_alike string_bytes (slice_cmp nat_cmp) c.as_str.result.now c.in-Some.table.now c.insert.new.self c.self.inside.entries.entries
    (c.get_mut.follows.lender c.insert.new.self).entries c.args.self.now c.self.view_is c.in-Some.ensures.value
    (c.get_mut.follows.holds c.insert.new.self).0)
    c.insert.ensures.err

pub returns-in_ok-insert-in-None-clause-ok : goal.returns-in_ok-insert-in-None-clause-ok
returns-in_ok-insert-in-None-clause-ok g c =
    on_ok_weaker c.insert-in-None-2.result
    (λ is. added_inner c.as_str.result.now c.args.outer c.args.inner c.args.value c.insert-in-None.new.self c.self.inside.entries.entries c.args.self.now c.insert-in-None-2.new.self
    c.as_str.ensures c.self.view_is c.in-None.ensures.value
    (c.in_ok-insert-in-None.ensures.ok ∙ ap (λ t. with_entry t c.args.inner c.args.value) c.new-table.ensures)
    (is ∙ ap (λ m. with_entry m c.args.outer c.insert-in-None.new.self) (ap shown_entries c.get_mut.follows.holds-at-none ∙ c.self.view_is)))
    c.insert-in-None-2.ensures.ok
