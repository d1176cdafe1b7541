-- A new label set shows nothing, and an addition shows its entry.
use Rattle.std.proofs.Common.{List, subst, sym}
use Rattle.op_base.specs.Labels.{Texts}
use Rattle.srv_store.specs.Runs.{entries_of}
use Rattle.srv_store.specs.StoreLaws.{IsTwinless}
use Rattle.srv_store.proofs.TwinLemmas.{taken_twinless}
use Rattle.srv_store.proofs.KeptLemmas.{kept-numbered, kept_same, taken_kept, taken_added, taken_ok, taken_err}
use Rattle.srv_store.proofs.store.Store.take.Goals as goal

pub invariant_of-self : goal.invariant_of-self
invariant_of-self c = (
  kept_same c.self.inside.keys.keys c.numbered.new.keys.keys c.self.inside.runs.items c.numbered.new.runs.items c.self.inside.log.items c.self.invariant.0 c.in_err-number.ensures.keys c.in_err-number.ensures.runs,
  c.in_err-number.ensures.index c.self.invariant.1,
  subst (λ (keys : List Texts). IsTwinless (entries_of keys c.self.inside.log.items)) (sym c.in_err-number.ensures.keys) c.self.invariant.2,
)

pub invariant_of-self-2 : goal.invariant_of-self-2
invariant_of-self-2 c =
    let n = c.in_ok-number.ensures.ok in (
      taken_kept c.add_at.result c.numbered.new.keys.keys c.numbered.new.runs.items c.add_at.new.runs.items c.self.inside.log.items c.add_at.new.log.items
          (record { number = c.in_ok-number.number; at = c.args.entry.now.at; value = c.args.entry.now.value })
          (kept-numbered c.self.invariant.0 n) n.within c.add_at.ensures.runs c.add_at.ensures.log c.add_at.ensures.runs_stay c.add_at.ensures.log_stays,
      c.in_ok-number.ensures.index c.self.invariant.1,
      taken_twinless c.add_at.result c.args.self.now (entries_of c.numbered.new.keys.keys c.add_at.new.log.items) c.args.entry.now (subst IsTwinless c.self.view_is c.self.invariant.2)
          (taken_ok c.add_at.result c.args.self.now c.args.entry.now c.in_ok-number.number c.self.invariant.0 n c.self.view_is c.add_at.new.log.items c.add_at.ensures.log)
          (taken_err c.add_at.result c.args.self.now c.args.entry.now c.in_ok-number.number c.self.invariant.0 n c.self.view_is c.add_at.new.log.items c.add_at.ensures.log_stays),
    )

pub returns-clause-added : goal.returns-clause-added
returns-clause-added c = taken_added c.add_at.result c.args.self.now c.args.entry.now c.in_ok-number.number c.self.invariant.0 c.in_ok-number.ensures.ok c.self.view_is c.add_at.ensures.added

pub returns-clause-ok : goal.returns-clause-ok
returns-clause-ok c = taken_ok c.add_at.result c.args.self.now c.args.entry.now c.in_ok-number.number c.self.invariant.0 c.in_ok-number.ensures.ok c.self.view_is c.add_at.new.log.items c.add_at.ensures.log

pub returns-clause-err : goal.returns-clause-err
returns-clause-err c = taken_err c.add_at.result c.args.self.now c.args.entry.now c.in_ok-number.number c.self.invariant.0 c.in_ok-number.ensures.ok c.self.view_is c.add_at.new.log.items c.add_at.ensures.log_stays
