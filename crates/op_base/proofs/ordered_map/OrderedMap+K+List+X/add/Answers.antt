use Rattle.std.proofs.Common.{◌∙◌, [], ◌∷◌, ◌++◌, ap}
use Rattle.std.proofs.lemmas.Result.{on_ok_weaker, on_err_weaker}
use Rattle.op_base.proofs.MapLemmas.{member_added, own_refilled_alike, first_member}
use Rattle.op_base.proofs.ordered_map.OrderedMap+K+List+X.add.Goals as goal

pub returns-in-Some-clause-ok : goal.returns-in-Some-clause-ok
returns-in-Some-clause-ok g c =
    on_ok_weaker c.push.result
    (member_added g.K.Ord.cmp g.met.K.Ord.total c.args.key c.args.member c.in-Some.members.now c.push.new.self c.self.inside.entries.entries
    (c.get_mut.follows.lender c.push.new.self).entries c.args.self.now c.self.view_is c.in-Some.ensures.ordered c.in-Some.ensures.value
    (c.get_mut.follows.holds c.push.new.self).0)
    c.push.ensures.ok

pub returns-in-Some-clause-err : goal.returns-in-Some-clause-err
returns-in-Some-clause-err g c =
    on_err_weaker c.push.result
    (own_refilled_alike g.K.Ord.cmp c.args.key c.in-Some.members.now c.push.new.self c.self.inside.entries.entries
    (c.get_mut.follows.lender c.push.new.self).entries c.args.self.now c.self.view_is c.in-Some.ensures.value
    (c.get_mut.follows.holds c.push.new.self).0)
    c.push.ensures.err

pub returns-in_ok-push-in-None-clause-ok : goal.returns-in_ok-push-in-None-clause-ok
returns-in_ok-push-in-None-clause-ok g c =
    on_ok_weaker c.insert.result
    (λ is. first_member g.K.Ord.cmp c.args.key c.args.member c.push-in-None.new.self c.self.inside.entries.entries c.args.self.now
    (c.get_mut.follows.lender-at-none).entries c.insert.new.self
    c.self.view_is (ap (λ t. t.entries) c.get_mut.follows.holds-at-none ∙ c.self.view_is)
    c.in-None.ensures.value
    (c.in_ok-push-in-None.ensures.ok ∙ ap (λ l. l ++ c.args.member ∷ []) c.new-members.ensures)
    is)
    c.insert.ensures.ok
