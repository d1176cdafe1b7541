use Rattle.std.proofs.Common.{◌∙◌, ap}
use Rattle.op_base.proofs.MapLemmas.{member_taken, member_gone, none_taken, none_gone}
use Rattle.op_base.proofs.ordered_map.OrderedMap+K+List+X.pop.Goals.{in-Some, in-None}
use Rattle.op_base.proofs.ordered_map.OrderedMap+K+List+X.pop.Goals as goal

pub returns-clause-last : goal.returns-clause-last
returns-clause-last g c = elim c.match-get_mut.branch [
  | in-Some w ↦ w.result-is ∙ member_taken g.K.Ord.cmp c.args.key.now w.pop.result w.in-Some.members.now w.pop.new.self c.self.inside.entries.entries
      c.args.self.now c.self.view_is w.in-Some.ensures.value w.pop.ensures
  | in-None w ↦ w.result-is ∙ none_taken g.K.Ord.cmp c.args.key.now c.self.inside.entries.entries c.args.self.now c.self.view_is w.in-None.ensures.value
]

pub returns-clause-rest : goal.returns-clause-rest
returns-clause-rest g c = elim c.match-get_mut.branch [
  | in-Some w ↦ ap (λ inside. inside.entries.entries) w.self-inside-is
      ∙ member_gone g.K.Ord.cmp g.met.K.Ord.total c.args.key.now w.pop.result w.in-Some.members.now w.pop.new.self c.self.inside.entries.entries
      (c.get_mut.follows.lender w.pop.new.self).entries c.args.self.now c.self.view_is w.in-Some.ensures.ordered w.in-Some.ensures.value
      (c.get_mut.follows.holds w.pop.new.self).0 w.pop.ensures
  | in-None w ↦ ap (λ inside. inside.entries.entries) w.self-inside-is
      ∙ none_gone g.K.Ord.cmp c.args.key.now c.self.inside.entries.entries (c.get_mut.follows.lender-at-none).entries c.args.self.now
      c.self.view_is (ap (λ t. t.entries) c.get_mut.follows.holds-at-none ∙ c.self.view_is) w.in-None.ensures.value
]
