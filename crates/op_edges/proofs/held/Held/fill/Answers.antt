use Rattle.std.proofs.Common.{◌≡◌, ◌+◌, ◌-◌, length, vec_len, OnOk, ap, arith}
use Rattle.std.proofs.lemmas.Result.{on_ok_weaker}
use Rattle.op_edges.specs.Steps.{Holding}
use Rattle.op_edges.proofs.ToldLemmas.{told_so}
use Rattle.op_edges.proofs.held.Held.fill.Goals as goal

pub returns-clause-sum : goal.returns-clause-sum
returns-clause-sum g c =
    told_so (g.S.Source.left c.args.source.now) (g.S.Source.left c.read_into-got.new.source)
    (λ before after. OnOk c.read_into-got.result (vec_len c.read_into-got.new.buffer + length after ≡ vec_len c.drop_front.new.buffer + length before))
    (λ before after. OnOk c.read_into-got.result (c.self.inside.came + (c.len.result - c.len-size.result) + length after ≡ c.args.self.now.came + length before))
    (λ before after sums. on_ok_weaker c.read_into-got.result (λ sum. let came = ap (λ (h : Holding). h.came) c.self.view_is in omega (arith, sum, came, c.read_into-got.ensures.least)) sums)
    c.read_into-got.ensures.sum
