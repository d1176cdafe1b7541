use Rattle.std.proofs.Common.{sym, subst}
use Rattle.ql_parse.specs.Gives.{Gives}
use Rattle.ql_parse.specs.Reading.{read, whole, within}
use Rattle.ql_parse.proofs.Steps.{whole_fault}
use Rattle.ql_parse.proofs.climbing.read.Goals as goal

pub returns-in-Ok : goal.returns-in-Ok
unfolding read
returns-in-Ok c =
    subst (λ found. Gives (λ e. e) c.whole.result (whole found)) (sym c.in-Ok.ensures.read)
    c.whole.ensures

pub returns-in-Err : goal.returns-in-Err
unfolding read
returns-in-Err c =
    whole_fault c.in-Err.fault (within 401 200 c.args.words.now) c.in-Err.ensures.read
