use Rattle.ql_token.proofs.DigitLemmas.{word_utf8}
use Rattle.ql_token.proofs.digits.is_duration.Goals as goal

pub returns-in-Err : goal.returns-in-Err
returns-in-Err c = absurd (c.in-Err.ensures.cases.0 (word_utf8 _ c.requires))
