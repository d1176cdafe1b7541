-- What the walk over matchers holds, as the code has it.
use Rattle.ql_eval.specs.Absent as absent
use Rattle.ql_eval.specs.declared.absent.Given.{Given}

-- the same in the words of `Absent`
abbrev pub given_as : Given → absent.Given
given_as given = record { names = given.names; labels = given.labels }
