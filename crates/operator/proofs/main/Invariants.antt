-- The steps of the program are counted in a new ledger.
use Rattle.operator.proofs.main.Given as goal

abbrev pub ghosts-start : goal.ghosts-start
ghosts-start a = record { name = a.blank.name; parts = a.blank.parts }
