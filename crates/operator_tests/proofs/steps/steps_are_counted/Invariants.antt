-- The ledger is the one that the blank names.
use Rattle.operator_tests.proofs.steps.steps_are_counted.Given as goal

abbrev pub ghosts-counted : goal.ghosts-counted
ghosts-counted a = record { name = a.blank.name; parts = a.blank.parts }
