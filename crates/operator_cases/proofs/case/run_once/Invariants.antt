-- The steps of the program are counted in a new ledger.
use Rattle.operator_cases.proofs.case.run_once.Given as goal

abbrev pub ghosts-run_counted : goal.ghosts-run_counted
ghosts-run_counted g a = record { name = a.blank.name; parts = a.blank.parts }
