-- Reports with good answers alone: Admitted, Unselected or Deleted, or no answer.
use Rattle.std.specs.Prelude.{List, Bool}
use Rattle.std.specs.List.{list_all}
use Rattle.op_report.specs.declared.view.Report.{Report}
use Rattle.op_report.specs.Lines.{answers_well}

-- the report has good answers alone
abbrev pub is_well : Report → Bool
is_well report = answers_well report.view

-- each report has good answers alone
abbrev pub all_well : List Report → Bool
all_well reports = list_all is_well reports
