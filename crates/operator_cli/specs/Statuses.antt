-- What the program ends with, and the text that it writes last for it.
use Rattle.std.specs.Prelude.{ℕ, List, [], ◌∷◌, ◌++◌, Bool, true, false, codes, if◌then◌else◌}
use Rattle.op_report.specs.declared.view.Report.{Report}
use Rattle.op_edges.specs.Lines.{newline}
use Rattle.op_run.specs.declared.stop.Stop.{Stop}
use Rattle.op_run.specs.declared.stop.Stop.TheVariants.{Input, Limit, Output, Memory}
use Rattle.op_run.specs.WellAnswered.{all_well}
use Rattle.operator_cli.specs.declared.status.Status.{Status}
use Rattle.operator_cli.specs.declared.status.Status.TheVariants.{Done, Refused, Usage, InputFault, FolderFault, OutputFault, InputLimit, NoMemory}

-- the text on standard error, with its newline
abbrev pub status_text : Status → List ℕ
status_text Done = []
status_text Refused = []
status_text Usage = codes "usage: operator compile DIR [--part PART] | apply DIR [--each] [--part PART] | run DIR" ++ newline ∷ []
status_text InputFault = codes "fault: input" ++ newline ∷ []
status_text FolderFault = codes "fault: folder" ++ newline ∷ []
status_text OutputFault = codes "fault: output" ++ newline ∷ []
status_text InputLimit = codes "limit: input" ++ newline ∷ []
status_text NoMemory = codes "memory" ++ newline ∷ []

-- all was read to its end and written
abbrev pub is_ended : Status → Bool
is_ended Done = true
is_ended Refused = true
is_ended Usage = false
is_ended InputFault = false
is_ended FolderFault = false
is_ended OutputFault = false
is_ended InputLimit = false
is_ended NoMemory = false

-- it ended before anything was written, whatever was asked for
abbrev pub is_silent : Status → Bool
is_silent Done = false
is_silent Refused = false
is_silent Usage = true
is_silent InputFault = false
is_silent FolderFault = true
is_silent OutputFault = false
is_silent InputLimit = false
is_silent NoMemory = false

-- it may have ended before all files of the folder were read
abbrev pub is_cut_short : Status → Bool
is_cut_short Done = false
is_cut_short Refused = false
is_cut_short Usage = false
is_cut_short InputFault = false
is_cut_short FolderFault = true
is_cut_short OutputFault = false
is_cut_short InputLimit = true
is_cut_short NoMemory = true

-- the exit status
abbrev pub exit_code : Status → ℕ
exit_code Done = 0
exit_code Refused = 1
exit_code Usage = 2
exit_code InputFault = 3
exit_code FolderFault = 4
exit_code OutputFault = 5
exit_code InputLimit = 6
exit_code NoMemory = 9

-- nothing failed and nothing was too much; memory may have been refused
abbrev pub is_whole : Status → Bool
is_whole Done = true
is_whole Refused = true
is_whole Usage = false
is_whole InputFault = false
is_whole FolderFault = false
is_whole OutputFault = false
is_whole InputLimit = false
is_whole NoMemory = true

-- what the compilation of files that were read may end with
abbrev pub is_after_files : Status → Bool
is_after_files Done = true
is_after_files Refused = true
is_after_files Usage = false
is_after_files InputFault = false
is_after_files FolderFault = false
is_after_files OutputFault = true
is_after_files InputLimit = false
is_after_files NoMemory = true

-- the status of a run that stopped
abbrev pub status_of_stop : Stop → Status
status_of_stop Input = InputFault
status_of_stop Limit = InputLimit
status_of_stop Output = OutputFault
status_of_stop Memory = NoMemory

-- the status of a run to its end: Done where each report has good answers alone
abbrev pub status_of_well : Bool → Status
status_of_well good = if good then Done else Refused

-- Done where each report has good answers alone, else Refused
abbrev pub status_of : List Report → Status
status_of reports = status_of_well (all_well reports)
