-- What the program writes: of a folder that is compiled, and of a run.
use Rattle.std.specs.Prelude.{ℕ, List, [], ◌∷◌, ◌++◌}
use Rattle.cfg_types.specs.Written.{config_text}
use Rattle.op_report.specs.declared.view.Report.{Report}
use Rattle.op_edges.specs.Lines.{newline}
use Rattle.op_report.specs.ReadBack.{bytes_of}
use Rattle.op_thin.specs.Compiled.{config_of}
use Rattle.tenant_world.specs.Events.{ReadEvent}
use Rattle.tenant_world.specs.Runs.{World, beginning, run, left_by}
use Rattle.op_run.specs.declared.files.NamedFile.{NamedFile}
use Rattle.op_run.specs.Inputs.{file_events, events_of}

-- the text of the configuration of the objects that events leave, made from these alone
abbrev pub text_after : World → List ReadEvent → List ℕ
text_after world events = config_text (config_of (left_by world events).objects)

-- the same, where nothing had happened before
abbrev pub final_text : List ReadEvent → List ℕ
final_text events = text_after beginning events

-- the reports of the folder's files
abbrev pub reports_of : List NamedFile → List Report
reports_of files = run beginning (file_events files)

-- the configuration that the folder's files leave, and a newline
abbrev pub configuration_after : World → List NamedFile → List ℕ
configuration_after world files = text_after world (file_events files) ++ newline ∷ []

-- the configuration of the folder, and a newline
abbrev pub configuration_of : List NamedFile → List ℕ
configuration_of files = configuration_after beginning files

-- the reports of a run
abbrev pub run_reports : List NamedFile → List ℕ → List Report
run_reports files bytes = run beginning (events_of files bytes)

-- the lines of a run that begins with a world, and the configuration as the last one
abbrev pub run_text_after : World → List NamedFile → List ℕ → List ℕ
run_text_after world files bytes = bytes_of (run world (events_of files bytes)) (text_after world (events_of files bytes))

-- the lines of a run, and the configuration as the last one
abbrev pub run_text : List NamedFile → List ℕ → List ℕ
run_text files bytes = run_text_after beginning files bytes
