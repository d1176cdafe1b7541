-- The events of a run: the files of the folder, and then the lines of the input that aren't blank, with
-- their numbers from 1.
use Rattle.std.specs.Prelude.{ℕ, ◌+◌, List, [], ◌∷◌, ◌++◌, map, if◌then◌else◌}
use Rattle.op_edges.specs.declared.lines.Line.{Line}
use Rattle.op_edges.specs.declared.lines.Line.TheVariants.{Whole, Long, End, Fault, Limit}
use Rattle.op_edges.specs.Lines.{shown_lines}
use Rattle.op_input.specs.Lines.{is_blank, line_of}
use Rattle.op_thin.specs.Items.{item_of}
use Rattle.tenant_world.specs.Events.{ReadEvent, manifest, given, long}
use Rattle.op_run.specs.declared.files.NamedFile.{NamedFile}

-- a file is one event
abbrev pub file_event : NamedFile → ReadEvent
file_event file = manifest file.name (item_of file.bytes)

-- an event for each file, in order
abbrev pub file_events : List NamedFile → List ReadEvent
file_events files = map file_event files

-- the event of a line; a blank one is none, and an end, a fault or a limit is no line
abbrev pub line_events : ℕ → Line → List ReadEvent
line_events number (Whole bytes) = if is_blank bytes then [] else given number (line_of bytes) ∷ []
line_events number Long = long number ∷ []
line_events number End = []
line_events number Fault = []
line_events number Limit = []

-- the events of lines that stand behind so many
abbrev pub events_from : ℕ → List Line → List ReadEvent
events_from count [] = []
events_from count (line ∷ lines) = line_events (count + 1) line ++ events_from (count + 1) lines

-- all events of a run
abbrev pub events_of : List NamedFile → List ℕ → List ReadEvent
events_of files bytes = file_events files ++ events_from 0 (shown_lines bytes)
