-- One more line of an input was run, or all of them so far.
use Rattle.std.specs.Prelude.{◌≡◌, ℕ, ◌+◌, ◌<◌, ◌≤◌, Bool, List, [], ◌∷◌, ◌++◌, ◌&&◌, length, Option, Result, Ok, Err}
use Rattle.std.specs.Io.KnownBytes.{Appends}
use Rattle.cfg_types.specs.declared.config.Config.{Config}
use Rattle.op_edges.specs.Causes.{Rose}
use Rattle.op_edges.specs.declared.lines.Line.{Line}
use Rattle.op_edges.specs.Lines.{Reading, given, most_bytes, shown_lines}
use Rattle.op_edges.specs.Streams.{AppendsPrefix}
use Rattle.op_report.specs.ReadBack.{report_bytes}
use Rattle.srv_run.specs.Served.{Served, Serving}
use Rattle.op_run.specs.declared.lines.Next.{Next}
use Rattle.op_run.specs.declared.lines.Next.TheVariants.{More, Ends, Stops}
use Rattle.op_run.specs.declared.stop.Stop.{Stop}
use Rattle.op_run.specs.declared.stop.Stop.TheVariants.{Input, Limit, Output}
use Rattle.op_run.specs.Lines.{said_by, served_by, all_said}
use Rattle.op_run.specs.WellAnswered.{all_well}

-- a fact of a line that was run
abbrev pub IfMore : Next → (Bool → Type 0) → Type 0
IfMore (More well) P = P well
IfMore Ends P = Unit {0}
IfMore (Stops stop) P = Unit {0}

-- a fact of a run that stopped
abbrev pub IfStops : Next → (Stop → Type 0) → Type 0
IfStops (More well) P = Unit {0}
IfStops Ends P = Unit {0}
IfStops (Stops stop) P = P stop

-- what writing came to
abbrev pub next_of_result : Result Bool Stop → Next
next_of_result (Ok well) = More well
next_of_result (Err stop) = Stops stop

-- the first line of what was to come was run, and what is to come stands behind it
pub record OneMore (config : Config) (served : Served) (count : ℕ) (coming left : List ℕ) (before now : Option (List ℕ)) (next : Served) (number : ℕ) (well : Bool) : Type 0 where
  pub line : Line
  pub first : shown_lines coming ≡ line ∷ shown_lines left
  pub written : Appends before now (report_bytes (said_by config served (count + 1) line))
  pub after : next ≡ served_by config served line
  pub counted : number ≡ count + 1
  pub good : well ≡ all_well (said_by config served (count + 1) line)

-- no line was to come, and nothing was written
pub record NoneLeft (coming left : List ℕ) (before now : Option (List ℕ)) (reading : Reading) : Type 0 where
  pub none : coming ≡ []
  pub behind : left ≡ []
  pub kept : now ≡ before
  pub within : given reading ≤ most_bytes

-- a part of what the lines to come give was written
pub record StopsWithin (config : Config) (served : Served) (count : ℕ) (coming : List ℕ) (before now : Option (List ℕ)) (came left : ℕ) (stop : Stop) : Type 0 where
  pub part : AppendsPrefix before now (report_bytes (all_said config served count (shown_lines coming)))
  pub limit : stop ≡ Limit → most_bytes + left < came

-- what running one more line came to, where `before` were left of the source and `after` are left now
abbrev pub LineRan : Next → Serving → Serving → Reading → Reading → Option (List ℕ) → Option (List ℕ) → List ℕ → List ℕ → Type 0
LineRan (More well) server after_it reader read taken now before after =
    OneMore server.config server.served reader.line (reader.held ++ before) (read.held ++ after) taken now after_it.served read.line well
    × (read.came + length after ≡ reader.came + length before)
LineRan Ends server after_it reader read taken now before after =
    NoneLeft (reader.held ++ before) (read.held ++ after) taken now read
    × (read.came + length after ≡ reader.came + length before)
LineRan (Stops stop) server after_it reader read taken now before after =
    StopsWithin server.config server.served reader.line (reader.held ++ before) taken now (reader.came + length before) (length after) stop

-- the fault counts of the source and of the sink, before a line was run and now: what stopped it, failed
pub record NextCauses (next : Next) (source source_now sink sink_now : ℕ) : Type 0 where
  pub input : IfStops next (λ stop. stop ≡ Input → Rose source source_now)
  pub output : IfStops next (λ stop. stop ≡ Output → Rose sink sink_now)
  pub later_input : source ≤ source_now
  pub later_output : sink ≤ sink_now

-- what was written of all lines, and what those that are left give
pub record LinesRan (config : Config) (start : Served) (all : List ℕ) (before now : Option (List ℕ)) (served : Served) (count : ℕ) (left : List ℕ) (good : Bool) : Type 0 where
  pub done : List ℕ
  pub written : Appends before now done
  pub lines : report_bytes (all_said config start 0 (shown_lines all)) ≡ done ++ report_bytes (all_said config served count (shown_lines left))
  pub well : all_well (all_said config start 0 (shown_lines all)) ≡ (good && all_well (all_said config served count (shown_lines left)))
