-- The lines of an input, one after the other, over a server that runs a configuration. The run of their
-- events says the same: `proofs/LineRunLemmas.antt`.
use Rattle.std.specs.Prelude.{ℕ, ◌+◌, List, [], ◌∷◌, ◌++◌, if◌then◌else◌}
use Rattle.cfg_types.specs.declared.config.Config.{Config}
use Rattle.op_edges.specs.declared.lines.Line.{Line}
use Rattle.op_edges.specs.declared.lines.Line.TheVariants.{Whole, Long, End, Fault, Limit}
use Rattle.op_input.specs.Lines.{is_blank, line_of}
use Rattle.op_report.specs.declared.view.Report.{Report}
use Rattle.op_report.specs.declared.view.View.TheVariants.{Long as LongView}
use Rattle.srv_run.specs.Served.{Served}
use Rattle.tenant_world.specs.Runs.{to_all, line_served, line_said}

-- what the server keeps after a line; an end, a fault or a limit is no line, and changes nothing
abbrev pub served_by : Config → Served → Line → Served
served_by config served (Whole bytes) = if is_blank bytes then served else line_served config served (line_of bytes)
served_by config served Long = served
served_by config served End = served
served_by config served Fault = served
served_by config served Limit = served

-- what the line of a number says; an end, a fault or a limit is no line, and says nothing
abbrev pub said_by : Config → Served → ℕ → Line → List Report
said_by config served number (Whole bytes) = if is_blank bytes then [] else line_said config served number (line_of bytes)
said_by config served number Long = to_all (LongView number) ∷ []
said_by config served number End = []
said_by config served number Fault = []
said_by config served number Limit = []

-- what lines say that stand behind so many
abbrev pub all_said : Config → Served → ℕ → List Line → List Report
all_said config served count [] = []
all_said config served count (line ∷ lines) =
    said_by config served (count + 1) line ++ all_said config (served_by config served line) (count + 1) lines
