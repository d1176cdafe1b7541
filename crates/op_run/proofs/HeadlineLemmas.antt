-- Isolation, as the bytes of a run show it.
use Rattle.std.proofs.Common.{ℕ, ◌+◌, true, false, List, [], ◌∷◌, ◌++◌, map, Option, ap, ◌∙◌, if◌then◌else◌}
use Rattle.std.specs.Io.KnownBytes.{Appends}
use Rattle.op_edges.specs.declared.lines.Line.{Line}
use Rattle.op_edges.specs.declared.lines.Line.TheVariants.{Whole, Long, End, Fault, Limit}
use Rattle.op_edges.specs.Lines.{IsClean, shown_lines}
use Rattle.op_input.specs.Lines.{is_blank, line_of}
use Rattle.op_json.specs.Json as json
use Rattle.op_report.specs.ReadBack.{BeginsObject, line_text}
use Rattle.op_report.proofs.ReadBackLemmas.{read_back, last_line}
use Rattle.op_report.proofs.CleanLemmas.{json_clean, json_object_begins}
use Rattle.cfg_types.specs.Written.{config_json}
use Rattle.op_thin.specs.Compiled.{config_of}
use Rattle.op_thin.proofs.NamedLemmas.{named}
use Rattle.tenant_world.specs.Events.{ReadEvent, HaveNames, given}
use Rattle.tenant_world.specs.Runs.{beginning, left_by}
use Rattle.tenant_world.proofs.EventLaws.{isolated}
use Rattle.op_run.specs.declared.files.NamedFile.{NamedFile}
use Rattle.op_run.specs.Inputs.{file_events, line_events, events_from, events_of}
use Rattle.op_run.specs.Headline.{Headline}
use Rattle.op_run.specs.Outputs.{final_text, run_reports, run_text}
use Rattle.op_run.proofs.NamedRunLemmas.{run_named}

names-append : (xs ys : List ReadEvent) → HaveNames xs → HaveNames ys → HaveNames (xs ++ ys)
names-append [] ys p q = q
names-append (x ∷ xs) ys p q = (p.0, names-append xs ys p.1 q)

line_names : (number : ℕ) (line : Line) → HaveNames (line_events number line)
line_names number (Whole bytes) =
    elim (is_blank bytes) as (λ b. HaveNames (if b then [] else given number (line_of bytes) ∷ [])) [ true ↦ tt | false ↦ (tt, tt) ]
line_names number Long = (tt, tt)
line_names number End = tt
line_names number Fault = tt
line_names number Limit = tt

lines_names : (count : ℕ) (lines : List Line) → HaveNames (events_from count lines)
lines_names count [] = tt
lines_names count (line ∷ lines) =
    names-append (line_events (count + 1) line) (events_from (count + 1) lines) (line_names (count + 1) line) (lines_names (count + 1) lines)

files_names : (files : List NamedFile) → HaveNames (file_events files)
files_names [] = tt
files_names (file ∷ files) = (named file.bytes, files_names files)

-- the objects of all events have well-formed namespaces
events_names : (files : List NamedFile) (bytes : List ℕ) → HaveNames (events_of files bytes)
events_names files bytes =
    names-append (file_events files) (events_from 0 (shown_lines bytes)) (files_names files) (lines_names 0 (shown_lines bytes))

-- the text of the objects present is one line
final_clean : (events : List ReadEvent) → IsClean (final_text events)
final_clean events = json_clean (config_json (config_of (left_by beginning events).objects))

-- the value is an object
abbrev IsObject : json.Json → Type 0
IsObject json.null = ⊥
IsObject (json.flag b) = ⊥
IsObject (json.whole n) = ⊥
IsObject (json.text t) = ⊥
IsObject (json.array es) = ⊥
IsObject (json.object fs) = Unit {0}

object_begins : (j : json.Json) → IsObject j → BeginsObject (json.json_text j)
object_begins json.null is = absurd is
object_begins (json.flag b) is = absurd is
object_begins (json.whole n) is = absurd is
object_begins (json.text t) is = absurd is
object_begins (json.array es) is = absurd is
object_begins (json.object fs) is = json_object_begins fs

-- it begins with its brace
final_begins : (events : List ReadEvent) → BeginsObject (final_text events)
final_begins events = object_begins (config_json (config_of (left_by beginning events).objects)) tt

-- what a run writes to its end has the lines of each tenant's own world, and the configuration as its last line
pub headline : (files : List NamedFile) (bytes : List ℕ) (before now : Option (List ℕ))
    → Appends before now (run_text files bytes) → Headline files bytes before now
headline files bytes before now wrote =
    let are_named = run_named beginning (events_of files bytes) tt (events_names files bytes) in
    let split = last_line (run_reports files bytes) (final_text (events_of files bytes)) are_named (final_clean (events_of files bytes)) in
    record {
      took = run_text files bytes;
      written = wrote;
      tenants = λ n is_named. read_back n (run_reports files bytes) (final_text (events_of files bytes)) is_named are_named
          (final_clean (events_of files bytes)) (final_begins (events_of files bytes))
          ∙ ap (map (line_text n)) (isolated n (events_of files bytes) is_named (events_names files bytes));
      lines = split.0;
      last = split.1;
    }
