-- The lines of an input, one after the other, and the run of their events: both say the same.
use Rattle.std.proofs.Common.{◌≡◌, ℕ, ◌+◌, true, false, List, [], ◌∷◌, ◌++◌, refl, sym, ap, ◌∙◌, append-nil, append_assoc, if◌then◌else◌}
use Rattle.op_edges.specs.declared.lines.Line.{Line}
use Rattle.op_edges.specs.declared.lines.Line.TheVariants.{Whole, Long, End, Fault, Limit}
use Rattle.op_input.specs.Lines.{is_blank, line_of}
use Rattle.op_thin.specs.Compiled.{config_of}
use Rattle.op_thin.specs.Objects.{Present}
use Rattle.srv_run.specs.Served.{Served}
use Rattle.tenant_world.specs.Events.{ReadEvent, given}
use Rattle.tenant_world.specs.Runs.{World, run, said, next, left_by, line_said, line_served}
use Rattle.op_run.specs.Inputs.{line_events, events_from}
use Rattle.op_run.specs.Lines.{served_by, said_by, all_said}

pub run-append : (world : World) (xs ys : List ReadEvent) → run world (xs ++ ys) ≡ run world xs ++ run (left_by world xs) ys
run-append world [] ys = refl
run-append world (x ∷ xs) ys = ap (λ l. said world x ++ l) (run-append (next world x) xs ys)
    ∙ sym (append_assoc (said world x) (run (next world x) xs) (run (left_by (next world x) xs) ys))

pub left_by-append : (world : World) (xs ys : List ReadEvent) → left_by world (xs ++ ys) ≡ left_by (left_by world xs) ys
left_by-append world [] ys = refl
left_by-append world (x ∷ xs) ys = left_by-append (next world x) xs ys

-- a line's event says what the line says
line_run : (objects : Present) (served : Served) (number : ℕ) (line : Line)
    → run (record { objects = objects; served = served }) (line_events number line) ≡ said_by (config_of objects) served number line
line_run objects served number (Whole bytes) =
    elim (is_blank bytes) as (λ b. run (record { objects = objects; served = served }) (if b then [] else given number (line_of bytes) ∷ [])
    ≡ (if b then [] else line_said (config_of objects) served number (line_of bytes))) [
      | true ↦ refl
      | false ↦ append-nil (line_said (config_of objects) served number (line_of bytes))
    ]
line_run objects served number Long = refl
line_run objects served number End = refl
line_run objects served number Fault = refl
line_run objects served number Limit = refl

-- it leaves the objects, and of the server what the line leaves
line_left : (objects : Present) (served : Served) (number : ℕ) (line : Line)
    → left_by (record { objects = objects; served = served }) (line_events number line) ≡ record { objects = objects; served = served_by (config_of objects) served line }
line_left objects served number (Whole bytes) =
    elim (is_blank bytes) as (λ b. left_by (record { objects = objects; served = served }) (if b then [] else given number (line_of bytes) ∷ [])
    ≡ record { objects = objects; served = if b then served else line_served (config_of objects) served (line_of bytes) }) [
      | true ↦ refl
      | false ↦ refl
    ]
line_left objects served number Long = refl
line_left objects served number End = refl
line_left objects served number Fault = refl
line_left objects served number Limit = refl

-- the run of lines' events is what the lines say, one after the other
pub lines_run : (objects : Present) (served : Served) (count : ℕ) (lines : List Line)
    → run (record { objects = objects; served = served }) (events_from count lines) ≡ all_said (config_of objects) served count lines
lines_run objects served count [] = refl
lines_run objects served count (line ∷ lines) =
    run-append (record { objects = objects; served = served }) (line_events (count + 1) line) (events_from (count + 1) lines)
    ∙ ap (λ l. l ++ run (left_by (record { objects = objects; served = served }) (line_events (count + 1) line)) (events_from (count + 1) lines))
    (line_run objects served (count + 1) line)
    ∙ ap (λ w. said_by (config_of objects) served (count + 1) line ++ run w (events_from (count + 1) lines)) (line_left objects served (count + 1) line)
    ∙ ap (λ l. said_by (config_of objects) served (count + 1) line ++ l) (lines_run objects (served_by (config_of objects) served line) (count + 1) lines)

-- they leave the objects
pub lines_left : (objects : Present) (served : Served) (count : ℕ) (lines : List Line)
    → (left_by (record { objects = objects; served = served }) (events_from count lines)).objects ≡ objects
lines_left objects served count [] = refl
lines_left objects served count (line ∷ lines) =
    ap (λ w. w.objects) (left_by-append (record { objects = objects; served = served }) (line_events (count + 1) line) (events_from (count + 1) lines))
    ∙ ap (λ w. (left_by w (events_from (count + 1) lines)).objects) (line_left objects served (count + 1) line)
    ∙ lines_left objects (served_by (config_of objects) served line) (count + 1) lines
