-- What was written of the lines of an input so far.
use Rattle.std.proofs.Common.{◌≡◌, ℕ, ◌+◌, ◌-◌, ◌<◌, ◌≤◌, Bool, true, ◌&&◌, List, [], ◌∷◌, ◌++◌, length, Option, Ok, Err, refl, sym, ap, subst, ◌∙◌, append-nil, append_assoc, arith}
use Rattle.std.specs.Io.KnownBytes.{Appends}
use Rattle.cfg_types.specs.declared.config.Config.{Config}
use Rattle.op_edges.specs.Lines.{Reading, new_reading, most_bytes, shown_lines}
use Rattle.op_edges.specs.Streams.{AppendsPrefix}
use Rattle.op_edges.proofs.StreamLemmas.{appends_nothing, appends_twice, appends_same, prefix_after}
use Rattle.op_report.specs.ReadBack.{report_bytes}
use Rattle.srv_run.specs.Served.{Served, Serving}
use Rattle.op_run.specs.Lines.{said_by, served_by, all_said}
use Rattle.op_run.specs.declared.lines.Next.TheVariants.{More, Ends, Stops}
use Rattle.op_run.specs.declared.stop.Stop.{Stop}
use Rattle.op_run.specs.InputRuns.{InputRan}
use Rattle.op_run.specs.LineRuns.{LineRan, OneMore, LinesRan}
use Rattle.op_run.specs.WellAnswered.{all_well}
use Rattle.op_run.proofs.ReportLemmas.{and_assoc, and_true, bytes-append, well-append}

-- no line was run
pub lines_begin : (config : Config) (start : Served) (all : List ℕ) (told : Option (List ℕ)) → LinesRan config start all told told start 0 all true
lines_begin config start all told = record { done = []; written = appends_nothing told; lines = refl; well = refl }

-- one more line was run
pub lines_next : (config : Config) (start : Served) (all : List ℕ) (a b c : Option (List ℕ)) (served next : Served) (count number : ℕ) (coming left : List ℕ) (good well joined : Bool)
    → LinesRan config start all a b served count coming good → OneMore config served count coming left b c next number well → joined ≡ (good && well)
    → LinesRan config start all a c next number left joined
lines_next config start all a b c served next count number coming left good well joined ran one is_joined =
    let this = said_by config served (count + 1) one.line in
    let rest = all_said config (served_by config served one.line) (count + 1) (shown_lines left) in
    record {
      done = ran.done ++ report_bytes this;
      written = appends_twice a b c ran.done (report_bytes this) ran.written one.written;
      lines = ran.lines ∙ ap (λ lines. ran.done ++ report_bytes (all_said config served count lines)) one.first
          ∙ ap (λ l. ran.done ++ l) (bytes-append this rest)
          ∙ sym (append_assoc ran.done (report_bytes this) (report_bytes rest))
          ∙ ap (λ s. (ran.done ++ report_bytes this) ++ report_bytes (all_said config s (count + 1) (shown_lines left))) (sym one.after)
          ∙ ap (λ n. (ran.done ++ report_bytes this) ++ report_bytes (all_said config next n (shown_lines left))) (sym one.counted);
      well = ran.well ∙ ap (λ lines. good && all_well (all_said config served count lines)) one.first
          ∙ ap (λ b. good && b) (well-append this rest)
          ∙ and_assoc good (all_well this) (all_well rest)
          ∙ ap (λ w. (good && w) && all_well rest) (sym one.good)
          ∙ ap (λ s. (good && well) && all_well (all_said config s (count + 1) (shown_lines left))) (sym one.after)
          ∙ ap (λ n. (good && well) && all_well (all_said config next n (shown_lines left))) (sym one.counted)
          ∙ ap (λ j. j && all_well (all_said config next number (shown_lines left))) (sym is_joined);
    }

-- no line is left
pub lines_done : (config : Config) (start : Served) (all : List ℕ) (a b : Option (List ℕ)) (served : Served) (count : ℕ) (coming : List ℕ) (good : Bool)
    → coming ≡ [] → LinesRan config start all a b served count coming good → Appends a b (report_bytes (all_said config start 0 (shown_lines all)))
lines_done config start all a b served count coming good none ran =
    appends_same a b ran.done (report_bytes (all_said config start 0 (shown_lines all)))
    (sym (ran.lines ∙ ap (λ bytes. ran.done ++ report_bytes (all_said config served count (shown_lines bytes))) none ∙ append-nil ran.done)) ran.written

pub lines_well : (config : Config) (start : Served) (all : List ℕ) (a b : Option (List ℕ)) (served : Served) (count : ℕ) (coming : List ℕ) (good : Bool)
    → coming ≡ [] → LinesRan config start all a b served count coming good → good ≡ all_well (all_said config start 0 (shown_lines all))
lines_well config start all a b served count coming good none ran =
    sym (ran.well ∙ ap (λ bytes. good && all_well (all_said config served count (shown_lines bytes))) none ∙ and_true good)

-- a part of what is left was written
pub lines_stopped : (config : Config) (start : Served) (all : List ℕ) (a b c : Option (List ℕ)) (served : Served) (count : ℕ) (coming : List ℕ) (good : Bool)
    → LinesRan config start all a b served count coming good → AppendsPrefix b c (report_bytes (all_said config served count (shown_lines coming)))
    → AppendsPrefix a c (report_bytes (all_said config start 0 (shown_lines all)))
lines_stopped config start all a b c served count coming good ran part =
    subst (AppendsPrefix a c) (sym ran.lines)
    (prefix_after a b c ran.done (report_bytes (all_said config served count (shown_lines coming))) ran.written part)

-- a reader that took nothing stands before all lines
pub lines_begin_at : (config : Config) (start : Served) (all : List ℕ) (told : Option (List ℕ)) (reader : Reading) → reader ≡ new_reading
    → LinesRan config start all told told start reader.line (reader.held ++ all) true
lines_begin_at config start all told reader is =
    subst (λ (r : Reading). LinesRan config start all told told start r.line (r.held ++ all) true) (sym is) (lines_begin config start all told)

-- at the end, all that came was given
pub all_given : (held after bytes : List ℕ) (came came_before left_before most : ℕ) → held ++ after ≡ [] → came - length held ≤ most
    → came + length after ≡ came_before + left_before → came_before + left_before ≡ length bytes → length bytes ≤ most
all_given [] [] bytes came came_before left_before most none within sum all = omega (arith, within, sum, all)
all_given [] (b ∷ after) bytes came came_before left_before most none within sum all = absurd (omega (arith, ap length none))
all_given (b ∷ held) after bytes came came_before left_before most none within sum all = absurd (omega (arith, ap length none))

-- nothing stands behind nothing
pub nothing_behind : (held left : List ℕ) → held ++ left ≡ [] → left ≡ []
nothing_behind [] left none = none
nothing_behind (b ∷ held) left none = absurd (omega (arith, ap length none))

-- A run from its start: a reader that took nothing, before all of the bytes.
pub lines_start : (start : Serving) (reader : Reading) (told : Option (List ℕ)) (all : List ℕ) → reader ≡ new_reading
    → LinesRan start.config start.served all told told start.served reader.line (reader.held ++ all) true × (reader.came + length all ≡ length all)
lines_start start reader told all is =
    (lines_begin_at start.config start.served all told reader is, omega (arith, ap (λ (r : Reading). r.came) is))

-- The run so far, and what comes next: `all` were left of the source at the start, and `coming` are left now.
module _ (start server : Serving) (reader : Reading) (a b : Option (List ℕ)) (all coming : List ℕ) (good : Bool) (config : server.config ≡ start.config)
    (so_far : LinesRan start.config start.served all a b server.served reader.line (reader.held ++ coming) good × (reader.came + length coming ≡ length all)) where
  -- one more line
  pub lines_on : (next : Serving) (read : Reading) (c : Option (List ℕ)) (left : List ℕ) (well joined : Bool) → joined ≡ (good && well)
      → LineRan (More well) server next reader read b c coming left
      → LinesRan start.config start.served all a c next.served read.line (read.held ++ left) joined × (read.came + length left ≡ length all)
  lines_on next read c left well joined is_joined (one, on) = (
    lines_next start.config start.served all a b c server.served next.served reader.line read.line (reader.held ++ coming) (read.held ++ left) good well joined so_far.0
        (subst (λ config. OneMore config server.served reader.line (reader.held ++ coming) (read.held ++ left) b c next.served read.line well) config one) is_joined,
    on ∙ so_far.1,
  )

  -- no line is left
  pub lines_end : (next : Serving) (read : Reading) (c : Option (List ℕ)) (left : List ℕ) → LineRan Ends server next reader read b c coming left
      → InputRan (Ok good) (report_bytes (all_said start.config start.served 0 (shown_lines all))) (all_well (all_said start.config start.served 0 (shown_lines all))) a c all left
  lines_end next read c left (ends, on) = record {
    written = subst (λ o. Appends a o (report_bytes (all_said start.config start.served 0 (shown_lines all)))) (sym ends.kept)
        (lines_done start.config start.served all a b server.served reader.line (reader.held ++ coming) good ends.none so_far.0);
    same = lines_well start.config start.served all a b server.served reader.line (reader.held ++ coming) good ends.none so_far.0;
    read = all_given read.held left all read.came reader.came (length coming) most_bytes ends.behind ends.within on so_far.1;
    whole = nothing_behind read.held left ends.behind;
  }

  -- a line stopped
  pub lines_stop : (stop : Stop) (next : Serving) (read : Reading) (c : Option (List ℕ)) (left : List ℕ) → LineRan (Stops stop) server next reader read b c coming left
      → InputRan (Err stop) (report_bytes (all_said start.config start.served 0 (shown_lines all))) (all_well (all_said start.config start.served 0 (shown_lines all))) a c all left
  lines_stop stop next read c left within = record {
    part = lines_stopped start.config start.served all a b c server.served reader.line (reader.held ++ coming) good so_far.0
        (subst (λ config. AppendsPrefix b c (report_bytes (all_said config server.served reader.line (shown_lines (reader.held ++ coming))))) config within.part);
    limit = λ is. subst (λ n. most_bytes + length left < n) so_far.1 (within.limit is);
  }
