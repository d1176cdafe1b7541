-- A run's lines and its configuration: the files', then the input's, then the text of what is present.
use Rattle.std.proofs.Common.{◌≡◌, ℕ, Bool, ◌&&◌, List, [], ◌∷◌, ◌++◌, Option, Ok, Err, sym, ap, subst, ◌∙◌, append_assoc}
use Rattle.std.specs.Io.KnownBytes.{Appends}
use Rattle.op_edges.specs.Lines.{shown_lines, newline}
use Rattle.op_edges.specs.Streams.{AppendsPrefix}
use Rattle.op_edges.proofs.StreamLemmas.{appends_twice, appends_same, prefix_after}
use Rattle.op_report.specs.declared.view.Report.{Report}
use Rattle.op_report.specs.ReadBack.{report_bytes}
use Rattle.cfg_types.specs.Written.{config_text}
use Rattle.op_thin.specs.Compiled.{config_of}
use Rattle.op_thin.specs.Objects.{Present, nothing}
use Rattle.srv_run.specs.Served.{Served, Serving, new_serving}
use Rattle.tenant_world.specs.Runs.{World, beginning, run, left_by}
use Rattle.op_run.specs.declared.files.NamedFile.{NamedFile}
use Rattle.op_run.specs.declared.stop.Stop.{Stop}
use Rattle.op_run.specs.InputRuns.{InputRan}
use Rattle.op_run.specs.Inputs.{file_events, events_from, events_of}
use Rattle.op_run.specs.Lines.{all_said}
use Rattle.op_run.specs.Outputs.{text_after, run_text_after}
use Rattle.op_run.specs.Stops.{IsWriting}
use Rattle.op_run.specs.WellAnswered.{all_well}
use Rattle.op_run.proofs.ReportLemmas.{bytes-append, well-append, prefix_of_more}
use Rattle.op_run.proofs.LineRunLemmas.{run-append, left_by-append, lines_run, lines_left}

-- a server that was told nothing, and no objects
pub begins : (objects : Present) (server : Serving) → objects ≡ nothing → server ≡ new_serving → record { objects = objects; served = server.served } ≡ beginning
begins objects server none new = λ i. record { objects = none i; served = (new i).served }

-- the files of a folder left these objects and this server, and the input has these bytes
module _ (start : World) (files : List NamedFile) (bytes : List ℕ) (objects : Present) (served : Served)
    (is : record { objects = objects; served = served } ≡ left_by start (file_events files)) where
  abbrev ones : List Report
  ones = run start (file_events files)

  abbrev others : List Report
  others = all_said (config_of objects) served 0 (shown_lines bytes)

  abbrev last : List ℕ
  last = config_text (config_of objects) ++ newline ∷ []

  -- the reports are the files' and then the input's
  reports : run start (events_of files bytes) ≡ ones ++ others
  reports = run-append start (file_events files) (events_from 0 (shown_lines bytes))
      ∙ ap (λ w. ones ++ run w (events_from 0 (shown_lines bytes))) (sym is)
      ∙ ap (λ l. ones ++ l) (lines_run objects served 0 (shown_lines bytes))

  -- the input leaves the objects
  objects_stay : (left_by start (events_of files bytes)).objects ≡ objects
  objects_stay = ap (λ w. w.objects) (left_by-append start (file_events files) (events_from 0 (shown_lines bytes)))
      ∙ ap (λ w. (left_by w (events_from 0 (shown_lines bytes))).objects) (sym is)
      ∙ lines_left objects served 0 (shown_lines bytes)

  whole : run_text_after start files bytes ≡ report_bytes ones ++ (report_bytes others ++ last)
  whole = ap (λ o. report_bytes (run start (events_of files bytes)) ++ (config_text (config_of o) ++ newline ∷ [])) objects_stay
      ∙ ap (λ r. report_bytes r ++ last) reports
      ∙ ap (λ l. l ++ last) (bytes-append ones others)
      ∙ append_assoc (report_bytes ones) (report_bytes others) last

  -- all was written
  wrote_run : (a b c : Option (List ℕ)) → Appends a b (report_bytes (run start (file_events files)))
      → Appends b c (report_bytes (all_said (config_of objects) served 0 (shown_lines bytes)) ++ (config_text (config_of objects) ++ newline ∷ []))
      → Appends a c (run_text_after start files bytes)
  wrote_run a b c first second =
      appends_same a c (report_bytes ones ++ (report_bytes others ++ last)) (run_text_after start files bytes) (sym whole)
      (appends_twice a b c (report_bytes ones) (report_bytes others ++ last) first second)

  -- the files' lines were written, and a part of the rest
  wrote_part : (a b c : Option (List ℕ)) → Appends a b (report_bytes (run start (file_events files)))
      → AppendsPrefix b c (report_bytes (all_said (config_of objects) served 0 (shown_lines bytes)) ++ (config_text (config_of objects) ++ newline ∷ []))
      → AppendsPrefix a c (run_text_after start files bytes)
  wrote_part a b c first part =
      subst (AppendsPrefix a c) (sym whole) (prefix_after a b c (report_bytes ones) (report_bytes others ++ last) first part)

  -- both are answered well
  well_run : (good well joined : Bool) → good ≡ all_well (run start (file_events files))
      → well ≡ all_well (all_said (config_of objects) served 0 (shown_lines bytes)) → joined ≡ (good && well) → joined ≡ all_well (run start (events_of files bytes))
  well_run good well joined one other is_joined =
      is_joined ∙ ap (λ b. b && well) one ∙ ap (λ b. all_well ones && b) other ∙ sym (well-append ones others) ∙ sym (ap all_well reports)

  -- the run came to its end
  pub whole_ran : (a b c : Option (List ℕ)) (after : List ℕ) → Appends a b (report_bytes (run start (file_events files)))
      → (good well joined : Bool) → good ≡ all_well (run start (file_events files)) → joined ≡ (good && well)
      → InputRan (Ok well) (report_bytes (all_said (config_of objects) served 0 (shown_lines bytes)) ++ (config_text (config_of objects) ++ newline ∷ []))
      (all_well (all_said (config_of objects) served 0 (shown_lines bytes))) b c bytes after
      → InputRan (Ok joined) (run_text_after start files bytes) (all_well (run start (events_of files bytes))) a c bytes after
  whole_ran a b c after first good well joined one is_joined ran = record {
    written = wrote_run a b c first ran.written;
    same = well_run good well joined one ran.same is_joined;
    read = ran.read;
    whole = ran.whole;
  }

  -- it stopped behind the files
  pub part_ran : (a b c : Option (List ℕ)) (after : List ℕ) → Appends a b (report_bytes (run start (file_events files))) → (stop : Stop)
      → InputRan (Err stop) (report_bytes (all_said (config_of objects) served 0 (shown_lines bytes)) ++ (config_text (config_of objects) ++ newline ∷ []))
      (all_well (all_said (config_of objects) served 0 (shown_lines bytes))) b c bytes after
      → InputRan (Err stop) (run_text_after start files bytes) (all_well (run start (events_of files bytes))) a c bytes after
  part_ran a b c after first stop ran = record { part = wrote_part a b c first ran.part; limit = ran.limit }

-- a part of the files' lines was written
wrote_some : (start : World) (files : List NamedFile) (bytes : List ℕ) (a b : Option (List ℕ)) → AppendsPrefix a b (report_bytes (run start (file_events files)))
    → AppendsPrefix a b (run_text_after start files bytes)
wrote_some start files bytes a b part =
    let first = run start (file_events files) in
    let more = run (left_by start (file_events files)) (events_from 0 (shown_lines bytes)) in
    let last = text_after start (events_of files bytes) ++ newline ∷ [] in
    subst (AppendsPrefix a b)
    (sym (ap (λ l. l ++ last) (ap report_bytes (run-append start (file_events files) (events_from 0 (shown_lines bytes))) ∙ bytes-append first more)
    ∙ append_assoc (report_bytes first) (report_bytes more) last))
    (prefix_of_more a b (report_bytes first) (report_bytes more ++ last) part)

-- the run stopped within the files
pub files_stop : (start : World) (files : List NamedFile) (bytes : List ℕ) (a b : Option (List ℕ)) (stop : Stop) → AppendsPrefix a b (report_bytes (run start (file_events files)))
    → IsWriting stop → InputRan (Err stop) (run_text_after start files bytes) (all_well (run start (events_of files bytes))) a b bytes bytes
files_stop start files bytes a b stop part writing =
    record { part = wrote_some start files bytes a b part; limit = λ is. absurd (subst IsWriting is writing) }
