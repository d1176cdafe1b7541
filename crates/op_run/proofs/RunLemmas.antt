-- The run of the folder's files, file by file.
use Rattle.std.proofs.Common.{◌≡◌, ℕ, ◌+◌, ◌<◌, ◌≤◌, Bool, true, ◌&&◌, List, [], ◌++◌, drop, get_or, length, Option, refl, sym, ap, subst, ◌∙◌, append-nil, append_assoc}
use Rattle.std.proofs.lemmas.List.{drop_all}
use Rattle.std.specs.Io.KnownBytes.{Appends}
use Rattle.op_edges.specs.Streams.{AppendsPrefix}
use Rattle.op_edges.proofs.StreamLemmas.{appends_nothing, appends_twice, appends_same, prefix_after}
use Rattle.op_report.specs.ReadBack.{report_bytes}
use Rattle.tenant_world.specs.Runs.{World, run, said, next, left_by}
use Rattle.op_run.specs.declared.files.NamedFile.{NamedFile}
use Rattle.op_run.specs.Inputs.{file_event, file_events}
use Rattle.op_run.specs.WellAnswered.{all_well}
use Rattle.op_run.proofs.ReportLemmas.{next_of, and_assoc, and_true, bytes-append, well-append, prefix_of_more}

-- what was written of all, and what the rest of the files gives
pub record Ran (world : World) (files : List NamedFile) (before now : Option (List ℕ)) (left : World) (rest : List NamedFile) (good : Bool) : Type 0 where
  pub done : List ℕ
  pub written : Appends before now done
  pub lines : report_bytes (run world (file_events files)) ≡ done ++ report_bytes (run left (file_events rest))
  pub world_left : left_by world (file_events files) ≡ left_by left (file_events rest)
  pub well : all_well (run world (file_events files)) ≡ (good && all_well (run left (file_events rest)))

pub ran_none : (world : World) (files : List NamedFile) (told : Option (List ℕ)) → Ran world files told told world files true
ran_none world files told = record { done = []; written = appends_nothing told; lines = refl; world_left = refl; well = refl }

-- the next file was run
pub ran_next : (world : World) (files : List NamedFile) (before now then_now : Option (List ℕ)) (left after : World) (good well joined : Bool) (i : ℕ) (file : NamedFile)
    → i < length files → file ≡ get_or files i file → Ran world files before now left (drop i files) good
    → Appends now then_now (report_bytes (said left (file_event file))) → after ≡ next left (file_event file) → well ≡ all_well (said left (file_event file))
    → joined ≡ (good && well) → Ran world files before then_now after (drop (i + 1) files) joined
ran_next world files before now then_now left after good well joined i file within is ran line is_after is_good is_joined =
    let rest = next_of files i file within is in
    let this = said left (file_event file) in
    let later = file_events (drop (i + 1) files) in
    record {
      done = ran.done ++ report_bytes this;
      written = appends_twice before now then_now ran.done (report_bytes this) ran.written line;
      lines = ran.lines ∙ ap (λ fs. ran.done ++ report_bytes (run left (file_events fs))) rest
          ∙ ap (λ l. ran.done ++ l) (bytes-append this (run (next left (file_event file)) later))
          ∙ sym (append_assoc ran.done (report_bytes this) (report_bytes (run (next left (file_event file)) later)))
          ∙ ap (λ w. (ran.done ++ report_bytes this) ++ report_bytes (run w later)) (sym is_after);
      world_left = ran.world_left ∙ ap (λ fs. left_by left (file_events fs)) rest ∙ ap (λ w. left_by w later) (sym is_after);
      well = ran.well ∙ ap (λ fs. good && all_well (run left (file_events fs))) rest
          ∙ ap (λ b. good && b) (well-append this (run (next left (file_event file)) later))
          ∙ and_assoc good (all_well this) (all_well (run (next left (file_event file)) later))
          ∙ ap (λ w. (good && w) && all_well (run (next left (file_event file)) later)) (sym is_good)
          ∙ ap (λ w. (good && well) && all_well (run w later)) (sym is_after)
          ∙ ap (λ j. j && all_well (run after later)) (sym is_joined);
    }

-- the run ended within the lines of the next file
pub ran_into : (world : World) (files : List NamedFile) (before now then_now : Option (List ℕ)) (left : World) (good : Bool) (i : ℕ) (file : NamedFile)
    → i < length files → file ≡ get_or files i file → Ran world files before now left (drop i files) good
    → AppendsPrefix now then_now (report_bytes (said left (file_event file)))
    → AppendsPrefix before then_now (report_bytes (run world (file_events files)))
ran_into world files before now then_now left good i file within is ran line =
    let rest = next_of files i file within is in
    let this = report_bytes (said left (file_event file)) in
    let after = report_bytes (run (next left (file_event file)) (file_events (drop (i + 1) files))) in
    let all : report_bytes (run world (file_events files)) ≡ (ran.done ++ report_bytes (said left (file_event file))) ++ report_bytes (run (next left (file_event file)) (file_events (drop (i + 1) files))) =
    ran.lines ∙ ap (λ fs. ran.done ++ report_bytes (run left (file_events fs))) rest
    ∙ ap (λ l. ran.done ++ l) (bytes-append (said left (file_event file)) (run (next left (file_event file)) (file_events (drop (i + 1) files)))) ∙ sym (append_assoc ran.done this after) in
    subst (AppendsPrefix before then_now) (sym all)
    (prefix_of_more before then_now (ran.done ++ this) after (prefix_after before now then_now ran.done this ran.written line))

-- no file is left
pub record RanAll (world : World) (files : List NamedFile) (before now : Option (List ℕ)) (left : World) (good : Bool) : Type 0 where
  pub lines : Appends before now (report_bytes (run world (file_events files)))
  pub world_left : left ≡ left_by world (file_events files)
  pub well : good ≡ all_well (run world (file_events files))

pub ran_all : (world : World) (files : List NamedFile) (before now : Option (List ℕ)) (left : World) (good : Bool) (i : ℕ) → length files ≤ i
    → Ran world files before now left (drop i files) good → RanAll world files before now left good
ran_all world files before now left good i past ran =
    let none = drop_all i files past in
    record {
      lines = appends_same before now ran.done (report_bytes (run world (file_events files)))
          (sym (ran.lines ∙ ap (λ fs. ran.done ++ report_bytes (run left (file_events fs))) none ∙ append-nil ran.done)) ran.written;
      world_left = sym (ran.world_left ∙ ap (λ fs. left_by left (file_events fs)) none);
      well = sym (ran.well ∙ ap (λ fs. good && all_well (run left (file_events fs))) none ∙ and_true good);
    }
