-- The lines of reports, one after the other.
use Rattle.std.proofs.Common.{◌≡◌, ℕ, suc, ◌+◌, ◌<◌, Bool, true, false, ◌&&◌, List, [], ◌∷◌, ◌++◌, drop, get_or, length, take, Option, refl, sym, ap, subst, ◌∙◌, append-nil, append_assoc, length-append, add-one, drop-cons, arith}
use Rattle.std.proofs.lemmas.List.{take-append-le, take_all}
use Rattle.std.specs.Io.KnownBytes.{Appends}
use Rattle.op_edges.specs.Streams.{AppendsPrefix}
use Rattle.op_edges.proofs.StreamLemmas.{appends_nothing, appends_twice, appends_same, prefix_after}
use Rattle.op_report.specs.declared.view.Report.{Report}
use Rattle.op_report.specs.Lines.{report_line}
use Rattle.op_report.specs.ReadBack.{report_bytes}
use Rattle.op_run.specs.WellAnswered.{is_well, all_well}

-- what is left at a place is the item there, and what is left behind it
pub next_of : {A : Type 0} (items : List A) (i : ℕ) (item : A) → i < length items → item ≡ get_or items i item → drop i items ≡ item ∷ drop (i + 1) items
next_of items i item within is = drop-cons items i item within ∙ ap (λ x. x ∷ drop (suc i) items) (sym is) ∙ ap (λ n. item ∷ drop n items) (sym (add-one i))

pub and_assoc : (a b c : Bool) → (a && (b && c)) ≡ ((a && b) && c)
and_assoc true b c = refl
and_assoc false b c = refl

pub and_true : (b : Bool) → (b && true) ≡ b
and_true true = refl
and_true false = refl

pub bytes-append : (xs ys : List Report) → report_bytes (xs ++ ys) ≡ report_bytes xs ++ report_bytes ys
bytes-append [] ys = refl
bytes-append (x ∷ xs) ys = ap (λ l. report_line x ++ l) (bytes-append xs ys) ∙ sym (append_assoc (report_line x) (report_bytes xs) (report_bytes ys))

pub well-append : (xs ys : List Report) → all_well (xs ++ ys) ≡ (all_well xs && all_well ys)
well-append [] ys = refl
well-append (x ∷ xs) ys = ap (λ b. is_well x && b) (well-append xs ys) ∙ and_assoc (is_well x) (all_well xs) (all_well ys)

-- a prefix of the bytes is a prefix of more bytes
pub prefix_of_more : (a b : Option (List ℕ)) (xs ys : List ℕ) → AppendsPrefix a b xs → AppendsPrefix a b (xs ++ ys)
prefix_of_more a b xs ys (count, within, took) = (
  count,
  omega (arith, within, length-append xs ys),
  appends_same a b (take count xs) (take count (xs ++ ys)) (sym (take-append-le count xs ys within)) took,
)

-- all of the bytes are a prefix of them
pub all_are_prefix : (a b : Option (List ℕ)) (xs : List ℕ) → Appends a b xs → AppendsPrefix a b xs
all_are_prefix a b xs took = (length xs, omega arith, appends_same a b xs (take (length xs) xs) (sym (take_all (length xs) xs (omega arith))) took)

-- nothing is a prefix of all bytes
pub none_is_prefix : (a : Option (List ℕ)) (xs : List ℕ) → AppendsPrefix a a xs
none_is_prefix a xs = (0, omega arith, appends_nothing a)

-- what was written of all reports, and those that are left
pub record Written (all : List Report) (before now : Option (List ℕ)) (rest : List Report) (good : Bool) : Type 0 where
  pub done : List ℕ
  pub written : Appends before now done
  pub lines : report_bytes all ≡ done ++ report_bytes rest
  pub well : all_well all ≡ (good && all_well rest)

pub written_none : (all : List Report) (told : Option (List ℕ)) → Written all told told all true
written_none all told = record { done = []; written = appends_nothing told; lines = refl; well = refl }

-- the next report was written
pub written_next : (all : List Report) (before now then_now : Option (List ℕ)) (report : Report) (rest left : List Report) (good well joined : Bool) → left ≡ report ∷ rest
    → Written all before now left good → Appends now then_now (report_line report) → well ≡ is_well report → joined ≡ (good && well) → Written all before then_now rest joined
written_next all before now then_now report rest left good well joined is so_far line is_good is_joined = record {
  done = so_far.done ++ report_line report;
  written = appends_twice before now then_now so_far.done (report_line report) so_far.written line;
  lines = so_far.lines ∙ ap (λ l. so_far.done ++ report_bytes l) is ∙ sym (append_assoc so_far.done (report_line report) (report_bytes rest));
  well = so_far.well ∙ ap (λ l. good && all_well l) is ∙ and_assoc good (is_well report) (all_well rest)
      ∙ ap (λ w. (good && w) && all_well rest) (sym is_good) ∙ ap (λ j. j && all_well rest) (sym is_joined);
}

-- it ended within the line of the next report
pub written_into : (all : List Report) (before now then_now : Option (List ℕ)) (report : Report) (rest left : List Report) (good : Bool) → left ≡ report ∷ rest
    → Written all before now left good → AppendsPrefix now then_now (report_line report) → AppendsPrefix before then_now (report_bytes all)
written_into all before now then_now report rest left good is so_far line =
    subst (AppendsPrefix before then_now)
    (append_assoc so_far.done (report_line report) (report_bytes rest) ∙ sym (so_far.lines ∙ ap (λ l. so_far.done ++ report_bytes l) is))
    (prefix_of_more before then_now (so_far.done ++ report_line report) (report_bytes rest) (prefix_after before now then_now so_far.done (report_line report) so_far.written line))

-- no report is left
pub record WrittenAll (all : List Report) (before now : Option (List ℕ)) (good : Bool) : Type 0 where
  pub lines : Appends before now (report_bytes all)
  pub well : good ≡ all_well all

pub written_all : (all : List Report) (before now : Option (List ℕ)) (left : List Report) (good : Bool) → left ≡ [] → Written all before now left good → WrittenAll all before now good
written_all all before now left good none so_far = record {
  lines = appends_same before now so_far.done (report_bytes all) (sym (so_far.lines ∙ ap (λ l. so_far.done ++ report_bytes l) none ∙ append-nil so_far.done)) so_far.written;
  well = sym (so_far.well ∙ ap (λ l. good && all_well l) none ∙ and_true good);
}
