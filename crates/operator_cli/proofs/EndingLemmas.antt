-- What was written when a run ends.
use Rattle.std.proofs.Common.{◌≡◌, ℕ, ◌<◌, ◌≤◌, List, [], length, take, Option, None, Some, IfSome, Result, Ok, Err, OnOk, OnErr, ◌⊎◌, inl, inr, refl, sym, ap, subst, arith}
use Rattle.std.proofs.lemmas.List.{take_all}
use Rattle.std.specs.Io.KnownBytes.{Appends}
use Rattle.op_edges.specs.Causes.{Rose}
use Rattle.op_edges.specs.Folders.{Folders}
use Rattle.op_edges.specs.Streams.{AppendsPrefix}
use Rattle.op_edges.specs.Told.{Told}
use Rattle.op_edges.proofs.CountLemmas.{rose_second}
use Rattle.op_edges.proofs.ToldLemmas.{told_so}
use Rattle.op_edges.proofs.StreamLemmas.{appends_nothing, appends_twice, appends_same}
use Rattle.op_run.specs.declared.files.NamedFile.{NamedFile}
use Rattle.operator_cli.specs.Endings.{IfCompile, IfRun, WhereCompiled, WhereRun, StopsWith, InOrder}
use Rattle.op_run.specs.Folders.{manifests_in, bytes_in}
use Rattle.operator_cli.specs.Readings.{Reading, Compile, Run, reading_of}

some_so : {A : Type 0} (o : Option A) (P Q : A → Type 0) → ((a : A) → P a → Q a) → IfSome o P → IfSome o Q
some_so None P Q follows p = tt
some_so (Some a) P Q follows p = follows a p

compile_so : (reading : Reading) (P Q : List ℕ → Type 0) → ((dir : List ℕ) → P dir → Q dir) → IfCompile reading P → IfCompile reading Q
compile_so (Compile dir) P Q follows p = follows dir p
compile_so (Run dir) P Q follows p = tt

run_so : (reading : Reading) (P Q : List ℕ → Type 0) → ((dir : List ℕ) → P dir → Q dir) → IfRun reading P → IfRun reading Q
run_so (Compile dir) P Q follows p = tt
run_so (Run dir) P Q follows p = follows dir p

-- what follows of the manifests that are compiled
pub where_compiled : (words : List (List ℕ)) (content : Option Folders) (P Q : List NamedFile → Type 0) → ((files : List NamedFile) → P files → Q files)
    → WhereCompiled words content P → WhereCompiled words content Q
where_compiled words content P Q follows = some_so (reading_of words) _ _ (λ reading.
    compile_so reading (λ dir. IfSome content (λ folders. P (manifests_in folders dir))) (λ dir. IfSome content (λ folders. Q (manifests_in folders dir))) (λ dir.
    some_so content (λ folders. P (manifests_in folders dir)) (λ folders. Q (manifests_in folders dir)) (λ folders. follows (manifests_in folders dir))))

-- what follows of the manifests and the input of a run
pub where_run : (words : List (List ℕ)) (content : Option Folders) (before after : Option (List ℕ)) (P Q : List NamedFile → List ℕ → List ℕ → Type 0)
    → ((files : List NamedFile) (bytes left : List ℕ) → P files bytes left → Q files bytes left) → WhereRun words content before after P → WhereRun words content before after Q
where_run words content before after P Q follows = some_so (reading_of words) _ _ (λ reading.
    run_so reading (λ dir. IfSome content (λ folders. Told before after (P (manifests_in folders dir))))
    (λ dir. IfSome content (λ folders. Told before after (Q (manifests_in folders dir)))) (λ dir.
    some_so content (λ folders. Told before after (P (manifests_in folders dir))) (λ folders. Told before after (Q (manifests_in folders dir))) (λ folders.
    told_so before after (P (manifests_in folders dir)) (Q (manifests_in folders dir)) (follows (manifests_in folders dir)))))

-- files that were read aren't too many
pub not_too_many : (content : Option Folders) (dir : List ℕ) (files : List NamedFile) (most : ℕ) (P : Type 0)
    → IfSome content (λ folders. files ≡ manifests_in folders dir) → bytes_in files ≤ most
    → IfSome content (λ folders. most < bytes_in (manifests_in folders dir) → P)
not_too_many None dir files most P all within = tt
not_too_many (Some folders) dir files most P all within = λ above. absurd (omega (arith, ap bytes_in all, within, above))

-- a part of the bytes, and then what was written of the text
pub stops_with : {E : Type 0} (a b c : Option (List ℕ)) (bytes text : List ℕ) (r : Result (Unit {0}) E) (first second third : ℕ) → first ≤ second → AppendsPrefix a b bytes
    → OnOk r (Appends b c text) → OnErr r (AppendsPrefix b c text) → OnErr r (Rose second third) → StopsWith a c bytes text (Rose first third)
stops_with a b c bytes text (Ok x) first second third later (count, within, took) all part rose = record {
  written = count;
  shown = length text;
  written_within = within;
  shown_within = omega arith;
  took = appends_twice a b c (take count bytes) (take (length text) text) took (appends_same b c text (take (length text) text) (sym (take_all (length text) text (omega arith))) all);
  whole = inl refl;
}
stops_with a b c bytes text (Err e) first second third later (count, within, took) all (shown, shown_within, part) rose = record {
  written = count;
  shown = shown;
  written_within = within;
  shown_within = shown_within;
  took = appends_twice a b c (take count bytes) (take shown text) took part;
  whole = inr (rose_second first second third later rose);
}

-- nothing was written but the text
pub stops_silent : {E : Type 0} (a b c : Option (List ℕ)) (text : List ℕ) (r : Result (Unit {0}) E) (first second third : ℕ) → b ≡ a → first ≤ second
    → OnOk r (Appends b c text) → OnErr r (AppendsPrefix b c text) → OnErr r (Rose second third) → StopsWith a c [] text (Rose first third)
stops_silent a b c text r first second third same later all part rose =
    let nothing : AppendsPrefix a b [] = subst (λ o. AppendsPrefix a o []) (sym same) (0, omega arith, appends_nothing a) in
    stops_with a b c [] text r first second third later nothing all part rose

-- all of the bytes, if the other sink was touched, and then a part of the text
pub in_order : {E : Type 0} (Untouched : Type 0) (a b c : Option (List ℕ)) (bytes text : List ℕ) (r : Result (Unit {0}) E) → Untouched ⊎ Appends a b bytes
    → OnOk r (Appends b c text) → OnErr r (AppendsPrefix b c text) → InOrder Untouched a c bytes text
in_order Untouched a b c bytes text r (inl same) all part = inl same
in_order Untouched a b c bytes text (Ok x) (inr took) all part = inr (
  length text,
  appends_twice a b c bytes (take (length text) text) took (appends_same b c text (take (length text) text) (sym (take_all (length text) text (omega arith))) all),
)
in_order Untouched a b c bytes text (Err e) (inr took) all (shown, within, part) = inr (shown, appends_twice a b c bytes (take shown text) took part)
