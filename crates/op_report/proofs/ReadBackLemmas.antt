-- Report lines can be read back: no line has two readings.
use Rattle.std.proofs.Common.{◌≡◌, ℕ, Bool, true, false, cond, ◌==◌, ◌&&◌, List, [], ◌∷◌, ◌++◌, map, filter, bytes_eq, codes, Option, Some, None, IfSome, true≢false, refl, sym, ap, ◌∙◌, append_assoc, append-nil, ne_eqb, arith}
use Rattle.std.specs.List.{list_all}
use Rattle.std.proofs.lemmas.Slice.Eq.{bytes_eq-Decides}
use Rattle.std.proofs.lemmas.List.Elements.{filter-append}
use Rattle.op_base.specs.Names.{is_namespace, is_part_byte}
use Rattle.op_edges.specs.Lines.{IsClean, lines_of, newline}
use Rattle.op_edges.proofs.LineLemmas.{clean_append, lines_front}
use Rattle.op_json.specs.Json.{json_text}
use Rattle.op_report.specs.declared.view.Report.{Report}
use Rattle.op_report.specs.declared.view.View.{View}
use Rattle.op_report.specs.declared.line.TheConstants.{TAB}
use Rattle.op_report.specs.Lines.{view_json, line_of, address_of}
use Rattle.op_report.specs.ReadBack.{is_for, views_for, report_bytes, bytes_of, begins, line_text, AreNamed, IsReadBack, IsLastLine}
use Rattle.op_report.proofs.CleanLemmas.{json_clean}
use Rattle.op_report.proofs.LineLemmas.{both_so, namespace_parts, namespace_clean}

-- the line of a report, without its newline
abbrev pub report_text : Report → List ℕ
report_text report = line_text (address_of report.to) report.view

-- a byte of a name isn't another
part_other : (b other : ℕ) → is_part_byte b ≡ true → is_part_byte other ≡ false → (b == other) ≡ false
part_other b other is not = ne_eqb b other (λ same. true≢false (sym is ∙ ap is_part_byte same ∙ not))

-- a line that begins with a name and a TAB begins with that name alone
pub begins_name : (n m rest : List ℕ) → list_all is_part_byte n ≡ true → list_all is_part_byte m ≡ true
    → begins n (m ++ TAB ∷ rest) ≡ bytes_eq n m
begins_name [] [] rest p q = refl
begins_name [] (b ∷ m) rest p q = part_other b TAB (both_so (is_part_byte b) (list_all is_part_byte m) q).0 refl
begins_name (x ∷ n) [] rest p q =
    ap (λ t. t && begins n rest) (part_other x TAB (both_so (is_part_byte x) (list_all is_part_byte n) p).0 refl)
begins_name (x ∷ n) (b ∷ m) rest p q =
    ap (λ t. (x == b) && t)
    (begins_name n m rest (both_so (is_part_byte x) (list_all is_part_byte n) p).1 (both_so (is_part_byte b) (list_all is_part_byte m) q).1)

-- `-` is no namespace
for_everyone : (n : List ℕ) (t : Bool) → bytes_eq n (codes "-") ≡ t → is_namespace n ≡ true → t ≡ false
for_everyone n true same is = absurd (true≢false (sym is ∙ ap is_namespace ((bytes_eq-Decides n (codes "-")).0 same)))
for_everyone n false same is = refl

-- the line of a report begins with the namespace that it is for
pub begins_for : (n : List ℕ) (to : Option (List ℕ)) (rest : List ℕ) → is_namespace n ≡ true → IfSome to (λ m. is_namespace m ≡ true)
    → begins n (address_of to ++ TAB ∷ rest) ≡ is_for n to
begins_for n None rest is named =
    begins_name n (codes "-") rest (namespace_parts n is) refl ∙ for_everyone n (bytes_eq n (codes "-")) refl is
begins_for n (Some m) rest is named = begins_name n m rest (namespace_parts n is) (namespace_parts m named)

-- a line that begins with `{` begins with no name
pub begins_object : (n rest : List ℕ) → list_all is_part_byte n ≡ true → begins n (123 ∷ rest) ≡ false
begins_object [] rest p = refl
begins_object (x ∷ n) rest p =
    ap (λ t. t && begins n rest) (part_other x 123 (both_so (is_part_byte x) (list_all is_part_byte n) p).0 refl)

address_clean : (to : Option (List ℕ)) → IfSome to (λ m. is_namespace m ≡ true) → IsClean (address_of to)
address_clean None named = (omega arith, tt)
address_clean (Some m) named = namespace_clean m named

text_clean : (to : List ℕ) (view : View) → IsClean to → IsClean (line_text to view)
text_clean to view clean = clean_append to (TAB ∷ json_text (view_json view)) clean (omega arith, json_clean (view_json view))

-- what stands behind a line
line_then : (to : List ℕ) (view : View) (more : List ℕ) → line_of to view ++ more ≡ line_text to view ++ newline ∷ more
line_then to view more =
    append_assoc to (TAB ∷ (json_text (view_json view) ++ newline ∷ [])) more
    ∙ ap (λ l. to ++ TAB ∷ l) (append_assoc (json_text (view_json view)) (newline ∷ []) more)
    ∙ sym (append_assoc to (TAB ∷ json_text (view_json view)) (newline ∷ more))

-- all lines: one of each report, and the last one
pub lines_of_reports : (reports : List Report) (last : List ℕ) → AreNamed reports → IsClean last
    → lines_of (bytes_of reports last) ≡ map report_text reports ++ last ∷ []
lines_of_reports [] last named clean = lines_front last [] clean
lines_of_reports (report ∷ reports) last named clean =
    ap lines_of (append_assoc (line_of (address_of report.to) report.view) (report_bytes reports) (last ++ newline ∷ [])
    ∙ line_then (address_of report.to) report.view (bytes_of reports last))
    ∙ lines_front (report_text report) (bytes_of reports last)
    (text_clean (address_of report.to) report.view (address_clean report.to named.0))
    ∙ ap (λ lines. report_text report ∷ lines) (lines_of_reports reports last named.1 clean)

-- a report's text, where it is for the namespace
text_for : (n : List ℕ) (to : Option (List ℕ)) (view : View) → is_for n to ≡ true → line_text (address_of to) view ≡ line_text n view
text_for n None view is = absurd (true≢false (sym is))
text_for n (Some m) view is = ap (λ to. line_text to view) (sym ((bytes_eq-Decides n m).0 is))

-- one more report: it is kept or left out on both sides
one_more : (n : List ℕ) (report : Report) (kept : List Report) (t : Bool) → is_for n report.to ≡ t
    → cond t (report_text report ∷ map (line_text n) (map (λ r. r.view) kept)) (map (line_text n) (map (λ r. r.view) kept))
    ≡ map (line_text n) (map (λ r. r.view) (cond t (report ∷ kept) kept))
one_more n report kept true is = ap (λ l. l ∷ map (line_text n) (map (λ r. r.view) kept)) (text_for n report.to report.view is)
one_more n report kept false is = refl

-- the lines of a namespace among those of the reports
pub lines_kept : (n : List ℕ) (reports : List Report) → is_namespace n ≡ true → AreNamed reports
    → filter (begins n) (map report_text reports) ≡ map (line_text n) (views_for n reports)
lines_kept n [] is named = refl
lines_kept n (report ∷ reports) is named =
    ap (λ t. cond t (report_text report ∷ filter (begins n) (map report_text reports)) (filter (begins n) (map report_text reports)))
    (begins_for n report.to (json_text (view_json report.view)) is named.0)
    ∙ ap (λ lines. cond (is_for n report.to) (report_text report ∷ lines) lines) (lines_kept n reports is named.1)
    ∙ one_more n report (filter (λ r. is_for n r.to) reports) (is_for n report.to) refl

no_line : (n last : List ℕ) → begins n last ≡ false → filter (begins n) (last ∷ []) ≡ []
no_line n last not = ap (λ t. cond t (last ∷ []) []) not

pub read_back : IsReadBack
read_back n reports last is named clean (rest, object) =
    ap (filter (begins n)) (lines_of_reports reports last named clean)
    ∙ filter-append (begins n) (map report_text reports) (last ∷ [])
    ∙ ap (λ l. filter (begins n) (map report_text reports) ++ l)
    (no_line n last (ap (begins n) object ∙ begins_object n rest (namespace_parts n is)))
    ∙ append-nil (filter (begins n) (map report_text reports))
    ∙ lines_kept n reports is named

pub last_line : IsLastLine
last_line reports last named clean = (map report_text reports, lines_of_reports reports last named clean)
