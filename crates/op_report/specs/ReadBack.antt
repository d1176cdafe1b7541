-- Report lines, read back from the bytes of a run: those that begin with a namespace and a TAB are
-- what was said to it, and the last line is what stands behind the reports.
use Rattle.std.specs.Prelude.{◌≡◌, ℕ, Bool, true, false, List, [], ◌∷◌, ◌++◌, map, filter, flat_map, bytes_eq, ◌==◌, ◌&&◌, Option, Some, None, IfSome}
use Rattle.op_base.specs.Names.{is_namespace}
use Rattle.op_edges.specs.Lines.{IsClean, lines_of, newline}
use Rattle.op_json.specs.Json.{json_text}
use Rattle.op_report.specs.declared.view.Report.{Report}
use Rattle.op_report.specs.declared.view.View.{View}
use Rattle.op_report.specs.declared.line.TheConstants.{TAB}
use Rattle.op_report.specs.Lines.{view_json, report_line}

-- the report is for the namespace
abbrev pub is_for : List ℕ → Option (List ℕ) → Bool
is_for n None = false
is_for n (Some namespace) = bytes_eq n namespace

-- what is said to a namespace
abbrev pub views_for : List ℕ → List Report → List View
views_for n reports = map (λ report. report.view) (filter (λ report. is_for n report.to) reports)

-- the lines of reports, one after the other
abbrev pub report_bytes : List Report → List ℕ
report_bytes reports = flat_map report_line reports

-- the lines of reports, and a last line behind them
abbrev pub bytes_of : List Report → List ℕ → List ℕ
bytes_of reports last = report_bytes reports ++ (last ++ newline ∷ [])

-- the line begins with the name and a TAB
abbrev pub begins : List ℕ → List ℕ → Bool
begins [] [] = false
begins [] (b ∷ line) = b == TAB
begins (x ∷ name) [] = false
begins (x ∷ name) (b ∷ line) = x == b && begins name line

-- the lines of some bytes that begin with the name and a TAB
abbrev pub lines_for : List ℕ → List ℕ → List (List ℕ)
lines_for n bytes = filter (begins n) (lines_of bytes)

-- the line of a view, without its newline
abbrev pub line_text : List ℕ → View → List ℕ
line_text n view = n ++ TAB ∷ json_text (view_json view)

-- each report is for everyone or for a namespace
abbrev pub AreNamed : List Report → Type 0
AreNamed [] = Unit {0}
AreNamed (report ∷ reports) = IfSome report.to (λ namespace. is_namespace namespace ≡ true) × AreNamed reports

-- the text begins with `{`
abbrev pub BeginsObject : List ℕ → Type 0
BeginsObject text = (rest : List ℕ) × (text ≡ 123 ∷ rest)

-- the lines that begin with a namespace and a TAB are what the reports say to it, in order
abbrev pub IsReadBack : Type 0
IsReadBack = (n : List ℕ) (reports : List Report) (last : List ℕ) → is_namespace n ≡ true → AreNamed reports → IsClean last → BeginsObject last
    → lines_for n (bytes_of reports last) ≡ map (line_text n) (views_for n reports)

-- the last line is what stands behind the reports
abbrev pub IsLastLine : Type 0
IsLastLine = (reports : List Report) (last : List ℕ) → AreNamed reports → IsClean last
    → (lines : List (List ℕ)) × (lines_of (bytes_of reports last) ≡ lines ++ last ∷ [])
