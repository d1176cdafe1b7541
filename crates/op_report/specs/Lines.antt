-- Report lines: the namespace or `-`, a TAB, compact JSON with fields in byte order, a newline.
use Rattle.std.specs.Prelude.{ℕ, pos, Bool, true, false, List, [], ◌∷◌, ◌++◌, map, Option, Some, None, ◌≡◌, ◌==◌, ◌&&◌, ◌||◌, option_map, codes}
use Rattle.std.specs.List.{list_all}
use Rattle.std.specs.Cmp.Lexicographic.{pointwise}
use Rattle.op_edges.specs.Lines.{IsClean, newline}
use Rattle.op_json.specs.Json.{Json, text, whole, array_of, object_of, given, json_text}
use Rattle.op_report.specs.declared.line.TheConstants.{TAB}
use Rattle.op_report.specs.declared.view.Also.{Also}
use Rattle.op_report.specs.declared.view.Report.{Report}
use Rattle.op_report.specs.declared.view.View.{View}
use Rattle.op_report.specs.declared.view.View.TheVariants.{Own, Admin, Change, Targets, TargetsRefused, Page, Bad, BadFile, Long, LateTick, Tick, NotYetLine, NotYetFile}
use Rattle.op_report.specs.Ticks.{alert_json, failed_json, stored_json}

-- one text, or none
abbrev pub texts_of : Option (List ℕ) → List Json
texts_of None = []
texts_of (Some t) = text t ∷ []

-- `[KEY,ANSWER]`, or `[KEY,ANSWER,RULE,PATH]` where there is a rule
abbrev pub also_json : Also → Json
also_json also =
    array_of ((text also.key ∷ text also.answer ∷ []) ++ texts_of also.rule ++ texts_of also.path)

-- the field that names the change
abbrev pub change_word : Bool → List ℕ
change_word true = codes "delete"
change_word false = codes "put"

-- the fields that each put or delete of a tenant's object has
abbrev pub own_fields : Bool → List ℕ → List ℕ → List Also → List (List ℕ × Json)
own_fields deleted key answer also =
    (codes "also", array_of (map also_json also)) ∷ (codes "answer", text answer) ∷ (change_word deleted, text key) ∷ []

-- the fields that each put or delete of an object has that is everyone's
abbrev pub admin_fields : Bool → List ℕ → List ℕ → List (List ℕ × Json)
admin_fields deleted key answer = (codes "answer", text answer) ∷ (change_word deleted, text key) ∷ []

-- the rule that is broken and where, where there are any
abbrev pub reason : Option (List ℕ) → Option (List ℕ) → List (List ℕ × Json)
reason rule path = given (codes "rule") (option_map text rule) ++ given (codes "path") (option_map text path)

-- the value that a line holds, by what it reports
abbrev pub view_json : View → Json
-- {"also":[..],"answer":ANSWER,"path":PATH,"put":KEY,"rule":RULE}
view_json (Own deleted key answer rule path also) = object_of (own_fields deleted key answer also ++ reason rule path)
-- {"answer":ANSWER,"kept":KEPT,"path":PATH,"put":KEY,"rule":RULE}
view_json (Admin deleted key answer rule path kept) = object_of
    (admin_fields deleted key answer ++ (reason rule path ++ given (codes "kept") (option_map text kept)))
-- {"also":[..],"change":KEY}
view_json (Change key also) = object_of ((codes "also", array_of (map also_json also)) ∷ (codes "change", text key) ∷ [])
-- {"answer":"Admitted","targets":COUNT}
view_json (Targets count) = object_of
    ((codes "answer", text (codes "Admitted")) ∷ (codes "targets", whole (pos count)) ∷ [])
-- {"answer":"Refused","path":PATH,"rule":RULE}
view_json (TargetsRefused rule path) = object_of
    ((codes "answer", text (codes "Refused")) ∷ (codes "path", text path) ∷ (codes "rule", text rule) ∷ [])
-- {"answer":"Admitted","page":URL}
view_json (Page url) = object_of ((codes "answer", text (codes "Admitted")) ∷ (codes "page", text url) ∷ [])
-- {"bad":RULE,"line":LINE,"path":PATH}
view_json (Bad rule line path) = object_of
    ((codes "bad", text rule) ∷ (codes "line", whole (pos line)) ∷ (codes "path", text path) ∷ [])
-- {"bad":RULE,"file":FILE,"item":ITEM,"path":PATH}
view_json (BadFile rule file item path) = object_of
    ((codes "bad", text rule) ∷ (codes "file", text file) ∷ (codes "item", whole (pos item)) ∷ (codes "path", text path) ∷ [])
-- {"bad":"Long","line":LINE}
view_json (Long line) = object_of ((codes "bad", text (codes "Long")) ∷ (codes "line", whole (pos line)) ∷ [])
-- {"bad":"LateTick","last":LAST,"line":LINE}
view_json (LateTick last line) = object_of
    ((codes "bad", text (codes "LateTick")) ∷ (codes "last", whole last.0) ∷ (codes "line", whole (pos line)) ∷ [])
-- {"alerts":[..],"failed":[..],"stored":[..],"tick":AT}
view_json (Tick alerts failed stored at) = object_of
    ((codes "alerts", array_of (map alert_json alerts))
    ∷ (codes "failed", array_of (map failed_json failed))
    ∷ (codes "stored", array_of (map stored_json stored))
    ∷ (codes "tick", whole at.0)
    ∷ [])
-- {"bad":"NotYet","line":LINE}
view_json (NotYetLine line) = object_of ((codes "bad", text (codes "NotYet")) ∷ (codes "line", whole (pos line)) ∷ [])
-- {"bad":"NotYet","file":FILE,"item":ITEM}
view_json (NotYetFile file item) = object_of
    ((codes "bad", text (codes "NotYet")) ∷ (codes "file", text file) ∷ (codes "item", whole (pos item)) ∷ [])

-- a line: its addressee, a tab, the value and a newline
abbrev pub line_of : List ℕ → View → List ℕ
line_of to view = to ++ TAB ∷ (json_text (view_json view) ++ newline ∷ [])

-- the line for a namespace
abbrev pub tenant_line : List ℕ → View → List ℕ
tenant_line namespace view = line_of namespace view

-- the line for everyone
abbrev pub global_line : View → List ℕ
global_line view = line_of (codes "-") view

-- whom a report is for
abbrev pub address_of : Option (List ℕ) → List ℕ
address_of None = codes "-"
address_of (Some namespace) = namespace

-- the line of a report
abbrev pub report_line : Report → List ℕ
report_line report = line_of (address_of report.to) report.view

-- one whole line: no newline stands in it but its last byte
unfoldable pub IsOneLine : List ℕ → Type 0
IsOneLine line = (text : List ℕ) × (line ≡ text ++ newline ∷ []) × IsClean text

-- an answer that leaves nothing refused or skipped
abbrev pub is_good : List ℕ → Bool
is_good answer =
    pointwise ◌==◌ answer (codes "Admitted") || pointwise ◌==◌ answer (codes "Unselected") || pointwise ◌==◌ answer (codes "Deleted")

-- each answer of the view is a good one
abbrev pub answers_well : View → Bool
answers_well (Own deleted key answer rule path also) = is_good answer && list_all (λ one. is_good one.answer) also
answers_well (Admin deleted key answer rule path kept) = is_good answer
answers_well (Change key also) = list_all (λ one. is_good one.answer) also
answers_well (Targets count) = true
answers_well (TargetsRefused rule path) = false
answers_well (Page url) = true
answers_well (Bad rule line path) = false
answers_well (BadFile rule file item path) = false
answers_well (Long line) = false
answers_well (LateTick last line) = false
answers_well (Tick alerts failed stored at) = true
answers_well (NotYetLine line) = false
answers_well (NotYetFile file item) = false
