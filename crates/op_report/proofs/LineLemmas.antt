-- Report lines are whole lines.
use Rattle.std.proofs.Common.{◌≡◌, ℕ, Bool, true, false, ◌&&◌, List, [], ◌∷◌, ◌++◌, length, ◌-◌, nat_le, Result, Ok, Err, IfOk, true≢false, refl, subst, sym, ap, ◌∙◌, append_assoc, arith}
use Rattle.std.specs.List.{list_all}
use Rattle.op_base.specs.Names.{is_namespace, is_part, is_part_byte, is_lower_or_digit, passes_at}
use Rattle.op_edges.specs.Lines.{IsClean, newline}
use Rattle.op_edges.proofs.LineLemmas.{clean_append}
use Rattle.op_json.specs.Json.{json_text}
use Rattle.op_report.specs.declared.view.View.{View}
use Rattle.op_report.specs.declared.line.TheConstants.{TAB}
use Rattle.op_report.specs.Lines.{view_json, line_of, IsOneLine}
use Rattle.op_report.proofs.CleanLemmas.{json_clean}

pub both_so : (s t : Bool) → (s && t) ≡ true → (s ≡ true) × (t ≡ true)
both_so true t so = (refl, so)
both_so false t so = absurd (true≢false (sym so))

-- the bytes of a namespace
pub namespace_parts : (name : List ℕ) → is_namespace name ≡ true → list_all is_part_byte name ≡ true
namespace_parts name is =
    let part = (both_so (nat_le (length name) 63) (is_part name) is).1 in
    (both_so (passes_at is_lower_or_digit name 0 && passes_at is_lower_or_digit name (length name - 1)) (list_all is_part_byte name) part).1

pub parts_clean : (name : List ℕ) → list_all is_part_byte name ≡ true → IsClean name
parts_clean [] all = tt
parts_clean (b ∷ name) all =
    let so = both_so (is_part_byte b) (list_all is_part_byte name) all in
    (λ same. true≢false (sym so.0 ∙ ap is_part_byte same), parts_clean name so.1)

pub namespace_clean : (name : List ℕ) → is_namespace name ≡ true → IsClean name
namespace_clean name is = parts_clean name (namespace_parts name is)

-- a line is its text and a newline
pub one_line : (to : List ℕ) (view : View) → IsClean to → IsOneLine (line_of to view)
unfolding IsOneLine
one_line to view clean = (
  to ++ TAB ∷ json_text (view_json view),
  sym (append_assoc to (TAB ∷ json_text (view_json view)) (newline ∷ [])),
  clean_append to (TAB ∷ json_text (view_json view)) clean (omega arith, json_clean (view_json view)),
)

-- so an answer that is a line is a whole line
pub whole_line : {E : Type 0} (result : Result (List ℕ) E) (to : List ℕ) (view : View) → IsClean to
    → IfOk result (λ line. line ≡ line_of to view) → IfOk result IsOneLine
whole_line (Ok line) to view clean is = subst IsOneLine (sym is) (one_line to view clean)
whole_line (Err refused) to view clean is = tt
