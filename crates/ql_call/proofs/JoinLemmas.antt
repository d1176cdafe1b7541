-- Texts with a separator between two are the first one and each other one behind a separator.
use Rattle.std.proofs.Common.{◌≡◌, ◌≤◌, ℕ, List, [], ◌∷◌, ◌++◌, length, map, drop, take, get_or, ◌-◌, ap, sym, ◌∙◌, append-nil, append_assoc, arith}
use Rattle.std.proofs.lemmas.List.{take_rest}
use Rattle.op_base.specs.Labels.{Texts}
use Rattle.op_base.specs.Matchers.{label_value}
use Rattle.ql_call.specs.LabelCalls.{joined}
use Rattle.ql_call.specs.CallSteps.{each_behind}
use Rattle.ql_call.specs.Operands.{text_of}
use Rattle.ql_call.specs.declared.operand.Operand.{Operand}

joined-cons : (separator text : List ℕ) (texts : List (List ℕ)) → joined separator (text ∷ texts) ≡ text ++ each_behind separator texts
joined-cons separator text [] = sym (append-nil text)
joined-cons separator text (next ∷ texts) =
    ap (λ rest. text ++ separator ++ rest) (joined-cons separator next texts) ∙ simp append_assoc

-- the values of the sources
abbrev pub values_at : Texts → List Operand → List (List ℕ)
values_at labels sources = map (label_value labels) (map text_of sources)

from_first : (separator : List ℕ) (labels : Texts) (sources : List Operand) (first : Operand) → 1 ≤ length sources → first ≡ get_or sources 0 first
    → joined separator (values_at labels sources) ≡ label_value labels (text_of first) ++ each_behind separator (values_at labels (drop 1 sources))
from_first separator labels [] first some is = absurd (omega arith)
from_first separator labels (source ∷ sources) first some is =
    joined-cons separator (label_value labels (text_of source)) (values_at labels sources)
    ∙ ap (λ first. label_value labels (text_of first) ++ each_behind separator (values_at labels sources)) (sym is)

-- a text that holds the first value, and then the others
pub joined-first : (separator : List ℕ) (labels : Texts) (sources : List Operand) (first : Operand) (name value start text : List ℕ)
    → 1 ≤ length sources → first ≡ get_or sources 0 first → name ≡ text_of first → value ≡ label_value labels name → start ≡ value
    → text ≡ start ++ each_behind separator (values_at labels (take (length sources - 1) (drop 1 sources)))
    → text ≡ joined separator (values_at labels sources)
joined-first separator labels sources first name value start text some is named found begun pushed =
    pushed
    ∙ ap (λ others. start ++ each_behind separator (values_at labels others)) (take_rest sources 1)
    ∙ ap (λ start. start ++ each_behind separator (values_at labels (drop 1 sources))) (begun ∙ found ∙ ap (label_value labels) named)
    ∙ sym (from_first separator labels sources first some is)
