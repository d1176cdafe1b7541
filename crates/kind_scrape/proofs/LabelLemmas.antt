-- Keys of labels, as labels of Prometheus are named after them.
use Rattle.std.proofs.Common.{refl, ap, ◌∙◌}
use Rattle.std.specs.Prelude.{ℕ, Bool, true, false, ◌&&◌, ◌≡◌, List, [], ◌∷◌, codes, nat_eq, if◌then◌else◌}
use Rattle.std.specs.List.{list_all, starts_with}
use Rattle.op_base.specs.Names.{is_label_start, is_label_byte, is_label_name, passes_at}
use Rattle.kind_scrape.specs.TargetLabels.{label_of_key, label_byte, begins, is_bar}

-- `true` changes nothing
and-true : (b : Bool) → (b && true) ≡ b
and-true true = refl
and-true false = refl

-- a byte that is written is one of a label name
written : (b : ℕ) → is_label_byte (label_byte b) ≡ true
written b = by (is_label_byte b) refl
  where
    by : (t : Bool) → is_label_byte b ≡ t → is_label_byte (if t then b else 95) ≡ true
    by true is = is
    by false is = refl

-- so are all bytes
all_written : (text : List ℕ) → list_all is_label_byte (label_of_key text) ≡ true
all_written [] = refl
all_written (b ∷ text) = (λ i. written b i && list_all is_label_byte (label_of_key text)) ∙ all_written text

-- the first byte of what is written
first_written : (text : List ℕ) → passes_at is_label_start (label_of_key text) 0 ≡ passes_at begins text 0
first_written [] = refl
first_written (b ∷ text) = refl

-- the first byte tells whether the text is a label name once it is written
pub label_name : (text : List ℕ) → is_label_name (label_of_key text) ≡ passes_at begins text 0
label_name text =
    (λ i. passes_at is_label_start (label_of_key text) 0 && all_written text i)
    ∙ and-true (passes_at is_label_start (label_of_key text) 0) ∙ first_written text

-- the first two bytes tell whether it begins with `__` then
pub bars : (text : List ℕ) → starts_with nat_eq (label_of_key text) (codes "__") ≡ (passes_at is_bar text 0 && passes_at is_bar text 1)
bars [] = refl
bars (b ∷ []) = refl
bars (b ∷ c ∷ text) = ap (λ t. is_bar b && t) (and-true (is_bar c))
