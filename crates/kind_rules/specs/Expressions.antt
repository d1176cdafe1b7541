-- Expressions as they stand in a rule: a text, or a whole number, which is read as its text. A number is whole where
-- 64 bits hold it as it is written, without fraction and exponent.
use Rattle.std.specs.Prelude.{ℕ, List, [], Option, Some, decimal, unwrap_or, option_map}
use Rattle.std.specs.Option.{option_map_or}
use Rattle.std.specs.Fmt.{signed_decimal}
use Rattle.serde_json.specs.Data.{Data, Num}
use Rattle.serde_json.specs.Find.{as_str, as_number, as_u64, as_i64}
use Rattle.op_manifest.specs.declared.shape.Shape.{Shape}
use Rattle.op_manifest.specs.declared.shape.TheConstants.ShapeRule.{WRONG_TYPE, BAD_NUMBER}
use Rattle.op_manifest.specs.Shapes.{wrong}
use Rattle.op_manifest.specs.Checks.{Check, field}

-- the text of a number that 64 bits hold with a sign
abbrev pub signed_text : Num → Option (List ℕ)
signed_text n = option_map signed_decimal (as_i64 n)

-- the text of a whole number
abbrev pub whole_text : Num → Option (List ℕ)
whole_text n = option_map_or (λ whole. Some (decimal whole)) (as_u64 n) (signed_text n)

-- a number without such a text is wrong
abbrev pub fraction_wrongs : List ℕ → Option (List ℕ) → List Shape
fraction_wrongs path text = option_map_or (λ t. []) text (wrong BAD_NUMBER path)

-- what is no number is wrong, and a number that isn't whole
abbrev pub number_wrongs : List ℕ → Option Num → List Shape
number_wrongs path number = option_map_or (λ n. fraction_wrongs path (whole_text n)) number (wrong WRONG_TYPE path)

-- the text of a whole number, or else the empty text
abbrev pub number_written : Option Num → List ℕ
number_written number = option_map_or (λ n. unwrap_or (whole_text n) []) number []

-- a text, or a whole number
unfoldable pub expression : Check
expression path d = option_map_or (λ t. []) (as_str d) (number_wrongs path (as_number d))

-- the text of an expression
abbrev pub expression_of : Data → List ℕ
expression_of d = option_map_or (λ t. t) (as_str d) (number_written (as_number d))

-- the text of a field's expression
unfoldable pub expression_in : List ℕ → Data → List ℕ
expression_in name d = option_map_or expression_of (field name d) []
