-- What children are: their types, and the texts of strings.
use Rattle.std.specs.Prelude.{ℕ, slice_get, Bool, true, false, List, [], ◌∷◌, ◌&&◌}
use Rattle.std.specs.Option.{option_map_or}
use Rattle.ql_tree.specs.declared.types.Shape.{Shape}
use Rattle.ql_tree.specs.declared.types.Shape.TheVariants as shape
use Rattle.ql_tree.specs.declared.types.ExprType.{ExprType}
use Rattle.ql_tree.specs.declared.types.ExprType.TheVariants as type

-- the type of what has the shape
abbrev pub type_of_shape : Shape → ExprType
type_of_shape shape.Scalar = type.Scalar
type_of_shape shape.Vector = type.Vector
type_of_shape shape.Range = type.Range
type_of_shape (shape.Str text) = type.Str

-- both types are the same
abbrev pub is_type : ExprType → ExprType → Bool
is_type type.Scalar type.Scalar = true
is_type type.Vector type.Vector = true
is_type type.Range type.Range = true
is_type type.Str type.Str = true
is_type _ _ = false

-- they have these types, one each
unfoldable pub have_types : List Shape → List ExprType → Bool
have_types [] [] = true
have_types [] (t ∷ types) = false
have_types (s ∷ shapes) [] = false
have_types (s ∷ shapes) (t ∷ types) = is_type (type_of_shape s) t && have_types shapes types

-- the shape is a text's
abbrev pub is_string : Shape → Bool
is_string (shape.Str text) = true
is_string _ = false

-- the text of a string, and nothing of what is none
abbrev pub text_of : Shape → List ℕ
text_of (shape.Str text) = text
text_of _ = []

-- the text of the child with that number
abbrev pub text_at : ℕ → List Shape → List ℕ
text_at number shapes = option_map_or text_of (slice_get shapes number) []
