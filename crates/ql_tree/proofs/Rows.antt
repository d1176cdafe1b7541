-- Worked rows of the definitions.
use Rattle.std.proofs.Common.{◌≡◌, ◌∷◌, [], Some, None, false, refl, pos, negsuc, codes, lit<}
use lib.Utf8.{encode}
use Rattle.ql_tree.specs.Arithmetic.{arith_of}
use Rattle.ql_tree.specs.Calls.{call_shape, parameters_of, label_join_shape}
use Rattle.ql_tree.specs.Durations.{is_duration}
use Rattle.ql_tree.specs.Enforced.{enforced_matchers, matcher_of}
use Rattle.ql_tree.specs.PrintedParts.{head_pieces}
use Rattle.ql_tree.specs.Operators.{is_comparison, is_set, level_of}
use Rattle.ql_tree.specs.Pieces.{quoted_text, blank, written, text_of}
use Rattle.ql_tree.specs.Printed.{placed}
use Rattle.ql_tree.specs.Reserved.{is_reserved}
use Rattle.ql_tree.specs.Shapes.{have_types}
use Rattle.ql_tree.specs.Spells.{Chain, Signed, Atom, Within}
use Rattle.ql_tree.specs.Strings.{inside_from, piece_at, escape_at, coded, numeral_at, string_value}
use Rattle.ql_tree.specs.Tokens.{token_at, gap_at, numeric_kind, symbol_at, Cut, IsTokens, token_of}
use Rattle.ql_tree.specs.Typed.{binary_shape}
use Rattle.ql_tree.specs.Words.{keyword_of}
use Rattle.ql_tree.specs.declared.token.TokenKind.TheVariants as kind
use Rattle.ql_tree.specs.declared.tree.ArithOp.TheVariants as arith
use Rattle.ql_tree.specs.declared.tree.BinaryOp.TheVariants as binary
use Rattle.ql_tree.specs.declared.tree.Expr.TheVariants as expr
use Rattle.ql_tree.specs.declared.types.Shape.TheVariants as shape
use Rattle.ql_tree.specs.declared.word.Keyword.TheVariants as keyword
use Rattle.ql_tree.specs.declared.word.Word.TheVariants as word

-- `5x` is a number followed by anything else of a word
number_and_word : token_at (codes "5x ") ≡ None
unfolding token_at numeric_kind is_duration
number_and_word = refl

too_large : token_at (codes "9223372036854775808") ≡ None
unfolding token_at numeric_kind
too_large = refl

largest : token_at (codes "9223372036854775807+1") ≡ Some (kind.Number, 19)
unfolding token_at numeric_kind
largest = refl

longest_symbol : token_at (codes ">=1") ≡ Some (kind.Symbol, 2)
unfolding token_at symbol_at
longest_symbol = refl

string_with_escapes : token_at (codes "\"a\\x41\\\"\\u00e9\" x") ≡ Some (kind.Str, 15)
unfolding token_at inside_from piece_at escape_at coded numeral_at
string_with_escapes = refl

value_of_escapes : string_value (codes "'\\101\\n'") ≡ 65 ∷ 10 ∷ []
unfolding string_value inside_from piece_at escape_at coded numeral_at encode
value_of_escapes = refl

no_high_octal : token_at (codes "'\\200'") ≡ None
unfolding token_at inside_from piece_at escape_at coded numeral_at
no_high_octal = refl

any_case : keyword_of (codes "GROUP_Left") ≡ keyword.GroupLeft
unfolding keyword_of is_reserved
any_case = refl

unused_word : keyword_of (codes "NaN") ≡ keyword.Unused
unfolding keyword_of is_reserved
unused_word = refl

quotes : quoted_text (97 ∷ 34 ∷ 92 ∷ 10 ∷ []) ≡ 34 ∷ 97 ∷ 92 ∷ 34 ∷ 92 ∷ 92 ∷ 92 ∷ 110 ∷ 34 ∷ []
unfolding quoted_text
quotes = refl

-- a comparison of two scalars without `bool`
no_bool : binary_shape binary.Eq false None (shape.Scalar ∷ shape.Scalar ∷ []) ≡ None
unfolding binary_shape have_types is_comparison is_set level_of
no_bool = refl

rate_of_a_range : call_shape (codes "rate") (shape.Range ∷ []) ≡ Some shape.Vector
unfolding call_shape parameters_of have_types
rate_of_a_range = refl

join_of_none : call_shape (codes "label_join") (shape.Vector ∷ shape.Str (codes "a") ∷ shape.Str [] ∷ []) ≡ None
unfolding call_shape label_join_shape have_types
join_of_none = refl

other_matchers_stay : enforced_matchers (codes "n") (codes "v") (matcher_of (codes "a") (codes "b") ∷ matcher_of (codes "n") (codes "w") ∷ [])
    ≡ matcher_of (codes "a") (codes "b") ∷ matcher_of (codes "n") (codes "v") ∷ []
other_matchers_stay = refl

-- `1`, through each level
number_spelled : Within 1 (expr.Number (pos 1)) (word.Number (pos 1) ∷ [])
unfolding Within
number_spelled =
    Chain.one _ _ (Chain.one _ _ (Chain.one _ _ (Chain.one _ _ (Chain.one _ _ (Signed.atom _ _ (Atom.number (pos 1)))))))

two_tokens : IsTokens (codes "a 1") ((token_of 0 (kind.Word, 1)) ∷ (token_of 2 (kind.Number, 1)) ∷ [])
unfolding gap_at token_at numeric_kind
two_tokens =
    Cut.token 0 (codes "a 1") (kind.Word, 1) _ refl refl
    (Cut.gap 1 (codes " 1") _ (lit< tt) (Cut.token 2 (codes "1") (kind.Number, 1) _ refl refl (Cut.end 3)))

operand_in_brackets : text_of (placed 1 (2, written word.Plus ∷ blank ∷ written (word.Quoted (codes "a")) ∷ [])) ≡ codes "(+ \"a\")"
unfolding quoted_text
operand_in_brackets = refl

short_braces : text_of (head_pieces None (matcher_of (codes "a") (codes "b") ∷ [])) ≡ codes "{a=\"b\"}"
unfolding quoted_text
short_braces = refl

no_braces : text_of (head_pieces (Some (codes "x")) []) ≡ codes "x"
no_braces = refl

cut_towards_zero : arith_of arith.Div (negsuc 6) (pos 2) ≡ Some (negsuc 2)
unfolding arith_of
cut_towards_zero = refl

sign_of_the_dividend : arith_of arith.Rem (negsuc 6) (pos 2) ≡ Some (negsuc 0)
unfolding arith_of
sign_of_the_dividend = refl

quotient_too_large : arith_of arith.Div (negsuc 9223372036854775807) (negsuc 0) ≡ Some (pos 9223372036854775807)
unfolding arith_of
quotient_too_large = refl

zero_divisor : arith_of arith.Rem (pos 1) (pos 0) ≡ None
unfolding arith_of
zero_divisor = refl
