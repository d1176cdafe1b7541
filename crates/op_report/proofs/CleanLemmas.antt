-- No newline stands in JSON text: those of strings are escaped, and nothing else writes one.
use Rattle.std.proofs.Common.{◌≡◌, ◌≢◌, ℕ, zero, suc, ◌/◌, ◌%◌, ◌+◌, ◌==◌, ◌||◌, pos, negsuc, Bool, true, false, cond, nat_lt, List, [], ◌∷◌, ◌++◌, decimal, true≢false, refl, sym, ap, ◌∙◌, arith}
use Rattle.std.specs.Char.{digit_char}
use Rattle.std.specs.Fmt.{digit_glyph, digits_onto, digits}
use Rattle.json.specs.Print.{escape_letter, escape_byte, escape, quoted}
use Rattle.serde_json.specs.Data.{Num, unsigned, negative, float, Data, null, boolean, number, string, array, object, Items, no_items, item, Members, no_members, member}
use Rattle.serde_json.specs.Written.{number_text, comma_if, compact_text, items_text, members_text}
use Rattle.op_edges.specs.Lines.{newline, IsClean}
use Rattle.op_edges.proofs.LineLemmas.{clean_append}
use Rattle.op_json.specs.Json as json
use Rattle.op_json.specs.Json.{Json, data_of, json_text}

-- one of two bytes, neither of them the newline
chosen_other : (b : Bool) (x y : ℕ) → (b ≡ true → x ≢ newline) → (b ≡ false → y ≢ newline) → cond b x y ≢ newline
chosen_other true x y p q = p refl
chosen_other false x y p q = q refl

chosen_clean : (b : Bool) (xs ys : List ℕ) → (b ≡ true → IsClean xs) → (b ≡ false → IsClean ys) → IsClean (cond b xs ys)
chosen_clean true xs ys p q = p refl
chosen_clean false xs ys p q = q refl

-- the letter of an escape
letter_other : (x : ℕ) → escape_letter x ≢ newline
letter_other x =
    chosen_other ((x == 34) || (x == 92)) x _ (λ is same. true≢false (sym is ∙ ap (λ b. (b == 34) || (b == 92)) same))
    λ _. chosen_other (x == 8) 98 _ (λ _. omega arith)
    λ _. chosen_other (x == 12) 102 _ (λ _. omega arith)
    λ _. chosen_other (x == 10) 110 _ (λ _. omega arith)
    λ _. chosen_other (x == 13) 114 _ (λ _. omega arith)
    λ _. chosen_other (x == 9) 116 0 (λ _. omega arith) (λ _. omega arith)

hex_other : (d : ℕ) → digit_char d ≢ newline
hex_other d = chosen_other (nat_lt d 10) (48 + d) (87 + d) (λ _. omega arith) (λ _. omega arith)

byte_clean : (x : ℕ) → IsClean (escape_byte x)
unfolding escape_byte
byte_clean x =
    chosen_clean (nat_lt 0 (escape_letter x)) _ _ (λ _. (omega arith, (letter_other x, tt)))
    λ none. chosen_clean (nat_lt x 32) _ _
    (λ _. (omega arith, (omega arith, (omega arith, (omega arith, (hex_other (x / 16), (hex_other (x % 16), tt)))))))
    (λ _. (λ same. true≢false (sym (ap (λ b. nat_lt 0 (escape_letter b)) same) ∙ none), tt))

escape_clean : (s : List ℕ) → IsClean (escape s)
escape_clean [] = tt
escape_clean (x ∷ s) = clean_append (escape_byte x) (escape s) (byte_clean x) (escape_clean s)

quoted_clean : (s : List ℕ) → IsClean (quoted s)
quoted_clean s = (omega arith, clean_append (escape s) (34 ∷ []) (escape_clean s) (omega arith, tt))

glyph_other : (d : ℕ) → digit_glyph false d ≢ newline
glyph_other d = chosen_other (nat_lt d 10) (48 + d) (87 + d) (λ _. omega arith) (λ _. omega arith)

onto_clean : (k n : ℕ) (acc : List ℕ) → IsClean acc → IsClean (digits_onto k 10 false n acc)
onto_clean zero n acc clean = clean
onto_clean (suc k) n acc clean =
    let more : IsClean (digit_glyph false (n % 10) ∷ acc) = (glyph_other (n % 10), clean) in
    chosen_clean (n / 10 == 0) _ _ (λ _. more) (λ _. onto_clean k (n / 10) (digit_glyph false (n % 10) ∷ acc) more)

decimal_clean : (n : ℕ) → IsClean (decimal n)
unfolding digits
decimal_clean n = onto_clean 64 n [] tt

number_clean : (n : Num) → IsClean (number_text n)
number_clean (unsigned n) = decimal_clean n
number_clean (negative (pos n)) = decimal_clean n
number_clean (negative (negsuc n)) = (omega arith, decimal_clean (suc n))
number_clean (float x) = tt

comma_clean : (later : Bool) → IsClean (comma_if later)
comma_clean true = (omega arith, tt)
comma_clean false = tt

mutual
  compact_clean : (d : Data) → IsClean (compact_text d)
  compact_clean null = (omega arith, (omega arith, (omega arith, (omega arith, tt))))
  compact_clean (boolean true) = (omega arith, (omega arith, (omega arith, (omega arith, tt))))
  compact_clean (boolean false) = (omega arith, (omega arith, (omega arith, (omega arith, (omega arith, tt)))))
  compact_clean (number n) = number_clean n
  compact_clean (string s) = quoted_clean s
  compact_clean (array ds) = (omega arith, items_clean false ds)
  compact_clean (object ms) = (omega arith, members_clean false ms)

  items_clean : (later : Bool) (ds : Items) → IsClean (items_text later ds)
  items_clean later no_items = (omega arith, tt)
  items_clean later (item d ds) =
      clean_append (comma_if later) (compact_text d ++ items_text true ds) (comma_clean later)
      (clean_append (compact_text d) (items_text true ds) (compact_clean d) (items_clean true ds))

  members_clean : (later : Bool) (ms : Members) → IsClean (members_text later ms)
  members_clean later no_members = (omega arith, tt)
  members_clean later (member k d ms) =
      let rest = clean_append (compact_text d) (members_text true ms) (compact_clean d) (members_clean true ms) in
      clean_append (comma_if later) (quoted k ++ 58 ∷ (compact_text d ++ members_text true ms)) (comma_clean later)
      (clean_append (quoted k) (58 ∷ (compact_text d ++ members_text true ms)) (quoted_clean k) (omega arith, rest))

pub json_clean : (j : Json) → IsClean (json_text j)
json_clean j = compact_clean (data_of j)

-- the text of an object begins with its brace
pub json_object_begins : (fields : json.Fields) → (rest : List ℕ) × (json_text (json.object fields) ≡ 123 ∷ rest)
json_object_begins fields = (members_text false (json.members_after no_members fields), refl)
