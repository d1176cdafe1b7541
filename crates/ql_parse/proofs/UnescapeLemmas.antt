-- How what a string's inside writes is read piece by piece.
use Rattle.std.proofs.Common.{◌≡◌, ◌≢◌, ℕ, zero, suc, ◌+◌, ◌-◌, ◌<◌, ◌≤◌, true, false, List, [], ◌∷◌, ◌++◌, Option, Some, None, ◌==◌, length, take, drop, get_or, refl, ap, sym, subst, ◌∙◌, arith, append_assoc, encode_utf8}
use Rattle.std.specs.Char.{IsScalar}
use Rattle.std.specs.Option.{option_map, SomeIff}
use Rattle.std.specs.Str.{IsUtf8}
use Rattle.std.proofs.lemmas.Str.{IsUtf8-encode}
use Rattle.std.proofs.lemmas.List.{take_rest}
use Rattle.ql_tree.specs.Strings.{inside_from, piece_at, escape_at, one_more, behind_piece}
use Rattle.ql_parse.specs.Placed.{BeginsQuoted}
use Rattle.ql_parse.specs.Unescaped.{value_from, behind, IsPiece, IsClosed}
use Rattle.ql_parse.proofs.CutTexts.{before_byte, behind_byte, put_in, quote_small}
use Rattle.ql_parse.proofs.EscapeLemmas.{escape_is}

kept : (o : Option (List ℕ × ℕ))
    → option_map (λ found. found.0) (option_map one_more o) ≡ option_map (λ found. found.0) o
kept None = refl
kept (Some found) = refl

-- the bytes that a piece has taken are passed over
skipped : (quote n : ℕ) (bytes : List ℕ)
    → value_from quote n bytes ≡ value_from quote 0 (drop n bytes)
unfolding inside_from
skipped quote zero bytes = refl
skipped quote (suc n) [] = refl
skipped quote (suc n) (b ∷ bytes) = kept (inside_from quote n bytes) ∙ skipped quote n bytes

joined : (piece : List ℕ) (o : Option (List ℕ × ℕ))
    → option_map (λ found. found.0) (option_map (behind_piece piece) o)
    ≡ behind piece (option_map (λ found. found.0) o)
joined piece None = refl
joined piece (Some found) = refl

value_end : (quote : ℕ) → value_from quote 0 [] ≡ None
unfolding inside_from
value_end quote = refl

value_close : (quote b : ℕ) (t : List ℕ) → b ≡ quote → value_from quote 0 (b ∷ t) ≡ Some []
unfolding inside_from
value_close quote b t e = let same : (b == quote) ≡ true = grind arith in rw same refl

-- a piece of one byte more than m
value_piece : (quote b m : ℕ) (t piece : List ℕ) → b ≢ quote
    → piece_at quote (b ∷ t) ≡ Some (piece, 1 + m)
    → value_from quote 0 (b ∷ t) ≡ behind piece (value_from quote 0 (drop m t))
unfolding inside_from
value_piece quote b m t piece other is =
    let differ : (b == quote) ≡ false = grind arith in
    let less : (1 + m) - 1 ≡ m = omega arith in
    rw (differ, is)
    (ap (λ k. option_map (λ found. found.0)
    (option_map (behind_piece piece) (inside_from quote k t))) less
    ∙ joined piece (inside_from quote m t) ∙ ap (behind piece) (skipped quote m t))

value_broken : (quote b : ℕ) (t : List ℕ) → b ≢ quote → piece_at quote (b ∷ t) ≡ None
    → value_from quote 0 (b ∷ t) ≡ None
unfolding inside_from
value_broken quote b t other is =
    let differ : (b == quote) ≡ false = grind arith in rw (differ, is) refl

-- the four ways on
pub closed : (quote b : ℕ) (t : List ℕ) → quote < 128 → b ≡ quote → IsClosed quote (b ∷ t)
closed quote b t small e = record {
  value = value_close quote b t e;
  utf8 = λ before utf8. before_byte before b t utf8 (omega (arith, e));
}

-- a byte that stands for itself
byte_is : (quote b : ℕ) (t : List ℕ) → b ≢ quote → piece_at quote (b ∷ t) ≡ Some (b ∷ [], 1)
    → IsPiece quote (b ∷ t) (b ∷ []) 1
byte_is quote b t other is = record {
  some = omega arith;
  within = omega arith;
  value = value_piece quote b 0 t (b ∷ []) other is;
  utf8 = λ before utf8. subst IsUtf8 (sym (append_assoc before (b ∷ []) t)) utf8;
}

raw_piece : (quote b : ℕ) (t : List ℕ) → quote ≡ 96 → piece_at quote (b ∷ t) ≡ Some (b ∷ [], 1)
unfolding piece_at
raw_piece quote b t e = let same : (quote == 96) ≡ true = grind arith in rw same refl

pub in_backticks : (quote b : ℕ) (t : List ℕ) → b ≢ quote → quote ≡ 96
    → IsPiece quote (b ∷ t) (b ∷ []) 1
in_backticks quote b t other e = byte_is quote b t other (raw_piece quote b t e)

unescaped_piece : (quote b : ℕ) (t : List ℕ) → quote ≢ 96 → b ≢ 10 → b ≢ 92
    → piece_at quote (b ∷ t) ≡ Some (b ∷ [], 1)
unfolding piece_at
unescaped_piece quote b t quoted line slash =
    let x : (quote == 96) ≡ false = grind arith in
    let y : (b == 10) ≡ false = grind arith in
    let z : (b == 92) ≡ false = grind arith in
    rw (x, y, z) refl

pub unescaped_byte : (quote b : ℕ) (t : List ℕ) → b ≢ quote → quote ≢ 96 → b ≢ 10 → b ≢ 92
    → IsPiece quote (b ∷ t) (b ∷ []) 1
unescaped_byte quote b t other quoted line slash =
    byte_is quote b t other (unescaped_piece quote b t quoted line slash)

no_piece : (quote b : ℕ) (t : List ℕ) → quote ≢ 96 → b ≡ 10 → piece_at quote (b ∷ t) ≡ None
unfolding piece_at
no_piece quote b t quoted line =
    let x : (quote == 96) ≡ false = grind arith in
    let y : (b == 10) ≡ true = grind arith in
    rw (x, y) refl

pub at_line : (quote b : ℕ) (t : List ℕ) → b ≢ quote → quote ≢ 96 → b ≡ 10
    → value_from quote 0 (b ∷ t) ≡ None
at_line quote b t other quoted line = value_broken quote b t other (no_piece quote b t quoted line)

-- behind a backslash
escaped_piece : (quote : ℕ) (t : List ℕ) → quote ≢ 96
    → piece_at quote (92 ∷ t)
    ≡ option_map (λ found. (encode_utf8 found.0, 1 + found.1)) (escape_at quote t)
unfolding piece_at
escaped_piece quote t quoted = let x : (quote == 96) ≡ false = grind arith in rw x refl

pub escaped_is : (quote : ℕ) (t : List ℕ) (c n : ℕ) → quote < 128 → quote ≢ 96 → quote ≢ 92
    → n ≤ length t → IsScalar c
    → escape_at quote t ≡ Some (c, n) → IsPiece quote (92 ∷ t) (encode_utf8 c) (1 + n)
escaped_is quote t c n small quoted other within scalar is =
    let behind_slash : drop (1 + n) (92 ∷ t) ≡ drop n t = ap (λ k. drop k (92 ∷ t)) (one_less n) in
    record {
      some = omega arith;
      within = omega arith;
      value = value_piece quote 92 n t (encode_utf8 c) (λ e. other (sym e))
          (escaped_piece quote t quoted
          ∙ ap (option_map (λ found. (encode_utf8 found.0, 1 + found.1))) is)
          ∙ ap (λ rest. behind (encode_utf8 c) (value_from quote 0 rest)) (sym behind_slash);
      utf8 = λ before utf8. subst (λ rest. IsUtf8 ((before ++ encode_utf8 c) ++ rest))
          (sym behind_slash)
          (put_in before 92 t (encode_utf8 c) (drop n t) utf8 (omega arith) (IsUtf8-encode c scalar)
          ((escape_is quote t c n small is).utf8 (behind_byte before 92 t utf8 (omega arith))));
    }
  where
    one_less : (k : ℕ) → 1 + k ≡ suc k
    one_less k = omega arith

pub escape_broken : (quote : ℕ) (t : List ℕ) → quote ≢ 96 → quote ≢ 92 → escape_at quote t ≡ None
    → value_from quote 0 (92 ∷ t) ≡ None
escape_broken quote t quoted other is =
    value_broken quote 92 t (λ e. other (sym e)) (escaped_piece quote t quoted
    ∙ ap (option_map (λ found. (encode_utf8 found.0, 1 + found.1))) is)

pub at_end : (quote : ℕ) (bytes : List ℕ) → length bytes < 1 → value_from quote 0 bytes ≡ None
at_end quote [] short = value_end quote
at_end quote (b ∷ t) short = absurd (omega arith)

-- the character that a code is
pub made : (o : Option ℕ) (code c : ℕ) → SomeIff o (IsScalar code) code → o ≡ Some c
    → IsScalar code × (code ≡ c)
made None code c is some = absurd (cc)
made (Some v) code c is some = (is.0, let same : v ≡ c = cc in sym is.1 ∙ same)

-- the same of bytes whose first one is known
pub at_close : (quote : ℕ) (bytes : List ℕ) → 0 < length bytes → quote < 128
    → get_or bytes 0 0 ≡ quote → IsClosed quote bytes
at_close quote [] some small e = absurd (omega arith)
at_close quote (b ∷ t) some small e = closed quote b t small e

pub at_raw : (quote : ℕ) (bytes : List ℕ) → 0 < length bytes → get_or bytes 0 0 ≢ quote → quote ≡ 96
    → IsPiece quote bytes (get_or bytes 0 0 ∷ []) 1
at_raw quote [] some other e = absurd (omega arith)
at_raw quote (b ∷ t) some other e = in_backticks quote b t other e

pub at_newline : (quote : ℕ) (bytes : List ℕ) → 0 < length bytes → get_or bytes 0 0 ≢ quote
    → quote ≢ 96 → get_or bytes 0 0 ≡ 10
    → value_from quote 0 bytes ≡ None
at_newline quote [] some other quoted e = absurd (omega arith)
at_newline quote (b ∷ t) some other quoted e = at_line quote b t other quoted e

pub at_unescaped : (quote : ℕ) (bytes : List ℕ) → 0 < length bytes → get_or bytes 0 0 ≢ quote
    → quote ≢ 96 → get_or bytes 0 0 ≢ 10
    → get_or bytes 0 0 ≢ 92 → IsPiece quote bytes (get_or bytes 0 0 ∷ []) 1
at_unescaped quote [] some other quoted line slash = absurd (omega arith)
at_unescaped quote (b ∷ t) some other quoted line slash = unescaped_byte quote b t other quoted line slash

-- what was read before and what is left, after one piece more
joined_twice : (before piece : List ℕ) (o : Option (List ℕ))
    → behind before (behind piece o) ≡ behind (before ++ piece) o
joined_twice before piece None = refl
joined_twice before piece (Some text) = ap (λ t. Some t) (sym (append_assoc before piece text))

pub piece_value : (quote : ℕ) (whole before rest piece : List ℕ) (n : ℕ) (new left : List ℕ)
    → value_from quote 0 whole ≡ behind before (value_from quote 0 rest)
    → IsPiece quote rest piece n → new ≡ before ++ piece
    → left ≡ drop n rest → value_from quote 0 whole ≡ behind new (value_from quote 0 left)
piece_value quote whole before rest piece n new left so_far is grown behind_it =
    rw (grown, behind_it) (so_far ∙ ap (behind before) is.value
    ∙ joined_twice before piece (value_from quote 0 (drop n rest)))

pub piece_utf8 : (quote : ℕ) (before rest piece : List ℕ) (n : ℕ) (new left : List ℕ)
    → IsUtf8 (before ++ rest) → IsPiece quote rest piece n
    → new ≡ before ++ piece → left ≡ drop n rest → IsUtf8 (new ++ left)
piece_utf8 quote before rest piece n new left utf8 is grown behind_it =
    rw (grown, behind_it) (is.utf8 before utf8)

-- the inside of a string is a text
pub inside_utf8 : (text bytes : List ℕ) → bytes ≡ text → IsUtf8 text → BeginsQuoted text
    → IsUtf8 (take (length bytes - 1) (drop 1 bytes))
inside_utf8 [] bytes e utf8 quoted = absurd quoted
inside_utf8 (b ∷ t) bytes e utf8 quoted =
    rw e (rw take_rest (behind_byte [] b t utf8 (quote_small b quoted)))
