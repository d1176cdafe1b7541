-- The tokens of a text lie between places where it may be cut.
use Rattle.std.proofs.Common.{◌≡◌, ◌≢◌, ℕ, zero, suc, ◌+◌, ◌-◌, ◌<◌, ◌≤◌, Bool, true, false, List, [], ◌∷◌, Option, Some, None, Result, Ok, Err, ◌==◌, cond, length, take, drop, get_or, nat_le, refl, ap, sym, subst, ◌∙◌, arith, length-drop, ◌⊎◌, inl, inr}
use Rattle.std.specs.List.{list_all, prefix_len, AllByRecursion}
use Rattle.std.specs.Option.{option_map, option_and_then}
use Rattle.std.specs.Str.{IsUtf8, IsCharBoundary}
use Rattle.std.specs.Str.Parse.{digits_value}
use Rattle.std.proofs.lemmas.List.{drop-drop}
use Rattle.std.proofs.lemmas.List.Sums.{prefix_len-le-length, prefix_len_stops}
use Rattle.std.proofs.lemmas.Str.{IsUtf8-drop, IsCharBoundary-from_drop, IsCharBoundary-before_ascii, IsCharBoundary-after_ascii, IsUtf8-nil}
use Rattle.std.proofs.Math.ListN.{drop_of_length-le}
use Rattle.std.proofs.lemmas.Bool.{cases_lt}
use Rattle.std.proofs.lemmas.Bool.Decides.{nat_tests}
use Rattle.std.proofs.lemmas.Option.{cond_some, same_Some, some_pair_parts}
use Rattle.op_base.specs.Names.{is_digit, is_metric_byte, is_metric_start}
use Rattle.ql_tree.specs.Durations.{is_duration}
use Rattle.ql_tree.specs.Strings.{is_quote, inside_from, piece_at, one_more, behind_piece}
use Rattle.ql_tree.specs.Tokens.{gap_at, is_blank, is_in_line, token_at, run_at, numeric_kind, symbol_at, doubles, is_double, is_single, Cut, with_token, token_of, IsTokens, MOST}
use Rattle.ql_tree.specs.declared.token.Token.{Token}
use Rattle.ql_tree.specs.declared.token.TokenKind.{TokenKind}
use Rattle.ql_tree.specs.declared.token.TokenKind.TheVariants.{Word, Number, Duration, Str, Symbol}
use Rattle.ql_token.proofs.DigitLemmas.{metric_ascii, run_of_word}
use Rattle.ql_parse.specs.Placed.{IsPlaced, IsReadable, BeginsQuoted}
use Rattle.ql_parse.proofs.CutTexts.{behind_byte, behind_passing, quote_small}

-- the first n bytes of the text are a part of it behind which it may be cut
pub record IsFront (text : List ℕ) (n : ℕ) : Type 0 where
  pub within : n ≤ length text
  pub utf8 : IsUtf8 text → IsUtf8 (drop n text)

front_none : (text : List ℕ) → IsFront text 0
front_none text = record { within = omega arith; utf8 = λ utf8. utf8 }

front_byte : (b : ℕ) (text : List ℕ) (n : ℕ) → b < 128 → IsFront text n → IsFront (b ∷ text) (suc n)
front_byte b text n small is =
    record {
      within = omega (arith, is.within);
      utf8 = λ utf8. is.utf8 (behind_byte [] b text utf8 small);
    }

same_front : (text : List ℕ) (m n : ℕ) → m ≡ n → IsFront text m → IsFront text n
same_front text m n e is = subst (λ k. IsFront text k) e is

-- a comment ends before its newline, or with the text
line_end : (text : List ℕ) (n : ℕ) → n ≤ length text
    → (n < length text → is_in_line (get_or text n 0) ≡ false) → IsUtf8 text → IsUtf8 (drop n text)
line_end text n within stops utf8 = at_end (cases_lt n (length text))
  where
    at_end : (n < length text) ⊎ (length text ≤ n) → IsUtf8 (drop n text)
    at_end (inr past) =
        let e : drop n text ≡ [] = drop_of_length-le text past in subst IsUtf8 (sym e) IsUtf8-nil
    at_end (inl inside) =
        let newline : is_in_line (get_or text n 0) ≡ false = stops inside in
        let small : get_or text n 0 < 128 = grind (arith, nat_tests) in
        IsUtf8-drop text n utf8 (IsCharBoundary-before_ascii text n inside small)

line_front : (text : List ℕ) → IsFront text (prefix_len is_in_line text)
line_front text = record {
  within = prefix_len-le-length is_in_line text;
  utf8 = line_end text (prefix_len is_in_line text) (prefix_len-le-length is_in_line text)
      (prefix_len_stops is_in_line text 0);
}

-- white space or a comment
gap_front : (text : List ℕ) → IsFront text (gap_at text)
unfolding gap_at
gap_front [] = front_none []
gap_front (b ∷ t) = by_first (is_blank b) (b == 35) refl refl
  where
    by_first : (blank comment : Bool) → is_blank b ≡ blank → (b == 35) ≡ comment
        → IsFront (b ∷ t) (cond blank 1 (cond comment (1 + prefix_len is_in_line t) 0))
    by_first true comment e f =
        same_front (b ∷ t) (suc 0) 1 refl
        (front_byte b t 0 (grind (arith, nat_tests)) (front_none t))
    by_first false true e f =
        same_front (b ∷ t) (suc (prefix_len is_in_line t)) (1 + prefix_len is_in_line t)
        (omega arith)
        (front_byte b t (prefix_len is_in_line t) (grind (arith, nat_tests)) (line_front t))
    by_first false false e f = front_none (b ∷ t)

-- a word, or digits with what follows them of a word
word_front : (text : List ℕ) → IsFront text (run_at text)
word_front text = record {
  within = prefix_len-le-length is_metric_byte text;
  utf8 = λ utf8. behind_passing is_metric_byte metric_ascii (run_at text) text utf8
      (run_of_word (run_at text) text refl);
}

-- the first n bytes end with the quote
record EndsQuoted (quote : ℕ) (text : List ℕ) (n : ℕ) : Type 0 where
  place : ℕ
  count : n ≡ suc place
  inside : place < length text
  is : get_or text place 0 ≡ quote

-- one byte more before such a front
later : (quote b : ℕ) (t value : List ℕ) (n : ℕ) (more : List ℕ × ℕ → List ℕ × ℕ)
    → ((found : List ℕ × ℕ) → (more found).1 ≡ 1 + found.1)
    → (o : Option (List ℕ × ℕ)) → ((v : List ℕ) (m : ℕ) → o ≡ Some (v, m) → EndsQuoted quote t m)
    → option_map more o ≡ Some (value, n) → EndsQuoted quote (b ∷ t) n
later quote b t value n more counts None before is = absurd (cc)
later quote b t value n more counts (Some found) before is =
    let ends = before found.0 found.1 refl in
    let same : more found ≡ (value, n) = same_Some (more found) (value, n) is in
    let count : (more found).1 ≡ n = ap (λ p. p.1) same in
    let one : (more found).1 ≡ 1 + found.1 = counts found in
    record {
      place = suc ends.place;
      count = omega (arith, count, one, ends.count);
      inside = omega (arith, ends.inside);
      is = ends.is;
    }

after_piece : (quote b : ℕ) (t value : List ℕ) (n : ℕ)
    → ((k : ℕ) (v : List ℕ) (m : ℕ) → inside_from quote k t ≡ Some (v, m) → EndsQuoted quote t m)
    → (o : Option (List ℕ × ℕ))
    → option_and_then
    (λ piece. option_map (behind_piece piece.0) (inside_from quote (piece.1 - 1) t)) o
    ≡ Some (value, n)
    → EndsQuoted quote (b ∷ t) n
after_piece quote b t value n again None is = absurd (cc)
after_piece quote b t value n again (Some piece) is =
    later quote b t value n (behind_piece piece.0) (λ found. refl)
    (inside_from quote (piece.1 - 1) t) (again (piece.1 - 1)) is

at_first : (quote b : ℕ) (t value : List ℕ) (n : ℕ)
    → ((k : ℕ) (v : List ℕ) (m : ℕ) → inside_from quote k t ≡ Some (v, m) → EndsQuoted quote t m)
    → (o : Option (List ℕ × ℕ)) (same : Bool) → (b == quote) ≡ same
    → cond same (Some ([], 1))
    (option_and_then
    (λ piece. option_map (behind_piece piece.0) (inside_from quote (piece.1 - 1) t)) o)
    ≡ Some (value, n)
    → EndsQuoted quote (b ∷ t) n
at_first quote b t value n again o true same is =
    let parts = some_pair_parts [] value 1 n is in
    record {
      place = 0;
      count = omega (arith, parts.1);
      inside = omega arith;
      is = grind (arith, nat_tests);
    }
at_first quote b t value n again o false same is = after_piece quote b t value n again o is

-- a string ends with its quote
closes : (quote k : ℕ) (text value : List ℕ) (n : ℕ) → inside_from quote k text ≡ Some (value, n)
    → EndsQuoted quote text n
unfolding inside_from
closes quote k [] value n is = absurd (cc)
closes quote (suc k) (b ∷ t) value n is =
    later quote b t value n one_more (λ found. refl) (inside_from quote k t)
    (λ v m e. closes quote k t v m e) is
closes quote zero (b ∷ t) value n is =
    at_first quote b t value n (λ k v m e. closes quote k t v m e) (piece_at quote (b ∷ t))
    (b == quote) refl is

-- what is known of a token that begins the text
record IsTokenAt (text : List ℕ) (kind : TokenKind) (n : ℕ) : Type 0 where
  front : IsFront text n
  readable : IsReadable kind (take n text)

-- neither a number nor a string
readable_other : (kind : TokenKind) (bytes : List ℕ) → kind ≢ Number → kind ≢ Str
    → IsReadable kind bytes
readable_other kind bytes number string =
    record {
      digits = λ e. absurd (number e);
      fits = λ e. absurd (number e);
      quoted = λ e. absurd (string e);
    }

string_behind : (b : ℕ) (t value : List ℕ) (m : ℕ) → is_quote b ≡ true
    → inside_from b 0 t ≡ Some (value, m) → IsTokenAt (b ∷ t) Str (1 + m)
string_behind b t value m quoted is =
    let ends = closes b 0 t value m is in
    let place : ℕ = suc ends.place in
    let inside : place < length (b ∷ t) = omega (arith, ends.inside) in
    let small : get_or (b ∷ t) place 0 < 128 = omega (arith, ends.is, quote_small b quoted) in
    let count : place + 1 ≡ 1 + m = omega (arith, ends.count) in
    let cons : 1 + m ≡ suc m = omega arith in
    record {
      front = record {
        within = omega (arith, ends.inside, ends.count);
        utf8 = λ utf8. subst (λ k. IsUtf8 (drop k (b ∷ t))) count
            (IsUtf8-drop (b ∷ t) (place + 1) utf8
            (IsCharBoundary-after_ascii (b ∷ t) place utf8 inside small));
      };
      readable = record {
        digits = λ e. absurd (cc);
        fits = λ e. absurd (cc);
        quoted = λ e. subst (λ k. BeginsQuoted (take k (b ∷ t))) (sym cons) quoted;
      };
    }

abbrev symbol_of : ℕ → Option (TokenKind × ℕ)
symbol_of n = Some (Symbol, n)

symbol_front : (b : ℕ) (t : List ℕ) (kind : TokenKind) (n : ℕ) → symbol_at b t ≡ Some (kind, n)
    → IsTokenAt (b ∷ t) kind n
unfolding symbol_at
symbol_front b t kind n is = by_second t is
  where
    single_small : is_single b ≡ true → b < 128
    single_small e = grind (arith, nat_tests)

    double_small : (c : ℕ) → is_double b c ≡ true → (b < 128) × (c < 128)
    double_small c e = (grind (arith, nat_tests), grind (arith, nat_tests))

    found : (u : List ℕ) (m : ℕ) → IsFront (b ∷ u) m → symbol_of m ≡ Some (kind, n)
        → IsTokenAt (b ∷ u) kind n
    found u m front e =
        let parts = some_pair_parts Symbol kind m n e in
        record {
          front = same_front (b ∷ u) m n parts.1 front;
          readable = readable_other kind (take n (b ∷ u)) (λ f. cc) (λ f. cc);
        }

    alone : (u : List ℕ) (single : Bool) → is_single b ≡ single
        → cond single (symbol_of 1) None ≡ Some (kind, n) → IsTokenAt (b ∷ u) kind n
    alone u true e f = found u 1 (front_byte b u 0 (single_small e) (front_none u)) f
    alone u false e f = absurd (cc)

    by_second : (u : List ℕ)
        → cond (doubles b u) (symbol_of 2) (cond (is_single b) (symbol_of 1) None) ≡ Some (kind, n)
        → IsTokenAt (b ∷ u) kind n
    by_second [] f = alone [] (is_single b) refl f
    by_second (c ∷ u) f = by_both (is_double b c) refl f
      where
        by_both : (both : Bool) → is_double b c ≡ both
            → cond both (symbol_of 2) (cond (is_single b) (symbol_of 1) None) ≡ Some (kind, n)
            → IsTokenAt (b ∷ c ∷ u) kind n
        by_both true e g =
            found (c ∷ u) 2
            (front_byte b (c ∷ u) 1 (double_small c e).0
            (front_byte c u 0 (double_small c e).1 (front_none u))) g
        by_both false e g = alone (c ∷ u) (is_single b) refl g

-- digits that aren't too large, or a duration
numeric_readable : (bytes : List ℕ) (kind : TokenKind) → numeric_kind bytes ≡ Some kind
    → IsReadable kind bytes
unfolding numeric_kind
numeric_readable bytes kind is = by_digits (list_all is_digit bytes) refl is
  where
    small : nat_le (digits_value 10 bytes) MOST ≡ true → digits_value 10 bytes ≤ MOST
    small e = grind (arith, nat_tests)

    by_digits : (digits : Bool) → list_all is_digit bytes ≡ digits
        → cond digits (cond (nat_le (digits_value 10 bytes) MOST) (Some Number) None)
        (cond (is_duration bytes) (Some Duration) None) ≡ Some kind
        → IsReadable kind bytes
    by_digits true e f =
        let fits = cond_some (nat_le (digits_value 10 bytes) MOST) Number kind f in
        record {
          digits = λ g. e;
          fits = λ g. small fits.0;
          quoted = λ g. absurd (let h : Number ≡ kind = fits.1 in cc);
        }
    by_digits false e f =
        let fits = cond_some (is_duration bytes) Duration kind f in
        let h : Duration ≡ kind = fits.1 in
        readable_other kind bytes (λ g. cc) (λ g. cc)

numeric_front : (text : List ℕ) (kind : TokenKind) (n : ℕ) (o : Option TokenKind)
    → ((k : TokenKind) → o ≡ Some k → IsReadable k (take (run_at text) text))
    → option_map {U = TokenKind × ℕ} (λ k. (k, run_at text)) o ≡ Some (kind, n)
    → IsTokenAt text kind n
numeric_front text kind n None readable is = absurd (cc)
numeric_front text kind n (Some k) readable is =
    let parts = some_pair_parts k kind (run_at text) n is in
    record {
      front = same_front text (run_at text) n parts.1 (word_front text);
      readable =
          subst (λ m. IsReadable kind (take m text)) parts.1
          (subst (λ g. IsReadable g (take (run_at text) text)) parts.0 (readable k refl));
    }

string_front : (b : ℕ) (t : List ℕ) (kind : TokenKind) (n : ℕ) (o : Option (List ℕ × ℕ))
    → is_quote b ≡ true
    → ((found : List ℕ × ℕ) → o ≡ Some found → IsTokenAt (b ∷ t) Str (1 + found.1))
    → option_map {U = TokenKind × ℕ} (λ found. (Str, 1 + found.1)) o ≡ Some (kind, n)
    → IsTokenAt (b ∷ t) kind n
string_front b t kind n None quoted behind is = absurd (cc)
string_front b t kind n (Some found) quoted behind is =
    let parts = some_pair_parts Str kind (1 + found.1) n is in
    subst (λ m. IsTokenAt (b ∷ t) kind m) parts.1
    (subst (λ g. IsTokenAt (b ∷ t) g (1 + found.1)) parts.0 (behind found refl))

-- the token that begins a text
token_front : (text : List ℕ) (kind : TokenKind) (n : ℕ) → token_at text ≡ Some (kind, n)
    → IsTokenAt text kind n
unfolding token_at
token_front [] kind n is = absurd (cc)
token_front (b ∷ t) kind n is = by_first (is_metric_start b) (is_digit b) (is_quote b) refl is
  where
    text : List ℕ
    text = b ∷ t

    by_first : (word digit quote : Bool) → is_quote b ≡ quote
        → cond word (Some (Word, run_at (b ∷ t)))
        (cond digit (option_map (λ k. (k, run_at (b ∷ t)))
        (numeric_kind (take (run_at (b ∷ t)) (b ∷ t))))
        (cond quote (option_map (λ found. (Str, 1 + found.1)) (inside_from b 0 t)) (symbol_at b t)))
        ≡ Some (kind, n) → IsTokenAt (b ∷ t) kind n
    by_first true digit quote e f =
        let parts = some_pair_parts Word kind (run_at (b ∷ t)) n f in
        let h : Word ≡ kind = parts.0 in
        record {
          front = same_front (b ∷ t) (run_at (b ∷ t)) n parts.1 (word_front (b ∷ t));
          readable = readable_other kind (take n (b ∷ t)) (λ g. cc) (λ g. cc);
        }
    by_first false true quote e f =
        numeric_front (b ∷ t) kind n (numeric_kind (take (run_at (b ∷ t)) (b ∷ t)))
        (λ k g. numeric_readable (take (run_at (b ∷ t)) (b ∷ t)) k g) f
    by_first false false true e f =
        string_front b t kind n (inside_from b 0 t) e
        (λ found g. string_behind b t found.0 found.1 e g) f
    by_first false false false e f = symbol_front b t kind n f

-- each token of what is cut lies between places of the text
AllPlaced : List ℕ → Result (List Token) ℕ → Type 0
AllPlaced text (Ok tokens) = AllByRecursion (IsPlaced text) tokens
AllPlaced text (Err place) = Unit {0}

-- a place of the text, and what stands behind it
record IsRest (text : List ℕ) (place : ℕ) (rest : List ℕ) : Type 0 where
  within : place ≤ length text
  is : rest ≡ drop place text
  utf8 : IsUtf8 rest

rest_boundary : (text : List ℕ) (place : ℕ) (rest : List ℕ) → IsRest text place rest
    → IsCharBoundary text place
rest_boundary text place rest at =
    IsCharBoundary-from_drop text place at.within (subst IsUtf8 at.is at.utf8)

rest_behind : (text : List ℕ) (place : ℕ) (rest : List ℕ) (n : ℕ) → IsRest text place rest
    → IsFront rest n → IsRest text (place + n) (drop n rest)
rest_behind text place rest n at front =
    let left : length rest ≡ length text - place = ap length at.is ∙ length-drop place text in
    record {
      within = omega (arith, left, front.within, at.within);
      is = ap (drop n) at.is ∙ drop-drop n place text;
      utf8 = front.utf8 at.utf8;
    }

placed_first : (text : List ℕ) (place : ℕ) (rest : List ℕ) (found : TokenKind × ℕ)
    (r : Result (List Token) ℕ) → IsRest text place rest
    → token_at rest ≡ Some found → AllPlaced text r
    → AllPlaced text (with_token (token_of place found) r)
unfolding AllPlaced
placed_first text place rest found (Err bad) at is others = others
placed_first text place rest found (Ok tokens) at is others =
    let token = token_front rest found.0 found.1 is in
    let behind = rest_behind text place rest found.1 at token.front in
    let count : (place + found.1) - place ≡ found.1 = omega arith in
    let bytes : take found.1 rest ≡ take ((place + found.1) - place) (drop place text) =
    rw count (ap (take found.1) at.is) in (
      record {
        ordered = omega arith;
        starts = rest_boundary text place rest at;
        ends = rest_boundary text (place + found.1) (drop found.1 rest) behind;
        readable = subst (λ bs. IsReadable found.0 bs) bytes token.readable;
      },
      others,
    )

cut_placed : (text : List ℕ) (place : ℕ) (rest : List ℕ) (r : Result (List Token) ℕ)
    → Cut place rest r → IsRest text place rest → AllPlaced text r
unfolding AllPlaced
cut_placed text _ _ _ (Cut.end place) at = tt
cut_placed text _ _ _ (Cut.gap place rest r some more) at =
    cut_placed text (place + gap_at rest) (drop (gap_at rest) rest) r more
    (rest_behind text place rest (gap_at rest) at (gap_front rest))
cut_placed text _ _ _ (Cut.token place rest found r none is more) at =
    placed_first text place rest found r at is
    (cut_placed text (place + found.1) (drop found.1 rest) r more
    (rest_behind text place rest found.1 at (token_front rest found.0 found.1 is).front))
cut_placed text _ _ _ (Cut.bad place rest left none is) at = tt

at_index : (text : List ℕ) (tokens : List Token) (i : ℕ) (d : Token)
    → AllByRecursion (IsPlaced text) tokens → i < length tokens
    → IsPlaced text (get_or tokens i d)
at_index text [] i d all inside = absurd (omega arith)
at_index text (token ∷ tokens) zero d all inside = all.0
at_index text (token ∷ tokens) (suc i) d all inside = at_index text tokens i d all.1 (omega arith)

-- each token of a text is placed in it
pub placed_at : (text : List ℕ) (tokens : List Token) (i : ℕ) (d : Token) → IsUtf8 text
    → IsTokens text tokens → i < length tokens
    → IsPlaced text (get_or tokens i d)
unfolding AllPlaced
placed_at text tokens i d utf8 are inside =
    at_index text tokens i d
    (cut_placed text 0 text (Ok tokens) are (record {
      within = omega arith;
      is = refl;
      utf8 = utf8;
    })) inside
