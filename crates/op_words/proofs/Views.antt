-- What a word is: one of four that are options of the command, an option that there isn't, or none.
use Rattle.std.proofs.Common.{◌≡◌, ◌∙◌, ◌||◌, ◌+◌, ◌==◌, ℕ, Bool, true, false, cond, not, suc, refl, sym, ap, subst, subst₂, arith, List, [], ◌∷◌, ◌++◌, length, take, drop, Option, Some, None, true≢false, take-append-drop}
use Rattle.std.specs.Prelude.{codes, slice_get, option_and_then}
use Rattle.std.specs.Option.{option_map_or}
use Rattle.std.specs.List.{list_any, prefix_len}
use Rattle.std.specs.Char.{encode_utf8}
use Rattle.std.specs.Str.{IsUtf8, bytes_eq, chars}
use Rattle.std.proofs.lemmas.Bool.{eqb-true}
use Rattle.std.proofs.lemmas.Slice.Eq.{bytes_eq-Decides}
use Rattle.std.proofs.lemmas.Str.{IsUtf8-past_char, encodes-chars}
use lib.Utf8.{encodes}
use Rattle.clap.specs.Lexer.{long_of, long_of_rest, name_and_value, short_of, short_of_rest, strip_byte}
use Rattle.clap.specs.Walk.{Held, Row, Rule, Text, arg_by_long}
use Rattle.clap.specs.Faults.{bundle_fault, bundle_step_fault, flag_word_fault, flags_fault, long_fault}
use Rattle.clap.specs.declared.builder.value_parser.ValueParser.{ValueParser}
use Rattle.op_words.specs.Readings.{begins, is_option, part_named}
use Rattle.op_words.proofs.Rules.{Fails, each_arg, part_arg, words_rules}

-- what is held between two words
abbrev pub held_with : List Row → Option (Text × List Text) → Held
held_with rows pending = record { rows = rows; pending = pending; skip = 0 }

-- the word is none of the command's four
pub record IsOther (word : Text) : Type 0 where
  pub ends : bytes_eq word (codes "--") ≡ false
  pub names : bytes_eq word (codes "--part") ≡ false
  pub has : begins (codes "--part=") word ≡ false
  pub sets : bytes_eq word (codes "--each") ≡ false

-- it is an option, and clap refuses it
pub record IsUnknown (p : ValueParser) (word : Text) : Type 0 where
  pub other : IsOther word
  pub option : is_option word ≡ true
  pub no_part : part_named word ≡ None
  pub fault : (rows : List Row) (pending : Option (Text × List Text)) → Fails (flag_word_fault (words_rules p) false (long_of word) word (held_with rows pending))

-- it is no option, also for clap
pub record IsPlain (word : Text) : Type 0 where
  pub other : IsOther word
  pub option : is_option word ≡ false
  pub long : long_of word ≡ None
  pub short : short_of word ≡ None

-- what a word is
pub data View (p : ValueParser) : Text → Type 0 where
  ends : View p (codes "--")
  names : View p (codes "--part")
  has : (value : Text) → View p (codes "--part=" ++ value)
  sets : View p (codes "--each")
  unknown : (word : Text) → IsUnknown p word → View p word
  plain : (word : Text) → IsPlain word → View p word

-- ---- a word that is no option

-- what doesn't begin with a hyphen, or is a hyphen alone, has neither a long nor a short name
is_plain : (word : Text) → IsOther word → is_option word ≡ false → IsPlain word
is_plain [] other e = record { other = other; option = e; long = refl; short = refl }
is_plain (b ∷ []) other e = record {
  other = other;
  option = e;
  long = elim (b == 45) as (λ t. option_and_then long_of_rest (option_and_then (strip_byte 45) (cond t (Some []) None)) ≡ None) [ true ↦ refl | false ↦ refl ];
  short = elim (b == 45) as (λ t. option_and_then short_of_rest (cond t (Some []) None) ≡ None) [ true ↦ refl | false ↦ refl ];
}
is_plain (b ∷ c ∷ bs) other e = record {
  other = other;
  option = e;
  long = ap (λ t. option_and_then long_of_rest (option_and_then (strip_byte 45) (cond t (Some (c ∷ bs)) None))) e;
  short = ap (λ t. option_and_then short_of_rest (cond t (Some (c ∷ bs)) None)) e;
}

-- ---- one hyphen before a character

-- an empty text has no first byte
no_cons : (c : ℕ) (bs : Text) → [] ≡ c ∷ bs → ⊥
no_cons c bs e = cc

-- a text that isn't empty has a first character
first_char : (c : ℕ) (bs : Text) → IsUtf8 (c ∷ bs) → (x : ℕ) × (slice_get (chars (c ∷ bs)) 0 ≡ Some x)
first_char c bs u = go (chars (c ∷ bs)) (encodes-chars (c ∷ bs) u) refl
  where
    go : (cs : List ℕ) → encodes cs ≡ c ∷ bs → chars (c ∷ bs) ≡ cs → (x : ℕ) × (slice_get (chars (c ∷ bs)) 0 ≡ Some x)
    go [] e is = absurd (no_cons c bs e)
    go (x ∷ xs) e is = (x, ap (λ l. slice_get l 0) is)

-- what follows a hyphen is text
after_hyphen : (word : Text) → IsUtf8 (45 ∷ word) → IsUtf8 word
unfolding encode_utf8
after_hyphen word u = IsUtf8-past_char (45 ∷ word) word 45 u refl

-- no option of the command has one hyphen
short_fails : (p : ValueParser) (c : ℕ) (bs : Text) (rows : List Row) (pending : Option (Text × List Text)) → IsUtf8 (c ∷ bs)
    → Fails (bundle_fault (words_rules p) false (c ∷ bs) (held_with rows pending))
unfolding flags_fault
short_fails p c bs rows pending u =
    let first = first_char c bs u in
    subst (λ o. Fails (bundle_step_fault (words_rules p) false o (c ∷ bs) 0 (held_with rows pending) (flags_fault (words_rules p) false (length bs))))
    (sym first.1) tt

-- ---- two hyphens before a name

-- the text is the name, and behind `=` (61) the value where there is one
abbrev Spells : Text → Text → Option Text → Type 0
Spells text name None = text ≡ name
Spells text name (Some value) = text ≡ name ++ 61 ∷ value

-- one more byte in front of the name
spells_more : (x : ℕ) (text name : Text) (value : Option Text) → Spells text name value → Spells (x ∷ text) (x ∷ name) value
spells_more x text name None e = ap (λ t. x ∷ t) e
spells_more x text name (Some value) e = ap (λ t. x ∷ t) e

-- the text, cut at a place, where `=` is found there or isn't
abbrev SpellsAt : Text → ℕ → ℕ → Bool → Type 0
SpellsAt text place after found = Spells text (take place text) (cond found (Some (drop after text)) None)

-- one more byte in front of a text that is cut: it is `=`, where the text is cut now, or belongs to the name
spells_at : (x : ℕ) (xs : Text) (place : ℕ) (found here : Bool) → (here ≡ true → x ≡ 61) → SpellsAt xs place (place + 1) found
    → SpellsAt (x ∷ xs) (cond (not here) (1 + place) 0) (cond (not here) (1 + place) 0 + 1) (here || found)
spells_at x xs place found true is rest = ap (λ b. b ∷ xs) (is refl)
spells_at x xs place found false is rest =
    let one : suc place ≡ 1 + place = omega arith in
    let two : suc (place + 1) ≡ 1 + place + 1 = omega arith in
    let more : SpellsAt (x ∷ xs) (suc place) (suc (place + 1)) found = spells_more x xs (take place xs) (cond found (Some (drop (place + 1) xs)) None) rest in
    subst₂ (λ i j. SpellsAt (x ∷ xs) i j found) one two more

-- the name and the value that clap reads spell the text
spells : (text : Text) → Spells text (name_and_value text).0 (name_and_value text).1
spells [] = refl
spells (x ∷ xs) = spells_at x xs (prefix_len (λ y. not (y == 61)) xs) (list_any (λ y. y == 61) xs) (x == 61) (λ e. eqb-true x 61 e) (spells xs)

-- texts that compare as equal are so
same : (xs ys : Text) → bytes_eq xs ys ≡ true → xs ≡ ys
same xs ys e = (bytes_eq-Decides xs ys).0 e

-- texts that don't compare as equal aren't
differs : (xs ys : Text) → bytes_eq xs ys ≡ false → xs ≡ ys → ⊥
differs xs ys apart e = true≢false (sym ((bytes_eq-Decides xs ys).1 e) ∙ apart)

-- the argument that a name stands for, by whether it is `part` or `each`
abbrev named : ValueParser → Bool → Bool → Option Rule
named p part each = cond (part || false) (Some (part_arg p)) (cond (each || false) (Some each_arg) None)

-- `--each` with a value is refused; without one it is `--each` itself
each_fails : (p : ValueParser) (rest name : Text) (value : Option Text) (rows : List Row) (pending : Option (Text × List Text)) → Spells rest name value → IsOther (45 ∷ 45 ∷ rest)
    → codes "each" ≡ name → Fails (long_fault (words_rules p) false (Some each_arg) value (held_with rows pending))
each_fails p rest name None rows pending spelt other is = absurd (differs (45 ∷ 45 ∷ rest) (codes "--each") other.sets (ap (λ t. 45 ∷ 45 ∷ t) (spelt ∙ sym is)))
each_fails p rest name (Some value) rows pending spelt other is = tt

-- a word that is neither `--part` nor `--part=` with a value doesn't name it
part_is_other : (rest name : Text) (value : Option Text) → Spells rest name value → IsOther (45 ∷ 45 ∷ rest) → codes "part" ≡ name → ⊥
part_is_other rest name None spelt other is = differs (45 ∷ 45 ∷ rest) (codes "--part") other.names (ap (λ t. 45 ∷ 45 ∷ t) (spelt ∙ sym is))
part_is_other rest name (Some value) spelt other is =
    let whole : rest ≡ codes "part" ++ 61 ∷ value = spelt ∙ ap (λ t. t ++ 61 ∷ value) (sym is) in
    true≢false (sym (ap (λ t. begins (codes "--part=") (45 ∷ 45 ∷ t)) whole) ∙ other.has)

-- an option with two hyphens that is none of the command's
long_fails : (p : ValueParser) (rest name : Text) (value : Option Text) (rows : List Row) (pending : Option (Text × List Text)) → Spells rest name value → IsOther (45 ∷ 45 ∷ rest)
    → Fails (long_fault (words_rules p) false (arg_by_long (words_rules p) name) value (held_with rows pending))
long_fails p rest name value rows pending spelt other = by_part (bytes_eq (codes "part") name) refl
  where
    by_each : (t : Bool) → bytes_eq (codes "each") name ≡ t → Fails (long_fault (words_rules p) false (named p false t) value (held_with rows pending))
    by_each false e = tt
    by_each true e = each_fails p rest name value rows pending spelt other (same _ _ e)

    by_part : (t : Bool) → bytes_eq (codes "part") name ≡ t → Fails (long_fault (words_rules p) false (named p t (bytes_eq (codes "each") name)) value (held_with rows pending))
    by_part false e = by_each (bytes_eq (codes "each") name) refl
    by_part true e = absurd (part_is_other rest name value spelt other (same _ _ e))

-- an option that begins with two hyphens is refused
two_hyphens : (p : ValueParser) (bs : Text) (rows : List Row) (pending : Option (Text × List Text)) → IsOther (45 ∷ 45 ∷ bs)
    → Fails (flag_word_fault (words_rules p) false (long_of (45 ∷ 45 ∷ bs)) (45 ∷ 45 ∷ bs) (held_with rows pending))
two_hyphens p [] rows pending other = absurd (true≢false other.ends)
two_hyphens p (x ∷ xs) rows pending other = long_fails p (x ∷ xs) (name_and_value (x ∷ xs)).0 (name_and_value (x ∷ xs)).1 rows pending (spells (x ∷ xs)) other

-- ---- an option that there isn't

-- an option is refused, whether it begins with one hyphen or with two
hyphen_fails : (p : ValueParser) (c : ℕ) (bs : Text) (rows : List Row) (pending : Option (Text × List Text)) → IsUtf8 (45 ∷ c ∷ bs) → IsOther (45 ∷ c ∷ bs) → (t : Bool) → (c == 45) ≡ t
    → Fails (flag_word_fault (words_rules p) false (long_of (45 ∷ c ∷ bs)) (45 ∷ c ∷ bs) (held_with rows pending))
hyphen_fails p c bs rows pending u other true e =
    subst (λ k. IsOther (45 ∷ k ∷ bs) → Fails (flag_word_fault (words_rules p) false (long_of (45 ∷ k ∷ bs)) (45 ∷ k ∷ bs) (held_with rows pending)))
    (sym (eqb-true c 45 e)) (two_hyphens p bs rows pending) other
hyphen_fails p c bs rows pending u other false e =
    let long : long_of (45 ∷ c ∷ bs) ≡ None = ap (λ t. option_and_then long_of_rest (cond t (Some bs) None)) e in
    let short : short_of (45 ∷ c ∷ bs) ≡ Some (c ∷ bs) = ap (λ t. cond t None (Some (c ∷ bs))) e in
    subst (λ l. Fails (flag_word_fault (words_rules p) false l (45 ∷ c ∷ bs) (held_with rows pending))) (sym long)
    (subst (λ o. Fails (option_map_or (λ flags. bundle_fault (words_rules p) false flags (held_with rows pending)) o [])) (sym short)
    (short_fails p c bs rows pending (after_hyphen (c ∷ bs) u)))

-- a word that begins with a hyphen and isn't one of the four
is_unknown : (p : ValueParser) (c : ℕ) (bs : Text) → IsUtf8 (45 ∷ c ∷ bs) → IsOther (45 ∷ c ∷ bs) → IsUnknown p (45 ∷ c ∷ bs)
is_unknown p c bs u other = record {
  other = other;
  option = refl;
  no_part = refl;
  fault = λ rows pending. hyphen_fails p c bs rows pending u other (c == 45) refl;
}

-- an option that isn't one of the four
unknown_of : (p : ValueParser) (word : Text) → IsUtf8 word → IsOther word → is_option word ≡ true → IsUnknown p word
unknown_of p [] u other e = absurd (true≢false (sym e))
unknown_of p (b ∷ []) u other e = absurd (true≢false (sym e))
unknown_of p (b ∷ c ∷ bs) u other e =
    subst (λ k. IsUtf8 (k ∷ c ∷ bs) → IsOther (k ∷ c ∷ bs) → IsUnknown p (k ∷ c ∷ bs)) (sym (eqb-true b 45 e)) (is_unknown p c bs) u other

-- ---- each word has a view

-- the view of a word that isn't one of the four
other_view : (p : ValueParser) (word : Text) → IsUtf8 word → IsOther word → View p word
other_view p word u other = go (is_option word) refl
  where
    go : (t : Bool) → is_option word ≡ t → View p word
    go true e = unknown word (unknown_of p word u other e)
    go false e = plain word (is_plain word other e)

-- the view of a word, by the tests in the order of the definition
pub view : (p : ValueParser) (word : Text) → IsUtf8 word → View p word
view p word u = by_end (bytes_eq word (codes "--")) refl
  where
    by_set : (a : bytes_eq word (codes "--") ≡ false) (b : bytes_eq word (codes "--part") ≡ false) (c : begins (codes "--part=") word ≡ false) (t : Bool) → bytes_eq word (codes "--each") ≡ t
        → View p word
    by_set a b c true e = subst (View p) (sym (same word _ e)) sets
    by_set a b c false e = other_view p word u (record { ends = a; names = b; has = c; sets = e })

    by_value : (a : bytes_eq word (codes "--") ≡ false) (b : bytes_eq word (codes "--part") ≡ false) (t : Bool) → begins (codes "--part=") word ≡ t → View p word
    by_value a b true e = subst (View p) (ap (λ t. t ++ drop 7 word) (sym (same (take 7 word) _ e)) ∙ take-append-drop 7 word) (has (drop 7 word))
    by_value a b false e = by_set a b e (bytes_eq word (codes "--each")) refl

    by_name : (a : bytes_eq word (codes "--") ≡ false) (t : Bool) → bytes_eq word (codes "--part") ≡ t → View p word
    by_name a true e = subst (View p) (sym (same word _ e)) names
    by_name a false e = by_value a e (begins (codes "--part=") word) refl

    by_end : (t : Bool) → bytes_eq word (codes "--") ≡ t → View p word
    by_end true e = subst (View p) (sym (same word _ e)) ends
    by_end false e = by_name e (bytes_eq word (codes "--part")) refl
