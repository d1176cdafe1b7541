-- How a template's text is read, piece by piece.
use Rattle.std.proofs.Common.{◌≡◌, ◌≢◌, ℕ, zero, suc, ◌+◌, ◌-◌, ◌<◌, ◌≤◌, ◌^◌, Bool, true, false, not, ◌&&◌, ◌==◌, List, [], ◌∷◌, ◌++◌, length, take, drop, replicate, get_or, cond, Option, Some, None, MatchOption, slice_index, nat_lt, Result, Ok, Err, length-append, IsUtf8, IsCharBoundary, refl, ap, sym, subst, ◌∙◌, append_assoc, append-nil, arith}
use denote.Ref.{Bor}
use Rattle.std.specs.List.{prefix_len, position_from, list_all}
use Rattle.std.specs.Char.{digit_value, is_digit}
use Rattle.std.specs.Str.Parse.{AllDigits, digits_value, without_leading_plus, ParsesUnsigned}
use Rattle.std.specs.Cmp.{first_so, second_so}
use Rattle.std.proofs.lemmas.List.{get_or_at}
use Rattle.std.specs.Str.{is_utf8}
use Rattle.std.proofs.lemmas.Bool.Decides.{nat_tests}
use Rattle.std.proofs.lemmas.Str.{IsUtf8-take, IsUtf8-drop, IsCharBoundary-after_ascii, is_utf8-from_IsUtf8}
use Rattle.std.proofs.lemmas.List.Sums.{prefix_len_passes, prefix_len-le-length}
use Rattle.std.proofs.Math.Seq.{take-append_seam, drop-append-add}
use Rattle.op_base.specs.Patterns.{whole_group}
use Rattle.regex.specs.Templates.{written_after, at_dollar, name_at, is_name_byte, group_called, number_in, text_or_nothing}

not_taken : {A : Type 0} (t : Bool) (a b : A) → t ≡ false → cond (not t) a b ≡ a
not_taken t a b is = ap (λ x. cond (not x) a b) is

taken : {A : Type 0} (t : Bool) (a b : A) → t ≡ true → cond t a b ≡ a
taken t a b is = ap (λ x. cond x a b) is

passed : {A : Type 0} (t : Bool) (a b : A) → t ≡ false → cond t a b ≡ b
passed t a b is = ap (λ x. cond x a b) is

other_than : (b c : ℕ) → b ≢ c → (b == c) ≡ false
other_than b c differs = grind (arith, nat_tests, differs)

module _ (names : List (Option (List ℕ))) (f : ℕ → List ℕ) where
  -- what stands before a `$` is written as it is
  pub written-before : (xs ys : List ℕ) → ((i : ℕ) → i < length xs → get_or xs i 0 ≢ 36) → written_after names f (xs ++ ys) 0 ≡ xs ++ written_after names f ys 0
  unfolding written_after
  written-before [] ys differ = refl
  written-before (x ∷ xs) ys differ =
      not_taken (x == 36) _ _ (other_than x 36 (differ 0 (omega arith)))
      ∙ ap (λ l. x ∷ l) (written-before xs ys (λ i h. differ (suc i) (omega (arith, h))))

  -- bytes that are passed over write nothing
  pub written-skip : (rest : List ℕ) (n : ℕ) → written_after names f rest n ≡ written_after names f (drop n rest) 0
  unfolding written_after
  written-skip [] zero = refl
  written-skip [] (suc n) = refl
  written-skip (b ∷ rest) zero = refl
  written-skip (b ∷ rest) (suc n) = written-skip rest n

  -- `$$` is one `$`
  pub written-double : (after rest : List ℕ) → after ≡ 36 ∷ rest → written_after names f (36 ∷ after) 0 ≡ 36 ∷ written_after names f rest 0
  unfolding written_after
  written-double after rest is = subst (λ l. written_after names f (36 ∷ l) 0 ≡ 36 ∷ written_after names f rest 0) (sym is) refl

  first_differs : (after : List ℕ) → ((rest : List ℕ) → after ≢ 36 ∷ rest) → (slice_index after 0 == 36) ≡ false
  first_differs [] other = refl
  first_differs (b ∷ rest) other = other_than b 36 (λ is. other rest (ap (λ c. c ∷ rest) is))

  -- any other `$` is read with the name behind it
  pub written-named : (after : List ℕ) → ((rest : List ℕ) → after ≢ 36 ∷ rest) → written_after names f (36 ∷ after) 0 ≡ at_dollar names f (name_at after) (written_after names f after)
  unfolding written_after
  written-named after other = passed (slice_index after 0 == 36) _ _ (first_differs after other)

-- a name without braces ends between characters
pub name-boundary : (text : List ℕ) (count : ℕ) → IsUtf8 text → count ≡ prefix_len is_name_byte text → 0 < count → IsCharBoundary text count
name-boundary text count utf8 is some =
    let within = prefix_len-le-length is_name_byte text in
    let passes = prefix_len_passes is_name_byte text (count - 1) 0 (omega (arith, is, some)) in
    subst (IsCharBoundary text) {x = count - 1 + 1} (omega (arith, some)) (IsCharBoundary-after_ascii text (count - 1) utf8 (omega (arith, within, is, some)) (ascii (get_or text (count - 1) 0) passes))
  where
    ascii : (b : ℕ) → is_name_byte b ≡ true → b < 128
    ascii b is = grind (arith, nat_tests, is)

-- a reference of so many bytes, where there is one
abbrev found_if : Bool → List ℕ → ℕ → Option (List ℕ × ℕ)
found_if t name n = cond t (Some (name, n)) None

abbrev before_brace : ℕ → Bool
before_brace b = not (b == 125)

brace-none : (xs : List ℕ) → ((i : ℕ) → i < length xs → get_or xs i 0 ≢ 125) → prefix_len before_brace xs ≡ length xs
brace-none [] differ = refl
brace-none (x ∷ xs) differ =
    let rest : prefix_len before_brace xs ≡ length xs = brace-none xs (λ i h. differ (suc i) (omega (arith, h))) in
    not_taken (x == 125) (1 + prefix_len before_brace xs) 0 (other_than x 125 (differ 0 (omega arith))) ∙ omega (arith, rest)

brace-first : (xs ys : List ℕ) → ((i : ℕ) → i < length xs → get_or xs i 0 ≢ 125) → prefix_len before_brace (xs ++ 125 ∷ ys) ≡ length xs
brace-first [] ys differ = refl
brace-first (x ∷ xs) ys differ =
    let rest : prefix_len before_brace (xs ++ 125 ∷ ys) ≡ length xs = brace-first xs ys (λ i h. differ (suc i) (omega (arith, h))) in
    not_taken (x == 125) (1 + prefix_len before_brace (xs ++ 125 ∷ ys)) 0 (other_than x 125 (differ 0 (omega arith))) ∙ omega (arith, rest)

below_itself : (n : ℕ) → nat_lt n n ≡ false
below_itself n = grind (arith, nat_tests)

below_more : (m n : ℕ) → m < n → nat_lt m n ≡ true
below_more m n h = grind (arith, nat_tests, h)

unclosed : (inside : List ℕ) → ((i : ℕ) → i < length inside → get_or inside i 0 ≢ 125) → name_at (123 ∷ inside) ≡ None
unfolding name_at
unclosed inside differ =
    ap (λ n. found_if (nat_lt n (length inside) && is_utf8 (take n inside)) (take n inside) (n + 2)) (brace-none inside differ)
    ∙ ap (λ t. found_if (t && is_utf8 (take (length inside) inside)) (take (length inside) inside) (length inside + 2)) (below_itself (length inside))

closed : (name rest : List ℕ) → IsUtf8 name → ((i : ℕ) → i < length name → get_or name i 0 ≢ 125) → name_at (123 ∷ (name ++ 125 ∷ rest)) ≡ Some (name, length name + 2)
unfolding name_at
closed name rest utf8 differ =
    let inside = name ++ 125 ∷ rest in
    let fits : length name < length (name ++ 125 ∷ rest) = omega (arith, length-append name (125 ∷ rest)) in
    ap (λ n. found_if (nat_lt n (length inside) && is_utf8 (take n inside)) (take n inside) (n + 2)) (brace-first name rest differ)
    ∙ ap (λ t. found_if (nat_lt (length name) (length inside) && is_utf8 t) t (length name + 2)) (take-append_seam name (125 ∷ rest))
    ∙ ap (λ t. found_if (t && is_utf8 name) name (length name + 2)) (below_more (length name) (length inside) fits)
    ∙ ap (λ t. found_if t name (length name + 2)) (is_utf8-from_IsUtf8 name utf8)

-- what stands in text before an ASCII byte is text, and so is what stands behind one
utf8-before : (xs ys : List ℕ) (b : ℕ) → b < 128 → IsUtf8 (xs ++ b ∷ ys) → IsUtf8 xs
utf8-before xs ys b ascii utf8 =
    subst IsUtf8 (take-append_seam xs (b ∷ ys)) (IsUtf8-take (xs ++ b ∷ ys) (length xs) utf8
    (omega (arith, length-append xs (b ∷ ys)), λ within high. absurd (omega (arith, ascii, high, get_or_at xs b ys 0 (length xs) refl))))

utf8-behind : (xs : List ℕ) (b : ℕ) → b < 128 → IsUtf8 (b ∷ xs) → IsUtf8 xs
utf8-behind xs b ascii utf8 = IsUtf8-drop (b ∷ xs) 1 utf8 (IsCharBoundary-after_ascii (b ∷ xs) 0 utf8 (omega arith) ascii)

-- a name in braces, up to the first closing one
pub braced : (text inside : List ℕ) (r : Option (Bor (List ℕ) × Bor (List ℕ))) → IsUtf8 text → text ≡ 123 ∷ inside
    → MatchOption r ((i : ℕ) → i < length inside → get_or inside i 0 ≢ 125)
    (λ x. (inside ≡ x.0.now ++ 125 ∷ x.1.now) × ((i : ℕ) → i < length x.0.now → get_or x.0.now i 0 ≢ 125))
    → MatchOption r (name_at text ≡ None) (λ found. (n : ℕ) × (name_at text ≡ Some (found.0.now, n)) × (found.1.now ≡ drop n text))
braced text inside None utf8 is differ = ap name_at is ∙ unclosed inside differ
braced text inside (Some x) utf8 is parts =
    let name = x.0.now in
    let rest = x.1.now in
    let whole : text ≡ 123 ∷ (x.0.now ++ 125 ∷ x.1.now) = is ∙ ap (λ l. 123 ∷ l) parts.0 in
    let name_utf8 = utf8-before name rest 125 (omega arith) (utf8-behind (name ++ 125 ∷ rest) 123 (omega arith) (subst IsUtf8 whole utf8)) in
    let left : drop (length x.0.now + 2) (123 ∷ (x.0.now ++ 125 ∷ x.1.now)) ≡ x.1.now =
    subst (λ k. drop k (123 ∷ (x.0.now ++ 125 ∷ x.1.now)) ≡ x.1.now) {x = suc (length x.0.now + 1)} (omega arith) (drop-append-add name (125 ∷ rest) 1) in
    (length name + 2, ap name_at whole ∙ closed name rest name_utf8 parts.1, sym left ∙ ap (drop (length name + 2)) (sym whole))

no_brace : (text : List ℕ) → ((rest : List ℕ) → text ≢ 123 ∷ rest) → (slice_index text 0 == 123) ≡ false
no_brace [] other = refl
no_brace (b ∷ rest) other = other_than b 123 (λ is. other rest (ap (λ c. c ∷ rest) is))

-- a name without braces
pub bare : (text : List ℕ) (r : Option (Bor (List ℕ) × Bor (List ℕ))) → ((rest : List ℕ) → text ≢ 123 ∷ rest)
    → MatchOption r (prefix_len is_name_byte text ≡ 0)
    (λ found. (0 < prefix_len is_name_byte text) × (found.0.now ≡ take (prefix_len is_name_byte text) text) × (found.1.now ≡ drop (prefix_len is_name_byte text) text))
    → MatchOption r (name_at text ≡ None) (λ found. (n : ℕ) × (name_at text ≡ Some (found.0.now, n)) × (found.1.now ≡ drop n text))
unfolding name_at
bare text None other none =
    passed (slice_index text 0 == 123) _ _ (no_brace text other) ∙ ap (λ n. found_if (nat_lt 0 n) (take n text) n) none
bare text (Some x) other found =
    let count = prefix_len is_name_byte text in (
      count,
      passed (slice_index text 0 == 123) _ _ (no_brace text other) ∙ ap (λ t. found_if t (take count text) count) (below_more 0 count found.0)
          ∙ ap (λ name. found_if true name count) (sym found.1),
      found.2,
    )

-- what a reference writes, and what follows it
pub reference-read : (names : List (Option (List ℕ))) (f : ℕ → List ℕ) (after name rest part : List ℕ)
    → ((n : ℕ) × (name_at after ≡ Some (name, n)) × (rest ≡ drop n after)) → part ≡ text_or_nothing names f (group_called names name)
    → at_dollar names f (name_at after) (written_after names f after) ≡ part ++ written_after names f rest 0
reference-read names f after name rest part found is =
    ap (λ o. at_dollar names f o (written_after names f after)) found.1
    ∙ ap (λ l. text_or_nothing names f (group_called names name) ++ l) (written-skip names f after found.0 ∙ ap (λ l. written_after names f l 0) (sym found.2))
    ∙ ap (λ l. l ++ written_after names f rest 0) (sym is)

-- the number that a name writes, if it does
digits-all : (ds : List ℕ) → AllDigits 10 ds → list_all (λ c. is_digit c 10) ds ≡ true
digits-all [] all = refl
digits-all (d ∷ ds) all = ap (λ t. t && list_all (λ c. is_digit c 10) ds) (below_more _ 10 all.0) ∙ digits-all ds all.1

all-digits : (ds : List ℕ) → list_all (λ c. is_digit c 10) ds ≡ true → AllDigits 10 ds
all-digits [] all = tt
all-digits (d ∷ ds) all = (above (digit_value d) (first_so _ _ all), all-digits ds (second_so _ _ all))
  where
    above : (n : ℕ) → nat_lt n 10 ≡ true → n < 10
    above n is = grind (arith, nat_tests, is)

abbrev ok_of : {E : Type 0} → Result ℕ E → Option ℕ
ok_of (Ok n) = Some n
ok_of (Err e) = None

pub number-in : {E : Type 0} (name : List ℕ) (r : Result ℕ E) → ParsesUnsigned 64 10 name r → number_in name ≡ ok_of r
unfolding number_in
number-in name (Ok n) h =
    let ds = without_leading_plus name in
    ap (λ t. cond ((t && list_all (λ c. is_digit c 10) ds) && nat_lt (digits_value 10 ds) (2 ^ 64)) (Some (digits_value 10 ds)) None) (below_more 0 (length ds) h.0.0.0)
    ∙ ap (λ t. cond (t && nat_lt (digits_value 10 ds) (2 ^ 64)) (Some (digits_value 10 ds)) None) (digits-all ds h.0.0.1)
    ∙ ap (λ t. cond t (Some (digits_value 10 ds)) None) (below_more (digits_value 10 ds) (2 ^ 64) h.0.1)
    ∙ ap (λ k. Some k) (sym h.1)
number-in name (Err e) h =
    let ds = without_leading_plus name in
    elim ((nat_lt 0 (length ds) && list_all (λ c. is_digit c 10) ds) && nat_lt (digits_value 10 ds) (2 ^ 64))
    as (λ t. ((nat_lt 0 (length ds) && list_all (λ c. is_digit c 10) ds) && nat_lt (digits_value 10 ds) (2 ^ 64)) ≡ t → cond t (Some (digits_value 10 ds)) None ≡ None) [
      | true ↦ λ is. absurd (h ((some_of (length ds) (first_so _ _ (first_so _ _ is)), all-digits ds (second_so _ _ (first_so _ _ is))), fits (digits_value 10 ds) (second_so _ _ is)))
      | false ↦ λ is. refl
    ] refl
  where
    some_of : (n : ℕ) → nat_lt 0 n ≡ true → 0 < n
    some_of n is = grind (arith, nat_tests, is)

    fits : (n : ℕ) → nat_lt n (2 ^ 64) ≡ true → n < 2 ^ 64
    fits n is = grind (arith, nat_tests, is)

unnamed : (test : Option (List ℕ) → Bool) → test None ≡ false → (at count : ℕ) → position_from test at (replicate count None) ≡ None
unnamed test not at zero = refl
unnamed test not at (suc count) = ap (λ t. cond t (Some at) (position_from test (at + 1) (replicate count None))) not ∙ unnamed test not (at + 1) count

-- where no group has a name, a name finds the group with its number
abbrev names_of : ℕ → List (Option (List ℕ))
names_of count = replicate count None

module _ (count : ℕ) (name : List ℕ) where
  numbered : (n : ℕ) → ParsesUnsigned {E = ℕ} 64 10 name (Ok n) → group_called (names_of count) name ≡ Some n
  unfolding group_called
  numbered n h = rw (number-in {E = ℕ} name (Ok n) h) refl

  unnumbered : (e : ℕ) → ParsesUnsigned {E = ℕ} 64 10 name (Err e) → group_called (names_of count) name ≡ None
  unfolding group_called
  unnumbered e h = rw (number-in {E = ℕ} name (Err e) h) (unnamed _ refl 0 count)

-- and the value where there is such a group
module _ (count : ℕ) (name value : List ℕ) where
  pub group-in : (n : ℕ) → ParsesUnsigned {E = ℕ} 64 10 name (Ok n) → n < count → value ≡ text_or_nothing (names_of count) (whole_group count value) (group_called (names_of count) name)
  group-in n h below = sym (ap (text_or_nothing (names_of count) (whole_group count value)) (numbered count name n h) ∙ taken (nat_lt n count) value [] (below_more n count below))

  pub group-out : (n : ℕ) → ParsesUnsigned {E = ℕ} 64 10 name (Ok n) → count ≤ n → [] ≡ text_or_nothing (names_of count) (whole_group count value) (group_called (names_of count) name)
  group-out n h over = sym (ap (text_or_nothing (names_of count) (whole_group count value)) (numbered count name n h) ∙ passed (nat_lt n count) value [] (not_below n count over))
    where
      not_below : (n count : ℕ) → count ≤ n → nat_lt n count ≡ false
      not_below n count over = grind (arith, nat_tests, over)

  pub group-none : (e : ℕ) → ParsesUnsigned {E = ℕ} 64 10 name (Err e) → [] ≡ text_or_nothing (names_of count) (whole_group count value) (group_called (names_of count) name)
  group-none e h = sym (ap (text_or_nothing (names_of count) (whole_group count value)) (unnumbered count name e h))

-- one reference more
pub written-more : (names : List (Option (List ℕ))) (f : ℕ → List ℕ) (text before after rest part left one new : List ℕ) → rest ≡ before ++ 36 ∷ after
    → ((i : ℕ) → i < length before → get_or before i 0 ≢ 36) → written_after names f (36 ∷ after) 0 ≡ part ++ written_after names f left 0
    → one ≡ text ++ before → new ≡ one ++ part → new ++ written_after names f left 0 ≡ text ++ written_after names f rest 0
written-more names f text before after rest part left one new is differ reads first grown =
    let whole : written_after names f rest 0 ≡ before ++ (part ++ written_after names f left 0) =
    ap (λ l. written_after names f l 0) is ∙ written-before names f before (36 ∷ after) differ ∙ ap (λ l. before ++ l) reads in
    ap (λ l. l ++ written_after names f left 0) (grown ∙ ap (λ l. l ++ part) first)
    ∙ append_assoc (text ++ before) part (written_after names f left 0) ∙ append_assoc text before (part ++ written_after names f left 0)
    ∙ ap (λ l. text ++ l) (sym whole)

-- text without a `$` is written as it is
pub written-last : (names : List (Option (List ℕ))) (f : ℕ → List ℕ) (rest : List ℕ) → ((i : ℕ) → i < length rest → get_or rest i 0 ≢ 36) → written_after names f rest 0 ≡ rest
unfolding written_after
written-last names f rest differ =
    ap (λ l. written_after names f l 0) (sym (append-nil rest)) ∙ written-before names f rest [] differ ∙ append-nil rest
