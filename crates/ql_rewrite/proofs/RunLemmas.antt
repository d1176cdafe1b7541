-- Words of letters and digits as tokens: names, and what begins with a digit.
use Rattle.std.proofs.Common.{◌≡◌, ℕ, ◌+◌, Bool, true, false, List, [], ◌∷◌, ◌++◌, Some, length, take, cond, ◌==◌, ◌||◌, refl, ap, ◌∙◌, arith}
use Rattle.std.specs.Option.{option_map}
use Rattle.std.specs.List.{list_all, prefix_len}
use Rattle.std.proofs.Math.Seq.{take-append_seam}
use Rattle.std.proofs.lemmas.Bool.Decides.{nat_tests}
use Rattle.op_base.specs.Names.{is_digit, is_metric_start, is_metric_byte, is_metric_name}
use Rattle.ql_tree.specs.Tokens.{is_blank, gap_at, token_at, run_at, numeric_kind}
use Rattle.ql_tree.specs.declared.token.TokenKind.{TokenKind}
use Rattle.ql_tree.specs.declared.token.TokenKind.TheVariants.{Word}

-- the text begins with a byte that passes
abbrev pub begins : (ℕ → Bool) → List ℕ → Bool
begins p [] = false
begins p (b ∷ t) = p b

-- `=` or `~`
abbrev pub is_second : ℕ → Bool
is_second b = b == 61 || b == 126

pub start_is_metric : (b : ℕ) → is_metric_start b ≡ true → is_metric_byte b ≡ true
start_is_metric b h = grind (arith, nat_tests)

pub digit_is_metric : (b : ℕ) → is_digit b ≡ true → is_metric_byte b ≡ true
digit_is_metric b h = grind (arith, nat_tests)

digit_is_no_start : (b : ℕ) → is_digit b ≡ true → is_metric_start b ≡ false
digit_is_no_start b h = grind (arith, nat_tests)

metric_is_not_blank : (b : ℕ) → is_metric_byte b ≡ true → is_blank b ≡ false
metric_is_not_blank b h = grind (arith, nat_tests)

metric_is_no_comment : (b : ℕ) → is_metric_byte b ≡ true → (b == 35) ≡ false
metric_is_no_comment b h = grind (arith, nat_tests)

metric_is_not_second : (b : ℕ) → is_metric_byte b ≡ true → is_second b ≡ false
metric_is_not_second b h = grind (arith, nat_tests)

pub run_length : (bs rest : List ℕ) → list_all is_metric_byte bs ≡ true → begins is_metric_byte rest ≡ false
    → run_at (bs ++ rest) ≡ length bs
run_length [] [] all stop = refl
run_length [] (c ∷ rest) all stop = ap (λ t. cond t (1 + prefix_len is_metric_byte rest) 0) stop
run_length (b ∷ bs) rest all stop =
    let first : is_metric_byte b ≡ true = grind arith in
    let others : run_at (bs ++ rest) ≡ length bs = run_length bs rest (grind arith) stop in
    ap (λ t. cond t (1 + prefix_len is_metric_byte (bs ++ rest)) 0) first ∙ omega (arith, others)

pub name_token : (text rest : List ℕ) → is_metric_name text ≡ true → begins is_metric_byte rest ≡ false
    → token_at (text ++ rest) ≡ Some (Word, length text)
unfolding token_at
name_token [] rest is stop = cc
name_token (b ∷ t) rest is stop =
    let start : is_metric_start b ≡ true = grind arith in
    let all : list_all is_metric_byte (b ∷ t) ≡ true = grind arith in
    rw start (ap (λ n. Some (Word, n)) (run_length (b ∷ t) rest all stop))

-- a token of a number's or duration's kind with that length
abbrev pub with_length : ℕ → TokenKind → TokenKind × ℕ
with_length n kind = (kind, n)

pub numeric_token : (bs rest : List ℕ) → begins is_digit bs ≡ true → list_all is_metric_byte bs ≡ true
    → begins is_metric_byte rest ≡ false → token_at (bs ++ rest) ≡ option_map (with_length (length bs)) (numeric_kind bs)
unfolding token_at
numeric_token [] rest digit all stop = cc
numeric_token (b ∷ t) rest digit all stop =
    let no_start : is_metric_start b ≡ false = digit_is_no_start b digit in
    let run : run_at ((b ∷ t) ++ rest) ≡ length (b ∷ t) = run_length (b ∷ t) rest all stop in
    let taken : take (length (b ∷ t)) ((b ∷ t) ++ rest) ≡ b ∷ t = take-append_seam (b ∷ t) rest in
    rw (no_start, run, taken, digit) refl

-- what begins as a word or number does
pub begins_both : (p : ℕ → Bool) (bs rest : List ℕ) → begins p bs ≡ true → begins p (bs ++ rest) ≡ true
begins_both p [] rest is = cc
begins_both p (b ∷ bs) rest is = is

pub run_is_not_second : (bs rest : List ℕ) → begins is_metric_byte bs ≡ true → begins is_second (bs ++ rest) ≡ false
run_is_not_second [] rest is = cc
run_is_not_second (b ∷ bs) rest is = metric_is_not_second b is

pub run_is_no_gap : (bs rest : List ℕ) → begins is_metric_byte bs ≡ true → gap_at (bs ++ rest) ≡ 0
unfolding gap_at
run_is_no_gap [] rest is = cc
run_is_no_gap (b ∷ bs) rest is =
    let blank : is_blank b ≡ false = metric_is_not_blank b is in
    let comment : (b == 35) ≡ false = metric_is_no_comment b is in
    rw (blank, comment) refl

pub name_begins : (text : List ℕ) → is_metric_name text ≡ true → begins is_metric_byte text ≡ true
name_begins [] is = cc
name_begins (b ∷ t) is = start_is_metric b (grind arith)
