-- A quoted text is one token, and its value is the text.
use Rattle.std.proofs.Common.{◌≡◌, ℕ, suc, ◌+◌, Bool, true, false, List, [], ◌∷◌, ◌++◌, Some, length, cond, codes, ◌==◌, refl, ap, subst, ◌∙◌, append_assoc, length-append, arith, lit<}
use Rattle.std.specs.Option.{option_map}
use Rattle.std.specs.List.{flat_map}
use Rattle.std.proofs.lemmas.Bool.Decides.{nat_tests}
use Rattle.std.proofs.lemmas.Str.{encode_ascii}
use Rattle.ql_tree.specs.Pieces.{escaped, quoted_text}
use Rattle.ql_tree.specs.Strings.{inside_from, piece_at, escape_at, string_value, text_found}
use Rattle.ql_tree.specs.Tokens.{token_at}
use Rattle.ql_tree.specs.declared.token.TokenKind.TheVariants.{Str}

-- two bytes are one, and one more
twice : (n : ℕ) → 1 + (1 + n) ≡ 2 + n
twice n = omega arith

-- what stands behind a byte, or an escape, is read on
module _ (more text : List ℕ) (n : ℕ) (read : inside_from 34 0 more ≡ Some (text, n)) where
  quote_more : inside_from 34 0 (92 ∷ 34 ∷ more) ≡ Some (34 ∷ text, 2 + n)
  unfolding inside_from piece_at escape_at
  quote_more = rw (read, encode_ascii 34 (lit< tt)) (ap (λ k. Some (34 ∷ text, k)) (twice n))

  backslash_more : inside_from 34 0 (92 ∷ 92 ∷ more) ≡ Some (92 ∷ text, 2 + n)
  unfolding inside_from piece_at escape_at
  backslash_more = rw (read, encode_ascii 92 (lit< tt)) (ap (λ k. Some (92 ∷ text, k)) (twice n))

  newline_more : inside_from 34 0 (92 ∷ 110 ∷ more) ≡ Some (10 ∷ text, 2 + n)
  unfolding inside_from piece_at escape_at
  newline_more = rw (read, encode_ascii 10 (lit< tt)) (ap (λ k. Some (10 ∷ text, k)) (twice n))

  byte_more : (b : ℕ) → (b == 34) ≡ false → (b == 92) ≡ false → (b == 10) ≡ false
      → inside_from 34 0 (b ∷ more) ≡ Some (b ∷ text, 1 + n)
  unfolding inside_from piece_at
  byte_more b quote backslash newline = rw (quote, newline, backslash, read) refl

  equal : (b c : ℕ) → (b == c) ≡ true → c ≡ b
  equal b c is = grind (arith, nat_tests)

  -- how a byte is written, by what it is
  abbrev escape_in : Bool → Bool → Bool → ℕ → List ℕ
  escape_in quote backslash newline b =
      cond quote (codes "\\\"") (cond backslash (codes "\\\\") (cond newline (codes "\\n") (b ∷ [])))

  by_test : (quote backslash newline : Bool) (b : ℕ) → (b == 34) ≡ quote → (b == 92) ≡ backslash → (b == 10) ≡ newline
      → inside_from 34 0 (escape_in quote backslash newline b ++ more)
      ≡ Some (b ∷ text, length (escape_in quote backslash newline b) + n)
  by_test true backslash newline b q s l =
      subst (λ c. inside_from 34 0 (92 ∷ 34 ∷ more) ≡ Some (c ∷ text, 2 + n)) (equal b 34 q) quote_more
  by_test false true newline b q s l =
      subst (λ c. inside_from 34 0 (92 ∷ 92 ∷ more) ≡ Some (c ∷ text, 2 + n)) (equal b 92 s) backslash_more
  by_test false false true b q s l =
      subst (λ c. inside_from 34 0 (92 ∷ 110 ∷ more) ≡ Some (c ∷ text, 2 + n)) (equal b 10 l) newline_more
  by_test false false false b q s l = byte_more b q s l

  escape_more : (b : ℕ) → inside_from 34 0 (escaped b ++ more) ≡ Some (b ∷ text, length (escaped b) + n)
  escape_more b = by_test (b == 34) (b == 92) (b == 10) b refl refl refl

pub inside_of_escaped : (text rest : List ℕ)
    → inside_from 34 0 (flat_map escaped text ++ (34 ∷ rest)) ≡ Some (text, length (flat_map escaped text) + 1)
unfolding inside_from
inside_of_escaped [] rest = refl
inside_of_escaped (b ∷ text) rest =
    let more : List ℕ = flat_map escaped text ++ (34 ∷ rest) in
    let counted : length (escaped b) + (length (flat_map escaped text) + 1) ≡ length (escaped b ++ flat_map escaped text) + 1 =
    omega (arith, length-append (escaped b) (flat_map escaped text)) in
    ap (inside_from 34 0) (append_assoc (escaped b) (flat_map escaped text) (34 ∷ rest))
    ∙ escape_more (flat_map escaped text ++ (34 ∷ rest)) text (length (flat_map escaped text) + 1) (inside_of_escaped text rest) b
    ∙ ap (λ n. Some (b ∷ text, n)) counted

pub quoted_token : (text rest : List ℕ) → token_at (quoted_text text ++ rest) ≡ Some (Str, length (quoted_text text))
unfolding token_at quoted_text
quoted_token text rest =
    let counted : 1 + (length (flat_map escaped text) + 1) ≡ suc (length (flat_map escaped text ++ (34 ∷ []))) =
    omega (arith, length-append (flat_map escaped text) (34 ∷ [])) in
    ap (λ t. option_map (λ found. (Str, 1 + found.1)) (inside_from 34 0 t))
    (append_assoc (flat_map escaped text) (34 ∷ []) rest)
    ∙ ap (option_map (λ found. (Str, 1 + found.1))) (inside_of_escaped text rest)
    ∙ ap (λ n. Some (Str, n)) counted

pub quoted_value : (text : List ℕ) → string_value (quoted_text text) ≡ text
unfolding string_value quoted_text
quoted_value text = ap text_found (inside_of_escaped text [])
