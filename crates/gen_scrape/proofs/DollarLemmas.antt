-- Dollars doubled by characters are doubled by bytes.
use Rattle.std.proofs.Common.{◌≡◌, ◌≢◌, ℕ, suc, ◌<◌, ◌≤◌, List, [], ◌∷◌, ◌++◌, length, get_or, inl, inr, refl, ap, sym, ◌∙◌, append-nil, arith, rules}
use Rattle.std.proofs.lemmas.Bool.{cases_lt}
use Rattle.std.specs.Prelude.{encode_utf8}
use Rattle.std.specs.List.{flat_map}
use Rattle.std.specs.Str.{chars, IsUtf8}
use Rattle.std.proofs.lemmas.Grind.{flat_map-append}
use Rattle.std.proofs.lemmas.Str.{encodes-chars, encode_ascii, inside_one}
use Rattle.std.proofs.Math.Utf8.{encodes}
use Rattle.gen_scrape.specs.Dollars.{doubled}

kept_byte : (b : ℕ) → b ≢ 36 → doubled b ≡ b ∷ []
kept_byte b dollar = search rules

kept_bytes : (bs : List ℕ) → ((k : ℕ) → k < length bs → 128 ≤ get_or bs k 0) → flat_map doubled bs ≡ bs
kept_bytes [] high = refl
kept_bytes (b ∷ bs) high =
    let first : 128 ≤ b = high 0 (omega arith) in
    let own : doubled b ≡ b ∷ [] = kept_byte b (λ e. omega arith) in
    ap (λ text. text ++ flat_map doubled bs) own ∙ ap (λ text. b ∷ text) (kept_bytes bs (λ k below. high (suc k) (omega arith)))

pub kept_character : (c : ℕ) → c ≢ 36 → flat_map doubled (encode_utf8 c) ≡ encode_utf8 c
kept_character c dollar = elim (cases_lt c 128) [
  | inl small ↦ rw (encode_ascii c small, append-nil) (kept_byte c dollar)
  | inr big ↦ kept_bytes (encode_utf8 c) (λ k below. elim (cases_lt (get_or (encode_utf8 c) k 0) 128) [
    | inl low ↦ absurd (omega (arith, inside_one c [] (encode_utf8 c) k (sym (append-nil _)) below low))
    | inr above ↦ above
  ])
]

by_characters : (cs : List ℕ) → flat_map (λ c. flat_map doubled (encode_utf8 c)) cs ≡ flat_map doubled (encodes cs)
by_characters [] = refl
by_characters (c ∷ cs) =
    ap (λ text. flat_map doubled (encode_utf8 c) ++ text) (by_characters cs) ∙ sym (flat_map-append doubled (encode_utf8 c) (encodes cs))

pub doubled_text : (text : List ℕ) → IsUtf8 text → flat_map (λ c. flat_map doubled (encode_utf8 c)) (chars text) ≡ flat_map doubled text
doubled_text text utf8 = by_characters (chars text) ∙ ap (flat_map doubled) (encodes-chars text utf8)
