-- The text of pieces is cut into tokens, and their words are those of the pieces.
use Rattle.std.proofs.Common.{◌≡◌, ℕ, ◌+◌, ◌-◌, true, List, [], ◌∷◌, ◌++◌, map, Result, Ok, length, take, drop, lit<, refl, ap, sym, subst, ◌∙◌, arith}
use Rattle.std.proofs.Math.Seq.{drop-append_seam, take-append_seam}
use Rattle.std.proofs.lemmas.List.{drop-drop}
use Rattle.ql_tree.specs.Pieces.{Piece, bytes_of, text_of}
use Rattle.ql_tree.specs.Tokens.{gap_at, Cut, IsTokens}
use Rattle.ql_tree.specs.Words.{word_in, word_of}
use Rattle.ql_tree.specs.declared.token.Token.{Token}
use Rattle.ql_tree.specs.declared.word.Word.{Word}
use Rattle.ql_rewrite.proofs.Written.{kind_of, IsWritten, AreWritten, words_of, is_safe_before, are_safe, token_at_place}
use Rattle.ql_rewrite.proofs.WordLemmas.{Stops, token_of_word, word_of_token, no_gap_at_word, stops_before, stops_before_space, stops_at_end}

-- the tokens of the pieces from a place on
abbrev pub tokens_from : ℕ → List Piece → List Token
tokens_from place [] = []
tokens_from place (Piece.blank ∷ pieces) = tokens_from (place + 1) pieces
tokens_from place (Piece.written w ∷ pieces) = token_at_place place w ∷ tokens_from (place + length (bytes_of w)) pieces

stops_here : (w : Word) (pieces : List Piece) → AreWritten (words_of pieces) → is_safe_before w pieces ≡ true
    → Stops w (text_of pieces)
stops_here w [] are safe = stops_at_end w
stops_here w (Piece.blank ∷ pieces) are safe = stops_before_space w (text_of pieces)
stops_here w (Piece.written v ∷ pieces) are safe = stops_before w v (text_of pieces) are.0 safe

-- past a blank
past_blank : (place : ℕ) (t : List ℕ) (r : Result (List Token) ℕ) → Cut (place + 1) t r → Cut place (32 ∷ t) r
unfolding gap_at
past_blank place t r more = Cut.gap place (32 ∷ t) r (lit< tt) more

-- past a word
past_word : (place : ℕ) (w : Word) (rest : List ℕ) (tokens : List Token) → IsWritten w → Stops w rest
    → Cut (place + length (bytes_of w)) rest (Ok tokens)
    → Cut place (bytes_of w ++ rest) (Ok (token_at_place place w ∷ tokens))
past_word place w rest tokens is stops more =
    Cut.token place (bytes_of w ++ rest) (kind_of w, length (bytes_of w)) (Ok tokens) (no_gap_at_word w rest is)
    (token_of_word w rest is stops)
    (subst (λ t. Cut (place + length (bytes_of w)) t (Ok tokens)) (sym (drop-append_seam (bytes_of w) rest)) more)

cut_from : (place : ℕ) (pieces : List Piece) → AreWritten (words_of pieces) → are_safe pieces ≡ true
    → Cut place (text_of pieces) (Ok (tokens_from place pieces))
cut_from place [] are safe = Cut.end place
cut_from place (Piece.blank ∷ pieces) are safe =
    past_blank place (text_of pieces) _ (cut_from (place + 1) pieces are safe)
cut_from place (Piece.written w ∷ pieces) are safe =
    let first : is_safe_before w pieces ≡ true = grind arith in
    let others : are_safe pieces ≡ true = grind arith in
    past_word place w (text_of pieces) _ are.0 (stops_here w pieces are.1 first)
    (cut_from (place + length (bytes_of w)) pieces are.1 others)

-- the text behind a blank, and behind a word
module _ (whole : List ℕ) where
  from_blank : (place : ℕ) (t : List ℕ) → drop place whole ≡ 32 ∷ t → drop (place + 1) whole ≡ t
  from_blank place t is = sym (drop-drop 1 place whole) ∙ ap (drop 1) is

  from_word : (place : ℕ) (bytes rest : List ℕ) → drop place whole ≡ bytes ++ rest
      → drop (place + length bytes) whole ≡ rest
  from_word place bytes rest is = sym (drop-drop (length bytes) place whole) ∙ ap (drop (length bytes)) is ∙ drop-append_seam bytes rest

  word_at : (place : ℕ) (w : Word) (rest : List ℕ) → IsWritten w → drop place whole ≡ bytes_of w ++ rest
      → word_in whole (token_at_place place w) ≡ w
  word_at place w rest is here =
      let size : place + length (bytes_of w) - place ≡ length (bytes_of w) = omega arith in
      let bytes : take (place + length (bytes_of w) - place) (drop place whole) ≡ bytes_of w =
      ap (λ n. take n (drop place whole)) size ∙ ap (take (length (bytes_of w))) here ∙ take-append_seam (bytes_of w) rest in
      ap (word_of (kind_of w)) bytes ∙ word_of_token w is

  words_from : (place : ℕ) (pieces : List Piece) → AreWritten (words_of pieces) → drop place whole ≡ text_of pieces
      → map (word_in whole) (tokens_from place pieces) ≡ words_of pieces
  words_from place [] are here = refl
  words_from place (Piece.blank ∷ pieces) are here =
      words_from (place + 1) pieces are (from_blank place (text_of pieces) here)
  words_from place (Piece.written w ∷ pieces) are here =
      let first : word_in whole (token_at_place place w) ≡ w = word_at place w (text_of pieces) are.0 here in
      let others : map (word_in whole) (tokens_from (place + length (bytes_of w)) pieces) ≡ words_of pieces =
      words_from (place + length (bytes_of w)) pieces are.1 (from_word place (bytes_of w) (text_of pieces) here) in
      cc

-- the text of words that are written, where each two without a blank between them may stand so, is
-- cut into tokens that are these words
pub pieces_are_tokens : (pieces : List Piece) → AreWritten (words_of pieces) → are_safe pieces ≡ true
    → (tokens : List Token) × (IsTokens (text_of pieces) tokens × (map (word_in (text_of pieces)) tokens ≡ words_of pieces))
pieces_are_tokens pieces are safe =
    (tokens_from 0 pieces, (cut_from 0 pieces are safe, words_from (text_of pieces) 0 pieces are refl))
