-- Entries that are put to a map one after the other.
use Rattle.std.proofs.Common.{◌∙◌, ap, sym}
use Rattle.std.proofs.lemmas.List.{drop_more, drop_all}
use Rattle.std.specs.Prelude.{ℕ, ◌+◌, ◌<◌, ◌≤◌, List, [], ◌∷◌, ◌++◌, ◌≡◌, length, drop}
use Rattle.op_base.specs.Labels.{Texts, entry_in, name_in, text_in}
use Rattle.op_base.specs.Maps.{text_cmp, with_entry, put_all}
use Rattle.kind_admin.specs.Secrets.{decoded_entry, decoded_entries}

-- entries that are put one after the other
pub put_both : (map these those : Texts) → put_all text_cmp map (these ++ those) ≡ put_all text_cmp (put_all text_cmp map these) those
put_both map [] those = λ i. put_all text_cmp map those
put_both map (entry ∷ these) those = put_both (with_entry map entry.0 entry.1) these those

-- an entry is its name and its text
entry_is : (entries : Texts) (i : ℕ) (key text : List ℕ) → key ≡ name_in entries i → text ≡ text_in entries i → entry_in entries i ≡ (key, text)
entry_is entries i key text named worded = λ j. (sym named j, sym worded j)

-- the decoded entries of what is left, with the first one put
pub decoded_step : (entries before after : Texts) (i : ℕ) (key text : List ℕ) → i < length entries → key ≡ name_in entries i → text ≡ text_in entries i
    → after ≡ put_all text_cmp before (decoded_entry (key, text))
    → put_all text_cmp before (decoded_entries (drop i entries)) ≡ put_all text_cmp after (decoded_entries (drop (i + 1) entries))
decoded_step entries before after i key text within named worded put =
    let rest = decoded_entries (drop (i + 1) entries) in
    ap (λ left. put_all text_cmp before (decoded_entries left)) (drop_more entries i ([], []) within)
    ∙ put_both before (decoded_entry (entry_in entries i)) rest
    ∙ ap (λ map. put_all text_cmp map rest) (ap (λ entry. put_all text_cmp before (decoded_entry entry)) (entry_is entries i key text named worded) ∙ sym put)

-- no entry is left at the end
pub decoded_end : (entries map : Texts) (i : ℕ) → length entries ≤ i → put_all text_cmp map (decoded_entries (drop i entries)) ≡ map
decoded_end entries map i end = ap (λ left. put_all text_cmp map (decoded_entries left)) (drop_all i entries end)

-- what is left, with the first entry put
pub put_step : (entries before after : Texts) (i : ℕ) (key text : List ℕ) → i < length entries → key ≡ name_in entries i → text ≡ text_in entries i
    → after ≡ put_all text_cmp before ((key, text) ∷ [])
    → put_all text_cmp before (drop i entries) ≡ put_all text_cmp after (drop (i + 1) entries)
put_step entries before after i key text within named worded put =
    let rest = drop (i + 1) entries in
    ap (λ left. put_all text_cmp before left) (drop_more entries i ([], []) within)
    ∙ ap (λ map. put_all text_cmp map rest) (ap (λ entry. put_all text_cmp before (entry ∷ [])) (entry_is entries i key text named worded) ∙ sym put)

-- no entry is left at the end
pub put_end : (entries map : Texts) (i : ℕ) → length entries ≤ i → put_all text_cmp map (drop i entries) ≡ map
put_end entries map i end = ap (λ left. put_all text_cmp map left) (drop_all i entries end)
