-- What the captures of a compiled pattern give a template is what the pattern's reading gives it.
use Rattle.std.proofs.Common.{◌≡◌, ℕ, zero, suc, ◌+◌, ◌*◌, ◌<◌, ◌≤◌, true, false, List, get_or, cond, ◌==◌, Option, Some, None, Result, Ok, Err, IfOk, option_map, option_and_then, is_some, refl, ap, sym, subst, ◌∙◌, arith}
use mathlib.Core.Bool.{true≢false}
use mathlib.Core.Path.{fun_ext}
use Rattle.std.proofs.lemmas.Option.{same_Some}
use Rattle.std.proofs.lemmas.Bool.Decides.{nat_tests}
use Rattle.regex.specs.Patterns.{Re, Match, find_str, SameCaptures, span, slot_of}
use Rattle.regex.specs.Search.{group_span}
use Rattle.regex.specs.Writes.{group_of, both}
use Rattle.regex.specs.Replace.{bytes_of, group_bytes}
use Rattle.regex.specs.Templates.{written_after}
use Rattle.regex.specs.Strings.{IsReadFrom, IsCapturesOf, expansion_of, captures_haystack, match_span}
use Rattle.regex.specs.declared.string.captures.Captures.{Captures}
use Rattle.regex.specs.declared.string.template.Template.{Template}
use Rattle.regex.proofs.ForCallers.{is_match_alike, span_alike, found_alike}
use Rattle.op_base.specs.declared.pattern.Form.{Form}
use Rattle.op_base.specs.Patterns.{Meaning, meaning_of, meaning_expands, pattern_expands, IsFormOf}

no_some : {A : Type 0} (o : Option A) → is_some o ≡ false → o ≡ None
no_some None is = refl
no_some (Some x) is = absurd (true≢false is)

other_than_zero : (k : ℕ) → (suc k == 0) ≡ false
other_than_zero k = grind (arith, nat_tests)

module _ {a b : Re} (same : SameCaptures a b) (hay : List ℕ) (bytes : (k : ℕ) → get_or hay k 0 < 256) where
  -- no match of the one, none of the other
  pub none-alike : {A : Type 0} (f : Match → A) → find_str a hay 0 ≡ None → None ≡ option_map f (find_str b hay 0)
  none-alike f none = ap (option_map f) (sym (no_some (find_str b hay 0) (sym (is_match_alike same hay bytes true 0) ∙ ap is_some none)))

  same_span : (m n : Match) → find_str a hay 0 ≡ Some m → find_str b hay 0 ≡ Some n → span m ≡ span n
  same_span m n first second = same_Some _ _ (sym (ap (option_map span) first) ∙ span_alike same hay bytes true 0 ∙ ap (option_map span) second)

  same_groups : (m n : Match) (whole : ℕ × ℕ) (cells : List ℕ) → span m ≡ span n → slot_of n ≡ slot_of m → whole ≡ span m
      → ((k : ℕ) → 1 ≤ k → group_span true hay whole cells k ≡ group_of m k) → (k : ℕ) → bytes_of hay (group_span true hay whole cells k) ≡ group_bytes hay n k
  unfolding group_span
  same_groups m n whole cells spans slots shown groups zero = ap (λ s. bytes_of hay (Some s)) (shown ∙ spans)
  same_groups m n whole cells spans slots shown groups (suc k) =
      ap (bytes_of hay) (groups (suc k) (omega arith) ∙ ap (λ s. both (s (2 * suc k)) (s (2 * suc k + 1))) (sym slots)
      ∙ sym (ap (λ t. cond t (Some (span n)) (group_of n (suc k))) (other_than_zero k)))

  pub captured-read : (captures : Captures) (template : Template) (names : List (Option (List ℕ))) (text out : List ℕ) (m : Match)
      → IsReadFrom names text template → find_str a hay 0 ≡ Some m → IsCapturesOf hay m captures → out ≡ expansion_of captures template
      → Some out ≡ option_map (λ found. written_after names (group_bytes hay found) text 0) (find_str b hay 0)
  captured-read captures template names text out m read found shows is =
      let other = found_alike same hay bytes true 0 m found in
      let whole = match_span captures.whole in
      let cells = captures.groups.now in
      let at_hay = subst (λ h. (k : ℕ) → 1 ≤ k → group_span true h whole cells k ≡ group_of m k) shows.0 shows.2 in
      let groups = fun_ext (same_groups m other.0 whole cells (same_span m other.0 found other.1) other.2 shows.1.whole_is at_hay) in
      ap (λ t. Some t) (is ∙ read true (captures_haystack captures) whole cells
      ∙ ap (λ h. written_after names (λ k. bytes_of h (group_span true h whole cells k)) text 0) shows.0
      ∙ ap (λ f. written_after names f text 0) groups)
      ∙ sym (ap (option_map (λ found. written_after names (group_bytes hay found) text 0)) other.1)

-- how a pattern is kept shows what it expands
pub expanded : {E : Type 0} (r : Result (Option (List ℕ)) E) (text seen value template : List ℕ) (form : Form)
    → IfOk r (λ out. (meaning : Option Meaning) → IsFormOf meaning form → out ≡ option_and_then (meaning_expands value template) meaning)
    → IsFormOf (meaning_of text) form → text ≡ seen → IfOk r (λ out. out ≡ pattern_expands seen value template)
expanded (Ok out) text seen value template form h is same = h (meaning_of text) is ∙ ap (λ t. pattern_expands t value template) same
expanded (Err e) text seen value template form h is same = tt
