-- The labels that `absent` gives of an enforced selector.
use Rattle.std.proofs.Common.{◌≡◌, ℕ, Bool, true, false, cond, not, List, [], ◌∷◌, ◌++◌, Option, Some, is_some, fold, filter, bytes_eq, refl, sym, ap, ◌∙◌}
use Rattle.std.proofs.lemmas.List.Sums.{fold-append}
use Rattle.std.specs.Cmp.Lexicographic.{slice_cmp, nat_list_cmp_total, texts_ties}
use Rattle.std.specs.FinMap.Entries.{find-put}
use Rattle.std.specs.Ordering.{nat_cmp}
use Rattle.op_base.specs.Maps.{value_at}
use Rattle.op_base.specs.declared.matcher.Matcher.{Matcher}
use Rattle.op_base.specs.Labels.{labels_with}
use Rattle.op_base.specs.declared.label_names.TheConstants.{METRIC_NAME}
use Rattle.ql_tree.specs.Enforced.{is_on, matcher_of}
use Rattle.ql_eval.specs.Absent.{Given, nothing_given, is_given, gives, with_label, without_label, after_matcher, given_labels, absent_labels}
use Rattle.ql_eval.specs.Selected.{is_asked, asked_of, with_name}
use Rattle.ql_eval.proofs.MatcherLemmas.{apart_too, label, passed-over}

-- a test that failed
denied : (b : Bool) → not b ≡ true → b ≡ false
denied true is = cc
denied false is = refl

module _ (name value : List ℕ) where
  -- no equality on the label came yet
  abbrev IsFree : Given → Type 0
  IsFree given = is_given name given.names ≡ false

  -- a matcher on another name leaves that so
  after-other : (given : Given) (m : Matcher) → is_on name m ≡ false → IsFree given → IsFree (after_matcher given m)
  after-other given m other free =
      elim (bytes_eq m.name METRIC_NAME.now) as (λ b. IsFree (cond b given (cond (gives given m) (with_label given m) (without_label given m)))) [
        | true ↦ free
        | false ↦ elim (gives given m) as (λ b. IsFree (cond b (with_label given m) (without_label given m))) [
          | true ↦ ap is_some (find-put (slice_cmp nat_cmp) nat_list_cmp_total name m.name tt given.names)
              ∙ ap (λ b. is_some (cond b (Some tt) (value_at given.names name))) (sym (texts_ties name m.name) ∙ apart_too m.name name other) ∙ free
          | false ↦ free
        ]
      ]

  -- and so do all those that are asked beside the label
  after-others : (given : Given) (matchers : List Matcher) → IsFree given
      → IsFree (fold after_matcher given (filter (is_asked (label name value)) matchers))
  after-others given [] free = free
  after-others given (m ∷ matchers) free =
      let rest = filter (is_asked (label name value)) matchers in
      elim (is_asked (label name value) m) as (λ b.
      is_asked (label name value) m ≡ b → IsFree (fold after_matcher given (cond b (m ∷ rest) rest))) [
        | true ↦ λ asked.
            let other = denied (is_on name m) (sym (passed-over name value m) ∙ asked) in
            after-others (after_matcher given m) matchers (after-other given m other free)
        | false ↦ λ _. after-others given matchers free
      ] refl

  -- so the added matcher puts the label
  puts : (given : Given) → bytes_eq name METRIC_NAME.now ≡ false → IsFree given
      → (after_matcher given (matcher_of name value)).labels ≡ labels_with given.labels name value
  puts given apart free =
      let m = matcher_of name value in
      ap (λ b. (cond b given (cond (gives given m) (with_label given m) (without_label given m))).labels) apart
      ∙ ap (λ b. (cond (not b) (with_label given m) (without_label given m)).labels) free

  -- beside the label the same labels are given as with the added matcher
  pub absent-alike : bytes_eq name METRIC_NAME.now ≡ false → (metric : Option (List ℕ)) (matchers : List Matcher)
      → absent_labels [] (asked_of (label name value) metric matchers ++ matcher_of name value ∷ [])
      ≡ absent_labels (label name value) (asked_of (label name value) metric matchers)
  absent-alike apart metric matchers =
      let asked = asked_of (label name value) metric matchers in
      ap (λ (given : Given). given.labels) (fold-append after_matcher nothing_given asked (matcher_of name value ∷ []))
      ∙ puts (given_labels asked) apart (after-others nothing_given (with_name metric matchers) refl)
