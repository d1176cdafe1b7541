-- The matchers that a selector asks: beside an ambient label those that enforcement of the label leaves.
use Rattle.std.proofs.Common.{◌≡◌, ℕ, Bool, true, false, cond, not, List, [], ◌∷◌, ◌++◌, Option, Some, None, filter, is_some, bytes_eq, refl, sym, ap, ◌∙◌}
use Rattle.std.specs.Ordering.{nat_cmp, eq_by_cmp}
use Rattle.std.specs.Cmp.Lexicographic.{slice_cmp, texts_ties, nat_list_eq_equiv}
use Rattle.op_base.specs.declared.matcher.Matcher.{Matcher}
use Rattle.op_base.specs.Labels.{Texts}
use Rattle.op_base.specs.declared.label_names.TheConstants.{METRIC_NAME}
use Rattle.ql_tree.specs.Enforced.{is_on, matcher_of, enforced_matchers}
use Rattle.ql_eval.specs.Selected.{name_matcher, with_name, is_asked, asked_of}

-- two texts that differ, in the other order
pub apart_too : (a b : List ℕ) → bytes_eq a b ≡ false → bytes_eq b a ≡ false
apart_too a b apart = nat_list_eq_equiv.symm b a ∙ apart

-- whether a value is there
there : (b : Bool) (text : List ℕ) → is_some (cond b (Some text) None) ≡ b
there true text = refl
there false text = refl

-- with no ambient label all are asked
all-asked : (matchers : List Matcher) → filter (is_asked []) matchers ≡ matchers
all-asked [] = refl
all-asked (m ∷ matchers) = ap (λ ms. m ∷ ms) (all-asked matchers)

pub name-asked : (metric : Option (List ℕ)) (matchers : List Matcher) → asked_of [] metric matchers ≡ with_name metric matchers
name-asked None matchers = all-asked matchers
name-asked (Some metric) matchers = ap (λ ms. name_matcher metric ∷ ms) (all-asked matchers)

module _ (name value : List ℕ) where
  -- the label alone
  abbrev pub label : Texts
  label = (name, value) ∷ []

  -- a matcher is passed over where enforcement would remove it
  pub passed-over : (m : Matcher) → is_asked label m ≡ not (is_on name m)
  passed-over m = ap not (there (eq_by_cmp (slice_cmp nat_cmp) m.name name) value ∙ sym (texts_ties m.name name))

  -- those that are asked beside the label are those that enforcement leaves
  left : (matchers : List Matcher) → filter (is_asked label) matchers ≡ filter (λ m. not (is_on name m)) matchers
  left [] = refl
  left (m ∷ matchers) = λ i. cond (passed-over m i) (m ∷ left matchers i) (left matchers i)

  -- so of an enforced selector's matchers they are asked, and the added one
  added : (matchers : List Matcher)
      → filter (is_asked []) (enforced_matchers name value matchers) ≡ filter (is_asked label) matchers ++ matcher_of name value ∷ []
  added matchers = all-asked (enforced_matchers name value matchers) ∙ ap (λ ms. ms ++ matcher_of name value ∷ []) (sym (left matchers))

  -- an enforced selector asks what is asked beside the label, and the added matcher
  pub asked-enforced : bytes_eq name METRIC_NAME.now ≡ false → (metric : Option (List ℕ)) (matchers : List Matcher)
      → asked_of [] metric (enforced_matchers name value matchers) ≡ asked_of label metric matchers ++ matcher_of name value ∷ []
  asked-enforced apart None matchers = added matchers
  asked-enforced apart (Some metric) matchers =
      ap (λ ms. name_matcher metric ∷ ms) (added matchers)
      ∙ ap (λ b. cond b (name_matcher metric ∷ filter (is_asked label) matchers) (filter (is_asked label) matchers) ++ matcher_of name value ∷ [])
      (sym (passed-over (name_matcher metric) ∙ ap not (apart_too name METRIC_NAME.now apart)))
