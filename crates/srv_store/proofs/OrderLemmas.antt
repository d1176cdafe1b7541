-- The order of label sets: a total one, whose ties are equal.
use Rattle.std.proofs.Common.{◌≡◌, ℕ, List, refl, sym, ap}
use mathlib.Core.Bool.{true≢false}
use Rattle.std.specs.declared.cmp.Ordering.{Ordering}
use Rattle.std.specs.declared.cmp.Ordering.TheVariants.{Less, Equal, Greater}
use Rattle.std.specs.Ordering.{nat_cmp, is_eq, ordering_then}
use Rattle.std.specs.Cmp.{IsTotalOrder, then_total, on_total}
use Rattle.std.specs.Cmp.Lexicographic.{slice_cmp, lists_total, nat_list_cmp_total}
use Rattle.std.specs.FinMap.{slice_cmp-IsAntisymmetric, nat_cmp-IsAntisymmetric}
use Rattle.op_base.specs.Labels.{Texts, entry_cmp, labels_cmp}

pub first_equal : (r s : Ordering) → ordering_then r s ≡ Equal → r ≡ Equal
first_equal Less s h = h
first_equal Equal s h = refl
first_equal Greater s h = h

pub second_equal : (r s : Ordering) → ordering_then r s ≡ Equal → s ≡ Equal
second_equal Less s h = absurd (true≢false (sym (ap is_eq h)))
second_equal Equal s h = h
second_equal Greater s h = absurd (true≢false (sym (ap is_eq h)))

-- texts that tie are equal
pub text_same : (x y : List ℕ) → slice_cmp nat_cmp x y ≡ Equal → x ≡ y
text_same x y = slice_cmp-IsAntisymmetric nat_cmp-IsAntisymmetric x y

entry_same : (x y : List ℕ × List ℕ) → entry_cmp x y ≡ Equal → x ≡ y
entry_same x y h = λ i. (
  text_same x.0 y.0 (first_equal (slice_cmp nat_cmp x.0 y.0) (slice_cmp nat_cmp x.1 y.1) h) i,
  text_same x.1 y.1 (second_equal (slice_cmp nat_cmp x.0 y.0) (slice_cmp nat_cmp x.1 y.1) h) i,
)

-- label sets that tie are equal
pub labels_same : (x y : Texts) → labels_cmp x y ≡ Equal → x ≡ y
labels_same x y = slice_cmp-IsAntisymmetric entry_same x y

pub labels_total : IsTotalOrder labels_cmp
labels_total = lists_total (then_total (on_total (λ (entry : List ℕ × List ℕ). entry.0) nat_list_cmp_total) (on_total (λ (entry : List ℕ × List ℕ). entry.1) nat_list_cmp_total))
