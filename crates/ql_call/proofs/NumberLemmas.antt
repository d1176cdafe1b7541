-- Steps of loops over things with numbers.
use Rattle.std.proofs.Common.{◌≡◌, ℕ, suc, ◌+◌, ◌-◌, ◌<◌, ◌≤◌, List, [], ◌∷◌, ℤ, pos, ◌+ℤ◌, ap, sym, ◌∙◌, length, get_or, take, drop, fold, Some, None, slice_get, not, refl, arith}
use Rattle.std.proofs.Math.IntN.{+ℤ_assoc, +ℤ_idl}
use Rattle.std.proofs.Math.Seq.{take-length}
use Rattle.ql_call.specs.Numbers.{numbers_in}
use Rattle.std.specs.Ordering.{int_eq}
use Rattle.std.specs.Prelude.{int_lt}
use Rattle.ql_call.specs.Over.{changes_in, resets_in, increase_in, newest_of, one_if, rise}
use Rattle.ql_call.proofs.LoopLemmas.{next_of}

module _ {X : Type 0} where
  -- a fold of the numbers of what is left, after the next thing
  pub fold_numbers : (f : ℤ → ℤ → ℤ) (things : List (X × ℤ)) (i : ℕ) (thing : X × ℤ) (all so_far next : ℤ) → i < length things → thing ≡ get_or things i thing
      → all ≡ fold f so_far (numbers_in (drop i things)) → next ≡ f so_far thing.1 → all ≡ fold f next (numbers_in (drop (i + 1) things))
  fold_numbers f things i thing all so_far next h is before step =
      before ∙ next_of (λ rest. fold f so_far (numbers_in rest)) things i thing h is
      ∙ ap (λ n. fold f n (numbers_in (drop (i + 1) things))) (sym step)

  -- what is told of the numbers of things, by the first one and the others
  pub first_of : {Y : Type 0} (told : List ℤ → Y) (things : List (X × ℤ)) (first : X × ℤ) (now : ℤ) → 1 ≤ length things → first ≡ get_or things 0 first → now ≡ first.1
      → told (numbers_in things) ≡ told (now ∷ numbers_in (take (length things - 1) (drop 1 things)))
  first_of told [] first now some is same = absurd (omega arith)
  first_of told (thing ∷ things) first now some is same =
      let all : take (length (thing ∷ things) - 1) things ≡ things = ap (λ n. take n things) (omega arith) ∙ take-length things in
      ap (λ (n : ℤ). told (n ∷ numbers_in things)) (sym (ap (λ (t : X × ℤ). t.1) is) ∙ sym same)
      ∙ ap (λ rest. told (now ∷ numbers_in rest)) (sym all)

  -- the increase of all, from the first thing on
  pub increase_first : (things : List (X × ℤ)) (first : X × ℤ) (now : ℤ) → 1 ≤ length things → first ≡ get_or things 0 first → now ≡ first.1
      → increase_in (numbers_in things) ≡ pos 0 +ℤ increase_in (now ∷ numbers_in (take (length things - 1) (drop 1 things)))
  increase_first things first now some is same =
      first_of increase_in things first now some is same
      ∙ sym (+ℤ_idl (increase_in (now ∷ numbers_in (take (length things - 1) (drop 1 things)))))

  -- an increase, after the next thing
  pub increase_next : (later : List (X × ℤ)) (i : ℕ) (thing : X × ℤ) (all so_far next earlier now step : ℤ) → i < length later → thing ≡ get_or later i thing
      → all ≡ so_far +ℤ increase_in (earlier ∷ numbers_in (drop i later)) → step ≡ rise earlier now → next ≡ so_far +ℤ step → now ≡ thing.1
      → all ≡ next +ℤ increase_in (now ∷ numbers_in (drop (i + 1) later))
  increase_next later i thing all so_far next earlier now step h is before rose added same =
      let rest : ℤ = increase_in (now ∷ numbers_in (drop (i + 1) later)) in
      before ∙ next_of (λ things. so_far +ℤ increase_in (earlier ∷ numbers_in things)) later i thing h is
      ∙ ap (λ n. so_far +ℤ increase_in (earlier ∷ n ∷ numbers_in (drop (i + 1) later))) (sym same)
      ∙ sym (+ℤ_assoc so_far (rise earlier now) rest)
      ∙ ap (λ n. (so_far +ℤ n) +ℤ rest) (sym rose) ∙ ap (λ n. n +ℤ rest) (sym added)

  -- what is told of the numbers of no things
  pub none_of : {Y : Type 0} (told : List ℤ → Y) (things : List (X × ℤ)) → length things < 1 → told [] ≡ told (numbers_in things)
  none_of told [] none = refl
  none_of told (thing ∷ things) none = absurd (omega arith)

  -- what is counted of all, from the first thing on
  pub count_first : (count : List ℤ → ℕ) (things : List (X × ℤ)) (first : X × ℤ) (now : ℤ) → 1 ≤ length things → first ≡ get_or things 0 first → now ≡ first.1
      → count (numbers_in things) ≡ 0 + count (now ∷ numbers_in (take (length things - 1) (drop 1 things)))
  count_first count things first now some is same = omega (arith, first_of count things first now some is same)

  -- how many neighbours differ, after the next thing
  pub change_next : (later : List (X × ℤ)) (i : ℕ) (thing : X × ℤ) (all so_far next step : ℕ) (earlier now : ℤ) → i < length later → thing ≡ get_or later i thing
      → all ≡ so_far + changes_in (earlier ∷ numbers_in (drop i later)) → step ≡ one_if (not (int_eq earlier now)) → next ≡ so_far + step → now ≡ thing.1
      → all ≡ next + changes_in (now ∷ numbers_in (drop (i + 1) later))
  change_next later i thing all so_far next step earlier now h is before one added same =
      let whole : all ≡ so_far + (one_if (not (int_eq earlier now)) + changes_in (now ∷ numbers_in (drop (i + 1) later))) =
      before ∙ next_of (λ things. so_far + changes_in (earlier ∷ numbers_in things)) later i thing h is
      ∙ ap (λ n. so_far + changes_in (earlier ∷ n ∷ numbers_in (drop (i + 1) later))) (sym same) in
      omega (arith, whole)

  -- how many neighbours fall, after the next thing
  pub reset_next : (later : List (X × ℤ)) (i : ℕ) (thing : X × ℤ) (all so_far next step : ℕ) (earlier now : ℤ) → i < length later → thing ≡ get_or later i thing
      → all ≡ so_far + resets_in (earlier ∷ numbers_in (drop i later)) → step ≡ one_if (int_lt now earlier) → next ≡ so_far + step → now ≡ thing.1
      → all ≡ next + resets_in (now ∷ numbers_in (drop (i + 1) later))
  reset_next later i thing all so_far next step earlier now h is before one added same =
      let whole : all ≡ so_far + (one_if (int_lt now earlier) + resets_in (now ∷ numbers_in (drop (i + 1) later))) =
      before ∙ next_of (λ things. so_far + resets_in (earlier ∷ numbers_in things)) later i thing h is
      ∙ ap (λ n. so_far + resets_in (earlier ∷ n ∷ numbers_in (drop (i + 1) later))) (sym same) in
      omega (arith, whole)

  -- the last number is that of the last thing
  pub newest_of-last : (things : List (X × ℤ)) (thing : X × ℤ) → Some thing ≡ slice_get things (length things - 1) → thing.1 ≡ newest_of (numbers_in things)
  newest_of-last [] thing is = cc
  newest_of-last (a ∷ []) thing is = let same : thing ≡ a = cc in ap (λ (t : X × ℤ). t.1) same
  newest_of-last (a ∷ b ∷ things) thing is =
      let same : length (a ∷ b ∷ things) - 1 ≡ suc (length (b ∷ things) - 1) = omega arith in
      newest_of-last (b ∷ things) thing (is ∙ ap (slice_get (a ∷ b ∷ things)) same)

  -- where there is no last thing there is no number
  pub newest_of-none : (things : List (X × ℤ)) → None ≡ slice_get things (length things - 1) → pos 0 ≡ newest_of (numbers_in things)
  newest_of-none [] is = refl
  newest_of-none (a ∷ []) is = absurd (cc)
  newest_of-none (a ∷ b ∷ things) is =
      let same : length (a ∷ b ∷ things) - 1 ≡ suc (length (b ∷ things) - 1) = omega arith in
      newest_of-none (b ∷ things) (is ∙ ap (slice_get (a ∷ b ∷ things)) same)
