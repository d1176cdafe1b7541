-- The walk from the last element to the first finds the least clash.
use Rattle.std.proofs.Common.{◌≡◌, ℕ, suc, ◌+◌, ◌-◌, ◌<◌, List, [], ◌∷◌, Some, cond, length, drop, get_or, refl, ap, sym, ◌∙◌, arith}
use Rattle.std.proofs.Math.Seq.{drop-cons}
use Rattle.std.specs.FinMap.Entries.{find, find-put}
use Rattle.op_base.specs.Labels.{Texts, labels_cmp, labels_ties}
use Rattle.srv_store.specs.LabelMaps.{with_value}
use Rattle.srv_store.specs.Stores.{same_labels}
use Rattle.srv_store.proofs.OrderLemmas.{labels_total}
use Rattle.ql_call.specs.Clashes.{partner, pair_or, first_clash}
use Rattle.ql_call.specs.Walks.{stepped, nearest, walked}
use Rattle.ql_call.specs.declared.changed.Changed.{Changed}
use Rattle.ql_call.specs.declared.clashes.Walk.{Walk}

-- the partner of labels is the nearest element that has them
nearest-partner : (labels : Texts) (changed : List Changed) → find labels_cmp labels (nearest changed) ≡ partner labels changed
nearest-partner labels [] = refl
nearest-partner labels (c ∷ changed) =
    find-put labels_cmp labels_total labels c.to c.from (nearest changed)
    ∙ ap (λ b. cond b (Some c.from) (find labels_cmp labels (nearest changed))) (sym (labels_ties labels c.to))
    ∙ ap (cond (same_labels labels c.to) (Some c.from)) (nearest-partner labels changed)

-- one element more, in front
pub walked-cons : (c : Changed) (changed : List Changed) → stepped (walked changed) c ≡ walked (c ∷ changed)
walked-cons c changed = λ i. record {
  clash = pair_or c.from (nearest-partner c.to changed i) (first_clash changed);
  nearest = with_value (nearest changed) c.to c.from;
}

rest-cons : (xs : List Changed) (i : ℕ) (c : Changed) → i < length xs → c ≡ get_or xs (length xs - 1 - i) c → drop (length xs - (i + 1)) xs ≡ c ∷ drop (length xs - i) xs
rest-cons xs i c h is =
    let k = length xs - 1 - i in
    let before : length xs - (i + 1) ≡ length xs - 1 - i = omega arith in
    let behind : suc (length xs - 1 - i) ≡ length xs - i = omega arith in
    ap (λ n. drop n xs) before ∙ drop-cons xs (length xs - 1 - i) c (omega arith) ∙ (λ j. sym is j ∷ drop (behind j) xs)

-- the walk at the next element from behind
pub walked-further : (xs : List Changed) (i : ℕ) (c : Changed) (walk next : Walk) → i < length xs → c ≡ get_or xs (length xs - 1 - i) c
    → walk ≡ walked (drop (length xs - i) xs) → next ≡ stepped walk c → next ≡ walked (drop (length xs - (i + 1)) xs)
walked-further xs i c walk next h is so_far step =
    step ∙ ap (λ w. stepped w c) so_far ∙ walked-cons c (drop (length xs - i) xs) ∙ ap walked (sym (rest-cons xs i c h is))
