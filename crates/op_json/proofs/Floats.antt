-- No float stands in what is written.
use Rattle.std.proofs.Common.{◌≡◌, ℕ, ℤ, pos, negsuc, Bool, true, false, ◌||◌, List, Ordering, Less, Equal, Greater, nat_cmp, true≢false, refl, ap, ◌∙◌}
use Rattle.std.specs.Ordering.{match_ordering}
use Rattle.std.specs.Cmp.Lexicographic.{slice_cmp}
use Rattle.serde_json.specs.Data.{Data, Members, no_members, member, put}
use Rattle.serde_json.specs.Written.{has_float, items_have_float, members_have_float}
use Rattle.op_json.specs.Json.{Json, null, flag, whole, text, array, object, Elements, none, element, Fields, no_fields, field, whole_data, data_of, items_of, members_after}

neither : (a b : Bool) → a ≡ false → b ≡ false → (a || b) ≡ false
neither a b p q = ap (λ x. x || b) p ∙ q

first_false : (a b : Bool) → (a || b) ≡ false → a ≡ false
first_false true b p = p
first_false false b p = refl

second_false : (a b : Bool) → (a || b) ≡ false → b ≡ false
second_false true b p = absurd (true≢false p)
second_false false b p = p

placed : (o : Ordering) (a b c : Members) → members_have_float a ≡ false → members_have_float b ≡ false → members_have_float c ≡ false
    → members_have_float (match_ordering o a b c) ≡ false
placed Less a b c p q r = p
placed Equal a b c p q r = q
placed Greater a b c p q r = r

put_has_none : (k : List ℕ) (d : Data) (ms : Members) → has_float d ≡ false → members_have_float ms ≡ false → members_have_float (put k d ms) ≡ false
put_has_none k d no_members p q = neither _ _ p q
put_has_none k d (member l e ms) p q =
    let here = first_false (has_float e) (members_have_float ms) q in
    let rest = second_false (has_float e) (members_have_float ms) q in
    placed (slice_cmp nat_cmp k l) _ _ _ (neither _ _ p q) (neither _ _ p rest) (neither _ _ here (put_has_none k d ms p rest))

whole_has_none : (z : ℤ) → has_float (whole_data z) ≡ false
whole_has_none (pos n) = refl
whole_has_none (negsuc n) = refl

mutual
  pub no_float : (j : Json) → has_float (data_of j) ≡ false
  no_float null = refl
  no_float (flag b) = refl
  no_float (whole z) = whole_has_none z
  no_float (text t) = refl
  no_float (array js) = no_float_in js
  no_float (object fs) = no_float_after no_members fs refl

  no_float_in : (js : Elements) → items_have_float (items_of js) ≡ false
  no_float_in none = refl
  no_float_in (element j js) = neither _ _ (no_float j) (no_float_in js)

  no_float_after : (ms : Members) (fs : Fields) → members_have_float ms ≡ false → members_have_float (members_after ms fs) ≡ false
  no_float_after ms no_fields h = h
  no_float_after ms (field name j fs) h = no_float_after (put name (data_of j) ms) fs (put_has_none name (data_of j) ms (no_float j) h)
