-- What a sink took over several calls in a row.
use Rattle.std.proofs.Common.{◌≡◌, ℕ, ◌+◌, ◌-◌, ◌≤◌, List, [], ◌++◌, length, take, drop, Option, Some, None, sym, ap, ◌∙◌, append_assoc, append-nil, length-append, arith}
use Rattle.std.proofs.lemmas.List.{take_rest}
use Rattle.std.proofs.Math.Seq.{take-add, take-append-add}
use Rattle.std.specs.Io.KnownBytes.{Appends, Keeps}
use Rattle.op_edges.specs.Streams.{AppendsPrefix}

-- what is told stays told: nothing was appended
pub appends_nothing : (told : Option (List ℕ)) → Appends told told []
appends_nothing None = tt
appends_nothing (Some xs) = sym (append-nil xs)

-- one piece after another
pub appends_twice : (a b c : Option (List ℕ)) (xs ys : List ℕ) → Appends a b xs → Appends b c ys → Appends a c (xs ++ ys)
appends_twice None b c xs ys p q = tt
appends_twice (Some zs) None c xs ys p q = absurd p
appends_twice (Some zs) (Some bs) None xs ys p q = absurd q
appends_twice (Some zs) (Some bs) (Some cs) xs ys p q = q ∙ ap (λ l. l ++ ys) p ∙ append_assoc zs xs ys

-- one piece, and then nothing
pub appends_kept : (a b c : Option (List ℕ)) (xs : List ℕ) → Appends a b xs → Keeps b c → Appends a c xs
appends_kept None b c xs p q = tt
appends_kept (Some zs) None c xs p q = absurd p
appends_kept (Some zs) (Some bs) None xs p q = absurd q
appends_kept (Some zs) (Some bs) (Some cs) xs p q = q ∙ p

-- the same bytes under another name
pub appends_same : (a b : Option (List ℕ)) (xs ys : List ℕ) → xs ≡ ys → Appends a b xs → Appends a b ys
appends_same None b xs ys e p = tt
appends_same (Some zs) None xs ys e p = absurd p
appends_same (Some zs) (Some bs) xs ys e p = p ∙ ap (λ l. zs ++ l) e

-- a part of the bytes, and then a part of the rest
pub appends_on : (a b c : Option (List ℕ)) (bytes : List ℕ) (at count : ℕ) → Appends a b (take at bytes)
    → Appends b c (take count (take (length bytes - at) (drop at bytes))) → Appends a c (take (at + count) bytes)
appends_on a b c bytes at count p q =
    appends_same a c (take at bytes ++ take count (take (length bytes - at) (drop at bytes))) (take (at + count) bytes)
    (ap (λ l. take at bytes ++ take count l) (take_rest bytes at) ∙ sym (take-add at count bytes))
    (appends_twice a b c _ _ p q)

-- a prefix, and then nothing
pub prefix_kept : (a b c : Option (List ℕ)) (bytes : List ℕ) (at : ℕ) → at ≤ length bytes → Appends a b (take at bytes) → Keeps b c
    → AppendsPrefix a c bytes
prefix_kept a b c bytes at within p q = (at, within, appends_kept a b c _ p q)

-- all of some bytes, and then a prefix of others, is a prefix of both together
pub prefix_after : (a b c : Option (List ℕ)) (xs ys : List ℕ) → Appends a b xs → AppendsPrefix b c ys → AppendsPrefix a c (xs ++ ys)
prefix_after a b c xs ys p (count, within, q) = (
  length xs + count,
  omega (arith, length-append xs ys),
  appends_same a c (xs ++ take count ys) (take (length xs + count) (xs ++ ys))
      (sym (take-append-add xs ys count)) (appends_twice a b c _ _ p q),
)
