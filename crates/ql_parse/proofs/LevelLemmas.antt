-- The reading of signs and of the levels of operators: what is read is spelled, and what is spelled
-- is read.
use Rattle.std.proofs.Common.{◌≡◌, ℕ, zero, suc, ◌<◌, ◌≤◌, Bool, List, [], ◌∷◌, ◌++◌, length, Option, Some, None, refl, ap, sym, subst, ◌∙◌, append_assoc, append-nil, length-append, le_refl, arith}
use Rattle.ql_tree.specs.Children.{depth_of}
use Rattle.ql_tree.specs.Clauses.{MatchingOf}
use Rattle.ql_tree.specs.Operators.{operator_of, level_of, is_comparison, sign_of}
use Rattle.ql_tree.specs.Spells.{Spelling, begins_open, BoolOf, Chain, Signed, levels}
use Rattle.ql_tree.specs.declared.tree.BinaryOp.{BinaryOp}
use Rattle.ql_tree.specs.declared.tree.Expr.{Expr}
use Rattle.ql_tree.specs.declared.tree.Expr.TheVariants as expr
use Rattle.ql_tree.specs.declared.tree.Matching.{Matching}
use Rattle.ql_tree.specs.declared.word.Word.{Word}
use Rattle.ql_tree.proofs.NodeLemmas.{depth_out}
use Rattle.ql_parse.specs.Found.{Reader, ◌>>=◌, first, fitting}
use Rattle.ql_parse.specs.FrontWords.{operator_at}
use Rattle.ql_parse.specs.ReadClauses.{matching, boolean}
use Rattle.ql_parse.specs.Reading.{under_sign, sign_at, signed, right, turn, chain, level}
use Rattle.ql_parse.proofs.Readers.{found_is, bind_ok, first_ok, fitting_ok, fitting_fits, joined}
use Rattle.ql_parse.proofs.ForwardLemmas.{Forward, front_part, back_part}
use Rattle.ql_parse.proofs.ClauseLemmas.{matching_sound, matching_complete, boolean_sound, boolean_complete}
use Rattle.ql_parse.proofs.DepthLemmas.{depth-Unary, depth-Binary}
use Rattle.ql_parse.proofs.FollowLemmas.{Starts, Starts-append, opens-append, no_side, no_matching, no_bool_before, sign_begins, Ends, tighter, operator_ok, operator_found, no_operator}

-- the words that were read spell the tree, which is no deeper than d
abbrev pub TreeRead : ℕ → Spelling → List Word → Expr × List Word → Type 0
TreeRead d Of ts x = (us : List Word) × (ts ≡ us ++ x.1) × Of x.0 us × (depth_of x.0 ≤ d)

-- whatever the reader finds is such a tree
abbrev pub SoundTree : ℕ → Spelling → Reader Expr → Type 0
SoundTree d Of reader =
    (ts : List Word) (x : Expr × List Word) → reader ts ≡ Some x → TreeRead d Of ts x

-- each tree that is no deeper than d is found before what may follow it at level k
abbrev pub CompleteTree : ℕ → ℕ → Spelling → Reader Expr → Type 0
CompleteTree d k Of reader =
    (e : Expr) (us rest : List Word) → Of e us → Forward us → depth_of e ≤ d → Ends k rest
    → reader (us ++ rest) ≡ Some (e, rest)

-- words that spell a tree begin as operands do
abbrev pub Begins : Spelling → Type 0
Begins Of = (e : Expr) (us : List Word) → Of e us → Starts us

pub depth_above : (e : Expr) → 0 < depth_of e
depth_above e = omega (arith, depth_out e)

-- ---- signs

module _ (OfAtom : Spelling) (atom : ℕ → Reader Expr) where
  sign_at_sound : (d : ℕ) → SoundTree d (Signed OfAtom) (signed atom d)
      → SoundTree (suc d) OfAtom (atom (suc d)) → (ts : List Word)
      (o : Option (Bool × List Word)) (x : Expr × List Word) → first sign_of ts ≡ o
      → sign_at (signed atom d) (atom (suc d)) ts o ≡ Some x → TreeRead (suc d) (Signed OfAtom) ts x
  sign_at_sound d again own ts None x no_sign is =
      let a = own ts x is in
      (a.0, a.1, Signed.atom x.0 a.0 a.2, a.3)
  sign_at_sound d again own ts (Some v) x some is =
      let f = first_ok sign_of ts v some in
      let e = bind_ok (signed atom d v.1) (under_sign v.0) x is in
      let s = again v.1 e.0 e.1 in
      found_is
      (TreeRead (suc d) (Signed OfAtom) ts)
      (expr.Unary v.0 (e.0.0 ∷ []), e.0.1)
      x
      e.2 (
        f.0 ∷ s.0,
        f.1 ∙ ap (λ us. f.0 ∷ us) s.1,
        Signed.sign f.0 v.0 e.0.0 s.0 f.2 s.2,
        omega (arith, s.3, depth-Unary v.0 e.0.0),
      )

  pub signed_sound : ((d : ℕ) → SoundTree (suc d) OfAtom (atom (suc d))) → (d : ℕ)
      → SoundTree d (Signed OfAtom) (signed atom d)
  unfolding signed
  signed_sound own zero ts x is = cc is
  signed_sound own (suc d) ts x is =
      sign_at_sound d (signed_sound own d) (own d) ts (first sign_of ts) x refl is

  pub signed_complete : ((e : Expr) (us rest : List Word) → OfAtom e us → first sign_of
      (us ++ rest) ≡ None)
      → ((d : ℕ) → CompleteTree (suc d) 0 OfAtom (atom (suc d))) → (d : ℕ)
      → CompleteTree d 0 (Signed OfAtom) (signed atom d)
  unfolding signed
  signed_complete unsigned own zero e us rest spelled forward low ends =
      absurd (omega (arith, depth_above e))
  signed_complete unsigned own (suc d) _ _ rest (Signed.atom e ts spelled) forward low ends =
      rw (unsigned e ts rest spelled) (own d e ts rest spelled forward low ends)
  signed_complete unsigned own (suc d) _ _ rest
      (Signed.sign w minus e ts is spelled) forward low ends =
      let inner : signed atom d (ts ++ rest) ≡ Some (e, rest) =
      signed_complete unsigned own d e ts rest spelled forward.1
      (omega (arith, depth-Unary minus e)) ends
      in
      rw (is, inner) refl

  pub signed_begins : Begins OfAtom → Begins (Signed OfAtom)
  signed_begins begin _ _ (Signed.atom e ts spelled) = begin e ts spelled
  signed_begins begin _ _ (Signed.sign w minus e ts is spelled) =
      Starts.starts w ts (sign_begins w minus is)

-- ---- one level of operators

module _ (n d k : ℕ) (Operand : Spelling) (operand : Reader Expr) (begin : Begins Operand) where
  -- the right side of an operator, and the tree with what stands before it
  abbrev Grown : Word → BinaryOp → Expr → Bool × List Word → Expr × List Word → Type 0
  Grown w op left b x =
      (us : List Word) × (b.1 ≡ us ++ x.1)
      × ((before bs : List Word) → Chain n k Operand left before → BoolOf (is_comparison op) b.0 bs
      → Chain n k Operand x.0 (before ++ (w ∷ (bs ++ us))))
      × (depth_of x.0 ≤ d)

  right_sound : SoundTree d Operand operand
      → (w : Word) (op : BinaryOp) (left : Expr) (b : Bool × List Word) (x : Expr × List Word)
      → operator_of w ≡ Some op → level_of op ≡ k → right n d operand left op b ≡ Some x
      → Grown w op left b x
  unfolding right
  right_sound sound w op left b x is level found =
      let m = bind_ok (matching n b.1) _ x found in
      let s = matching_sound n b.1 m.0 m.1 in
      let of = bind_ok (operand m.0.1) _ x m.2 in
      let o = sound m.0.1 of.0 of.1 in
      let fits = fitting_ok d (expr.Binary op b.0 m.0.0 (left ∷ []) (of.0.0 ∷ [])) of.0.1 x of.2 in
      let opens : begins_open m.0.1 ≡ begins_open o.0 =
      ap begins_open o.1 ∙ opens-append o.0 of.0.1 (begin of.0.0 o.0 o.2)
      in
      let matched : MatchingOf n (begins_open o.0) m.0.0 s.0 =
      subst (λ c. MatchingOf n c m.0.0 s.0) opens s.2
      in
      subst
      (Grown w op left b)
      fits.1 (
        s.0 ++ o.0,
        joined s.0 o.0 b.1 m.0.1 of.0.1 s.1 o.1,
        λ before bs chained compared.
            Chain.more w op b.0 m.0.0 left of.0.0 before bs s.0 o.0 is level chained compared
            matched o.2,
        fits.0,
      )

  -- what a chain that stands already becomes
  abbrev Chained : Expr → List Word → List Word → Expr × List Word → Type 0
  Chained left before ts x =
      (us : List Word) × (ts ≡ us ++ x.1) × Chain n k Operand x.0 (before ++ us)
      × (depth_of x.0 ≤ d)

  abbrev GoesOn : (Expr → Reader Expr) → Type 0
  GoesOn again =
      (left : Expr) (before ts : List Word) (x : Expr × List Word) → Chain n k Operand left before
      → depth_of left ≤ d
      → again left ts ≡ Some x → Chained left before ts x

  stays : (left : Expr) (before ts : List Word) (x : Expr × List Word)
      → Chain n k Operand left before → depth_of left ≤ d
      → Some (left, ts) ≡ Some x → Chained left before ts x
  stays left before ts x chained low is =
      found_is
      (Chained left before ts)
      (left, ts)
      x
      is
      ([], refl, subst (λ us. Chain n k Operand left us) (sym (append-nil before)) chained, low)

  regrouped : (e : Expr) (before us vs : List Word) → Chain n k Operand e ((before ++ us) ++ vs)
      → Chain n k Operand e (before ++ (us ++ vs))
  regrouped e before us vs chained = subst (Chain n k Operand e) (append_assoc before us vs) chained

  turn_sound : SoundTree d Operand operand → (again : Expr → Reader Expr) → GoesOn again
      → (left : Expr) (before ts : List Word)
      (o : Option (BinaryOp × List Word)) (x : Expr × List Word) → Chain n k Operand left before
      → depth_of left ≤ d
      → first (operator_at k) ts ≡ o → turn again n d operand left ts o ≡ Some x
      → Chained left before ts x
  turn_sound sound again goes left before ts None x chained low no_op is =
      stays left before ts x chained low is
  turn_sound sound again goes left before ts (Some v) x chained low some is =
      let f = first_ok (operator_at k) ts v some in
      let op = operator_ok k f.0 v.0 f.2 in
      let b = boolean_sound (is_comparison v.0) v.1 in
      let e = bind_ok (right n d operand left v.0 (boolean (is_comparison v.0) v.1)) _ x is in
      let r = right_sound sound f.0 v.0 left (boolean (is_comparison v.0) v.1) e.0 op.0 op.1 e.1 in
      let grown = f.0 ∷ (b.0 ++ r.0) in
      let g = goes e.0.0 (before ++ grown) e.0.1 x (r.2 before b.0 chained b.2) r.3 e.2 in
      let own : ts ≡ grown ++ e.0.1 =
      f.1 ∙ ap (λ us. f.0 ∷ us) (joined b.0 r.0 v.1
      (boolean (is_comparison v.0) v.1).1 e.0.1 b.1 r.1)
      in (
        grown ++ g.0,
        joined grown g.0 ts e.0.1 x.1 own g.1,
        regrouped x.0 before grown g.0 g.2,
        g.3,
      )

  chain_sound : SoundTree d Operand operand → (m : ℕ) → GoesOn (chain m n d k operand)
  unfolding chain
  chain_sound sound zero left before ts x chained low is = stays left before ts x chained low is
  chain_sound sound (suc m) left before ts x chained low is =
      turn_sound
      sound
      (chain m n d k operand)
      (chain_sound sound m)
      left
      before
      ts
      (first (operator_at k) ts)
      x
      chained
      low
      refl
      is

  chain_stops : (m : ℕ) (e : Expr) (rest : List Word) → first (operator_at k) rest ≡ None
      → chain m n d k operand e rest ≡ Some (e, rest)
  unfolding chain
  chain_stops zero e rest no_op = refl
  chain_stops (suc m) e rest no_op = rw no_op refl

  -- one turn of the chain takes the operator and its right side
  one_turn : (j : ℕ) → CompleteTree d j Operand operand
      → (a : ℕ) (w : Word) (op : BinaryOp) (b : Bool) (m : Option Matching)
      (l r : Expr) (bs ms us rest : List Word) → operator_of w ≡ Some op → level_of op ≡ k
      → BoolOf (is_comparison op) b bs
      → MatchingOf n (begins_open us) m ms → Operand r us → Forward us
      → depth_of (expr.Binary op b m (l ∷ []) (r ∷ [])) ≤ d → Ends j rest
      → chain (suc a) n d k operand l (w ∷ (bs ++ (ms ++ (us ++ rest))))
      ≡ chain a n d k operand (expr.Binary op b m (l ∷ []) (r ∷ [])) rest
  unfolding chain right
  one_turn j complete a w op b m l r bs ms us rest is level compared matched spelled forward low
      ends =
      let start : Starts us = begin r us spelled in
      let starts : Starts (us ++ rest) = Starts-append us rest start in
      let op_is : operator_at k w ≡ Some op = operator_found k w op is level in
      let b_is : boolean (is_comparison op) (bs ++ (ms ++ (us ++ rest))) ≡ (b, ms ++ (us ++ rest)) =
      boolean_complete (is_comparison op) b bs (ms ++ (us ++ rest)) compared
      (no_bool_before n (begins_open us) m ms (us ++ rest) matched starts)
      in
      let m_is : matching n (ms ++ (us ++ rest)) ≡ Some (m, us ++ rest) =
      matching_complete n (begins_open us) m ms (us ++ rest) matched (opens-append us rest start)
      (no_side (us ++ rest) starts)
      (no_matching (us ++ rest) starts)
      in
      let r_is : operand (us ++ rest) ≡ Some (r, rest) =
      complete r us rest spelled forward (omega (arith, low, depth-Binary op b m l r)) ends
      in
      let fits : fitting d (expr.Binary op b m (l ∷ []) (r ∷ [])) rest ≡ Some
      (expr.Binary op b m (l ∷ []) (r ∷ []), rest) =
      fitting_fits d (expr.Binary op b m (l ∷ []) (r ∷ [])) rest low
      in
      rw (op_is, b_is, m_is, r_is, fits) refl

  -- the operand that begins a chain, and the chain behind it
  abbrev from_first : Reader Expr
  from_first ts = operand ts >>= λ left. chain (length left.1) n d k operand left.0 left.1

  -- the reading of all comes to the chain behind e, with turns enough for what is left
  abbrev Comes : Expr → List Word → List Word → Type 0
  Comes e us rest =
      (a : ℕ) × (length rest ≤ a) × (from_first (us ++ rest) ≡ chain a n d k operand e rest)

  comes_on : (j : ℕ) → CompleteTree d j Operand operand
      → (w : Word) (op : BinaryOp) (b : Bool) (m : Option Matching) (l r : Expr)
      (ts bs ms us rest : List Word) → operator_of w ≡ Some op → level_of op ≡ k
      → BoolOf (is_comparison op) b bs
      → MatchingOf n (begins_open us) m ms → Operand r us → Forward us
      → depth_of (expr.Binary op b m (l ∷ []) (r ∷ [])) ≤ d → Ends j rest
      → Comes l ts (w ∷ (bs ++ (ms ++ (us ++ rest))))
      → Comes (expr.Binary op b m (l ∷ []) (r ∷ [])) (ts ++ (w ∷ (bs ++ (ms ++ us)))) rest
  comes_on j complete w op b m l r ts bs ms us rest is level compared matched spelled forward low
      ends
      (zero, enough, same) =
      absurd (omega arith)
  comes_on j complete w op b m l r ts bs ms us rest is level compared matched spelled forward low
      ends
      (suc a, enough, same) =
      let turned =
      one_turn j complete a w op b m l r bs ms us rest is level compared matched spelled forward low
      ends
      in
      let parts : (ts ++ (w ∷ (bs ++ (ms ++ us)))) ++ rest ≡ ts ++
      (w ∷ (bs ++ (ms ++ (us ++ rest)))) =
      append_assoc ts (w ∷ (bs ++ (ms ++ us))) rest
      ∙ ap (λ vs. ts ++ (w ∷ vs)) (append_assoc bs (ms ++ us) rest ∙ ap (λ vs. bs ++ vs)
      (append_assoc ms us rest))
      in (
        a,
        omega (
          arith,
          enough,
          length-append bs (ms ++ (us ++ rest)),
          length-append ms
              (us ++ rest),
          length-append us rest,
        ),
        ap from_first parts ∙ same ∙ turned,
      )

  chain_comes : (j : ℕ) → k ≡ suc j → CompleteTree d j Operand operand
      → (e : Expr) (us rest : List Word) → Chain n k Operand e us → Forward us
      → depth_of e ≤ d → Ends j rest → Comes e us rest
  chain_comes j next complete _ _ rest (Chain.one e ts spelled) forward low ends =
      let first_is : operand (ts ++ rest) ≡ Some (e, rest) =
      complete e ts rest spelled forward low ends
      in
      (length rest, le_refl (length rest), rw first_is refl)
  chain_comes j next complete _ _ rest
      (Chain.more w op b m l r ts bs ms us is level chained compared matched spelled) forward low
      ends =
      comes_on j complete w op b m l r ts bs ms us rest is level compared matched spelled
      (back_part ms us (back_part bs (ms ++ us) (back_part ts (w ∷ (bs ++ (ms ++ us))) forward).1))
      low ends
      (
      chain_comes
      j
      next
      complete
      l
      ts
      (w ∷ (bs ++ (ms ++ (us ++ rest))))
      chained
      (front_part ts (w ∷ (bs ++ (ms ++ us))) forward)
      (omega (arith, low, depth-Binary op b m l r))
      (Ends.operator w op (bs ++ (ms ++ (us ++ rest))) is (omega (arith, next, level)))
      )

  chain_complete : (j : ℕ) → k ≡ suc j → CompleteTree d j Operand operand
      → CompleteTree d k (Chain n k Operand) from_first
  chain_complete j next complete e us rest spelled forward low ends =
      let c =
      chain_comes j next complete e us rest spelled forward low
      (tighter j rest (subst (λ i. Ends i rest) next ends))
      in
      c.2 ∙ chain_stops c.0 e rest (no_operator k rest ends)

  chain_begins : Begins (Chain n k Operand)
  chain_begins _ _ (Chain.one e ts spelled) = begin e ts spelled
  chain_begins _ _ (Chain.more w op b m l r ts bs ms us is level chained compared matched spelled) =
      Starts-append ts (w ∷ (bs ++ (ms ++ us))) (chain_begins l ts chained)

-- ---- all levels

module _ (n : ℕ) (OfAtom : Spelling) (atom : ℕ → Reader Expr) (begin : Begins OfAtom) where
  pub level_begins : (k : ℕ) → Begins (levels n k OfAtom)
  level_begins zero = signed_begins OfAtom atom begin
  level_begins (suc k) =
      chain_begins n 0 (suc k) (levels n k OfAtom) (level k n atom 0) (level_begins k)

  pub level_sound : ((d : ℕ) → SoundTree (suc d) OfAtom (atom (suc d))) → (k d : ℕ)
      → SoundTree d (levels n k OfAtom) (level k n atom d)
  unfolding level
  level_sound own zero d ts x is = signed_sound OfAtom atom own d ts x is
  level_sound own (suc k) d ts x is =
      let left = bind_ok (level k n atom d ts) _ x is in
      let l = level_sound own k d ts left.0 left.1 in
      let c =
      chain_sound
      n
      d
      (suc k)
      (levels n k OfAtom)
      (level k n atom d)
      (level_begins k)
      (level_sound own k d)
      (length left.0.1)
      left.0.0
      l.0
      left.0.1
      x
      (Chain.one left.0.0 l.0 l.2)
      l.3
      left.2
      in
      (l.0 ++ c.0, joined l.0 c.0 ts left.0.1 x.1 l.1 c.1, c.2, c.3)

  pub level_complete : ((e : Expr) (us rest : List Word) → OfAtom e us → first sign_of
      (us ++ rest) ≡ None)
      → ((d : ℕ) → CompleteTree (suc d) 0 OfAtom (atom (suc d))) → (k d : ℕ)
      → CompleteTree d k (levels n k OfAtom) (level k n atom d)
  unfolding level
  level_complete unsigned own zero d = signed_complete OfAtom atom unsigned own d
  level_complete unsigned own (suc k) d =
      chain_complete n d (suc k) (levels n k OfAtom) (level k n atom d) (level_begins k) k refl
      (level_complete unsigned own k d)
