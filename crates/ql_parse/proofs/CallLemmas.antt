-- The reading of calls: what is read is spelled, and what is spelled is read.
use Rattle.std.proofs.Common.{◌≡◌, inl, inr, ℕ, zero, suc, ◌<◌, ◌≤◌, List, [], ◌∷◌, ◌++◌, length, nat_lt, Some, refl, ap, sym, subst, ◌∙◌, append_assoc, length-append, arith}
use Rattle.std.proofs.lemmas.Bool.{ltb-true, lt-ltb}
use Rattle.ql_tree.specs.Children.{depth_of}
use Rattle.ql_tree.specs.Spells.{Spelling, Arguments, Atom}
use Rattle.ql_tree.specs.declared.tree.Expr.{Expr}
use Rattle.ql_tree.specs.declared.tree.Expr.TheVariants as expr
use Rattle.ql_tree.specs.declared.word.Keyword.TheVariants as keyword
use Rattle.ql_tree.specs.declared.word.Word.{Word}
use Rattle.ql_tree.specs.declared.word.Word.TheVariants as word
use Rattle.ql_parse.specs.Found.{Reader}
use Rattle.ql_parse.specs.FrontWords.{beyond}
use Rattle.ql_parse.specs.ReadTerms.{closed, arguments, call_arguments, call}
use Rattle.ql_parse.proofs.Readers.{some_is, bind_ok, test_ok, ended_ok, fitting_ok, fitting_fits, SpelledTo, Sound}
use Rattle.ql_parse.proofs.FrontLemmas.{behind_symbol}
use Rattle.ql_parse.proofs.ListLemmas.{followed_sound}
use Rattle.ql_parse.proofs.ForwardLemmas.{Forward, front_part, back_part}
use Rattle.ql_parse.proofs.DepthLemmas.{depths, depth-Call}
use Rattle.ql_parse.proofs.FollowLemmas.{Starts, Starts-append, no_close, Ends}
use Rattle.ql_parse.proofs.LevelLemmas.{SoundTree, CompleteTree, Begins}

-- what stands before a bracket that closes
pub closed_ok : {A : Type 0} (y : A) (ts : List Word) (x : A × List Word) → closed y ts ≡ Some x
    → (ts ≡ word.Close ∷ x.1) × (y ≡ x.0)
closed_ok {A} y ts x is =
    let b = bind_ok (beyond word.Close ts) _ x is in
    let same : (y, b.0) ≡ x = some_is {A = A × List Word} (y, b.0) x b.2 in (
      behind_symbol word.Close ts b.0 b.1 ∙ ap (λ (p : A × List Word). word.Close ∷ p.1) same,
      ap (λ (p : A × List Word). p.0) same,
    )

module _ (n d : ℕ) (Inside : Spelling) (inside : Reader Expr) where
  -- ---- arguments

  arguments_sound : SoundTree d Inside inside → (m : ℕ) (ts : List Word) (x : List Expr × List Word)
      → arguments m inside ts ≡ Some x
      → SpelledTo word.Close (Arguments Inside) ts x
  unfolding arguments
  arguments_sound sound zero ts x is = cc is
  arguments_sound sound (suc m) ts x is =
      let e = bind_ok (inside ts) _ x is in
      let s = sound ts e.0 e.1 in
      followed_sound (Arguments Inside) word.Close (arguments m inside) ts s.0 e.0 x s.1
      (Arguments.last e.0.0 s.0 s.2) (λ es us. Arguments.more e.0.0 es s.0 us s.2)
      (arguments_sound sound m) e.2

  arguments_complete : CompleteTree d 5 Inside inside
      → (es : List Expr) (us rest : List Word) (m : ℕ) → Arguments Inside es us → Forward us
      → depths es ≤ d → length us < m
      → arguments m inside (us ++ (word.Close ∷ rest)) ≡ Some (es, rest)
  unfolding arguments
  arguments_complete complete _ _ rest zero spelled forward low less = absurd (omega arith)
  arguments_complete complete _ _ rest (suc m) (Arguments.last e ts spelled) forward low less =
      let found : inside (ts ++ (word.Close ∷ rest)) ≡ Some (e, word.Close ∷ rest) =
      complete e ts (word.Close ∷ rest) spelled forward (omega arith) (Ends.closed rest)
      in
      rw found refl
  arguments_complete complete _ _ rest (suc m)
      (Arguments.more e es ts us spelled others) forward low less =
      let after = word.Comma ∷ (us ++ (word.Close ∷ rest)) in
      let again : arguments m inside (us ++ (word.Close ∷ rest)) ≡ Some (es, rest) =
      arguments_complete complete es us rest m others (back_part ts (word.Comma ∷ us) forward).1
      (omega arith) (omega (arith, length-append ts (word.Comma ∷ us)))
      in
      let found : inside (ts ++ after) ≡ Some (e, after) =
      complete e ts after spelled (front_part ts (word.Comma ∷ us) forward) (omega arith)
      (Ends.comma (us ++ (word.Close ∷ rest)))
      in
      rw (append_assoc ts (word.Comma ∷ us) (word.Close ∷ rest), found, again) refl

  -- a call's words behind its name and bracket
  pub data Called : List Expr → List Word → Type 0 where
    empty : Called [] (word.Close ∷ [])
    some : (es : List Expr) (ts : List Word) → Arguments Inside es ts
        → Called es (ts ++ (word.Close ∷ []))

  call_arguments_sound : SoundTree d Inside inside → Sound Called (call_arguments inside)
  unfolding call_arguments
  call_arguments_sound sound ts x is = elim (ended_ok (beyond word.Close ts) _ x is) [
    | inl at_end ↦ (
      word.Close ∷ [],
      behind_symbol word.Close ts x.1 at_end.0,
      subst
          (λ es. Called es (word.Close ∷ [])) at_end.1 Called.empty,
    )
    | inr goes_on ↦
        let a = arguments_sound sound (length ts) ts x goes_on.1 in (
          a.0 ++ (word.Close ∷ []),
          a.1 ∙ sym
              (append_assoc a.0 (word.Close ∷ []) x.1),
          Called.some x.0 a.0 a.2,
        )
  ]

  call_made : (function : List ℕ) (es : List Expr) (us : List Word) → 0 < n → Called es us
      → Atom n Inside (expr.Call function es) (word.Name keyword.Unreserved function ∷ word.Open ∷ us)
  call_made function _ _ room Called.empty = Atom.empty_call function room
  call_made function _ _ room (Called.some es ts spelled) = Atom.call function es ts spelled

  arguments_begin : Begins Inside → (es : List Expr) (us : List Word) → Arguments Inside es us
      → Starts us
  arguments_begin begin _ _ (Arguments.last e ts spelled) = begin e ts spelled
  arguments_begin begin _ _ (Arguments.more e es ts us spelled others) =
      Starts-append ts (word.Comma ∷ us) (begin e ts spelled)

  pub call_sound : SoundTree d Inside inside
      → (function : List ℕ) (ts : List Word) (x : Expr × List Word)
      → call n inside d function ts ≡ Some x
      → (us : List Word) × (ts ≡ us ++ x.1) × Atom n Inside x.0
      (word.Name keyword.Unreserved function ∷ word.Open ∷ us) × (depth_of x.0 ≤ d)
  unfolding call
  call_sound sound function ts x is =
      let room = test_ok (nat_lt 0 n) _ x is in
      let args = bind_ok (call_arguments inside ts) _ x room.1 in
      let a = call_arguments_sound sound ts args.0 args.1 in
      let fits = fitting_ok d (expr.Call function args.0.0) args.0.1 x args.2 in
      subst
      (λ (y : Expr × List Word). (us : List Word) × (ts ≡ us ++ y.1)
      × Atom n Inside y.0 (word.Name keyword.Unreserved function ∷ word.Open ∷ us) × (depth_of y.0 ≤ d))
      fits.1
      (a.0, a.1, call_made function args.0.0 a.0 (ltb-true 0 n room.0) a.2, fits.0)

  pub empty_call_complete : (function : List ℕ) (rest : List Word) → 0 < n
      → depth_of (expr.Call function []) ≤ d
      → call n inside d function (word.Close ∷ rest) ≡ Some (expr.Call function [], rest)
  unfolding call call_arguments
  empty_call_complete function rest room low =
      rw (lt-ltb 0 n room, fitting_fits d (expr.Call function []) rest low) refl

  pub call_complete : Begins Inside → CompleteTree d 5 Inside inside
      → (function : List ℕ) (es : List Expr) (ts rest : List Word) → 0 < n
      → Arguments Inside es ts → Forward ts → depth_of (expr.Call function es) ≤ d
      → call n inside d function (ts ++ (word.Close ∷ rest)) ≡ Some (expr.Call function es, rest)
  unfolding call call_arguments
  call_complete begin complete function es ts rest room spelled forward low =
      let start : Starts (ts ++ (word.Close ∷ rest)) =
      Starts-append ts (word.Close ∷ rest) (arguments_begin begin es ts spelled)
      in
      let found : arguments (length (ts ++ (word.Close ∷ rest))) inside (ts ++ (word.Close ∷ rest))
      ≡ Some (es, rest) =
      arguments_complete
      complete
      es
      ts
      rest
      _
      spelled
      forward
      (omega (arith, low, depth-Call function es))
      (omega (arith, length-append ts (word.Close ∷ rest)))
      in
      rw (
        lt-ltb 0 n room,
        no_close (ts ++ (word.Close ∷ rest)) start,
        found,
        fitting_fits d
            (expr.Call function es) rest low,
      ) refl
