-- The reading of atoms: what is read is spelled, and what is spelled is read.
use Rattle.std.proofs.Common.{◌≡◌, ℕ, ◌<◌, ◌≤◌, List, [], ◌∷◌, ◌++◌, Option, Some, None, refl, ap, sym, subst, ◌∙◌, append_assoc, arith}
use Rattle.op_base.specs.declared.matcher.Matcher.{Matcher}
use Rattle.ql_tree.specs.Children.{depth_of}
use Rattle.ql_tree.specs.ClauseWords.{aggregate_of}
use Rattle.ql_tree.specs.Operators.{sign_of}
use Rattle.ql_tree.specs.Selecting.{Head, SelectorOf}
use Rattle.ql_tree.specs.Spells.{Spelling, Arguments, Atom}
use Rattle.ql_tree.specs.declared.tree.AggregateOp.{AggregateOp}
use Rattle.ql_tree.specs.declared.tree.Expr.{Expr}
use Rattle.ql_tree.specs.declared.tree.Expr.TheVariants as expr
use Rattle.ql_tree.specs.declared.word.Keyword.{Keyword}
use Rattle.ql_tree.specs.declared.word.Keyword.TheVariants as keyword
use Rattle.ql_tree.specs.declared.word.Word.{Word}
use Rattle.ql_tree.specs.declared.word.Word.TheVariants as word
use Rattle.ql_parse.specs.Found.{Reader, ◌>>=◌, first}
use Rattle.ql_parse.specs.FrontWords.{beyond}
use Rattle.ql_parse.specs.ReadSelectors.{selector}
use Rattle.ql_parse.specs.ReadTerms.{closed, aggregate, name_at, name, atom}
use Rattle.ql_parse.proofs.Readers.{found_is, bind_ok}
use Rattle.ql_parse.proofs.FrontLemmas.{behind_symbol}
use Rattle.ql_parse.proofs.SelectorLemmas.{before_range, selector_sound, selector_complete}
use Rattle.ql_parse.proofs.ForwardLemmas.{front_part, back_part}
use Rattle.ql_parse.proofs.DepthLemmas.{depth-Number, depth-Str, depth-Select}
use Rattle.ql_parse.proofs.FollowLemmas.{Starts, Starts-append, aggregate_is, Ends, Apart, ends_apart}
use Rattle.ql_parse.proofs.LevelLemmas.{TreeRead, SoundTree, CompleteTree, Begins}
use Rattle.ql_parse.proofs.CallLemmas.{closed_ok, call_sound, empty_call_complete, call_complete}
use Rattle.ql_parse.proofs.AggregateLemmas.{aggregate_sound, aggregate_complete, before_complete, behind_complete}

-- ---- what selectors begin with and end in

selector_depth : (e : Expr) (us : List Word) → SelectorOf e us → depth_of e ≡ 1
selector_depth _ _ (SelectorOf.selector name ms r o ts us vs h spelled_r spelled_o) =
    depth-Select name ms r o

head_starts : (name : Option (List ℕ)) (ms : List Matcher) (us : List Word) → Head name ms us
    → Starts us
head_starts _ _ _ (Head.bare name) = Starts.starts (word.Name keyword.Unreserved name) [] refl
head_starts _ _ _ (Head.named name ms ts apart spelled) =
    Starts.starts (word.Name keyword.Unreserved name) _ refl
head_starts _ _ _ (Head.nameless ms ts spelled) = Starts.starts word.OpenBrace _ refl

selector_starts : (e : Expr) (us : List Word) → SelectorOf e us → Starts us
selector_starts _ _ (SelectorOf.selector name ms r o ts us vs h spelled_r spelled_o) =
    Starts-append ts (us ++ vs) (head_starts name ms ts h)

aggregate_starts : (w : Word) (op : AggregateOp) (ts : List Word) → aggregate_of w ≡ Some op
    → Starts (w ∷ ts)
aggregate_starts w op ts is =
    let a = aggregate_is w op is in
    subst (λ v. Starts (v ∷ ts)) (sym a.1)
    (Starts.starts (word.Name (keyword.Aggregate op) a.0) ts refl)

aggregate_unsigned : (w : Word) (op : AggregateOp) → aggregate_of w ≡ Some op → sign_of w ≡ None
unfolding sign_of
aggregate_unsigned w op is =
    let a = aggregate_is w op is in
    rw a.1 refl

head_unsigned : (name : Option (List ℕ)) (ms : List Matcher) (us rest : List Word) → Head name ms us
    → first sign_of (us ++ rest) ≡ None
unfolding sign_of
head_unsigned _ _ _ rest (Head.bare name) = refl
head_unsigned _ _ _ rest (Head.named name ms ts apart spelled) = refl
head_unsigned _ _ _ rest (Head.nameless ms ts spelled) = refl

selector_unsigned : (e : Expr) (us rest : List Word) → SelectorOf e us
    → first sign_of (us ++ rest) ≡ None
selector_unsigned _ _ rest (SelectorOf.selector name ms r o ts us vs h spelled_r spelled_o) =
    ap (first sign_of) (append_assoc ts (us ++ vs) rest) ∙ head_unsigned name ms ts
    ((us ++ vs) ++ rest) h

module _ (n : ℕ) (Inside : Spelling) (inside : ℕ → Reader Expr) where
  -- ---- what is read is spelled

  module _ (d : ℕ) (sound : SoundTree d Inside (inside d)) where
    selected : (ts : List Word) (x : Expr × List Word) → 0 < d → selector ts ≡ Some x
        → TreeRead d (Atom n Inside) ts x
    selected ts x room is =
        let s = selector_sound ts x is in
        (s.0, s.1, Atom.selector x.0 s.0 s.2, omega (arith, room, selector_depth x.0 s.0 s.2))

    name_at_sound : (text : List ℕ) (ts : List Word) (o : Option (List Word))
        (x : Expr × List Word) → 0 < d → beyond word.Open ts ≡ o
        → name_at n (inside d) d text ts o ≡ Some x
        → TreeRead d (Atom n Inside) (word.Name keyword.Unreserved text ∷ ts) x
    name_at_sound text ts None x room selects is =
        selected (word.Name keyword.Unreserved text ∷ ts) x room is
    name_at_sound text ts (Some us) x room opens is =
        let c = call_sound n d Inside (inside d) sound text us x is in (
          word.Name keyword.Unreserved text ∷ word.Open ∷ c.0,
          ap (λ vs. word.Name keyword.Unreserved text ∷ vs)
              (behind_symbol word.Open ts us opens ∙ ap (λ vs. word.Open ∷ vs) c.1),
          c.2,
          c.3,
        )

    name_sound : (text : List ℕ) (ts : List Word) (x : Expr × List Word) → 0 < d
        → name n (inside d) d text ts ≡ Some x
        → TreeRead d (Atom n Inside) (word.Name keyword.Unreserved text ∷ ts) x
    unfolding name
    name_sound text ts x room is = name_at_sound text ts (beyond word.Open ts) x room refl is

    bracketed_sound : (ts : List Word) (x : Expr × List Word)
        → (inside d ts >>= λ e. closed e.0 e.1) ≡ Some x
        → TreeRead d (Atom n Inside) (word.Open ∷ ts) x
    bracketed_sound ts x is =
        let e = bind_ok (inside d ts) _ x is in
        let s = sound ts e.0 e.1 in
        let c = closed_ok {A = Expr} e.0.0 e.0.1 x e.2 in (
          word.Open ∷ (s.0 ++ (word.Close ∷ [])),
          ap (λ us. word.Open ∷ us) (s.1 ∙ ap (λ us. s.0 ++ us) c.0 ∙ sym
              (append_assoc s.0 (word.Close ∷ []) x.1)),
          subst (λ f. Atom n Inside f (word.Open ∷ (s.0 ++ (word.Close ∷ [])))) c.1
              (Atom.bracketed e.0.0 s.0 s.2),
          subst (λ f. depth_of f ≤ d) c.1 s.3,
        )

    aggregated_sound : (op : AggregateOp) (text : List ℕ) (ts : List Word) (x : Expr × List Word)
        → aggregate n (inside d) d op ts ≡ Some x
        → TreeRead d (Atom n Inside) (word.Name (keyword.Aggregate op) text ∷ ts) x
    unfolding aggregate_of
    aggregated_sound op text ts x is =
        let a =
        aggregate_sound n d Inside (inside d) sound
        (word.Name (keyword.Aggregate op) text) op ts x refl is in (
          word.Name (keyword.Aggregate op) text ∷ a.0,
          ap (λ us. word.Name (keyword.Aggregate op) text ∷ us) a.1,
          a.2,
          a.3,
        )

    named_sound : (k : Keyword) (text : List ℕ) (ts : List Word) (x : Expr × List Word) → 0 < d
        → atom n inside d (word.Name k text ∷ ts) ≡ Some x
        → TreeRead d (Atom n Inside) (word.Name k text ∷ ts) x
    unfolding atom
    named_sound keyword.Unreserved text ts x room is = name_sound text ts x room is
    named_sound (keyword.Aggregate op) text ts x room is = aggregated_sound op text ts x is
    named_sound k text ts x room is = cc is

    front_sound : (w : Word) (ts : List Word) (x : Expr × List Word) → 0 < d
        → atom n inside d (w ∷ ts) ≡ Some x
        → TreeRead d (Atom n Inside) (w ∷ ts) x
    unfolding atom
    front_sound (word.Number z) ts x room is =
        found_is
        (TreeRead d (Atom n Inside) (word.Number z ∷ ts))
        (expr.Number z, ts)
        x
        is
        (word.Number z ∷ [], refl, Atom.number z, omega (arith, room, depth-Number z))
    front_sound (word.Quoted text) ts x room is =
        found_is
        (TreeRead d (Atom n Inside) (word.Quoted text ∷ ts))
        (expr.Str text, ts)
        x
        is
        (word.Quoted text ∷ [], refl, Atom.string text, omega (arith, room, depth-Str text))
    front_sound word.Open ts x room is = bracketed_sound ts x is
    front_sound word.OpenBrace ts x room is = selected (word.OpenBrace ∷ ts) x room is
    front_sound (word.Name k text) ts x room is = named_sound k text ts x room is
    front_sound w ts x room is = cc is

    pub atom_sound : 0 < d → SoundTree d (Atom n Inside) (atom n inside d)
    unfolding atom
    atom_sound room [] x is = cc is
    atom_sound room (w ∷ ts) x is = front_sound w ts x room is

  -- ---- what is spelled is read

  selector_atom : (d : ℕ) (e : Expr) (us rest : List Word) → SelectorOf e us → Apart rest
      → atom n inside d (us ++ rest) ≡ selector (us ++ rest)
  unfolding atom name
  selector_atom d _ _ rest (SelectorOf.selector _ _ r o _ us vs
      (Head.bare name) spelled_r spelled_o) apart =
      let closed : beyond word.Open ((us ++ vs) ++ rest) ≡ None =
      ap (beyond word.Open) (append_assoc us vs rest)
      ∙ before_range (λ ts. beyond word.Open ts ≡ None) (λ text ts. refl) (λ ts. refl) r o us vs rest
      spelled_r spelled_o apart.opens
      in
      rw closed refl
  selector_atom d _ _ rest (SelectorOf.selector _ _ r o _ us vs
      (Head.named name ms ts own spelled) spelled_r spelled_o) apart = refl
  selector_atom d _ _ rest (SelectorOf.selector _ _ r o _ us vs
      (Head.nameless ms ts spelled) spelled_r spelled_o) apart = refl

  aggregate_atom : (d : ℕ) (w : Word) (op : AggregateOp) (ts : List Word) → aggregate_of w ≡ Some op
      → atom n inside d (w ∷ ts) ≡ aggregate n (inside d) d op ts
  unfolding atom
  aggregate_atom d w op ts is =
      let a = aggregate_is w op is in
      rw a.1 refl

  module _ (d : ℕ) (begin : Begins Inside)
      (room : (e : Expr) (us : List Word) → Inside e us → 0 < n)
      (complete : CompleteTree d 5 Inside (inside d)) where
    arguments_room : (es : List Expr) (us : List Word) → Arguments Inside es us → 0 < n
    arguments_room _ _ (Arguments.last e ts spelled) = room e ts spelled
    arguments_room _ _ (Arguments.more e es ts us spelled others) = room e ts spelled

    pub atom_complete : CompleteTree d 0 (Atom n Inside) (atom n inside d)
    unfolding atom name
    atom_complete _ _ rest (Atom.number z) forward low ends = refl
    atom_complete _ _ rest (Atom.string text) forward low ends = refl
    atom_complete _ _ rest (Atom.selector e us spelled) forward low ends =
        let apart = ends_apart 0 rest ends in
        selector_atom d e us rest spelled apart
        ∙ selector_complete e us rest spelled forward apart.brace apart.square apart.offset
    atom_complete _ _ rest (Atom.bracketed e ts spelled) forward low ends =
        let found : inside d (ts ++ (word.Close ∷ rest)) ≡ Some (e, word.Close ∷ rest) =
        complete e ts (word.Close ∷ rest) spelled (front_part ts (word.Close ∷ []) forward.1) low
        (Ends.closed rest)
        in
        rw (append_assoc ts (word.Close ∷ []) rest, found) refl
    atom_complete _ _ rest (Atom.empty_call function some) forward low ends =
        empty_call_complete n d Inside (inside d) function rest some low
    atom_complete _ _ rest (Atom.call function args ts spelled) forward low ends =
        rw
        (append_assoc ts (word.Close ∷ []) rest)
        (call_complete n d Inside (inside d) begin complete function args ts rest
        (arguments_room args ts spelled) spelled
        (front_part ts (word.Close ∷ []) forward.1.1) low)
    atom_complete _ _ rest (Atom.aggregate w op param e ts is spelled) forward low ends =
        aggregate_atom d w op (word.Open ∷ ((ts ++ (word.Close ∷ [])) ++ rest)) is
        ∙ rw
        (append_assoc ts (word.Close ∷ []) rest)
        (aggregate_complete n d Inside (inside d) complete op param e ts rest spelled
        (front_part ts (word.Close ∷ []) forward.1.1) low (ends_apart 0 rest ends).grouping)
    atom_complete _ _ rest (Atom.grouped_before w op g param e gs ts is clause spelled) forward low
        ends =
        aggregate_atom d w op ((gs ++ (word.Open ∷ (ts ++ (word.Close ∷ [])))) ++ rest) is
        ∙ rw (
          append_assoc gs (word.Open ∷ (ts ++ (word.Close ∷ []))) rest,
          append_assoc ts
              (word.Close ∷ []) rest,
        )
        (before_complete n d Inside (inside d) complete op g param e gs ts rest clause spelled
        (front_part ts (word.Close ∷ [])
        (back_part gs (word.Open ∷ (ts ++ (word.Close ∷ []))) forward.1).1) low)
    atom_complete _ _ rest (Atom.grouped_behind w op g param e ts gs is spelled clause) forward low
        ends =
        aggregate_atom d w op (word.Open ∷ ((ts ++ (word.Close ∷ gs)) ++ rest)) is
        ∙ rw
        (append_assoc ts (word.Close ∷ gs) rest)
        (behind_complete n d Inside (inside d) complete op g param e ts gs rest clause spelled
        (front_part ts (word.Close ∷ gs) forward.1.1) low)

  pub atom_begins : Begins (Atom n Inside)
  unfolding aggregate_of
  atom_begins _ _ (Atom.number z) = Starts.starts (word.Number z) [] refl
  atom_begins _ _ (Atom.string text) = Starts.starts (word.Quoted text) [] refl
  atom_begins _ _ (Atom.selector e us spelled) = selector_starts e us spelled
  atom_begins _ _ (Atom.bracketed e ts spelled) = Starts.starts word.Open _ refl
  atom_begins _ _ (Atom.empty_call function some) =
      Starts.starts (word.Name keyword.Unreserved function) _ refl
  atom_begins _ _ (Atom.call function args ts spelled) =
      Starts.starts (word.Name keyword.Unreserved function) _ refl
  atom_begins _ _ (Atom.aggregate w op param e ts is spelled) = aggregate_starts w op _ is
  atom_begins _ _ (Atom.grouped_before w op g param e gs ts is clause spelled) =
      aggregate_starts w op _ is
  atom_begins _ _ (Atom.grouped_behind w op g param e ts gs is spelled clause) =
      aggregate_starts w op _ is

  -- an atom begins with no sign
  pub atom_unsigned : (e : Expr) (us rest : List Word) → Atom n Inside e us
      → first sign_of (us ++ rest) ≡ None
  unfolding sign_of
  atom_unsigned _ _ rest (Atom.number z) = refl
  atom_unsigned _ _ rest (Atom.string text) = refl
  atom_unsigned _ _ rest (Atom.selector e us spelled) = selector_unsigned e us rest spelled
  atom_unsigned _ _ rest (Atom.bracketed e ts spelled) = refl
  atom_unsigned _ _ rest (Atom.empty_call function some) = refl
  atom_unsigned _ _ rest (Atom.call function args ts spelled) = refl
  atom_unsigned _ _ rest (Atom.aggregate w op param e ts is spelled) =
      rw (aggregate_unsigned w op is) refl
  atom_unsigned _ _ rest (Atom.grouped_before w op g param e gs ts is clause spelled) =
      rw (aggregate_unsigned w op is) refl
  atom_unsigned _ _ rest (Atom.grouped_behind w op g param e ts gs is spelled clause) =
      rw (aggregate_unsigned w op is) refl
