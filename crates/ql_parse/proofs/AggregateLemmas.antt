-- The reading of aggregates: what is read is spelled, and what is spelled is read.
use Rattle.std.proofs.Common.{◌≡◌, ℕ, ◌≤◌, List, [], ◌∷◌, ◌++◌, Option, Some, None, refl, ap, sym, subst, ◌∙◌, append_assoc, arith}
use Rattle.ql_tree.specs.Children.{depth_of}
use Rattle.ql_tree.specs.Clauses.{GroupingOf}
use Rattle.ql_tree.specs.ClauseWords.{aggregate_of, grouping_of}
use Rattle.ql_tree.specs.Spells.{Spelling, Operands, Atom}
use Rattle.ql_tree.specs.declared.tree.AggregateOp.{AggregateOp}
use Rattle.ql_tree.specs.declared.tree.Expr.{Expr}
use Rattle.ql_tree.specs.declared.tree.Expr.TheVariants as expr
use Rattle.ql_tree.specs.declared.tree.Grouping.{Grouping}
use Rattle.ql_tree.specs.declared.word.Word.{Word}
use Rattle.ql_tree.specs.declared.word.Word.TheVariants as word
use Rattle.ql_parse.specs.Found.{Reader, ◌>>=◌, first}
use Rattle.ql_parse.specs.FrontWords.{beyond}
use Rattle.ql_parse.specs.ReadClauses.{grouping}
use Rattle.ql_parse.specs.ReadTerms.{Operated, operands_behind, operands, grouping_behind, aggregate}
use Rattle.ql_parse.proofs.Readers.{found_is, bind_ok, fitting_ok, fitting_fits}
use Rattle.ql_parse.proofs.FrontLemmas.{behind_symbol}
use Rattle.ql_parse.proofs.ClauseLemmas.{GroupingIf, grouping_sound, grouping_none, grouping_complete}
use Rattle.ql_parse.proofs.ForwardLemmas.{Forward, front_part, back_part}
use Rattle.ql_parse.proofs.DepthLemmas.{depths, depth-Aggregate}
use Rattle.ql_parse.proofs.FollowLemmas.{Ends}
use Rattle.ql_parse.proofs.LevelLemmas.{SoundTree, CompleteTree}
use Rattle.ql_parse.proofs.ListLemmas.{after_comma}
use Rattle.ql_parse.proofs.CallLemmas.{closed_ok}

-- the words of an aggregate behind its own
put_together : (gs ts hs all before opened after rest : List Word) → all ≡ gs ++ before
    → before ≡ word.Open ∷ opened
    → opened ≡ ts ++ (word.Close ∷ after) → after ≡ hs ++ rest
    → all ≡ (gs ++ (word.Open ∷ (ts ++ (word.Close ∷ hs)))) ++ rest
put_together gs ts hs all before opened after rest p q r s =
    let inner : opened ≡ (ts ++ (word.Close ∷ hs)) ++ rest =
    r ∙ ap (λ us. ts ++ (word.Close ∷ us)) s ∙ sym (append_assoc ts (word.Close ∷ hs) rest)
    in
    p
    ∙ ap (λ us. gs ++ us) (q ∙ ap (λ us. word.Open ∷ us) inner)
    ∙ sym (append_assoc gs (word.Open ∷ (ts ++ (word.Close ∷ hs))) rest)

module _ (n d : ℕ) (Inside : Spelling) (inside : Reader Expr) where
  -- operands and what they are read from, up to the bracket that closes them
  abbrev OperatedTo : List Word → Operated × List Word → Type 0
  OperatedTo ts x =
      (us : List Word) × (ts ≡ us ++ (word.Close ∷ x.1)) × Operands Inside x.0.0 x.0.1 us

  operands_behind_sound : SoundTree d Inside inside
      → (ts us : List Word) (e : Expr) (after : List Word) (o : Option (List Word))
      (x : Operated × List Word) → ts ≡ us ++ after → Inside e us → beyond word.Comma after ≡ o
      → operands_behind inside e after o ≡ Some x → OperatedTo ts x
  operands_behind_sound sound ts us e after None x same spelled no_comma is =
      let c = closed_ok {A = Operated} ([], e) after x is in (
        us,
        same ∙ ap (λ vs. us ++ vs) c.0,
        subst (λ (y : Operated). Operands Inside y.0 y.1 us) c.1 (Operands.alone e us spelled),
      )
  operands_behind_sound sound ts us e after (Some vs) x same spelled some is =
      let of = bind_ok (inside vs) _ x is in
      let s = sound vs of.0 of.1 in
      let c = closed_ok {A = Operated} (e ∷ [], of.0.0) of.0.1 x of.2 in (
        us ++ (word.Comma ∷ s.0),
        after_comma us s.0 ts after vs x.1 word.Close same (behind_symbol word.Comma after vs some)
            (s.1 ∙ ap (λ ws. s.0 ++ ws) c.0),
        subst
            (λ (y : Operated). Operands Inside y.0 y.1 (us ++ (word.Comma ∷ s.0)))
            c.1
            (Operands.param e of.0.0 us s.0 spelled s.2),
      )

  operands_sound : SoundTree d Inside inside → (ts : List Word) (x : Operated × List Word)
      → operands inside ts ≡ Some x → OperatedTo ts x
  unfolding operands
  operands_sound sound ts x is =
      let e = bind_ok (inside ts) _ x is in
      let s = sound ts e.0 e.1 in
      operands_behind_sound sound ts s.0 e.0.0 e.0.1 (beyond word.Comma e.0.1) x s.1 s.2 refl e.2

  operands_complete : CompleteTree d 5 Inside inside
      → (param : List Expr) (e : Expr) (us rest : List Word) → Operands Inside param e us
      → Forward us
      → depths param ≤ d → depth_of e ≤ d
      → operands inside (us ++ (word.Close ∷ rest)) ≡ Some ((param, e), rest)
  unfolding operands
  operands_complete complete _ _ _ rest (Operands.alone e ts spelled) forward low_param low =
      let found : inside (ts ++ (word.Close ∷ rest)) ≡ Some (e, word.Close ∷ rest) =
      complete e ts (word.Close ∷ rest) spelled forward low (Ends.closed rest)
      in
      rw found refl
  operands_complete complete _ _ _ rest (Operands.param p e ts us spelled_p spelled) forward
      low_param low =
      let after = word.Comma ∷ (us ++ (word.Close ∷ rest)) in
      let found : inside (us ++ (word.Close ∷ rest)) ≡ Some (e, word.Close ∷ rest) =
      complete e us (word.Close ∷ rest) spelled (back_part ts (word.Comma ∷ us) forward).1 low
      (Ends.closed rest)
      in
      let found_p : inside (ts ++ after) ≡ Some (p, after) =
      complete p ts after spelled_p (front_part ts (word.Comma ∷ us) forward) (omega arith)
      (Ends.comma (us ++ (word.Close ∷ rest)))
      in
      rw (append_assoc ts (word.Comma ∷ us) (word.Close ∷ rest), found_p, found) refl

  -- an aggregate's words behind its own word, with what is left of those behind its operands
  abbrev AggregateOf : Word → AggregateOp → List Word → List Word → List Expr → Expr → List Word
      → Option Grouping × List Word → Type 0
  AggregateOf w op gs ts param e after g =
      (hs : List Word) × (after ≡ hs ++ g.1)
      × Atom n Inside (expr.Aggregate op g.0 param (e ∷ []))
      (w ∷ (gs ++ (word.Open ∷ (ts ++ (word.Close ∷ hs)))))

  behind_made : (w : Word) (op : AggregateOp) (g : Option Grouping) (hs ts : List Word)
      (param : List Expr) (e : Expr)
      → aggregate_of w ≡ Some op → GroupingIf n g hs → Operands Inside param e ts
      → Atom n Inside (expr.Aggregate op g param (e ∷ []))
      (w ∷ word.Open ∷ (ts ++ (word.Close ∷ hs)))
  behind_made w op _ _ ts param e is GroupingIf.none spelled =
      Atom.aggregate w op param e ts is spelled
  behind_made w op _ _ ts param e is (GroupingIf.given g hs clause) spelled =
      Atom.grouped_behind w op g param e ts hs is spelled clause

  aggregate_made : (w : Word) (op : AggregateOp) (before : Option Grouping) (gs ts : List Word)
      (param : List Expr) (e : Expr)
      (after : List Word) (g : Option Grouping × List Word) → aggregate_of w ≡ Some op
      → GroupingIf n before gs
      → Operands Inside param e ts → grouping_behind n before after ≡ Some g
      → AggregateOf w op gs ts param e after g
  unfolding grouping_behind
  aggregate_made w op _ _ ts param e after g is GroupingIf.none spelled found =
      let s = grouping_sound n after g found in
      (s.0, s.1, behind_made w op g.0 s.0 ts param e is s.2 spelled)
  aggregate_made w op _ _ ts param e after g is (GroupingIf.given own gs clause) spelled found =
      found_is
      (AggregateOf w op gs ts param e after)
      (Some own, after)
      g
      found
      ([], refl, Atom.grouped_before w op own param e gs ts is clause spelled)

  -- what is read behind an aggregate's word
  abbrev pub BehindWord : Word → List Word → Expr × List Word → Type 0
  BehindWord w ts x =
      (us : List Word) × (ts ≡ us ++ x.1) × Atom n Inside x.0 (w ∷ us) × (depth_of x.0 ≤ d)

  settled : (w : Word) (ts us rest : List Word) (e : Expr) (x : Expr × List Word) → (e, rest) ≡ x
      → ts ≡ us ++ rest → Atom n Inside e (w ∷ us) → depth_of e ≤ d → BehindWord w ts x
  settled w ts us rest e x same parts spelled low =
      subst (BehindWord w ts) same (us, parts, spelled, low)

  pub aggregate_sound : SoundTree d Inside inside
      → (w : Word) (op : AggregateOp) (ts : List Word) (x : Expr × List Word)
      → aggregate_of w ≡ Some op → aggregate n inside d op ts ≡ Some x → BehindWord w ts x
  unfolding aggregate
  aggregate_sound sound w op ts x is found =
      let before = bind_ok (grouping n ts) _ x found in
      let of = bind_ok (beyond word.Open before.0.1 >>= operands inside) _ x before.2 in
      let opened = bind_ok (beyond word.Open before.0.1) (operands inside) of.0 of.1 in
      let g = bind_ok (grouping_behind n before.0.0 of.0.1) _ x of.2 in
      let gs = grouping_sound n ts before.0 before.1 in
      let s = operands_sound sound opened.0 of.0 opened.2 in
      let a =
      aggregate_made w op before.0.0 gs.0 s.0 of.0.0.0 of.0.0.1 of.0.1 g.0 is gs.2 s.2 g.1
      in
      let fits = fitting_ok d (expr.Aggregate op g.0.0 of.0.0.0 (of.0.0.1 ∷ [])) g.0.1 x g.2 in
      let words = gs.0 ++ (word.Open ∷ (s.0 ++ (word.Close ∷ a.0))) in
      let parts : ts ≡ words ++ g.0.1 =
      put_together gs.0 s.0 a.0 ts before.0.1 opened.0 of.0.1 g.0.1 gs.1
      (behind_symbol word.Open before.0.1 opened.0 opened.1) s.1 a.1
      in
      settled w ts words g.0.1 (expr.Aggregate op g.0.0 of.0.0.0 (of.0.0.1 ∷ [])) x fits.1 parts a.2 fits.0

  -- an aggregate is found where its clauses are
  aggregate_found : CompleteTree d 5 Inside inside
      → (op : AggregateOp) (before behind_it : Option Grouping) (ts after rest : List Word)
      (param : List Expr) (e : Expr) (words : List Word)
      → grouping n words ≡ Some (before, word.Open ∷ (ts ++ (word.Close ∷ after)))
      → Operands Inside param e ts → Forward ts
      → grouping_behind n before after ≡ Some (behind_it, rest)
      → depth_of (expr.Aggregate op behind_it param (e ∷ [])) ≤ d
      → aggregate n inside d op words ≡ Some (expr.Aggregate op behind_it param (e ∷ []), rest)
  unfolding aggregate
  aggregate_found complete op before behind_it ts after rest param e words first_is spelled forward
      then low =
      let deep = depth-Aggregate op behind_it param e in
      let of_is : operands inside (ts ++ (word.Close ∷ after)) ≡ Some ((param, e), after) =
      operands_complete complete param e ts after spelled forward (omega (arith, low, deep))
      (omega (arith, low, deep))
      in
      let fits = fitting_fits d (expr.Aggregate op behind_it param (e ∷ [])) rest low in
      rw (first_is, of_is, then, fits) refl

  pub aggregate_complete : CompleteTree d 5 Inside inside
      → (op : AggregateOp) (param : List Expr) (e : Expr) (ts rest : List Word)
      → Operands Inside param e ts → Forward ts
      → depth_of (expr.Aggregate op None param (e ∷ [])) ≤ d
      → first grouping_of rest ≡ None
      → aggregate n inside d op (word.Open ∷ (ts ++ (word.Close ∷ rest))) ≡ Some
      (expr.Aggregate op None param (e ∷ []), rest)
  unfolding grouping_behind grouping_of
  aggregate_complete complete op param e ts rest spelled forward low no_group =
      aggregate_found
      complete
      op
      None
      None
      ts
      rest
      rest
      param
      e
      (word.Open ∷ (ts ++ (word.Close ∷ rest)))
      (grouping_none n (word.Open ∷ (ts ++ (word.Close ∷ rest))) refl)
      spelled
      forward
      (grouping_none n rest no_group)
      low

  pub before_complete : CompleteTree d 5 Inside inside
      → (op : AggregateOp) (g : Grouping) (param : List Expr) (e : Expr)
      (gs ts rest : List Word) → GroupingOf n g gs → Operands Inside param e ts → Forward ts
      → depth_of (expr.Aggregate op (Some g) param (e ∷ [])) ≤ d
      → aggregate n inside d op (gs ++ (word.Open ∷ (ts ++ (word.Close ∷ rest)))) ≡ Some
      (expr.Aggregate op (Some g) param (e ∷ []), rest)
  unfolding grouping_behind
  before_complete complete op g param e gs ts rest clause spelled forward low =
      aggregate_found
      complete
      op
      (Some g)
      (Some g)
      ts
      rest
      rest
      param
      e
      (gs ++ (word.Open ∷ (ts ++ (word.Close ∷ rest))))
      (grouping_complete n g gs (word.Open ∷ (ts ++ (word.Close ∷ rest))) clause)
      spelled
      forward
      refl
      low

  pub behind_complete : CompleteTree d 5 Inside inside
      → (op : AggregateOp) (g : Grouping) (param : List Expr) (e : Expr)
      (ts gs rest : List Word) → GroupingOf n g gs → Operands Inside param e ts → Forward ts
      → depth_of (expr.Aggregate op (Some g) param (e ∷ [])) ≤ d
      → aggregate n inside d op (word.Open ∷ (ts ++ (word.Close ∷ (gs ++ rest)))) ≡ Some
      (expr.Aggregate op (Some g) param (e ∷ []), rest)
  unfolding grouping_behind grouping_of
  behind_complete complete op g param e ts gs rest clause spelled forward low =
      aggregate_found
      complete
      op
      None
      (Some g)
      ts
      (gs ++ rest)
      rest
      param
      e
      (word.Open ∷ (ts ++ (word.Close ∷ (gs ++ rest))))
      (grouping_none n (word.Open ∷ (ts ++ (word.Close ∷ (gs ++ rest)))) refl)
      spelled
      forward
      (grouping_complete n g gs rest clause)
      low
