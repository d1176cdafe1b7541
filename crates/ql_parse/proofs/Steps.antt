-- What the readers are, one way out of the code at a time.
use Rattle.std.proofs.Common.{◌≡◌, ◌≢◌, ℕ, zero, suc, ◌+◌, ◌-◌, ◌<◌, ◌≤◌, Bool, List, [], ◌∷◌, ◌++◌, Option, Some, None, length, map, max, refl, ap, sym, subst, ◌∙◌, arith, add-one}
use Rattle.ql_tree.specs.Children.{depth_of, greatest}
use Rattle.ql_tree.specs.Operators.{is_comparison, sign_of}
use Rattle.ql_tree.specs.declared.tree.BinaryOp.{BinaryOp}
use Rattle.ql_tree.specs.declared.tree.Expr.{Expr}
use Rattle.ql_tree.specs.declared.tree.Expr.TheVariants as expr
use Rattle.ql_tree.specs.declared.tree.Matching.{Matching}
use Rattle.ql_tree.specs.declared.word.Keyword.TheVariants as keyword
use Rattle.ql_tree.specs.declared.word.Word.{Word}
use Rattle.ql_tree.specs.declared.word.Word.TheVariants as word
use Rattle.ql_parse.specs.Climbing.{atom_in, operand, chained, bracketed, arguments_in, operands_in, alone_in, both_in, with_param, name_in, call_of}
use Rattle.ql_parse.specs.CommaLists.{followed}
use Rattle.ql_parse.specs.Found.{Found, ◌>>=◌, first, fitting}
use Rattle.ql_parse.specs.FrontWords.{beyond, operator_at}
use Rattle.ql_parse.specs.Gives.{Lacks}
use Rattle.ql_parse.specs.ReadClauses.{boolean, matching}
use Rattle.ql_parse.specs.ReadSelectors.{selector}
use Rattle.ql_parse.specs.ReadTerms.{Operated, atom, name, call_arguments, arguments, closed, operands, operands_behind}
use Rattle.ql_parse.specs.Reading.{signed, sign_at, under_sign, turn, right, chain, level, within, whole}
use Rattle.ql_parse.specs.declared.fault.ParseFault.{ParseFault}
use Rattle.ql_parse.specs.declared.fault.ParseFault.TheVariants.{NotExpr, NoMemory}
use Rattle.ql_parse.proofs.DepthLemmas.{depths, depths-append}
use Rattle.ql_parse.proofs.ListSteps.{Turn, with_all}

-- what isn't read leaves nothing to go on with
lacks_more : {A B : Type 0} (fault : ParseFault) (read : Option A) (more : A → Option B)
    → Lacks fault read → Lacks fault (read >>= more)
lacks_more NotExpr read more lacks = ap (λ o. o >>= more) lacks
lacks_more NoMemory read more lacks = tt

lacks_same : {A : Type 0} (fault : ParseFault) (read other : Option A) → other ≡ read
    → Lacks fault read → Lacks fault other
lacks_same fault read other same lacks = subst (λ o. Lacks fault o) (sym same) lacks

-- brackets
pub within_shut : (n d : ℕ) (ts : List Word) → n ≡ 0 → within n d ts ≡ None
unfolding within
within_shut zero d ts shut = refl
within_shut (suc n) d ts shut = absurd (omega arith)

pub within_open : (n d : ℕ) (ts : List Word) → n ≢ 0 → within n d ts ≡ operand 5 (n - 1) d ts
unfolding within
within_open zero d ts opens = absurd (opens refl)
within_open (suc n) d ts opens = let less : suc n - 1 ≡ n = omega arith in rw less refl

-- signs
pub signed_refused : (n d : ℕ) (ts : List Word) → d ≡ 0 → operand 0 n d ts ≡ None
unfolding level signed
signed_refused n zero ts none = refl
signed_refused n (suc d) ts none = absurd (omega arith)

pub signed_atom : (n d : ℕ) (ts : List Word) → d ≢ 0 → first sign_of ts ≡ None
    → operand 0 n d ts ≡ atom_in n d ts
unfolding level signed
signed_atom n zero ts some is = absurd (some refl)
signed_atom n (suc d) ts some is =
    ap (sign_at (signed (atom n (within n)) d) (atom n (within n) (suc d)) ts) is

pub signed_sign : (n d : ℕ) (ts us : List Word) (minus : Bool) → d ≢ 0
    → first sign_of ts ≡ Some (minus, us)
    → operand 0 n d ts ≡ (operand 0 n (d - 1) us >>= under_sign minus)
unfolding level signed
signed_sign n zero ts us minus some is = absurd (some refl)
signed_sign n (suc d) ts us minus some is =
    let less : suc d - 1 ≡ d = omega arith in
    rw less (ap (sign_at (signed (atom n (within n)) d) (atom n (within n) (suc d)) ts) is)

pub sign_fault : (fault : ParseFault) (n d : ℕ) (ts us : List Word) (minus : Bool) → d ≢ 0
    → first sign_of ts ≡ Some (minus, us)
    → Lacks fault (operand 0 n (d - 1) us) → Lacks fault (operand 0 n d ts)
sign_fault fault n d ts us minus some is lacks =
    lacks_same fault (operand 0 n (d - 1) us >>= under_sign minus) (operand 0 n d ts)
    (signed_sign n d ts us minus some is)
    (lacks_more fault (operand 0 n (d - 1) us) (under_sign minus) lacks)

-- operators of one level
chain_turn : (k n d m : ℕ) (left : Expr) (ts : List Word)
    → chained k n d (suc m) left ts
    ≡ turn (chain m n d (k + 1) (operand k n d)) n d (operand k n d) left ts
    (first (operator_at (k + 1)) ts)
unfolding chain
chain_turn k n d m left ts = refl

module _ (k n d total step : ℕ) (left : Expr) (ts : List Word) where
  turn_left : step < total → chained k n d (total - step) left ts
      ≡ turn (chain (total - (step + 1)) n d (k + 1) (operand k n d)) n d (operand k n d) left ts
      (first (operator_at (k + 1)) ts)
  turn_left inside =
      let one : total - step ≡ suc (total - (step + 1)) = omega arith in
      ap (λ m. chained k n d m left ts) one ∙ chain_turn k n d (total - (step + 1)) left ts

  pub chain_done : step < total → first (operator_at (k + 1)) ts ≡ None
      → chained k n d (total - step) left ts ≡ Some (left, ts)
  chain_done inside is =
      turn_left inside
      ∙ ap (turn (chain (total - (step + 1)) n d (k + 1) (operand k n d)) n d (operand k n d)
      left ts) is

  read_right : (op : BinaryOp) (us : List Word) → step < total
      → first (operator_at (k + 1)) ts ≡ Some (op, us)
      → chained k n d (total - step) left ts
      ≡ (right n d (operand k n d) left op (boolean (is_comparison op) us)
      >>= λ e. chained k n d (total - (step + 1)) e.0 e.1)
  read_right op us inside is =
      turn_left inside
      ∙ ap (turn (chain (total - (step + 1)) n d (k + 1) (operand k n d)) n d (operand k n d)
      left ts) is

  pub chain_on : (op : BinaryOp) (us vs : List Word) (e : Expr) → step < total
      → first (operator_at (k + 1)) ts ≡ Some (op, us)
      → right n d (operand k n d) left op (boolean (is_comparison op) us) ≡ Some (e, vs)
      → chained k n d (total - step) left ts ≡ chained k n d (total - (step + 1)) e vs
  chain_on op us vs e inside is found =
      read_right op us inside is
      ∙ ap (λ o. o >>= λ e. chained k n d (total - (step + 1)) e.0 e.1) found

  pub chain_fault : (fault : ParseFault) (op : BinaryOp) (us : List Word) → step < total
      → first (operator_at (k + 1)) ts ≡ Some (op, us)
      → Lacks fault (right n d (operand k n d) left op (boolean (is_comparison op) us))
      → Lacks fault (chained k n d (total - step) left ts)
  chain_fault fault op us inside is lacks =
      lacks_same fault _ _ (read_right op us inside is)
      (lacks_more fault (right n d (operand k n d) left op (boolean (is_comparison op) us))
      (λ e. chained k n d (total - (step + 1)) e.0 e.1) lacks)

  pub chain_spent : total ≤ step → chained k n d (total - step) left ts ≡ Some (left, ts)
  unfolding chain
  chain_spent past = let none : total - step ≡ 0 = omega arith in rw none refl

-- what stands behind an operator
module _ (k n d : ℕ) (left : Expr) (op : BinaryOp) (x : Bool × List Word) where
  pub right_unmatched : (fault : ParseFault) → Lacks fault (matching n x.1)
      → Lacks fault (right n d (operand k n d) left op x)
  unfolding right
  right_unmatched fault lacks = lacks_more fault (matching n x.1) _ lacks

  pub right_lost : (fault : ParseFault) (m : Option Matching) (us : List Word)
      → matching n x.1 ≡ Some (m, us) → Lacks fault (operand k n d us)
      → Lacks fault (right n d (operand k n d) left op x)
  unfolding right
  right_lost fault m us is lacks = rw is (lacks_more fault (operand k n d us) _ lacks)

  pub right_found : (m : Option Matching) (us ws : List Word) (of : Expr)
      → matching n x.1 ≡ Some (m, us) → operand k n d us ≡ Some (of, ws)
      → fitting d (expr.Binary op x.0 m (left ∷ []) (of ∷ [])) ws
      ≡ right n d (operand k n d) left op x
  unfolding right
  right_found m us ws of is found = rw (is, found) refl

-- levels
level_up : (k n d : ℕ) (ts : List Word)
    → operand (k + 1) n d ts
    ≡ (operand k n d ts >>= λ left. chained k n d (length left.1) left.0 left.1)
unfolding level
level_up k n d ts = let e : k + 1 ≡ suc k = add-one k in rw e refl

pub level_next : (k n d : ℕ) (ts us : List Word) (e : Expr) → operand k n d ts ≡ Some (e, us)
    → operand (k + 1) n d ts ≡ chained k n d (length us) e us
level_next k n d ts us e is =
    level_up k n d ts ∙ ap (λ o. o >>= λ left. chained k n d (length left.1) left.0 left.1) is

lost_above : (fault : ParseFault) (k j n d : ℕ) (ts : List Word) → Lacks fault (operand k n d ts)
    → Lacks fault (operand (k + j) n d ts)
lost_above fault k zero n d ts lacks = let e : k + 0 ≡ k = omega arith in rw e lacks
lost_above fault k (suc j) n d ts lacks =
    let e : k + suc j ≡ (k + j) + 1 = omega arith in
    rw e (lacks_same fault _ _ (level_up (k + j) n d ts)
    (lacks_more fault (operand (k + j) n d ts)
    (λ left. chained (k + j) n d (length left.1) left.0 left.1)
    (lost_above fault k j n d ts lacks)))

-- what a level doesn't read no looser one does
pub level_fault : (fault : ParseFault) (k top n d : ℕ) (ts : List Word) → k ≤ top
    → Lacks fault (operand k n d ts) → Lacks fault (operand top n d ts)
level_fault fault k top n d ts above lacks =
    let e : k + (top - k) ≡ top = omega arith in
    subst (λ j. Lacks fault (operand j n d ts)) e (lost_above fault k (top - k) n d ts lacks)

pub chain_lost : (fault : ParseFault) (k top n d : ℕ) (ts us : List Word) (e : Expr) → k < top
    → operand k n d ts ≡ Some (e, us)
    → Lacks fault (chained k n d (length us) e us) → Lacks fault (operand top n d ts)
chain_lost fault k top n d ts us e below is lacks =
    level_fault fault (k + 1) top n d ts (omega arith)
    (lacks_same fault _ _ (level_next k n d ts us e is) lacks)

-- names
pub name_call : (n d : ℕ) (text : List ℕ) (ts us : List Word) → beyond word.Open ts ≡ Some us
    → name_in n d text ts ≡ call_of n d text us
unfolding name
name_call n d text ts us is = rw is refl

pub name_select : (n d : ℕ) (text : List ℕ) (ts : List Word) → beyond word.Open ts ≡ None
    → name_in n d text ts ≡ selector (word.Name keyword.Unreserved text ∷ ts)
unfolding name
name_select n d text ts is = rw is refl

-- arguments
pub arguments_none : (n d : ℕ) (ts us : List Word) → beyond word.Close ts ≡ Some us
    → arguments_in n d ts ≡ Some ([], us)
unfolding call_arguments
arguments_none n d ts us is = rw is refl

pub arguments_some : (n d : ℕ) (ts : List Word) → beyond word.Close ts ≡ None
    → arguments_in n d ts ≡ arguments (length ts) (within n d) ts
unfolding call_arguments
arguments_some n d ts is = rw is refl

module _ (n d : ℕ) (ts : List Word) where
  arguments_read : (m : ℕ) → arguments (suc m) (within n d) ts
      ≡ (within n d ts >>= followed word.Close (arguments m (within n d)))
  unfolding arguments
  arguments_read m = refl

  pub no_argument : arguments 0 (within n d) ts ≡ None
  unfolding arguments
  no_argument = refl

-- where an argument is to be read
pub arguments_turn : (n d : ℕ) (whole : Found (List Expr)) (found : List Expr) (total step : ℕ) (ts : List Word)
    → with_all found (arguments (total - step) (within n d) ts) ≡ whole → step < total
    → Turn (λ m. arguments m (within n d)) word.Close (within n d) whole found total step ts
arguments_turn n d whole found total step ts so_far inside =
    record { so_far = so_far; inside = inside; reads = arguments_read n d ts }

pub depth_pushed : (found new : List Expr) (e : Expr) (before own : ℕ) → new ≡ found ++ e ∷ []
    → before ≡ greatest (map depth_of found)
    → own ≡ depth_of e → max before own ≡ greatest (map depth_of new)
depth_pushed found new e before own grown is_before is_own =
    let all : depths (found ++ e ∷ [])
    ≡ max (depths found) (depths (e ∷ [])) = depths-append found (e ∷ []) in
    rw grown (omega (arith, all, is_before, is_own))

-- an aggregate's operands
closed_with : (e of : Expr) (closes : Option (List Word)) (both : Found Operated) (one : Found Expr)
    → both ≡ (closes >>= λ rest. both_in e of rest)
    → one ≡ (closes >>= λ (rest : List Word). Some (of, rest)) → both ≡ (one >>= with_param e)
closed_with e of None both one is_both is_one = is_both ∙ ap (λ o. o >>= with_param e) (sym is_one)
closed_with e of (Some rest) both one is_both is_one =
    is_both ∙ ap (λ o. o >>= with_param e) (sym is_one)

both_closed : (e : Expr) (read : Found Expr)
    → (read >>= λ of. closed {A = Operated} (e ∷ [], of.0) of.1)
    ≡ ((read >>= λ of. closed of.0 of.1) >>= with_param e)
both_closed e None = refl
both_closed e (Some of) = closed_with e of.0 (beyond word.Close of.1) _ _ refl refl

module _ (n d : ℕ) (ts us : List Word) (e : Expr) (found : within n d ts ≡ Some (e, us)) where
  pub operand_alone : beyond word.Comma us ≡ None → alone_in e us ≡ operands_in n d ts
  unfolding operands
  operand_alone is = rw (found, is) refl

  operand_pair : (vs : List Word) → beyond word.Comma us ≡ Some vs
      → operands_in n d ts ≡ (bracketed n d vs >>= with_param e)
  unfolding operands
  operand_pair vs is = rw (found, is) (both_closed e (within n d vs))

  pub operand_both : (vs ws : List Word) (of : Expr) → beyond word.Comma us ≡ Some vs
      → bracketed n d vs ≡ Some (of, ws) → both_in e of ws ≡ operands_in n d ts
  operand_both vs ws of is read =
      sym (operand_pair vs is ∙ ap (λ o. o >>= with_param e) read)

  pub operand_fault : (fault : ParseFault) (vs : List Word) → beyond word.Comma us ≡ Some vs
      → Lacks fault (bracketed n d vs) → Lacks fault (operands_in n d ts)
  operand_fault fault vs is lacks =
      lacks_same fault _ _ (operand_pair vs is)
      (lacks_more fault (bracketed n d vs) (with_param e) lacks)

operands_read : (n d : ℕ) (ts : List Word)
    → operands_in n d ts
    ≡ (within n d ts >>= λ e. operands_behind (within n d) e.0 e.1 (beyond word.Comma e.1))
unfolding operands
operands_read n d ts = refl

pub operands_fault : (fault : ParseFault) (n d : ℕ) (ts : List Word)
    → Lacks fault (within n d ts) → Lacks fault (operands_in n d ts)
operands_fault fault n d ts lacks =
    lacks_same fault _ _ (operands_read n d ts)
    (lacks_more fault (within n d ts)
    (λ e. operands_behind (within n d) e.0 e.1 (beyond word.Comma e.1)) lacks)

-- the whole of the words
pub whole_fault : (fault : ParseFault) (found : Found Expr) → Lacks fault found
    → Lacks fault (whole found)
whole_fault NotExpr found lacks = ap whole lacks
whole_fault NoMemory found lacks = tt
