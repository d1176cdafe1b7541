-- The reading of words as a whole: it finds the one tree that the words spell, or there is none.
use Rattle.std.proofs.Common.{◌≡◌, ℕ, zero, suc, ◌<◌, ◌≤◌, List, [], ◌∷◌, ◌++◌, Some, None, ap, sym, subst, ◌∙◌, append-nil, arith}
use Rattle.ql_tree.specs.Children.{depth_of}
use Rattle.ql_tree.specs.Spells.{Atom, Within}
use Rattle.ql_tree.specs.declared.tree.Expr.{Expr}
use Rattle.ql_tree.specs.declared.word.Word.{Word}
use Rattle.ql_parse.specs.Found.{Found}
use Rattle.ql_parse.specs.ReadTerms.{atom}
use Rattle.ql_parse.specs.Reading.{within, whole, read}
use Rattle.ql_parse.proofs.Readers.{some_is}
use Rattle.ql_parse.proofs.ForwardLemmas.{Forward}
use Rattle.ql_parse.proofs.FollowLemmas.{Ends}
use Rattle.ql_parse.proofs.LevelLemmas.{SoundTree, CompleteTree, Begins, level_begins, level_sound, level_complete}
use Rattle.ql_parse.proofs.AtomLemmas.{atom_sound, atom_complete, atom_begins, atom_unsigned}

within_begins : (n : ℕ) → Begins (Within n)
unfolding Within
within_begins zero e us spelled = absurd spelled
within_begins (suc n) e us spelled =
    level_begins n (Atom n (Within n)) (atom n (within n))
    (atom_begins n (Within n) (within n)) 5 e us spelled

within_room : (n : ℕ) (e : Expr) (us : List Word) → Within n e us → 0 < n
unfolding Within
within_room zero e us spelled = absurd spelled
within_room (suc n) e us spelled = omega arith

-- where at most n - 1 brackets may be open, what is read is spelled
pub within_sound : (n d : ℕ) → SoundTree d (Within n) (within n d)
unfolding within Within
within_sound zero d ts x is = cc is
within_sound (suc n) d ts x is =
    level_sound
    n
    (Atom n (Within n))
    (atom n (within n))
    (atom_begins n (Within n) (within n))
    (λ c. atom_sound n (Within n) (within n) (suc c) (within_sound n (suc c)) (omega arith))
    5
    d
    ts
    x
    is

-- there, what is spelled is read
pub within_complete : (n d : ℕ) → CompleteTree d 5 (Within n) (within n d)
unfolding within Within
within_complete zero d e us rest spelled forward low ends = absurd spelled
within_complete (suc n) d e us rest spelled forward low ends =
    level_complete
    n
    (Atom n (Within n))
    (atom n (within n))
    (atom_begins n (Within n) (within n))
    (atom_unsigned n (Within n) (within n))
    (λ c. atom_complete n (Within n) (within n) (suc c) (within_begins n) (within_room n)
    (within_complete n (suc c)))
    5
    d
    e
    us
    rest
    spelled
    forward
    low
    ends

whole_ok : (o : Found Expr) (e : Expr) → whole o ≡ Some e → o ≡ Some (e, [])
whole_ok None e is = cc is
whole_ok (Some (f, [])) e is = ap (λ (g : Expr). Some (g, [])) (some_is f e is)
whole_ok (Some (f, w ∷ ts)) e is = cc is

-- what is read is spelled, and not too deep
pub read_sound : (ts : List Word) (e : Expr) → read ts ≡ Some e
    → Within 401 e ts × (depth_of e ≤ 200)
unfolding read
read_sound ts e is =
    let s = within_sound 401 200 ts (e, []) (whole_ok (within 401 200 ts) e is) in
    (subst (Within 401 e) (sym (s.1 ∙ append-nil s.0)) s.2, s.3)

-- what is spelled and not too deep is read, where no duration is negative
pub read_complete : (ts : List Word) (e : Expr) → Within 401 e ts → Forward ts → depth_of e ≤ 200
    → read ts ≡ Some e
unfolding read
read_complete ts e spelled forward low =
    let found : within 401 200 (ts ++ []) ≡ Some (e, []) =
    within_complete 401 200 e ts [] spelled forward low Ends.nothing
    in
    ap whole (ap (within 401 200) (sym (append-nil ts)) ∙ found)
