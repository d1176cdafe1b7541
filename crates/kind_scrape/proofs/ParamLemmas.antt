-- Parameters that are read one after the other.
use Rattle.std.proofs.Common.{◌∙◌, ap, sym, append-nil, append_assoc, get_or}
use Rattle.std.proofs.lemmas.List.{drop_all}
use Rattle.std.specs.Prelude.{ℕ, ◌+◌, ◌<◌, ◌≤◌, List, [], ◌++◌, ◌≡◌, length, drop}
use Rattle.op_manifest.specs.declared.tree.Tree.{Tree}
use Rattle.op_manifest.specs.Trees.{data_of, members_in}
use Rattle.op_manifest.proofs.ItemLemmas.{left_of}
use Rattle.kind_scrape.specs.declared.params.Parameter.{Parameter}
use Rattle.kind_scrape.specs.Params.{param_of, params_of}

-- the parameters so far and those that are left, with one more entry read
pub params_step : (fields : List (List ℕ × Tree)) (i : ℕ) (one : List ℕ × Tree) (name : List ℕ) (before after : List Parameter)
    → i < length fields → one ≡ get_or fields i one → name ≡ one.0 → after ≡ before ++ param_of name (data_of one.1)
    → before ++ params_of (members_in (drop i fields)) ≡ after ++ params_of (members_in (drop (i + 1) fields))
params_step fields i one name before after within is named read =
    let rest = params_of (members_in (drop (i + 1) fields)) in
    ap (λ left. before ++ params_of (members_in left)) (left_of fields i one within is)
    ∙ sym (append_assoc before (param_of one.0 (data_of one.1)) rest)
    ∙ ap (λ all. all ++ rest) (ap (λ n. before ++ param_of n (data_of one.1)) (sym named) ∙ sym read)

-- none is left at the end
pub params_end : (all : List Parameter) (fields : List (List ℕ × Tree)) (i : ℕ) → length fields ≤ i
    → all ++ params_of (members_in (drop i fields)) ≡ all
params_end all fields i end = ap (λ left. all ++ params_of (members_in left)) (drop_all i fields end) ∙ append-nil all

-- no parameter more
pub no_more : (all : List Parameter) → all ++ [] ≡ all
no_more all = append-nil all
