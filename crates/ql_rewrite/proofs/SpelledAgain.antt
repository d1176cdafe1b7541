-- A tree that some text spells is spelled by its printed text, and so is what enforcement makes of it.
use Rattle.std.proofs.Common.{◌≡◌, ℕ, ◌≤◌, true, false, List, map, bytes_eq, sym, subst, arith}
use Rattle.op_base.specs.Names.{is_label_name}
use Rattle.op_base.specs.declared.label_names.TheConstants.{METRIC_NAME}
use Rattle.ql_tree.specs.Children.{depth_of}
use Rattle.ql_tree.specs.Enforced.{enforced}
use Rattle.ql_tree.specs.Printed.{printed, pieces_of}
use Rattle.ql_tree.specs.Spells.{Within, Spells}
use Rattle.ql_tree.specs.Words.{word_in}
use Rattle.ql_tree.specs.declared.tree.Expr.{Expr}
use Rattle.ql_tree.proofs.Inherited.{Inherited, spelled_has}
use Rattle.ql_rewrite.proofs.EnforcedLemmas.{enforced_inherits, enforced_as_deep}
use Rattle.ql_rewrite.proofs.PieceLemmas.{pieces_are_tokens}
use Rattle.ql_rewrite.proofs.PrintedNodes.{IsPrinted, inside, printed_spells}
use Rattle.ql_rewrite.proofs.PrintedWritten.{IsPrintedWritten, printed_written}
use Rattle.ql_rewrite.proofs.SafePieces.{IsSafePrinted, printed_safe, safe_alone}
use Rattle.ql_rewrite.proofs.Written.{IsWritten}
use Rattle.ql_rewrite.proofs.WrittenTokens.{tokens_written}

-- what is inherited, every tree has that some text spells
inherited_by : (P : Expr → Type 0) → Inherited IsWritten P → (e : Expr) (text : List ℕ)
    → Spells e text → P e
inherited_by P inherited e text spells =
    spelled_has IsWritten P inherited 401 e (map (word_in text) spells.tokens) spells.within
    (tokens_written text spells.tokens spells.are_tokens)

printed_spelled : (e : Expr) → IsPrinted e → IsPrintedWritten e → IsSafePrinted e
    → depth_of e ≤ 200 → Spells e (printed e)
unfolding printed
printed_spelled e is written safe shallow =
    let cut = pieces_are_tokens (pieces_of e).1 written (safe_alone e safe) in
    record {
      tokens = cut.0;
      are_tokens = cut.1.0;
      within = subst (λ words. Within 401 e words) (sym cut.1.1)
          (inside 401 (depth_of e) e (pieces_of e) is (omega arith));
      depth = shallow;
    }

-- the printed text spells the tree
pub printed_again : (e : Expr) (text : List ℕ) → Spells e text → Spells e (printed e)
printed_again e text spells =
    printed_spelled e (inherited_by IsPrinted (printed_spells IsWritten) e text spells)
    (inherited_by IsPrintedWritten printed_written e text spells)
    (inherited_by IsSafePrinted (printed_safe IsWritten) e text spells) spells.depth

-- the printed text of the enforced tree spells that
pub enforced_again : (name value : List ℕ) (e : Expr) (text : List ℕ) → is_label_name name ≡ true
    → bytes_eq name METRIC_NAME.now ≡ false
    → Spells e text → (again : List ℕ) × Spells (enforced name value e) again
enforced_again name value e text label other spells = (
  printed (enforced name value e),
  printed_spelled (enforced name value e) (kept IsPrinted (printed_spells IsWritten))
      (kept IsPrintedWritten printed_written)
      (kept IsSafePrinted (printed_safe IsWritten))
      (subst (λ n. n ≤ 200)
      (sym (inherited_by _ (enforced_as_deep name value IsWritten) e text spells)) spells.depth),
)
  where
    kept : (P : Expr → Type 0) → Inherited IsWritten P → P (enforced name value e)
    kept P inherited = inherited_by (λ f. P (enforced name value f))
        (enforced_inherits name value IsWritten P label other tt inherited) e text spells
