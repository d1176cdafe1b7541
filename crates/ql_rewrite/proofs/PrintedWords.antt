-- Each word that a tree is printed with is read as what it was printed for, and a text can write it.
use Rattle.std.proofs.Common.{◌≡◌, suc, ◌-◌, ◌≤◌, Bool, true, false, Some, refl, arith}
use Rattle.op_base.specs.declared.matcher.MatchOp.{MatchOp}
use Rattle.op_base.specs.declared.matcher.MatchOp.TheVariants as match
use Rattle.ql_tree.specs.ClauseWords.{aggregate_of, aggregate_word, matching_of, matching_word, side_of, side_word, grouping_of, grouping_word}
use Rattle.ql_tree.specs.Operators.{operator_of, operator_word, level_of, sign_of, sign_word}
use Rattle.ql_tree.specs.Reserved.{is_reserved}
use Rattle.ql_tree.specs.Selecting.{match_of, match_word}
use Rattle.ql_tree.specs.Words.{keyword_of}
use Rattle.ql_tree.specs.declared.tree.AggregateOp.{AggregateOp}
use Rattle.ql_tree.specs.declared.tree.AggregateOp.TheVariants as aggregate
use Rattle.ql_tree.specs.declared.tree.ArithOp.TheVariants as arithmetic
use Rattle.ql_tree.specs.declared.tree.BinaryOp.{BinaryOp}
use Rattle.ql_tree.specs.declared.tree.BinaryOp.TheVariants as binary
use Rattle.ql_rewrite.proofs.Written.{IsWritten}

-- an operator's word, and its level with the next tighter one, which its right operand may have
pub record IsOperator (op : BinaryOp) : Type 0 where
  pub read : operator_of (operator_word op) ≡ Some op
  pub writable : IsWritten (operator_word op)
  pub level : level_of op ≡ suc (level_of op - 1)
  pub loosest : level_of op ≤ 5

pub operator_is : (op : BinaryOp) → IsOperator op
unfolding operator_of level_of keyword_of is_reserved
operator_is (binary.Arith arithmetic.Add) = record { read = refl; writable = tt; level = refl; loosest = omega arith }
operator_is (binary.Arith arithmetic.Sub) = record { read = refl; writable = tt; level = refl; loosest = omega arith }
operator_is (binary.Arith arithmetic.Mul) = record { read = refl; writable = tt; level = refl; loosest = omega arith }
operator_is (binary.Arith arithmetic.Div) = record { read = refl; writable = tt; level = refl; loosest = omega arith }
operator_is (binary.Arith arithmetic.Rem) = record { read = refl; writable = tt; level = refl; loosest = omega arith }
operator_is binary.Eq = record { read = refl; writable = tt; level = refl; loosest = omega arith }
operator_is binary.Ne = record { read = refl; writable = tt; level = refl; loosest = omega arith }
operator_is binary.Gt = record { read = refl; writable = tt; level = refl; loosest = omega arith }
operator_is binary.Lt = record { read = refl; writable = tt; level = refl; loosest = omega arith }
operator_is binary.Ge = record { read = refl; writable = tt; level = refl; loosest = omega arith }
operator_is binary.Le = record { read = refl; writable = tt; level = refl; loosest = omega arith }
operator_is binary.And = record { read = refl; writable = (refl, refl); level = refl; loosest = omega arith }
operator_is binary.Unless = record { read = refl; writable = (refl, refl); level = refl; loosest = omega arith }
operator_is binary.Or = record { read = refl; writable = (refl, refl); level = refl; loosest = omega arith }

pub aggregate_is : (op : AggregateOp) → (aggregate_of (aggregate_word op) ≡ Some op) × IsWritten (aggregate_word op)
unfolding aggregate_of keyword_of is_reserved
aggregate_is aggregate.Sum = (refl, (refl, refl))
aggregate_is aggregate.Min = (refl, (refl, refl))
aggregate_is aggregate.Max = (refl, (refl, refl))
aggregate_is aggregate.Avg = (refl, (refl, refl))
aggregate_is aggregate.Group = (refl, (refl, refl))
aggregate_is aggregate.Count = (refl, (refl, refl))
aggregate_is aggregate.CountValues = (refl, (refl, refl))
aggregate_is aggregate.TopK = (refl, (refl, refl))
aggregate_is aggregate.BottomK = (refl, (refl, refl))

pub match_is : (op : MatchOp) → (match_of (match_word op) ≡ Some op) × IsWritten (match_word op)
unfolding match_of
match_is match.Eq = (refl, tt)
match_is match.Ne = (refl, tt)
match_is match.Re = (refl, tt)
match_is match.Nr = (refl, tt)

pub sign_is : (minus : Bool) → (sign_of (sign_word minus) ≡ Some minus) × IsWritten (sign_word minus)
unfolding sign_of
sign_is true = (refl, tt)
sign_is false = (refl, tt)

pub matching_is : (on : Bool) → (matching_of (matching_word on) ≡ Some on) × IsWritten (matching_word on)
unfolding matching_of matching_word keyword_of is_reserved
matching_is true = (refl, (refl, refl))
matching_is false = (refl, (refl, refl))

pub side_is : (left : Bool) → (side_of (side_word left) ≡ Some left) × IsWritten (side_word left)
unfolding side_of side_word keyword_of is_reserved
side_is true = (refl, (refl, refl))
side_is false = (refl, (refl, refl))

pub grouping_is : (by : Bool) → (grouping_of (grouping_word by) ≡ Some by) × IsWritten (grouping_word by)
unfolding grouping_of grouping_word keyword_of is_reserved
grouping_is true = (refl, (refl, refl))
grouping_is false = (refl, (refl, refl))
