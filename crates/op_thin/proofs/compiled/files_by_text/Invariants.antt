use Rattle.std.proofs.Common.{◌≡◌, map, fold}
use Rattle.std.specs.Vec.Iter.{into_iter_items}
use Rattle.op_base.specs.Maps.{with_entry}
use Rattle.cfg_types.specs.Written.{file_text}
use Rattle.op_thin.specs.Compiled.{file_of}
use Rattle.op_thin.proofs.compiled.files_by_text.Given as goal

abbrev pub invariant-loop-rule : goal.invariant-loop-rule
invariant-loop-rule l =
    fold (λ placed file. with_entry placed (file_text file) file) l.initial.files (map file_of (into_iter_items l.initial.rule-iterator))
    ≡ fold (λ placed file. with_entry placed (file_text file) file) l.files (map file_of (into_iter_items l.rule-iterator))
