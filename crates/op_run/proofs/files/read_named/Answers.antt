use Rattle.std.proofs.Common.{◌≡◌, ◌+◌, ◌∙◌, refl, sym, ap, subst, arith}
use Rattle.op_edges.proofs.CountLemmas.{rose_second}
use Rattle.op_run.specs.declared.files.Trouble.TheVariants.{Limit}
use Rattle.op_run.specs.Folders.{most_file_bytes, bytes_in}
use Rattle.op_run.proofs.FolderLemmas.{ReadSoFar, none_read, one_read, all_read, too_many}
use Rattle.op_run.proofs.files.read_named.Goals as goal

pub loop-name-init : goal.loop-name-init
loop-name-init g c = record {
  content = refl;
  files = subst (λ files. ReadSoFar (g.F.Folder.content c.args.folder.now) c.args.dir.now files c.args.names.now 0) (sym c.new-files.ensures)
      (none_read (g.F.Folder.content c.args.folder.now) c.args.dir.now c.args.names.now);
  room = ap (λ files. most_file_bytes + bytes_in files) c.new-files.ensures;
  later = omega arith;
}

pub loop-name-preserved : goal.loop-name-preserved
loop-name-preserved g c = record {
  content = c.in-Ok.ensures.content ∙ c.loop-name.invariant.content;
  files = one_read _ _ c.args.dir.now c.loop-name.files c.read_next.new.files c.args.names.now c.loop-name.name-index c.name-item.result
      c.loop-name.invariant.content c.loop-name-test.true c.name-item.is c.loop-name.invariant.files c.in-Ok.ensures.files;
  room = c.in-Ok.ensures.room ∙ c.loop-name.invariant.room;
  later = omega (arith, c.loop-name.invariant.later, c.in-Ok.ensures.later);
}

pub returns-in-Err-clause-limit : goal.returns-in-Err-clause-limit
returns-in-Err-clause-limit g c = too_many _ _ c.args.dir.now c.loop-name.files c.args.names.now c.loop-name.name-index c.name-item.result c.loop-name.room most_file_bytes
    (c.in-Err.trouble ≡ Limit) c.loop-name.invariant.content c.loop-name-test.true c.name-item.is c.loop-name.invariant.room c.loop-name.invariant.files c.in-Err.ensures.limit

pub returns-in-Err-clause-failed : goal.returns-in-Err-clause-failed
returns-in-Err-clause-failed g c = λ failed. rose_second _ _ _ c.loop-name.invariant.later (c.in-Err.ensures.failed failed)

pub returns-clause-files : goal.returns-clause-files
returns-clause-files g c = all_read _ c.args.dir.now c.loop-name.files c.args.names.now c.loop-name.name-index c.loop-name-test.false c.loop-name.invariant.files
