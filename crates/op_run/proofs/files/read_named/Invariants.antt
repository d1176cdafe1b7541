use Rattle.std.proofs.Common.{◌≡◌, ◌+◌, ◌≤◌}
use Rattle.op_run.specs.Folders.{most_file_bytes, bytes_in}
use Rattle.op_run.proofs.FolderLemmas.{ReadSoFar}
use Rattle.op_run.proofs.files.read_named.Given as goal

abbrev pub invariant-loop-name : goal.invariant-loop-name
invariant-loop-name g l = record {
  content : g.F.Folder.content l.folder ≡ g.F.Folder.content l.initial.folder;
  files : ReadSoFar (g.F.Folder.content l.initial.folder) l.dir l.files l.names l.name-index;
  room : l.room + bytes_in l.files ≡ most_file_bytes;
  later : g.F.Folder.faults l.initial.folder ≤ g.F.Folder.faults l.folder;
}
