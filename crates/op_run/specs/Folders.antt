-- The manifests of a folder: its files whose names end in `.json`, in the order of their names.
use Rattle.std.specs.Prelude.{ℕ, List, [], ◌∷◌, Bool, length, nat_eq, sum_by, codes, if◌then◌else◌}
use Rattle.std.specs.List.{flat_map, ends_with}
use Rattle.op_edges.specs.Folders.{Folders, names_of, file_of}
use Rattle.op_run.specs.declared.files.NamedFile.{NamedFile}
use Rattle.op_run.specs.declared.files.TheConstants.{MOST_FILE_BYTES}

-- the most bytes that the files may have together
abbrev pub most_file_bytes : ℕ
most_file_bytes = MOST_FILE_BYTES

-- the name of a manifest's file
abbrev pub is_manifest_name : List ℕ → Bool
is_manifest_name name = ends_with nat_eq name (codes ".json")

-- the file of that name, where it is a manifest
abbrev pub manifest_at : Folders → List ℕ → List ℕ → List NamedFile
manifest_at folders dir name =
    if is_manifest_name name then record { name = name; bytes = file_of folders dir name } ∷ [] else []

-- the folder's manifests
abbrev pub manifests_in : Folders → List ℕ → List NamedFile
manifests_in folders dir = flat_map (manifest_at folders dir) (names_of folders dir)

-- how many bytes files have together
abbrev pub bytes_in : List NamedFile → ℕ
bytes_in files = sum_by (λ file. length file.bytes) files
