-- Folders of named files: what a listing and a reading of a file give.
use Rattle.std.specs.Prelude.{ℕ, ◌≡◌, ◌≤◌, List, [], length, Bool, true, false, Option, Result, Ok, Err, IfSome, IfOk, nat_lt, unwrap_or, is_some, if◌then◌else◌}
use Rattle.std.specs.Ordering.{nat_cmp}
use Rattle.std.specs.Cmp.Lexicographic.{slice_cmp}
use Rattle.std.specs.List.Sorted.{IsStrictlySortedBy}
use Rattle.op_base.specs.Maps.{Map, keys_of, value_at, with_entry, with_inner}
use Rattle.op_edges.specs.declared.folder.FileRead.{FileRead}
use Rattle.op_edges.specs.declared.folder.FolderError.{FolderError}
use Rattle.op_edges.specs.declared.folder.FolderError.TheVariants.{Failed, NoMemory}
use Rattle.op_edges.specs.declared.folder.FileRead.TheVariants.{Whole, Longer}

-- the files of one folder: their bytes by their names
abbrev pub Files : Type 0
Files = Map (List ℕ)

-- folders by their names
abbrev pub Folders : Type 0
Folders = Map Files

-- the files of a folder; a folder that isn't there has none
abbrev pub files_of : Folders → List ℕ → Files
files_of folders dir = unwrap_or (value_at folders dir) []

-- the names of a folder's files, in order
abbrev pub names_of : Folders → List ℕ → List (List ℕ)
names_of folders dir = keys_of (files_of folders dir)

-- a file's bytes; a file that isn't there is empty
abbrev pub file_of : Folders → List ℕ → List ℕ → List ℕ
file_of folders dir name = unwrap_or (value_at (files_of folders dir) name) []

-- with a folder of that name, empty where there was none
abbrev pub with_folder : Folders → List ℕ → Folders
with_folder folders dir = if is_some (value_at folders dir) then folders else with_entry folders dir []

-- with that one file, in a folder that is added where there was none
abbrev pub with_file : Folders → List ℕ → List ℕ → List ℕ → Folders
with_file folders dir name bytes = with_inner folders dir name bytes

-- names are distinct and in the order of their bytes
abbrev pub AreInOrder : List (List ℕ) → Type 0
AreInOrder names = IsStrictlySortedBy (slice_cmp nat_cmp) names

-- a listing gives the folder's names
abbrev pub ListsNames : {E : Type 0} → Option Folders → List ℕ → Result (List (List ℕ)) E → Type 0
ListsNames content dir result =
    IfSome content (λ folders. IfOk result (λ names. (names ≡ names_of folders dir) × AreInOrder names))

-- what is read of a file where there is room for some bytes
abbrev pub read_within : ℕ → List ℕ → FileRead
read_within room bytes = if nat_lt room (length bytes) then Longer else Whole bytes

-- what was read has room
abbrev pub FitsIn : ℕ → FileRead → Type 0
FitsIn room (Whole bytes) = length bytes ≤ room
FitsIn room Longer = Unit {0}

-- a reading gives the file
abbrev pub ReadsFile : {E : Type 0} → Option Folders → List ℕ → List ℕ → ℕ → Result FileRead E → Type 0
ReadsFile content dir name room result =
    IfSome content (λ folders. IfOk result (λ read. read ≡ read_within room (file_of folders dir name)))

-- the answer is a failure
abbrev pub is_failed : {T : Type 0} → Result T FolderError → Bool
is_failed (Ok answer) = false
is_failed (Err Failed) = true
is_failed (Err NoMemory) = false
