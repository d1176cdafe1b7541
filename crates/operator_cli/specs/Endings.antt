-- What a run of the program has written when it ends, and what its status says.
use Rattle.std.specs.Prelude.{◌≡◌, ℕ, ◌≤◌, ◌++◌, Bool, false, List, length, take, Option, IfSome, ◌⊎◌}
use Rattle.std.specs.Option.{option_map_or}
use Rattle.std.specs.Io.KnownBytes.{Appends}
use Rattle.op_edges.specs.Folders.{Folders}
use Rattle.op_edges.specs.Told.{Told}
use Rattle.op_run.specs.declared.files.NamedFile.{NamedFile}
use Rattle.op_run.specs.Folders.{manifests_in}
use Rattle.operator_cli.specs.Readings.{Reading, Compile, Run, reading_of, folder_of, reads_input}

-- P of the manifests, where the words have a reading and the folder tells its content
abbrev pub WhereTold : List (List ℕ) → Option Folders → (List NamedFile → Type 0) → Type 0
WhereTold words content P =
    IfSome (reading_of words) (λ reading. IfSome content (λ folders. P (manifests_in folders (folder_of reading))))

-- P of the folder's name, where it is to be compiled
abbrev pub IfCompile : Reading → (List ℕ → Type 0) → Type 0
IfCompile (Compile dir) P = P dir
IfCompile (Run dir) P = Unit {0}

-- P of the folder's name, where it is to be run
abbrev pub IfRun : Reading → (List ℕ → Type 0) → Type 0
IfRun (Compile dir) P = Unit {0}
IfRun (Run dir) P = P dir

-- P of the manifests, where the words ask to compile and the folder tells its content
abbrev pub WhereCompiled : List (List ℕ) → Option Folders → (List NamedFile → Type 0) → Type 0
WhereCompiled words content P =
    IfSome (reading_of words) (λ reading. IfCompile reading (λ dir. IfSome content (λ folders. P (manifests_in folders dir))))

-- P of the manifests, of the input and of what is left of it, where the words ask to run and both tell
-- their content
abbrev pub WhereRun : List (List ℕ) → Option Folders → Option (List ℕ) → Option (List ℕ) → (List NamedFile → List ℕ → List ℕ → Type 0) → Type 0
WhereRun words content before after P = IfSome (reading_of words) (λ reading. IfRun reading (λ dir.
    IfSome content (λ folders. Told before after (λ bytes left. P (manifests_in folders dir) bytes left))))

-- a part of the bytes was taken, and then the text or, where the sink failed, a part of it
pub record StopsWith (before now : Option (List ℕ)) (bytes text : List ℕ) (Failed : Type 0) : Type 0 where
  pub written : ℕ
  pub shown : ℕ
  pub written_within : written ≤ length bytes
  pub shown_within : shown ≤ length text
  pub took : Appends before now (take written bytes ++ take shown text)
  pub whole : (shown ≡ length text) ⊎ Failed

-- nothing was written to the other sink, or all of the bytes had been taken before, and then a part
-- of the text
abbrev pub InOrder : Type 0 → Option (List ℕ) → Option (List ℕ) → List ℕ → List ℕ → Type 0
InOrder Untouched before now bytes text =
    Untouched ⊎ ((shown : ℕ) × Appends before now (bytes ++ take shown text))

-- the words ask for a run over the input
abbrev pub asks_input : List (List ℕ) → Bool
asks_input words = option_map_or reads_input (reading_of words) false
