-- What the words after the program's name ask for.
use Rattle.std.specs.Prelude.{ℕ, List, [], ◌∷◌, Bool, true, false, Option, Some, None, ◌==◌, codes, if◌then◌else◌}
use Rattle.std.specs.Cmp.Lexicographic.{pointwise}
use Rattle.operator_cli.specs.declared.words.Reading.{Reading as BorrowedReading}
use Rattle.operator_cli.specs.declared.words.Reading.TheVariants as borrowed

pub data Reading : Type 0 where
  -- compile the folder
  Compile : List ℕ → Reading
  -- compile the folder and run what was compiled over the input
  Run : List ℕ → Reading

-- the word begins with `-`
abbrev pub is_option : List ℕ → Bool
is_option [] = false
is_option (b ∷ bs) = b == 45

-- COMMAND DIR, where DIR doesn't begin with `-`
abbrev pub reading_of_two : List ℕ → List ℕ → Option Reading
reading_of_two command dir =
    if is_option dir then None else
    if pointwise ◌==◌ command (codes "compile") then Some (Compile dir) else
    if pointwise ◌==◌ command (codes "run") then Some (Run dir) else None

-- no more and no fewer than two words have a reading, and not all two
abbrev pub reading_of : List (List ℕ) → Option Reading
reading_of [] = None
reading_of (command ∷ []) = None
reading_of (command ∷ dir ∷ []) = reading_of_two command dir
reading_of (command ∷ dir ∷ more ∷ words) = None

-- the folder that it names
abbrev pub folder_of : Reading → List ℕ
folder_of (Compile dir) = dir
folder_of (Run dir) = dir

-- it reads the input
abbrev pub reads_input : Reading → Bool
reads_input (Compile dir) = false
reads_input (Run dir) = true

-- the reading that borrowed words show
abbrev pub shown : BorrowedReading → Reading
shown (borrowed.Compile dir) = Compile dir.now
shown (borrowed.Run dir) = Run dir.now
