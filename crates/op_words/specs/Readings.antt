-- What the words after the program's name ask for. Options have GNU's long names and may stand behind the folder too;
-- as in the utility syntax guidelines of POSIX, `--` ends them, and `-` alone is none.
use Rattle.std.specs.Prelude.{ℕ, List, [], ◌∷◌, Bool, true, false, ◌==◌, ◌||◌, take, drop, length, map, Option, Some, None, is_some, option_map, option_and_then, bytes_eq, codes, if◌then◌else◌}
use Rattle.op_words.specs.declared.reading.Part.{Part}
use Rattle.op_words.specs.declared.reading.Part.TheVariants.{Alertmanager, Prometheus, Rules}
use Rattle.op_words.specs.declared.reading.Given.{Given}
use Rattle.op_words.specs.declared.reading.Reading.{Reading}
use Rattle.op_words.specs.declared.reading.Reading.TheVariants.{Compile, Apply, Run}

-- the part that has this name
abbrev pub part_named : List ℕ → Option Part
part_named name =
    if bytes_eq name (codes "alertmanager") then Some Alertmanager else
    if bytes_eq name (codes "prometheus") then Some Prometheus else
    if bytes_eq name (codes "rules") then Some Rules else None

-- the text begins with the prefix
abbrev pub begins : List ℕ → List ℕ → Bool
begins prefix text = bytes_eq (take (length prefix) text) prefix

-- the word begins with `-` (45), and isn't `-` alone
abbrev pub is_option : List ℕ → Bool
is_option [] = false
is_option (b ∷ []) = false
is_option (b ∷ c ∷ bs) = b == 45

-- one thing that the words after the command say
pub data Item : Type 0 where
  -- the folder
  Dir : List ℕ → Item
  -- `--part PART` or `--part=PART`
  InPart : Part → Item
  -- `--each`
  Each : Item

-- the items with this one in front, where there are both
abbrev pub onto : Option Item → Option (List Item) → Option (List Item)
onto None items = None
onto (Some item) None = None
onto (Some item) (Some items) = Some (item ∷ items)

unfoldable mutual
  -- the items that the words say, in their order, or none where a word is an option that there isn't, and where
  -- what follows `--part` is no part; each word after `--` is a folder
  pub items_in : List (List ℕ) → Option (List Item)
  items_in [] = Some []
  items_in (word ∷ words) =
      if bytes_eq word (codes "--") then Some (map Dir words) else
      if bytes_eq word (codes "--part") then items_after_part words else
      if begins (codes "--part=") word then onto (option_map InPart (part_named (drop 7 word))) (items_in words) else
      if bytes_eq word (codes "--each") then onto (Some Each) (items_in words) else
      if is_option word then None else
      onto (Some (Dir word)) (items_in words)

  -- the same after the word `--part`: the next word names the part, whatever it begins with
  pub items_after_part : List (List ℕ) → Option (List Item)
  items_after_part [] = None
  items_after_part (word ∷ words) = onto (option_map InPart (part_named word)) (items_in words)

-- the folders among the items
abbrev pub dirs_of : List Item → List (List ℕ)
dirs_of [] = []
dirs_of (Dir dir ∷ items) = dir ∷ dirs_of items
dirs_of (InPart part ∷ items) = dirs_of items
dirs_of (Each ∷ items) = dirs_of items

-- the parts among the items
abbrev pub parts_of : List Item → List Part
parts_of [] = []
parts_of (Dir dir ∷ items) = parts_of items
parts_of (InPart part ∷ items) = part ∷ parts_of items
parts_of (Each ∷ items) = parts_of items

-- true for each `--each` among the items
abbrev pub eaches_of : List Item → List Bool
eaches_of [] = []
eaches_of (Dir dir ∷ items) = eaches_of items
eaches_of (InPart part ∷ items) = eaches_of items
eaches_of (Each ∷ items) = true ∷ eaches_of items

-- what a list of at most one element has; none where it has more
abbrev pub at_most_one : {X : Type 0} → List X → Option (Option X)
at_most_one [] = Some None
at_most_one (x ∷ []) = Some (Some x)
at_most_one (x ∷ y ∷ xs) = None

-- a folder, which must be there, a part and `--each`, which may be
abbrev pub given_from : Option (Option (List ℕ)) → Option (Option Part) → Option (Option Bool) → Option Given
given_from (Some (Some dir)) (Some part) (Some each) = Some (record { dir = dir; part = part; each = is_some each })
given_from _ _ _ = None

-- exactly one folder, at most one part and at most one `--each`
abbrev pub given_of : List Item → Option Given
given_of items = given_from (at_most_one (dirs_of items)) (at_most_one (parts_of items)) (at_most_one (eaches_of items))

-- what the words after the command give it
abbrev pub given_in : List (List ℕ) → Option Given
given_in words = option_and_then given_of (items_in words)

-- `compile DIR [--part PART]`
abbrev pub compiling : Given → Option Reading
compiling given = if given.each then None else Some (Compile given.dir given.part)

-- `apply DIR [--each] [--part PART]`
abbrev pub applying : Given → Reading
applying given = Apply given.dir given.part given.each

-- `run DIR`
abbrev pub running : Given → Option Reading
running given = if given.each || is_some given.part then None else Some (Run given.dir)

-- what the first word makes of it: none where it isn't exactly a command, or the command hasn't what is given
abbrev pub reading_by : List ℕ → Given → Option Reading
reading_by command given =
    if bytes_eq command (codes "compile") then compiling given else
    if bytes_eq command (codes "apply") then Some (applying given) else
    if bytes_eq command (codes "run") then running given else None

-- what a command and the words after it ask for
abbrev pub reading_after : List ℕ → List (List ℕ) → Option Reading
reading_after command words = option_and_then (reading_by command) (given_in words)

-- what the words ask for
abbrev pub reading_of : List (List ℕ) → Option Reading
reading_of [] = None
reading_of (command ∷ words) = reading_after command words
