-- The events of a run: the manifests of the folder, and then the lines of the input that aren't blank.
use Rattle.std.specs.Prelude.{ℕ, List, [], ◌∷◌}
use Rattle.op_input.specs.declared.line.InputLine.{InputLine}
use Rattle.op_thin.specs.declared.item.Item.{Item}
use Rattle.op_thin.specs.Items.{IsNamed}

pub data ReadEvent : Type 0 where
  -- a file of the folder: its name, and what its bytes are
  manifest : List ℕ → Item → ReadEvent
  -- a line of the input: its number, and what it asks for
  given : ℕ → InputLine → ReadEvent
  -- a line that is too long
  long : ℕ → ReadEvent

-- a manifest's object has a well-formed namespace, and a probe's texts are thin, as of each that is read
abbrev pub HasNames : ReadEvent → Type 0
HasNames (manifest file item) = IsNamed item
HasNames (given number line) = Unit {0}
HasNames (long number) = Unit {0}

-- the same of each event
abbrev pub HaveNames : List ReadEvent → Type 0
HaveNames [] = Unit {0}
HaveNames (event ∷ events) = HasNames event × HaveNames events
