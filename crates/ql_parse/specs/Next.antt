-- What follows an item of a list with commas.
use Rattle.std.specs.Prelude.{◌≡◌, List, Option, Some, None}
use Rattle.ql_tree.specs.declared.word.Word.{Word}
use Rattle.ql_tree.specs.declared.word.Word.TheVariants as word
use Rattle.ql_parse.specs.declared.fronts.Next.{Next}
use Rattle.ql_parse.specs.declared.fronts.Next.TheVariants.{End, More, Broken}
use Rattle.ql_parse.specs.FrontWords.{beyond}

-- by the words behind the one that closes the list, if it stands in front: these, or what is behind
-- a comma, or neither
abbrev pub IsNext : Option (List Word) → List Word → Next → Type 0
IsNext closed ts (End rest) = closed ≡ Some rest.now
IsNext closed ts (More rest) = (closed ≡ None) × (beyond word.Comma ts ≡ Some rest.now)
IsNext closed ts Broken = (closed ≡ None) × (beyond word.Comma ts ≡ None)
