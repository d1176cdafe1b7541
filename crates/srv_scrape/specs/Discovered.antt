-- What is discovered: what the last line for a namespace said that is found in it.
use Rattle.std.specs.Prelude.{List}
use Rattle.op_base.specs.Maps.{Map}
use Rattle.srv_scrape.specs.declared.found.Found.{Found}

-- by namespace, its discovered entries in the order of its line
abbrev pub Discovered : Type 0
Discovered = Map (List Found)
