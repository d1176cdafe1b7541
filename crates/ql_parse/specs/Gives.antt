-- What the readers of the code answer: what the reading of words gives, unless memory is refused.
use Rattle.std.specs.Prelude.{◌≡◌, Option, Some, None, Result, Ok, Err}
use Rattle.ql_parse.specs.declared.fault.ParseFault.{ParseFault}
use Rattle.ql_parse.specs.declared.fault.ParseFault.TheVariants.{NotExpr, NoMemory}

-- nothing is read, or memory was refused
abbrev pub Lacks : {Y : Type 0} → ParseFault → Option Y → Type 0
Lacks NotExpr read = read ≡ None
Lacks NoMemory read = Unit {0}

-- what the function returned, seen by view, is what reading gives
abbrev pub Gives : {X Y : Type 0} → (X → Y) → Result X ParseFault → Option Y → Type 0
Gives view (Ok x) read = read ≡ Some (view x)
Gives view (Err e) read = Lacks e read
