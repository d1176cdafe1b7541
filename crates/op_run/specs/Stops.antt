-- Why a run ends before its end.
use Rattle.op_run.specs.declared.stop.Stop.{Stop}
use Rattle.op_run.specs.declared.stop.Stop.TheVariants.{Input, Limit, Output, Memory}

-- what writing stops for: the sink, or memory
abbrev pub IsWriting : Stop → Type 0
IsWriting Input = ⊥
IsWriting Limit = ⊥
IsWriting Output = Unit {0}
IsWriting Memory = Unit {0}
