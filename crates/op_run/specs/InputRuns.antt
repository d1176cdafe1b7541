-- What a run over a whole input comes to, where its bytes are told, and why it stops.
use Rattle.std.specs.Prelude.{◌≡◌, ℕ, ◌+◌, ◌<◌, ◌≤◌, Bool, List, [], length, Option, Result, Ok, Err, IfErr}
use Rattle.std.specs.Io.KnownBytes.{Appends}
use Rattle.op_edges.specs.Causes.{Rose}
use Rattle.op_edges.specs.Lines.{most_bytes}
use Rattle.op_edges.specs.Streams.{AppendsPrefix}
use Rattle.op_run.specs.declared.stop.Stop.{Stop}
use Rattle.op_run.specs.declared.stop.Stop.TheVariants.{Input, Limit, Output}

-- the run came to its end: all of its text was written, and all of the input was read
pub record RanWhole (text : List ℕ) (well good : Bool) (taken now : Option (List ℕ)) (bytes after : List ℕ) : Type 0 where
  pub written : Appends taken now text
  pub same : good ≡ well
  pub read : length bytes ≤ most_bytes
  pub whole : after ≡ []

-- it stopped: a part of its text was written
pub record RanPart (text : List ℕ) (stop : Stop) (taken now : Option (List ℕ)) (bytes after : List ℕ) : Type 0 where
  pub part : AppendsPrefix taken now text
  pub limit : stop ≡ Limit → most_bytes + length after < length bytes

-- what the run came to, of its text and whether it has good answers alone
abbrev pub InputRan : Result Bool Stop → List ℕ → Bool → Option (List ℕ) → Option (List ℕ) → List ℕ → List ℕ → Type 0
InputRan (Ok good) text well taken now bytes after = RanWhole text well good taken now bytes after
InputRan (Err stop) text well taken now bytes after = RanPart text stop taken now bytes after

-- the fault counts of the source and of the sink, before the run and now: what stopped it, failed
pub record RunCauses (result : Result Bool Stop) (source source_now sink sink_now : ℕ) : Type 0 where
  pub input : IfErr result (λ stop. stop ≡ Input → Rose source source_now)
  pub output : IfErr result (λ stop. stop ≡ Output → Rose sink sink_now)
  pub later_input : source ≤ source_now
  pub later_output : sink ≤ sink_now
