-- What a run over a whole input comes to, step by step.
use Rattle.std.proofs.Common.{◌≡◌, ℕ, ◌+◌, ◌<◌, ◌≤◌, Bool, List, [], ◌++◌, length, Option, Result, Ok, Err, IfOk, OnOk, OnErr, IfErr, subst, arith}
use Rattle.std.specs.Io.KnownBytes.{Appends}
use Rattle.op_edges.specs.Causes.{Rose}
use Rattle.op_edges.specs.Lines.{most_bytes}
use Rattle.op_edges.specs.Streams.{AppendsPrefix}
use Rattle.op_edges.specs.Told.{Told}
use Rattle.op_edges.proofs.CountLemmas.{rose_second}
use Rattle.op_edges.proofs.StreamLemmas.{appends_twice, prefix_after}
use Rattle.op_edges.proofs.ToldLemmas.{told_so}
use Rattle.op_run.specs.declared.lines.Next.TheVariants.{Ends, Stops}
use Rattle.op_run.specs.declared.stop.Stop.{Stop}
use Rattle.op_run.specs.declared.stop.Stop.TheVariants.{Limit, Output, Memory}
use Rattle.op_run.specs.InputRuns.{InputRan, RunCauses}
use Rattle.op_run.specs.LineRuns.{NextCauses}
use Rattle.op_run.specs.Stops.{IsWriting}
use Rattle.op_run.proofs.ReportLemmas.{prefix_of_more, none_is_prefix}

-- nothing was run
pub none_ran : (text : List ℕ) (well : Bool) (told : Option (List ℕ)) (bytes : List ℕ) → InputRan (Err Memory) text well told told bytes bytes
none_ran text well told bytes = record { part = none_is_prefix told text; limit = λ is. absurd (cc) }

-- all lines were run, and then a text was written
pub then_whole : (lines text : List ℕ) (well good : Bool) (a b c : Option (List ℕ)) (bytes after : List ℕ) → InputRan (Ok good) lines well a b bytes after
    → Appends b c text → InputRan (Ok good) (lines ++ text) well a c bytes after
then_whole lines text well good a b c bytes after ran wrote =
    record { written = appends_twice a b c lines text ran.written wrote; same = ran.same; read = ran.read; whole = ran.whole }

-- all lines were run, and then a part of a text was written
pub then_part : (lines text : List ℕ) (well good : Bool) (a b c : Option (List ℕ)) (bytes after : List ℕ) → InputRan (Ok good) lines well a b bytes after
    → AppendsPrefix b c text → InputRan (Err Output) (lines ++ text) well a c bytes after
then_part lines text well good a b c bytes after ran part =
    record { part = prefix_after a b c lines text ran.written part; limit = λ is. absurd (cc) }

-- the lines stopped
pub then_none : (lines text : List ℕ) (well : Bool) (stop : Stop) (a b : Option (List ℕ)) (bytes after : List ℕ) → InputRan (Err stop) lines well a b bytes after
    → InputRan (Err stop) (lines ++ text) well a b bytes after
then_none lines text well stop a b bytes after ran = record { part = prefix_of_more a b lines text ran.part; limit = ran.limit }

-- each fact of a run by itself
module _ (text : List ℕ) (well : Bool) (taken now : Option (List ℕ)) (bytes after : List ℕ) where
  pub text_of : (r : Result Bool Stop) → InputRan r text well taken now bytes after → OnOk r (Appends taken now text)
  text_of (Ok good) ran = ran.written
  text_of (Err stop) ran = tt

  pub good_of : (r : Result Bool Stop) → InputRan r text well taken now bytes after → IfOk r (λ good. good ≡ well)
  good_of (Ok good) ran = ran.same
  good_of (Err stop) ran = tt

  pub part_of : (r : Result Bool Stop) → InputRan r text well taken now bytes after → OnErr r (AppendsPrefix taken now text)
  part_of (Ok good) ran = tt
  part_of (Err stop) ran = ran.part

  pub read_of : (r : Result Bool Stop) → InputRan r text well taken now bytes after → OnOk r (length bytes ≤ most_bytes)
  read_of (Ok good) ran = ran.read
  read_of (Err stop) ran = tt

  pub whole_of : (r : Result Bool Stop) → InputRan r text well taken now bytes after → OnOk r (after ≡ [])
  whole_of (Ok good) ran = ran.whole
  whole_of (Err stop) ran = tt

  pub limit_of : (r : Result Bool Stop) → InputRan r text well taken now bytes after → IfErr r (λ stop. stop ≡ Limit → most_bytes + length after < length bytes)
  limit_of (Ok good) ran = tt
  limit_of (Err stop) ran = ran.limit

-- the same, where the bytes are told
pub told_of : (a b : Option (List ℕ)) (r : Result Bool Stop) (text : List ℕ → List ℕ) (well : List ℕ → Bool) (taken now : Option (List ℕ)) (P : List ℕ → List ℕ → Type 0)
    → ((x y : List ℕ) → InputRan r (text x) (well x) taken now x y → P x y)
    → Told a b (λ bytes after. InputRan r (text bytes) (well bytes) taken now bytes after) → Told a b P
told_of a b r text well taken now P so told = told_so a b (λ bytes after. InputRan r (text bytes) (well bytes) taken now bytes after) P so told

-- memory was wanted, and nothing had failed
pub memory_causes : (source sink : ℕ) → RunCauses (Err Memory) source source sink sink
memory_causes source sink = record { input = λ is. absurd (cc); output = λ is. absurd (cc); later_input = omega arith; later_output = omega arith }

-- no line is left
pub end_causes : (good : Bool) (s0 s1 s2 o0 o1 o2 : ℕ) → s0 ≤ s1 → o0 ≤ o1 → NextCauses Ends s1 s2 o1 o2 → RunCauses (Ok good) s0 s2 o0 o2
end_causes good s0 s1 s2 o0 o1 o2 later_input later_output causes = record {
  input = tt;
  output = tt;
  later_input = omega (arith, later_input, causes.later_input);
  later_output = omega (arith, later_output, causes.later_output);
}

-- a line stopped
pub stop_causes : (stop : Stop) (s0 s1 s2 o0 o1 o2 : ℕ) → s0 ≤ s1 → o0 ≤ o1 → NextCauses (Stops stop) s1 s2 o1 o2 → RunCauses (Err stop) s0 s2 o0 o2
stop_causes stop s0 s1 s2 o0 o1 o2 later_input later_output causes = record {
  input = λ is. rose_second s0 s1 s2 later_input (causes.input is);
  output = λ is. rose_second o0 o1 o2 later_output (causes.output is);
  later_input = omega (arith, later_input, causes.later_input);
  later_output = omega (arith, later_output, causes.later_output);
}

-- a text was written behind it
pub then_causes : (good : Bool) (s0 s1 o0 o1 o2 : ℕ) → RunCauses (Ok good) s0 s1 o0 o1 → o1 ≤ o2 → RunCauses (Ok good) s0 s1 o0 o2
then_causes good s0 s1 o0 o1 o2 causes later =
    record { input = tt; output = tt; later_input = causes.later_input; later_output = omega (arith, causes.later_output, later) }

-- or the sink failed behind it
pub fail_causes : (good : Bool) (s0 s1 o0 o1 o2 : ℕ) → RunCauses (Ok good) s0 s1 o0 o1 → o1 ≤ o2 → Rose o1 o2 → RunCauses (Err Output) s0 s1 o0 o2
fail_causes good s0 s1 o0 o1 o2 causes later rose = record {
  input = λ is. absurd (cc);
  output = λ is. rose_second o0 o1 o2 causes.later_output rose;
  later_input = causes.later_input;
  later_output = omega (arith, causes.later_output, later);
}

-- something was written before
pub before_causes : (r : Result Bool Stop) (s0 s1 o0 o1 o2 : ℕ) → o0 ≤ o1 → RunCauses r s0 s1 o1 o2 → RunCauses r s0 s1 o0 o2
before_causes (Ok good) s0 s1 o0 o1 o2 later causes =
    record { input = tt; output = tt; later_input = causes.later_input; later_output = omega (arith, later, causes.later_output) }
before_causes (Err stop) s0 s1 o0 o1 o2 later causes = record {
  input = causes.input;
  output = λ is. rose_second o0 o1 o2 later (causes.output is);
  later_input = causes.later_input;
  later_output = omega (arith, later, causes.later_output);
}

-- the good answers of both are asked for
pub both_causes : (good joined : Bool) (s0 s1 o0 o1 : ℕ) → RunCauses (Ok good) s0 s1 o0 o1 → RunCauses (Ok joined) s0 s1 o0 o1
both_causes good joined s0 s1 o0 o1 causes = record { input = tt; output = tt; later_input = causes.later_input; later_output = causes.later_output }

-- writing stopped before the input was read
pub writing_causes : (stop : Stop) (source sink sink_now : ℕ) → IsWriting stop → (stop ≡ Output → Rose sink sink_now) → sink ≤ sink_now
    → RunCauses (Err stop) source source sink sink_now
writing_causes stop source sink sink_now writing failed later =
    record { input = λ is. absurd (subst IsWriting is writing); output = failed; later_input = omega arith; later_output = later }
