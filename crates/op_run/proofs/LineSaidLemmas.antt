-- One more line of an input: what it came to, by what reading and saying it came to.
use Rattle.std.proofs.Common.{◌≡◌, ℕ, ◌+◌, ◌^◌, ◌<◌, ◌≤◌, Bool, true, List, [], ◌∷◌, ◌++◌, length, Option, Result, Ok, Err, IfOk, OnOk, IfErr, OnErr, refl, sym, ap, subst, ◌∙◌, arith}
use Rattle.std.specs.Io.KnownBytes.{Appends}
use Rattle.op_edges.specs.Causes.{Rose}
use Rattle.op_edges.specs.declared.lines.Line.{Line}
use Rattle.op_edges.specs.declared.lines.Line.TheVariants.{End}
use Rattle.op_edges.specs.Lines.{Reading, IsWithin, most_bytes, shown_lines}
use Rattle.op_edges.specs.Streams.{AppendsPrefix}
use Rattle.op_report.specs.ReadBack.{report_bytes}
use Rattle.srv_run.specs.Served.{Serving}
use Rattle.op_run.specs.declared.lines.Next.{Next}
use Rattle.op_run.specs.declared.lines.Next.TheVariants.{Ends, Stops}
use Rattle.op_run.specs.declared.stop.Stop.{Stop}
use Rattle.op_run.specs.declared.stop.Stop.TheVariants.{Input, Limit, Output}
use Rattle.op_run.specs.LineRuns.{IfMore, LineRan, NextCauses, next_of_result}
use Rattle.op_run.specs.Lines.{said_by, served_by, all_said}
use Rattle.op_run.specs.Stops.{IsWriting}
use Rattle.op_run.specs.WellAnswered.{all_well}
use Rattle.op_run.proofs.ReportLemmas.{bytes-append, prefix_of_more, none_is_prefix}

-- what holds anyhow, holds of a result
pub on_ok : {A E : Type 0} (r : Result A E) (P : Type 0) → P → OnOk r P
on_ok (Ok a) P p = p
on_ok (Err e) P p = tt

-- a line was read, and what it says was written, or a part of it
pub line_ran : (server next : Serving) (reader read : Reading) (line : Line) (number : ℕ) (taken now : Option (List ℕ)) (before after : List ℕ) (r : Result Bool Stop) (n : Next)
    → n ≡ next_of_result r → number ≡ read.line → read.line ≡ reader.line + 1
    → shown_lines (reader.held ++ before) ≡ line ∷ shown_lines (read.held ++ after) → read.came + length after ≡ reader.came + length before
    → OnOk r (Appends taken now (report_bytes (said_by server.config server.served number line)))
    → IfOk r (λ good. good ≡ all_well (said_by server.config server.served number line))
    → OnOk r (next.served ≡ served_by server.config server.served line)
    → OnErr r (AppendsPrefix taken now (report_bytes (said_by server.config server.served number line))) → IfErr r IsWriting
    → LineRan n server next reader read taken now before after
line_ran server next reader read line number taken now before after (Ok well) n is numbered counted first sum written good served part kinds =
    subst (λ (m : Next). LineRan m server next reader read taken now before after) (sym is) (
      record {
        line = line;
        first = first;
        written = subst (λ k. Appends taken now (report_bytes (said_by server.config server.served k line))) (numbered ∙ counted) written;
        after = served;
        counted = counted;
        good = subst (λ k. well ≡ all_well (said_by server.config server.served k line)) (numbered ∙ counted) good;
      },
      sum,
    )
line_ran server next reader read line number taken now before after (Err stop) n is numbered counted first sum written good served part kinds =
    let rest = all_said server.config (served_by server.config server.served line) (reader.line + 1) (shown_lines (read.held ++ after)) in
    subst (λ (m : Next). LineRan m server next reader read taken now before after) (sym is)
    (record {
      part = subst (AppendsPrefix taken now)
          (sym (ap (λ lines. report_bytes (all_said server.config server.served reader.line lines)) first
          ∙ bytes-append (said_by server.config server.served (reader.line + 1) line) rest))
          (prefix_of_more taken now (report_bytes (said_by server.config server.served (reader.line + 1) line)) (report_bytes rest)
          (subst (λ k. AppendsPrefix taken now (report_bytes (said_by server.config server.served k line))) (numbered ∙ counted) part));
      limit = λ is_limit. absurd (subst IsWriting is_limit kinds);
    })

-- no line was to come
pub line_ends : (server : Serving) (reader read : Reading) (line : Line) (taken : Option (List ℕ)) (before after : List ℕ)
    → (reader.held ++ before ≡ []) × (read.held ++ after ≡ []) → read.came + length after ≡ reader.came + length before → line ≡ End → IsWithin line read
    → LineRan Ends server server reader read taken taken before after
line_ends server reader read line taken before after (none, behind) sum is within =
    (record { none = none; behind = behind; kept = refl; within = within (λ e. absurd (cc)) (λ e. absurd (cc)) }, sum)

-- nothing was written
pub line_stops : (server : Serving) (reader read : Reading) (taken : Option (List ℕ)) (before after : List ℕ) (stop : Stop)
    → (stop ≡ Limit → most_bytes + length after < reader.came + length before) → LineRan (Stops stop) server server reader read taken taken before after
line_stops server reader read taken before after stop limit =
    record { part = none_is_prefix taken (report_bytes (all_said server.config server.served reader.line (shown_lines (reader.held ++ before)))); limit = limit }

-- the reading goes on, and the configuration is kept
pub line_going : (server next : Serving) (read : Reading) (r : Result Bool Stop) (n : Next) → n ≡ next_of_result r → read.going ≡ true → OnOk r (next.config ≡ server.config)
    → IfMore n (λ well. (read.going ≡ true) × (next.config ≡ server.config))
line_going server next read (Ok well) n is going config =
    subst (λ (m : Next). IfMore m (λ well. (read.going ≡ true) × (next.config ≡ server.config))) (sym is) (going, config)
line_going server next read (Err stop) n is going config =
    subst (λ (m : Next). IfMore m (λ well. (read.going ≡ true) × (next.config ≡ server.config))) (sym is) tt

-- one line more was given, and their count has 64 bits
pub line_counted : (reader read : Reading) (number : ℕ) (r : Result Bool Stop) (n : Next) → n ≡ next_of_result r → read.line ≡ reader.line + 1 → number ≡ read.line → number < 2 ^ 64
    → IfMore n (λ well. (read.line ≡ reader.line + 1) × (read.line < 2 ^ 64))
line_counted reader read number (Ok well) n is counted numbered fits =
    subst (λ (m : Next). IfMore m (λ well. (read.line ≡ reader.line + 1) × (read.line < 2 ^ 64))) (sym is) (counted, subst (λ k. k < 2 ^ 64) numbered fits)
line_counted reader read number (Err stop) n is counted numbered fits =
    subst (λ (m : Next). IfMore m (λ well. (read.line ≡ reader.line + 1) × (read.line < 2 ^ 64))) (sym is) tt

-- what stops a line that was read, is its writing
pub line_causes : (r : Result Bool Stop) (n : Next) (source source_now sink sink_now : ℕ) → n ≡ next_of_result r → IfErr r IsWriting
    → IfErr r (λ stop. stop ≡ Output → Rose sink sink_now) → source ≤ source_now → sink ≤ sink_now → NextCauses n source source_now sink sink_now
line_causes (Ok well) n source source_now sink sink_now is kinds failed later_input later_output =
    subst (λ (m : Next). NextCauses m source source_now sink sink_now) (sym is)
    (record { input = tt; output = tt; later_input = later_input; later_output = later_output })
line_causes (Err stop) n source source_now sink sink_now is kinds failed later_input later_output =
    subst (λ (m : Next). NextCauses m source source_now sink sink_now) (sym is)
    (record { input = λ is_input. absurd (subst IsWriting is_input kinds); output = failed; later_input = later_input; later_output = later_output })

pub end_causes : (source source_now sink : ℕ) → source ≤ source_now → NextCauses Ends source source_now sink sink
end_causes source source_now sink later = record { input = tt; output = tt; later_input = later; later_output = omega arith }

pub stop_causes : (stop : Stop) (source source_now sink : ℕ) → (stop ≡ Input → Rose source source_now) → (stop ≡ Output → ⊥) → source ≤ source_now
    → NextCauses (Stops stop) source source_now sink sink
stop_causes stop source source_now sink input output later =
    record { input = input; output = λ is. absurd (output is); later_input = later; later_output = omega arith }
