use Rattle.std.proofs.Common.{◌≡◌, ◌+◌, ◌++◌, ◌∷◌, ◌∙◌, Ok, length, refl, sym, ap, subst, arith}
use Rattle.op_edges.specs.declared.lines.Line.TheVariants.{Whole, Long}
use Rattle.op_edges.specs.Lines.{Says, given, shown_lines, count_of, is_line}
use Rattle.op_edges.proofs.ToldLemmas.{told_so, told_both}
use Rattle.op_run.specs.declared.stop.Stop.TheVariants.{Input, Limit, Memory}
use Rattle.op_run.specs.declared.lines.Next.TheVariants.{Ends, Stops}
use Rattle.op_run.specs.LineRuns.{LineRan}
use Rattle.op_run.proofs.LineSaidLemmas.{on_ok, line_ran, line_ends, line_stops, line_going, line_counted, line_causes, end_causes, stop_causes}
use Rattle.op_run.proofs.lines.run_line.Goals as goal

pub returns-in-Ok-Whole-clause-ran : goal.returns-in-Ok-Whole-clause-ran
returns-in-Ok-Whole-clause-ran g c = told_both (g.S.Source.left c.args.source.now) (g.S.Source.left c.next.new.source)
    (λ before after. Says c.in-Ok-Whole.field-0 (given c.args.reader.now) (c.args.reader.now.held ++ before) (c.next.new.self.held ++ after))
    (λ before after. c.next.new.self.came + length after ≡ c.args.reader.now.came + length before)
    (λ before after. LineRan c.next_of.result c.args.server.now c.say_whole.new.server c.args.reader.now c.next.new.self
    (g.O.Sink.taken c.args.sink.now) (g.O.Sink.taken c.say_whole.new.sink) before after)
    (λ before after says sum. line_ran c.args.server.now c.say_whole.new.server c.args.reader.now c.next.new.self (Whole c.as_slice.result.now) c.line.result
    (g.O.Sink.taken c.args.sink.now) (g.O.Sink.taken c.say_whole.new.sink) before after c.say_whole.result c.next_of.result
    c.next_of.ensures c.line.ensures (c.in-Ok-Whole.ensures.line ∙ ap (λ line. c.args.reader.now.line + count_of line) c.in-Ok-Whole.field-0-is)
    (subst (λ line. Says line (given c.args.reader.now) (c.args.reader.now.held ++ before) (c.next.new.self.held ++ after)) c.in-Ok-Whole.field-0-is says
    ∙ ap (λ bytes. Whole bytes ∷ shown_lines (c.next.new.self.held ++ after)) (sym c.as_slice.ensures))
    sum c.say_whole.ensures.lines c.say_whole.ensures.good c.say_whole.ensures.served c.say_whole.ensures.prefix c.say_whole.ensures.kinds)
    c.in-Ok-Whole.ensures.says c.in-Ok-Whole.ensures.sum

pub returns-in-Ok-Whole-clause-going : goal.returns-in-Ok-Whole-clause-going
returns-in-Ok-Whole-clause-going g c = line_going c.args.server.now c.say_whole.new.server c.next.new.self c.say_whole.result c.next_of.result c.next_of.ensures
    (c.in-Ok-Whole.ensures.going ∙ ap is_line c.in-Ok-Whole.field-0-is) c.say_whole.ensures.config

pub returns-in-Ok-Whole-clause-counted : goal.returns-in-Ok-Whole-clause-counted
returns-in-Ok-Whole-clause-counted g c = line_counted c.args.reader.now c.next.new.self c.line.result c.say_whole.result c.next_of.result c.next_of.ensures
    (c.in-Ok-Whole.ensures.line ∙ ap (λ line. c.args.reader.now.line + count_of line) c.in-Ok-Whole.field-0-is) c.line.ensures (omega arith)

pub returns-in-Ok-Whole-clause-causes : goal.returns-in-Ok-Whole-clause-causes
returns-in-Ok-Whole-clause-causes g c = line_causes c.say_whole.result c.next_of.result
    (g.S.Source.faults c.args.source.now) (g.S.Source.faults c.next.new.source) (g.O.Sink.faults c.args.sink.now) (g.O.Sink.faults c.say_whole.new.sink)
    c.next_of.ensures c.say_whole.ensures.kinds c.say_whole.ensures.failed c.in-Ok-Whole.ensures.later c.say_whole.ensures.later

pub returns-in-Ok-Long-clause-ran : goal.returns-in-Ok-Long-clause-ran
returns-in-Ok-Long-clause-ran g c = told_both (g.S.Source.left c.args.source.now) (g.S.Source.left c.next.new.source)
    (λ before after. Says c.in-Ok-Long.field-0 (given c.args.reader.now) (c.args.reader.now.held ++ before) (c.next.new.self.held ++ after))
    (λ before after. c.next.new.self.came + length after ≡ c.args.reader.now.came + length before)
    (λ before after. LineRan c.next_of-in-Ok-Long.result c.args.server.now c.args.server.now c.args.reader.now c.next.new.self
    (g.O.Sink.taken c.args.sink.now) (g.O.Sink.taken c.say_long.new.sink) before after)
    (λ before after says sum. line_ran c.args.server.now c.args.server.now c.args.reader.now c.next.new.self Long c.line-in-Ok-Long.result
    (g.O.Sink.taken c.args.sink.now) (g.O.Sink.taken c.say_long.new.sink) before after c.say_long.result c.next_of-in-Ok-Long.result
    c.next_of-in-Ok-Long.ensures c.line-in-Ok-Long.ensures (c.in-Ok-Long.ensures.line ∙ ap (λ line. c.args.reader.now.line + count_of line) c.in-Ok-Long.field-0-is)
    (subst (λ line. Says line (given c.args.reader.now) (c.args.reader.now.held ++ before) (c.next.new.self.held ++ after)) c.in-Ok-Long.field-0-is says)
    sum c.say_long.ensures.lines c.say_long.ensures.good (on_ok c.say_long.result (c.args.server.now.served ≡ c.args.server.now.served) refl)
    c.say_long.ensures.prefix c.say_long.ensures.kinds)
    c.in-Ok-Long.ensures.says c.in-Ok-Long.ensures.sum

pub returns-in-Ok-Long-clause-going : goal.returns-in-Ok-Long-clause-going
returns-in-Ok-Long-clause-going g c = line_going c.args.server.now c.args.server.now c.next.new.self c.say_long.result c.next_of-in-Ok-Long.result c.next_of-in-Ok-Long.ensures
    (c.in-Ok-Long.ensures.going ∙ ap is_line c.in-Ok-Long.field-0-is)
    (on_ok c.say_long.result (c.args.server.now.config ≡ c.args.server.now.config) refl)

pub returns-in-Ok-Long-clause-counted : goal.returns-in-Ok-Long-clause-counted
returns-in-Ok-Long-clause-counted g c = line_counted c.args.reader.now c.next.new.self c.line-in-Ok-Long.result c.say_long.result c.next_of-in-Ok-Long.result c.next_of-in-Ok-Long.ensures
    (c.in-Ok-Long.ensures.line ∙ ap (λ line. c.args.reader.now.line + count_of line) c.in-Ok-Long.field-0-is) c.line-in-Ok-Long.ensures (omega arith)

pub returns-in-Ok-Long-clause-causes : goal.returns-in-Ok-Long-clause-causes
returns-in-Ok-Long-clause-causes g c = line_causes c.say_long.result c.next_of-in-Ok-Long.result
    (g.S.Source.faults c.args.source.now) (g.S.Source.faults c.next.new.source) (g.O.Sink.faults c.args.sink.now) (g.O.Sink.faults c.say_long.new.sink)
    c.next_of-in-Ok-Long.ensures c.say_long.ensures.kinds c.say_long.ensures.failed c.in-Ok-Long.ensures.later c.say_long.ensures.later

pub returns-in-Ok-End-clause-ran : goal.returns-in-Ok-End-clause-ran
returns-in-Ok-End-clause-ran g c = told_both (g.S.Source.left c.args.source.now) (g.S.Source.left c.next.new.source)
    (λ before after. Says c.in-Ok-End.field-0 (given c.args.reader.now) (c.args.reader.now.held ++ before) (c.next.new.self.held ++ after))
    (λ before after. c.next.new.self.came + length after ≡ c.args.reader.now.came + length before)
    (λ before after. LineRan Ends c.args.server.now c.args.server.now c.args.reader.now c.next.new.self
    (g.O.Sink.taken c.args.sink.now) (g.O.Sink.taken c.args.sink.now) before after)
    (λ before after says sum. line_ends c.args.server.now c.args.reader.now c.next.new.self c.in-Ok-End.field-0 (g.O.Sink.taken c.args.sink.now) before after
    (subst (λ line. Says line (given c.args.reader.now) (c.args.reader.now.held ++ before) (c.next.new.self.held ++ after)) c.in-Ok-End.field-0-is says)
    sum c.in-Ok-End.field-0-is c.in-Ok-End.ensures.within)
    c.in-Ok-End.ensures.says c.in-Ok-End.ensures.sum

pub returns-in-Ok-End-clause-causes : goal.returns-in-Ok-End-clause-causes
returns-in-Ok-End-clause-causes g c =
    end_causes (g.S.Source.faults c.args.source.now) (g.S.Source.faults c.next.new.source) (g.O.Sink.faults c.args.sink.now) c.in-Ok-End.ensures.later

pub returns-in-Ok-Fault-clause-ran : goal.returns-in-Ok-Fault-clause-ran
returns-in-Ok-Fault-clause-ran g c = told_so (g.S.Source.left c.args.source.now) (g.S.Source.left c.next.new.source)
    (λ before after. c.next.new.self.came + length after ≡ c.args.reader.now.came + length before)
    (λ before after. LineRan (Stops Input) c.args.server.now c.args.server.now c.args.reader.now c.next.new.self
    (g.O.Sink.taken c.args.sink.now) (g.O.Sink.taken c.args.sink.now) before after)
    (λ before after sum. line_stops c.args.server.now c.args.reader.now c.next.new.self (g.O.Sink.taken c.args.sink.now) before after Input (λ is. absurd (cc)))
    c.in-Ok-Fault.ensures.sum

pub returns-in-Ok-Fault-clause-causes : goal.returns-in-Ok-Fault-clause-causes
returns-in-Ok-Fault-clause-causes g c =
    stop_causes Input (g.S.Source.faults c.args.source.now) (g.S.Source.faults c.next.new.source) (g.O.Sink.faults c.args.sink.now)
    (λ is. c.in-Ok-Fault.ensures.fault (ap Ok c.in-Ok-Fault.field-0-is)) (λ is. cc) c.in-Ok-Fault.ensures.later

pub returns-in-Ok-Limit-clause-ran : goal.returns-in-Ok-Limit-clause-ran
returns-in-Ok-Limit-clause-ran g c = told_so (g.S.Source.left c.args.source.now) (g.S.Source.left c.next.new.source)
    (λ before after. c.next.new.self.came + length after ≡ c.args.reader.now.came + length before)
    (λ before after. LineRan (Stops Limit) c.args.server.now c.args.server.now c.args.reader.now c.next.new.self
    (g.O.Sink.taken c.args.sink.now) (g.O.Sink.taken c.args.sink.now) before after)
    (λ before after sum. line_stops c.args.server.now c.args.reader.now c.next.new.self (g.O.Sink.taken c.args.sink.now) before after Limit
    (λ is. omega (arith, sum, c.in-Ok-Limit.ensures.limit (ap Ok c.in-Ok-Limit.field-0-is))))
    c.in-Ok-Limit.ensures.sum

pub returns-in-Ok-Limit-clause-causes : goal.returns-in-Ok-Limit-clause-causes
returns-in-Ok-Limit-clause-causes g c =
    stop_causes Limit (g.S.Source.faults c.args.source.now) (g.S.Source.faults c.next.new.source) (g.O.Sink.faults c.args.sink.now)
    (λ is. absurd (cc)) (λ is. cc) c.in-Ok-Limit.ensures.later

pub returns-in-Err-clause-ran : goal.returns-in-Err-clause-ran
returns-in-Err-clause-ran g c = told_so (g.S.Source.left c.args.source.now) (g.S.Source.left c.next.new.source)
    (λ before after. Unit {0})
    (λ before after. LineRan (Stops Memory) c.args.server.now c.args.server.now c.args.reader.now c.next.new.self
    (g.O.Sink.taken c.args.sink.now) (g.O.Sink.taken c.args.sink.now) before after)
    (λ before after none. line_stops c.args.server.now c.args.reader.now c.next.new.self (g.O.Sink.taken c.args.sink.now) before after Memory (λ is. absurd (cc)))
    c.in-Err.ensures.says

pub returns-in-Err-clause-causes : goal.returns-in-Err-clause-causes
returns-in-Err-clause-causes g c =
    stop_causes Memory (g.S.Source.faults c.args.source.now) (g.S.Source.faults c.next.new.source) (g.O.Sink.faults c.args.sink.now)
    (λ is. absurd (cc)) (λ is. cc) c.in-Err.ensures.later
