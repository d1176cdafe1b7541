-- No newline stands among the bytes that were searched.
use Rattle.std.proofs.Common.{◌≡◌, ◌+◌, ◌<◌, drop, take, length, length-drop, subst, arith}
use Rattle.memchr.specs.Find.{Nowhere, Passes, is_byte}
use Rattle.op_edges.specs.Lines.{newline, IsClean}
use Rattle.op_edges.proofs.LineLemmas.{clean_behind}
use Rattle.op_edges.proofs.step.newline_from.Goals as goal

pub returns-in-Some-clause-clean : goal.returns-in-Some-clause-clean
returns-in-Some-clause-clean c =
    let high : c.in-Some.place < length (drop c.args.clean c.args.bytes.now) =
    subst (λ l. c.in-Some.place < length l) c.behind.ensures.items c.in-Some.ensures.0.high in
    clean_behind c.args.clean c.in-Some.place c.args.bytes.now c.requires.clean (omega (arith, high))
    (subst (λ l. Nowhere (Passes (is_byte newline) l) 0 c.in-Some.place) c.behind.ensures.items c.in-Some.ensures.0.before)

pub returns-in-None-clause-clean : goal.returns-in-None-clause-clean
returns-in-None-clause-clean c =
    let left = length-drop c.args.clean c.args.bytes.now in
    let whole : c.args.clean + length (drop c.args.clean c.args.bytes.now) ≡ length c.args.bytes.now = omega (arith, left, c.requires.within) in
    subst (λ n. IsClean (take n c.args.bytes.now)) whole
    (clean_behind c.args.clean (length (drop c.args.clean c.args.bytes.now)) c.args.bytes.now c.requires.clean (omega arith)
    (subst (λ l. Nowhere (Passes (is_byte newline) l) 0 (length l)) c.behind.ensures.items c.in-None.ensures))
