use Rattle.std.proofs.Common.{◌≡◌, ◌∙◌, ap, false, codes, bytes_eq, option_map}
use Rattle.op_base.specs.Spans.{capped}
use Rattle.op_base.proofs.SpanLemmas.{span_of-parts}
use Rattle.op_base.proofs.span.length_of.Goals as goal

pub returns : goal.returns
returns c =
    let other : false ≡ bytes_eq c.args.bytes.now (codes "0") = rw c.as_slice.ensures at c.if-eq.ensures in
    c.parts.ensures ∙ ap (option_map capped) (span_of-parts c.args.bytes.now other c.if-is_empty.ensures)
