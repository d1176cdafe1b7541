use Rattle.ql_parse.proofs.UnescapeLemmas.{piece_value, piece_utf8}
use Rattle.ql_parse.proofs.unescaped.inside.Goals as goal

pub loop-text-preserved-in-Byte : goal.loop-text-preserved-in-Byte
loop-text-preserved-in-Byte c = record {
  value = piece_value c.args.quote c.args.bytes.now c.loop-text.text.items c.loop-text.behind.now _ 1
      _ _ c.loop-text.invariant.value
      c.in-Byte.ensures c.in_ok-push-in-Byte.ensures.items c.behind-behind.ensures.items;
  utf8 = piece_utf8 c.args.quote c.loop-text.text.items c.loop-text.behind.now _ 1 _ _
      c.loop-text.invariant.utf8 c.in-Byte.ensures
      c.in_ok-push-in-Byte.ensures.items c.behind-behind.ensures.items;
}

pub loop-text-preserved : goal.loop-text-preserved
loop-text-preserved c = record {
  value = piece_value c.args.quote c.args.bytes.now c.loop-text.text.items c.loop-text.behind.now _
      c.in-Character.n _ _
      c.loop-text.invariant.value c.in-Character.ensures c.in_ok-push_char-in-Character.ensures.ok
      c.behind-behind-in-Character.ensures.items;
  utf8 = piece_utf8 c.args.quote c.loop-text.text.items c.loop-text.behind.now _ c.in-Character.n _ _
      c.loop-text.invariant.utf8
      c.in-Character.ensures c.in_ok-push_char-in-Character.ensures.ok
      c.behind-behind-in-Character.ensures.items;
}
