-- What is read so far and what is left give the whole, and they are a text together.
use Rattle.std.proofs.Common.{◌≡◌, ◌++◌, length}
use Rattle.std.specs.Str.{IsUtf8}
use Rattle.ql_parse.specs.Unescaped.{value_from, behind}
use Rattle.ql_parse.proofs.unescaped.inside.Given as goal

abbrev pub invariant-loop-text : goal.invariant-loop-text
invariant-loop-text l = record {
  value : value_from l.quote 0 l.bytes ≡ behind l.text.items (value_from l.quote 0 l.behind);
  utf8 : IsUtf8 (l.text.items ++ l.behind);
}

abbrev pub decreases-loop-text : goal.decreases-loop-text
decreases-loop-text l = length l.behind
