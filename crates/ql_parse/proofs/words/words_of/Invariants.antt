use Rattle.std.proofs.Common.{◌≡◌, map, take}
use Rattle.ql_tree.specs.Words.{word_in}
use Rattle.ql_parse.proofs.words.words_of.Given as goal

abbrev pub invariant-loop-token : goal.invariant-loop-token
invariant-loop-token l = l.words ≡ map (word_in l.text) (take l.token-index l.tokens)
