use Rattle.ql_parse.proofs.PlaceLemmas.{placed_at}
use Rattle.ql_parse.proofs.words.words_of.Goals as goal

pub word_in-requires : goal.word_in-requires
word_in-requires c =
    placed_at c.args.text.now c.args.tokens.now c.loop-token.token-index _ c.utf8.text c.requires
    c.loop-token-test.true
