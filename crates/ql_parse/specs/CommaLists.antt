-- Lists with commas, by the words around them and how an item is read.
use Rattle.std.specs.Prelude.{ℕ, zero, suc, List, None, length}
use Rattle.ql_tree.specs.declared.word.Word.{Word}
use Rattle.ql_tree.specs.declared.word.Word.TheVariants as word
use Rattle.ql_parse.specs.Found.{Found, Reader, ◌>>=◌, ended, with_front}
use Rattle.ql_parse.specs.FrontWords.{beyond}

-- an item that was read, with what follows it: the word that closes the list, or a comma and what
-- `others` reads
abbrev pub followed : {A : Type 0} → Word → Reader (List A) → A × List Word → Found (List A)
followed closing others one =
    with_front one.0 (ended (beyond closing one.1) (beyond word.Comma one.1 >>= others))

-- items with a comma between each two and perhaps one behind the last, and the word that closes
-- them; at most m items
unfoldable pub comma_list : {A : Type 0} → Word → Reader A → ℕ → Reader (List A)
comma_list closing item zero ts = None
comma_list closing item (suc m) ts =
    ended (beyond closing ts) (item ts >>= followed closing (comma_list closing item m))

-- such items behind the word that opens the list
abbrev pub enclosed : {A : Type 0} → Word → Word → Reader A → Reader (List A)
enclosed opening closing item ts = beyond opening ts >>= λ us. comma_list closing item (length us) us
