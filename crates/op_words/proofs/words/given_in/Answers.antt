-- What is read of the matches is what the words give; where clap refuses the words, they give nothing.
use Rattle.std.proofs.Common.{◌∙◌, map, string_bytes, sym, ap, subst, ⊎_elim}
use Rattle.std.proofs.lemmas.Result.{IfOk-weaker}
use Rattle.clap.specs.Words.{found_of, is_simple, matches_of}
use Rattle.clap.specs.Faults.{fault_of, is_simple_and_free}
use Rattle.clap.specs.Kinds.{IsAmong}
use Rattle.op_words.proofs.Whole.{all_utf8, none_given, taken}
use Rattle.op_words.proofs.words.given_in.Goals as goal

pub returns-in-Ok : goal.returns-in-Ok
returns-in-Ok c =
    let command = c.in_ok-words_command.ensures in
    let words = map string_bytes c.args.words.now in
    let clean = c.in-Ok.ensures.kinds (ap is_simple_and_free command.1) in
    let rows = (c.in-Ok.ensures.matches (ap is_simple command.1)).0 in
    IfOk-weaker c.given_by.result _ _
    (λ given read. taken command.0 command.2 words (all_utf8 c.args.words.now) (found_of c.in-Ok.matches) (sym (ap (λ a. fault_of a words) command.1) ∙ clean)
    (rows ∙ ap (λ a. matches_of a words) command.1) given read)
    c.given_by.ensures

pub returns : goal.returns
returns c =
    let command = c.in_ok-words_command.ensures in
    let words = map string_bytes c.args.words.now in
    ⊎_elim (λ memory. absurd (c.in_default.not-OutOfMemory (c.kind.ensures ∙ memory)))
    (λ among. none_given command.0 command.2 words (all_utf8 c.args.words.now) _ (subst (IsAmong _) (ap (λ a. fault_of a words) command.1) among))
    (c.in-Err.ensures.kinds (ap is_simple_and_free command.1))
