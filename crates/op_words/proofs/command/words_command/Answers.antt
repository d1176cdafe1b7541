-- The command is the one that `clap` is told, over the parser that takes the names of the parts.
use Rattle.std.proofs.Common.{◌≡◌, ◌∙◌, true, sym, ap, ap₂, subst, rules}
use Rattle.std.proofs.lemmas.Result.{IfOk-weaker}
use Rattle.clap.specs.Words.{app_of, rule_of, with_rule}
use Rattle.clap.specs.Simple.{app_of_fields, on_top}
use Rattle.clap.specs.Walk.{texts}
use Rattle.clap.specs.declared.builder.value_parser.ValueParser.{ValueParser}
use Rattle.op_words.specs.Commands.{KnowsParts, bare_app, dir_rule, each_rule, part_rule}
use Rattle.op_words.proofs.PartLemmas.{names_known, part_names}
use Rattle.op_words.proofs.command.words_command.Goals as goal

pub returns : goal.returns
returns c =
    let parser : ValueParser = c.value_parser-part.ensures.given.0 in
    let dir_is : rule_of c.required-dir.result ≡ dir_rule = search rules in
    let part_is : rule_of c.value_parser-part.result ≡ part_rule parser = search rules in
    let each_is : rule_of c.action-each.result ≡ each_rule = search rules in
    let names_are : texts c.as_slice.result.now ≡ part_names = search rules in
    let knows : KnowsParts parser = subst KnowsParts (sym c.value_parser-part.ensures.given.2) (names_known c.as_slice.result.now names_are) in
    let bare_is : app_of c.disable_help_flag.result ≡ bare_app =
    ap app_of_fields c.disable_help_flag.ensures
    ∙ ap (λ shape. on_top (λ s. record s { disable_help_flag = true }) shape) (ap app_of_fields c.no_binary_name.ensures ∙ ap (on_top (λ s. record s { no_binary_name = true })) c.new-4.ensures.app) in
    IfOk-weaker c.arg-3.result _ _
    (λ command adds. (
      parser,
      adds.shape (search rules) ∙ ap₂ with_rule (c.in_ok-arg-2.ensures.shape (search rules) ∙ ap₂ with_rule (c.in_ok-arg.ensures.shape (search rules) ∙ ap₂ with_rule bare_is dir_is) part_is) each_is,
      knows,
    )) c.arg-3.ensures
