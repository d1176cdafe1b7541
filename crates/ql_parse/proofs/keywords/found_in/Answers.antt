use Rattle.std.proofs.Common.{sym, ◌∙◌}
use Rattle.std.specs.Str.{str_eq_ignore_ascii_case}
use Rattle.ql_parse.proofs.KeywordLemmas.{found_here, found_later}
use Rattle.ql_parse.proofs.keywords.found_in.Goals as goal

pub returns-then-is_key : goal.returns-then-is_key
returns-then-is_key c =
    sym (found_here (str_eq_ignore_ascii_case c.args.text.now) (λ entry. entry.0.now)
    (λ entry. entry.1) c.args.entries.now
    c.loop-entry.entry-index _ c.loop-entry-test.true (sym c.if-is_key.ensures))
    ∙ c.loop-entry.invariant

pub loop-entry-preserved : goal.loop-entry-preserved
loop-entry-preserved c =
    sym (found_later (str_eq_ignore_ascii_case c.args.text.now) (λ entry. entry.0.now)
    (λ entry. entry.1) c.args.entries.now
    c.loop-entry.entry-index _ c.loop-entry-test.true (sym c.if-is_key.ensures))
    ∙ c.loop-entry.invariant
