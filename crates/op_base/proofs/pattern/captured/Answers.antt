-- The compiled pattern and the reading find the same groups.
use Rattle.std.proofs.Common.{◌∙◌, ◌++◌, ap, sym, subst}
use Rattle.regex.specs.Patterns.{SameCaptures}
use Rattle.regex.specs.Strings.{IsReadFrom, expansion_of}
use Rattle.op_base.proofs.CaptureLemmas.{none-alike, captured-read}
use Rattle.op_base.proofs.pattern.captured.Goals as goal

pub returns-in-None : goal.returns-in-None
returns-in-None c re same =
    let alike = subst (λ a. SameCaptures a re) (sym c.in_ok-matcher.ensures.pattern) same in
    none-alike alike c.args.value.now (λ k. (c.type_inv.value k).fits) _ c.in-None.ensures.found

pub returns : goal.returns
returns c re same =
    let alike = subst (λ a. SameCaptures a re) (sym c.in_ok-matcher.ensures.pattern) same in
    let found = c.in-Some.ensures.found in
    let written = c.from_string.ensures ∙ c.in_ok-expand-in-Some.ensures.value
    ∙ ap (λ l. l ++ expansion_of c.in-Some.captures c.in_ok-template.template) c.new-text.ensures.bytes in
    let read = subst (λ names. IsReadFrom names c.args.template.now c.in_ok-template.template) c.capture_names.ensures c.in_ok-template.ensures.read in
    captured-read alike c.args.value.now (λ k. (c.type_inv.value k).fits) c.in-Some.captures c.in_ok-template.template _ _ _ found.0 read found.1 found.2 written
