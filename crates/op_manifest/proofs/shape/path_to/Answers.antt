use Rattle.std.proofs.Common.{◌≤◌, ◌∙◌, length, sym, subst}
use Rattle.op_manifest.proofs.ShapeLemmas.{path_under}
use Rattle.op_manifest.proofs.shape.path_to.Goals as goal

pub returns-in_ok-format-in-len1-up : goal.returns-in_ok-format-in-len1-up
returns-in_ok-format-in-len1-up c =
    let some : 1 ≤ length c.args.path.now = subst (λ l. 1 ≤ length l) c.as_bytes.ensures.value c.in-len1-up.len_at_least in
    c.from_string.ensures ∙ c.in_ok-format-in-len1-up.ensures.ok ∙ sym (path_under c.args.path.now c.args.name.now some)
