use Rattle.std.proofs.Common.{◌≡◌, arith}
use Rattle.std.specs.List.{prefix_len}
use Rattle.regex.specs.Templates.{is_name_byte}
use Rattle.op_base.proofs.TemplateLemmas.{name-boundary}
use Rattle.op_base.proofs.template.bare_name.Goals as goal

pub split_at-requires : goal.split_at-requires
split_at-requires c =
    let is : c.name_len-count.result ≡ prefix_len is_name_byte c.args.text.now = cc in
    name-boundary c.args.text.now c.name_len-count.result c.utf8.text is (omega (arith, c.if-count-eq0.false))
