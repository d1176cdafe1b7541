use Rattle.std.proofs.Common.{[], ◌∙◌, ap, sym}
use Rattle.op_base.specs.Maps.{text_cmp, put_all}
use Rattle.kind_admin.specs.Secrets.{decoded_entries}
use Rattle.kind_admin.proofs.EntryLemmas.{put_both}
use Rattle.kind_admin.proofs.secret.put_together.Goals as goal

pub returns : goal.returns
returns c =
    c.in_ok-put_texts.ensures
    ∙ ap (λ map. put_all text_cmp map c.args.strings.now) (c.in_ok-put_decoded.ensures ∙ ap (λ map. put_all text_cmp map (decoded_entries c.args.encoded.now)) c.new-by_key.ensures)
    ∙ sym (put_both [] (decoded_entries c.args.encoded.now) c.args.strings.now)
