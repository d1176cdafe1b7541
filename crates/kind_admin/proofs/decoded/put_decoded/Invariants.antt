use Rattle.std.proofs.Common.{◌≡◌, drop}
use Rattle.op_base.specs.Maps.{text_cmp, put_all}
use Rattle.kind_admin.specs.Secrets.{decoded_entries}
use Rattle.kind_admin.proofs.decoded.put_decoded.Given as goal

-- what is left gives the rest of the entries
abbrev pub invariant-loop-index : goal.invariant-loop-index
invariant-loop-index l =
    put_all text_cmp l.initial.all (decoded_entries l.entries) ≡ put_all text_cmp l.all (decoded_entries (drop l.index l.entries))
