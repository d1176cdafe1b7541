-- The entry at the place of the name goes, where it has it.
use Rattle.std.proofs.Common.{◌≡◌, ◌∙◌, true, false}
use Rattle.op_base.specs.Entries.{place_in, stands_at}
use Rattle.op_base.proofs.EntryLemmas.{removed_at, unmoved_at}
use Rattle.op_base.proofs.entries.remove.Goals as goal

pub returns-then-is_at : goal.returns-then-is_at
returns-then-is_at c =
    let at : c.place_of-place.result ≡ place_in c.args.entries.now.items c.args.name.now = cc in
    let found : stands_at c.args.entries.now.items c.place_of-place.result c.args.name.now ≡ true = cc in
    c.remove-removed.ensures.items ∙ removed_at _ _ _ c.requires at found

pub returns-else-is_at : goal.returns-else-is_at
returns-else-is_at c =
    let at : c.place_of-place.result ≡ place_in c.args.entries.now.items c.args.name.now = cc in
    let free : stands_at c.args.entries.now.items c.place_of-place.result c.args.name.now ≡ false = cc in
    unmoved_at _ _ _ c.requires at free
