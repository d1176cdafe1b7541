-- The entry is put at its place.
use Rattle.std.proofs.Common.{◌≡◌, ◌∙◌, true, false, arith}
use Rattle.op_base.specs.Entries.{place_in, stands_at}
use Rattle.op_base.proofs.EntryLemmas.{place-le, put-found, put-free}
use Rattle.op_base.proofs.entries.put.Goals as goal

pub returns-then-is_at-clause-ok : goal.returns-then-is_at-clause-ok
returns-then-is_at-clause-ok c =
    let at : c.place_of-place.result ≡ place_in c.args.entries.now.items c.args.entry.0 = cc in
    let found : stands_at c.args.entries.now.items c.place_of-place.result c.args.entry.0 ≡ true = cc in
    put-found _ _ _ _ at found

pub insert-requires : goal.insert-requires
insert-requires c =
    let at : c.place_of-place.result ≡ place_in c.args.entries.now.items c.args.entry.0 = cc in
    omega (arith, at, place-le c.args.entries.now.items c.args.entry.0, c.args.entries.now.ok)

pub returns-clause-ok : goal.returns-clause-ok
returns-clause-ok c =
    let at : c.place_of-place.result ≡ place_in c.args.entries.now.items c.args.entry.0 = cc in
    let free : stands_at c.args.entries.now.items c.place_of-place.result c.args.entry.0 ≡ false = cc in
    c.in_ok-insert.ensures.items ∙ put-free _ _ _ _ at free
