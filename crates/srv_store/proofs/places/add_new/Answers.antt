-- The entry is put at its place, where its key is missing.
use Rattle.std.proofs.Common.{◌≡◌, ◌∙◌, true, false, not, sym, ap, slice_get, arith}
use Rattle.std.specs.Option.{option_map_or}
use Rattle.std.specs.Ordering.{is_eq, is_gt}
use Rattle.srv_store.specs.Runs.{place_in}
use Rattle.srv_store.proofs.PlaceLemmas.{front-le, new_here, new_free}
use Rattle.srv_store.proofs.places.add_new.Goals as goal

pub returns-then-is_here-clause-added : goal.returns-then-is_here-clause-added
returns-then-is_here-clause-added g c =
    let at : c.place_of-place.result ≡ place_in g.K.Ord.cmp c.args.key c.args.entries.now.items = cc in
    let found : option_map_or (λ e. is_eq (g.K.Ord.cmp c.args.key e.0)) (slice_get c.args.entries.now.items c.place_of-place.result) false ≡ true = cc in
    sym (ap not (new_here g.K.Ord.cmp g.met.K.Ord.total c.args.key c.args.value c.args.entries.now.items c.place_of-place.result c.requires at found).0)

pub returns-then-is_here-clause-ok : goal.returns-then-is_here-clause-ok
returns-then-is_here-clause-ok g c =
    let at : c.place_of-place.result ≡ place_in g.K.Ord.cmp c.args.key c.args.entries.now.items = cc in
    let found : option_map_or (λ e. is_eq (g.K.Ord.cmp c.args.key e.0)) (slice_get c.args.entries.now.items c.place_of-place.result) false ≡ true = cc in
    (new_here g.K.Ord.cmp g.met.K.Ord.total c.args.key c.args.value c.args.entries.now.items c.place_of-place.result c.requires at found).1

pub insert-requires : goal.insert-requires
insert-requires g c =
    let at : c.place_of-place.result ≡ place_in g.K.Ord.cmp c.args.key c.args.entries.now.items = cc in
    omega (arith, at, front-le (λ e. is_gt (g.K.Ord.cmp c.args.key e.0)) c.args.entries.now.items, c.args.entries.now.ok)

pub returns-clause-added : goal.returns-clause-added
returns-clause-added g c =
    let at : c.place_of-place.result ≡ place_in g.K.Ord.cmp c.args.key c.args.entries.now.items = cc in
    let free : option_map_or (λ e. is_eq (g.K.Ord.cmp c.args.key e.0)) (slice_get c.args.entries.now.items c.place_of-place.result) false ≡ false = cc in
    sym (ap not (new_free g.K.Ord.cmp g.met.K.Ord.total c.args.key c.args.value c.args.entries.now.items c.place_of-place.result c.requires at free).0)

pub returns-clause-ok : goal.returns-clause-ok
returns-clause-ok g c =
    let at : c.place_of-place.result ≡ place_in g.K.Ord.cmp c.args.key c.args.entries.now.items = cc in
    let free : option_map_or (λ e. is_eq (g.K.Ord.cmp c.args.key e.0)) (slice_get c.args.entries.now.items c.place_of-place.result) false ≡ false = cc in
    c.in_ok-insert.ensures.items ∙ (new_free g.K.Ord.cmp g.met.K.Ord.total c.args.key c.args.value c.args.entries.now.items c.place_of-place.result c.requires at free).1
