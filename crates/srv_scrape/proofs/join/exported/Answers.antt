use Rattle.std.proofs.Common.{◌≡◌, ◌∙◌, ◌++◌, ap, true, codes, length, arith}
use Rattle.srv_scrape.specs.Joined as spec
use Rattle.srv_scrape.proofs.ExportLemmas.{taken-le-room_of, exported-taken}
use Rattle.srv_scrape.proofs.join.exported.Goals as goal

pub loop-alloc-smaller : goal.loop-alloc-smaller
loop-alloc-smaller c =
    let taken : spec.is_taken c.args.scraped.now c.args.given.now c.loop-alloc.text ≡ true = cc in
    let longer : c.in_ok-text-2.text ≡ codes "exported_" ++ c.loop-alloc.text =
    c.in_ok-text-2.ensures ∙ ap (λ t. codes "exported_" ++ t) c.as_str-in-loop-alloc.ensures in
    omega (arith, taken-le-room_of c.args.scraped.now c.args.given.now c.loop-alloc.text taken, ap length longer)

pub loop-alloc-preserved : goal.loop-alloc-preserved
loop-alloc-preserved c =
    let taken : spec.is_taken c.args.scraped.now c.args.given.now c.loop-alloc.text ≡ true = cc in
    let longer : c.in_ok-text-2.text ≡ codes "exported_" ++ c.loop-alloc.text =
    c.in_ok-text-2.ensures ∙ ap (λ t. codes "exported_" ++ t) c.as_str-in-loop-alloc.ensures in (
      ap (spec.exported (spec.room_of c.args.scraped.now c.args.given.now) c.args.scraped.now c.args.given.now) longer
          ∙ exported-taken c.args.scraped.now c.args.given.now c.loop-alloc.text c.loop-alloc.invariant.1 taken
          ∙ c.loop-alloc.invariant.0,
      omega (arith, ap length longer),
    )
