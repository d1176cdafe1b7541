use Rattle.std.proofs.Common.{◌≡◌, ◌∙◌, ◌∷◌, [], ap, true, cond, fold, refl, sym}
use Rattle.std.specs.FinMap.{put}
use Rattle.op_base.proofs.MapLemmas.{own_filled}
use Rattle.srv_scrape.specs.Joined as spec
use Rattle.srv_scrape.proofs.join.place_if_clashing.Goals as goal

pub returns-in_ok-insert : goal.returns-in_ok-insert
returns-in_ok-insert c =
    let there : spec.has_name c.args.target.now c.args.name.now ≡ true = cc in
    let name : c.new-name.result ≡ c.args.name.now = c.new-name.ensures ∙ c.in_ok-from_str.ensures in
    let value : c.in_ok-from_str-2.field-0 ≡ c.args.value.now = c.in_ok-from_str-2.ensures in
    own_filled spec.name_cmp c.new-name.result c.in_ok-from_str-2.field-0 _ _ c.args.placed.now.entries refl c.in_ok-insert.ensures.entries
    ∙ (λ i. put spec.name_cmp (name i) (value i) c.args.placed.now.entries)
    ∙ ap (λ b. fold spec.placed_with c.args.placed.now.entries (cond b ((c.args.name.now, c.args.value.now) ∷ []) [])) (sym there)
