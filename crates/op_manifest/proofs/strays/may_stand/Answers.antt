use Rattle.std.proofs.Common.{◌≡◌, Bool, List, [], ◌∷◌, ◌||◌, map, refl, sym, ap, ◌∙◌}
use Rattle.std.specs.List.{list_any}
use Rattle.op_json.specs.Reading.{is_text}
use Rattle.op_manifest.proofs.strays.may_stand.Goals as goal

-- a test of what is shown of the items is one of the items
any_shown : {A B : Type 0} (test : B → Bool) (shown : A → B) (xs : List A) → list_any (λ x. test (shown x)) xs ≡ list_any test (map shown xs)
any_shown test shown [] = refl
any_shown test shown (x ∷ xs) = ap (λ b. test (shown x) || b) (any_shown test shown xs)

pub returns-else-is_null : goal.returns-else-is_null
returns-else-is_null c =
    c.is_among.ensures ∙ any_shown (is_text c.args.name.now) (λ name. name.now) c.args.names.now
    ∙ ap (λ null. null || list_any (is_text c.args.name.now) (map (λ name. name.now) c.args.names.now)) (sym c.if-is_null.false ∙ c.is_null.ensures)
