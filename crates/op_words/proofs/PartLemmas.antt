-- Names of parts, and the parser that knows them.
use Rattle.std.proofs.Common.{◌≡◌, ◌∙◌, ◌||◌, Bool, true, false, cond, refl, sym, ap, List, [], ◌∷◌, Some, None, is_some, unwrap_or, true≢false}
use Rattle.std.specs.Prelude.{codes}
use Rattle.std.specs.Bool.{one_answer}
use Rattle.std.specs.Borrow.{Bor}
use Rattle.std.specs.List.{list_any}
use Rattle.std.specs.Str.{bytes_eq}
use Rattle.std.proofs.lemmas.Slice.Eq.{bytes_eq-Decides}
use Rattle.clap.specs.Values.{same_text}
use Rattle.clap.specs.Walk.{Text, texts}
use Rattle.clap.proofs.WalkLemmas.{list_any-map}
use Rattle.op_words.specs.declared.reading.Part.{Part}
use Rattle.op_words.specs.declared.reading.Part.TheVariants.{Alertmanager, Prometheus, Rules}
use Rattle.op_words.specs.Readings.{part_named}
use Rattle.op_words.proofs.Rules.{part_text}

-- the part that a name finds has that name
pub name_of_part : (name : Text) (part : Part) → part_named name ≡ Some part → name ≡ part_text part
name_of_part name part e = go (bytes_eq name (codes "alertmanager")) (bytes_eq name (codes "prometheus")) (bytes_eq name (codes "rules")) (bytes_eq-Decides name _).0 (bytes_eq-Decides name _).0 (bytes_eq-Decides name _).0 e
  where
    go : (a b c : Bool) → (a ≡ true → name ≡ codes "alertmanager") → (b ≡ true → name ≡ codes "prometheus") → (c ≡ true → name ≡ codes "rules")
        → cond a (Some Alertmanager) (cond b (Some Prometheus) (cond c (Some Rules) None)) ≡ Some part → name ≡ part_text part
    go true b c x y z e = x refl ∙ ap (λ o. part_text (unwrap_or o Alertmanager)) e
    go false true c x y z e = y refl ∙ ap (λ o. part_text (unwrap_or o Alertmanager)) e
    go false false true x y z e = z refl ∙ ap (λ o. part_text (unwrap_or o Alertmanager)) e
    go false false false x y z e = absurd (true≢false (sym (ap is_some e)))

-- the name of a part finds it
pub part_named-text : (part : Part) → part_named (part_text part) ≡ Some part
part_named-text Alertmanager = refl
part_named-text Prometheus = refl
part_named-text Rules = refl

-- equality of texts goes both ways
bytes_eq-sym : (xs ys : Text) → bytes_eq xs ys ≡ bytes_eq ys xs
bytes_eq-sym xs ys =
    one_answer (bytes_eq xs ys) (bytes_eq ys xs) (bytes_eq-Decides xs ys) (λ e. sym ((bytes_eq-Decides ys xs).0 e), λ e. (bytes_eq-Decides ys xs).1 (sym e))

-- the names of the parts
abbrev pub part_names : List Text
part_names = codes "alertmanager" ∷ codes "prometheus" ∷ codes "rules" ∷ []

-- a list of these names has those of parts and no other
pub names_known : (names : List (Bor Text)) → texts names ≡ part_names → (text : Text) → list_any (λ name. same_text false name.now text) names ≡ is_some (part_named text)
names_known names are text =
    list_any-map (λ name. bytes_eq name text) (λ (s : Bor Text). s.now) names ∙ ap (list_any (λ name. bytes_eq name text)) are
    ∙ (λ i. bytes_eq-sym (codes "alertmanager") text i || (bytes_eq-sym (codes "prometheus") text i || (bytes_eq-sym (codes "rules") text i || false)))
    ∙ go (bytes_eq text (codes "alertmanager")) (bytes_eq text (codes "prometheus")) (bytes_eq text (codes "rules"))
  where
    go : (a b c : Bool) → (a || (b || (c || false))) ≡ is_some (cond a (Some Alertmanager) (cond b (Some Prometheus) (cond c (Some Rules) None)))
    go true b c = refl
    go false true c = refl
    go false false true = refl
    go false false false = refl
