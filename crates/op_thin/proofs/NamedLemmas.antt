-- What an item names: a namespace that is well formed, and for a probe two thin texts.
use Rattle.std.proofs.Common.{◌≡◌, ℕ, Bool, true, false, List, [], ◌∷◌, Option, Some, None, IfSome, refl, if◌then◌else◌, codes, option_and_then}
use Rattle.serde_json.specs.Data.{Data}
use Rattle.serde_json.specs.Find.{get, as_str}
use Rattle.op_base.specs.Names.{is_namespace, is_name}
use Rattle.op_json.specs.Reading.{json_of}
use Rattle.op_thin.specs.declared.rule.ThinRule.{ThinRule}
use Rattle.op_thin.specs.declared.probe.ThinProbe.{ThinProbe}
use Rattle.op_thin.specs.ThinFields.{both, checked, text_at, with_only, only_item_at, names_of, object_of_kind}
use Rattle.op_thin.specs.ThinRules as rules
use Rattle.op_thin.specs.ThinProbes as probes
use Rattle.op_thin.specs.declared.item.Item.{Item}
use Rattle.op_thin.specs.declared.item.Item.TheVariants.{Broken, NotYet, Rule, Probe}
use Rattle.op_thin.specs.Items.{item_of_objects, item_of_json, item_of, IsThinProbe, IsNamed}

-- nothing is said of a value
abbrev Anything : {A : Type 0} → A → Type 0
Anything a = Unit {0}

anything : {A : Type 0} (o : Option A) → IfSome o Anything
anything None = tt
anything (Some a) = tt

-- what is kept passes the test
kept_passes : (test : List ℕ → Bool) (o : Option (List ℕ)) → IfSome (checked test o) (λ t. test t ≡ true)
kept_passes test None = tt
kept_passes test (Some t) =
    elim (test t) as (λ b. test t ≡ b → IfSome (if b then Some t else None) (λ u. test u ≡ true)) [
      | true ↦ λ passes. passes
      | false ↦ λ fails. tt
    ] refl

then_holds : {A B : Type 0} (P : B → Type 0) (f : A → Option B) (o : Option A) → ((a : A) → IfSome (f a) P) → IfSome (option_and_then f o) P
then_holds P f None holds = tt
then_holds P f (Some a) holds = holds a

both_hold : {A B C : Type 0} (P : A → Type 0) (Q : B → Type 0) (R : C → Type 0) (f : A → B → C) (a : Option A) (b : Option B)
    → IfSome a P → IfSome b Q → ((x : A) (y : B) → P x → Q y → R (f x y)) → IfSome (both f a b) R
both_hold P Q R f None b p q r = tt
both_hold P Q R f (Some x) None p q r = tt
both_hold P Q R f (Some x) (Some y) p q r = r x y p q

-- the first of the names is a namespace
abbrev HasNamespace : List ℕ × List ℕ → Type 0
HasNamespace names = is_namespace names.0 ≡ true

-- the two texts are thin
abbrev HasThinTexts : List ℕ × List ℕ → Type 0
HasThinTexts parts = (probes.is_thin_text parts.0 ≡ true) × (probes.is_thin_text parts.1 ≡ true)

names_named : (d : Data) → IfSome (names_of d) HasNamespace
names_named d = then_holds HasNamespace _ (with_only (codes "name" ∷ codes "namespace" ∷ []) d) (λ metadata.
    both_hold (λ t. is_namespace t ≡ true) Anything HasNamespace (λ namespace name. (namespace, name))
    (checked is_namespace (text_at (codes "namespace") metadata))
    (checked is_name (text_at (codes "name") metadata))
    (kept_passes is_namespace (text_at (codes "namespace") metadata))
    (anything (checked is_name (text_at (codes "name") metadata)))
    (λ namespace name named any. named))

rule_named : (d : Data) → IfSome (rules.thin_rule_of d) (λ rule. is_namespace rule.namespace ≡ true)
rule_named d = then_holds (λ rule. is_namespace rule.namespace ≡ true) _ (object_of_kind (codes "PrometheusRule") d) (λ object.
    both_hold HasNamespace Anything (λ rule. is_namespace rule.namespace ≡ true) rules.rule_from
    (option_and_then names_of (get (codes "metadata") object))
    (option_and_then rules.spec_of (get (codes "spec") object))
    (then_holds HasNamespace names_of (get (codes "metadata") object) names_named)
    (anything (option_and_then rules.spec_of (get (codes "spec") object)))
    (λ names group named any. named))

abbrev IsThin : List ℕ → Type 0
IsThin text = probes.is_thin_text text ≡ true

url_thin : (d : Data) → IfSome (probes.prober_of d) IsThin
url_thin d = then_holds IsThin _ (with_only (codes "url" ∷ []) d)
    (λ prober. kept_passes probes.is_thin_text (text_at (codes "url") prober))

static_thin : (d : Data) → IfSome (probes.static_of d) IsThin
static_thin d = then_holds IsThin _ (with_only (codes "static" ∷ []) d)
    (λ config. kept_passes probes.is_thin_text (option_and_then as_str (only_item_at (codes "static") config)))

target_thin : (d : Data) → IfSome (probes.targets_of d) IsThin
target_thin d = then_holds IsThin _ (with_only (codes "staticConfig" ∷ []) d)
    (λ targets. then_holds IsThin probes.static_of (get (codes "staticConfig") targets) static_thin)

texts_thin : (d : Data) → IfSome (probes.spec_of d) HasThinTexts
texts_thin d = then_holds HasThinTexts _ (with_only (codes "prober" ∷ codes "targets" ∷ []) d) (λ spec.
    both_hold IsThin IsThin HasThinTexts (λ url target. (url, target))
    (option_and_then probes.prober_of (get (codes "prober") spec))
    (option_and_then probes.targets_of (get (codes "targets") spec))
    (then_holds IsThin probes.prober_of (get (codes "prober") spec) url_thin)
    (then_holds IsThin probes.targets_of (get (codes "targets") spec) target_thin)
    (λ url target thin thin_too. (thin, thin_too)))

probe_named : (d : Data) → IfSome (probes.thin_probe_of d) IsThinProbe
probe_named d = then_holds IsThinProbe _ (object_of_kind (codes "Probe") d) (λ object.
    both_hold HasNamespace HasThinTexts IsThinProbe probes.probe_from
    (option_and_then names_of (get (codes "metadata") object))
    (option_and_then probes.spec_of (get (codes "spec") object))
    (then_holds HasNamespace names_of (get (codes "metadata") object) names_named)
    (then_holds HasThinTexts probes.spec_of (get (codes "spec") object) texts_thin)
    (λ names parts named thin. (named, thin.0, thin.1)))

objects_named : (rule : Option ThinRule) (probe : Option ThinProbe)
    → IfSome rule (λ r. is_namespace r.namespace ≡ true) → IfSome probe IsThinProbe → IsNamed (item_of_objects rule probe)
objects_named (Some rule) probe named thin = named
objects_named None (Some probe) named thin = thin
objects_named None None named thin = tt

json_named : (o : Option Data) → IsNamed (item_of_json o)
json_named None = tt
json_named (Some d) = objects_named (rules.thin_rule_of d) (probes.thin_probe_of d) (rule_named d) (probe_named d)

-- what bytes are names what is well formed
pub named : (bytes : List ℕ) → IsNamed (item_of bytes)
named bytes = json_named (json_of bytes)
