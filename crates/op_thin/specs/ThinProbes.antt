-- Thin probes: a Probe object with a prober's URL and one static target, both texts that aren't empty
-- and hold no `$`.
use Rattle.std.specs.Prelude.{ℕ, List, [], ◌∷◌, ◌++◌, Bool, false, Option, codes, option_and_then}
use Rattle.std.specs.List.{list_all}
use Rattle.serde_json.specs.Data.{Data}
use Rattle.serde_json.specs.Find.{get, as_str}
use Rattle.op_relabel.specs.Steps.{is_no_dollar}
use Rattle.op_thin.specs.declared.probe.ThinProbe.{ThinProbe}
use Rattle.op_thin.specs.ThinFields.{both, checked, text_at, with_only, only_item_at, names_of, object_of_kind}

-- a text that isn't empty and holds no `$`
abbrev pub is_thin_text : List ℕ → Bool
is_thin_text [] = false
is_thin_text (b ∷ text) = list_all is_no_dollar (b ∷ text)

-- `prober`: exactly a thin text `url`
abbrev pub prober_of : Data → Option (List ℕ)
prober_of d = option_and_then (λ prober. checked is_thin_text (text_at (codes "url") prober)) (with_only (codes "url" ∷ []) d)

-- `staticConfig`: exactly a list `static` of one thin text
abbrev pub static_of : Data → Option (List ℕ)
static_of d = option_and_then (λ config. checked is_thin_text (option_and_then as_str (only_item_at (codes "static") config)))
    (with_only (codes "static" ∷ []) d)

-- `targets`: exactly `staticConfig`
abbrev pub targets_of : Data → Option (List ℕ)
targets_of d = option_and_then (λ targets. option_and_then static_of (get (codes "staticConfig") targets))
    (with_only (codes "staticConfig" ∷ []) d)

-- `spec`: exactly `prober` and `targets`
abbrev pub spec_of : Data → Option (List ℕ × List ℕ)
spec_of d = option_and_then (λ spec. both (λ url target. (url, target))
    (option_and_then prober_of (get (codes "prober") spec))
    (option_and_then targets_of (get (codes "targets") spec)))
    (with_only (codes "prober" ∷ codes "targets" ∷ []) d)

-- the probe of a namespace and a name, of a prober's URL and a target
abbrev pub probe_from : List ℕ × List ℕ → List ℕ × List ℕ → ThinProbe
probe_from names parts = record { namespace = names.0; name = names.1; url = parts.0; target = parts.1 }

-- the thin probe that a JSON value is
abbrev pub thin_probe_of : Data → Option ThinProbe
thin_probe_of d = option_and_then (λ object. both probe_from
    (option_and_then names_of (get (codes "metadata") object))
    (option_and_then spec_of (get (codes "spec") object)))
    (object_of_kind (codes "Probe") d)

-- the name of a probe's job: probe/NAMESPACE/NAME
abbrev pub job_name : ThinProbe → List ℕ
job_name probe = codes "probe/" ++ probe.namespace ++ codes "/" ++ probe.name
