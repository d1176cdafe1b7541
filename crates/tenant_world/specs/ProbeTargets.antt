-- The target of a thin probe, said directly: the prober is asked for the target, and the labels name the
-- target, the job and the probe's namespace.
use Rattle.std.specs.Prelude.{ℕ, List, [], ◌∷◌, ◌++◌, codes}
use Rattle.op_base.specs.declared.label_names.TheConstants.{NAMESPACE_LABEL}
use Rattle.form_urlencoded.specs.Form.{serialize_pair}
use Rattle.srv_scrape.specs.declared.target.Target.{Target}
use Rattle.op_thin.specs.declared.probe.ThinProbe.{ThinProbe}
use Rattle.op_thin.specs.ThinProbes.{job_name}

-- http://URL/probe?target=TARGET
abbrev pub probe_url : ThinProbe → List ℕ
probe_url probe = codes "http://" ++ probe.url ++ codes "/probe?" ++ serialize_pair (codes "target", probe.target)

-- the target of a probe: its labels and the URL that is asked
abbrev pub probe_target : ThinProbe → Target
probe_target probe = record {
  labels = (codes "instance", probe.target) ∷ (codes "job", job_name probe) ∷ (NAMESPACE_LABEL.now, probe.namespace) ∷ [];
  url = probe_url probe;
}
