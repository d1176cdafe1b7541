-- AlertmanagerConfig objects, after the API reference of `monitoring.coreos.com/v1alpha1`: the head of the manifest,
-- then `spec`, which has to stand. Its webhooks may name a Secret. It may lack its route.
use Rattle.std.specs.Prelude.{false, List, [], ◌++◌, codes, unwrap_or}
use Rattle.serde_json.specs.Data.{Data, null}
use Rattle.op_manifest.specs.declared.am_spec.AmSpec.{AmSpec}
use Rattle.op_manifest.specs.declared.shape.Shape.{Shape}
use Rattle.op_manifest.specs.AmSpecs.{am_spec, am_spec_of}
use Rattle.op_manifest.specs.Checks.{field, required}
use Rattle.op_manifest.specs.Heads.{head_wrongs, key_of, tags_of}
use Rattle.kind_rules.specs.declared.alertmanager_config.AlertmanagerConfigObject.{AlertmanagerConfigObject}

-- all that can be wrong with `spec`
abbrev pub spec_wrongs : Data → List Shape
spec_wrongs d = required (am_spec false) (codes "spec") [] d

-- what `spec` is read as
abbrev pub spec_of : Data → AmSpec
spec_of d = am_spec_of false (unwrap_or (field (codes "spec") d) null)

-- all that can be wrong with an object
abbrev pub alertmanager_config_wrongs : Data → List Shape
alertmanager_config_wrongs d = head_wrongs [] d ++ spec_wrongs d

-- an object
abbrev pub alertmanager_config_of : Data → AlertmanagerConfigObject
alertmanager_config_of d =
    record {
      key = key_of d;
      tags = tags_of d;
      route = (spec_of d).route;
      receivers = (spec_of d).receivers;
      inhibit_rules = (spec_of d).inhibit_rules;
    }
