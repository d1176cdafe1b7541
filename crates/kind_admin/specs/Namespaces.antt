-- Namespace objects: the head of the manifest alone, since their `spec` is passed over.
use Rattle.serde_json.specs.Data.{Data}
use Rattle.op_manifest.specs.Heads.{key_of, tags_of}
use Rattle.kind_admin.specs.declared.namespace.Namespace.{Namespace}

-- a Namespace object
abbrev pub namespace_of : Data → Namespace
namespace_of d = record { key = key_of d; tags = tags_of d }
