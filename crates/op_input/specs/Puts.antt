-- Manifests that lines put.
use Rattle.std.specs.Prelude.{[]}
use Rattle.std.specs.Option.{option_map_or}
use Rattle.serde_json.specs.Data.{Data}
use Rattle.op_manifest.specs.Heads.{key_wrongs, key_of}
use Rattle.op_manifest.specs.Shapes.{first}
use Rattle.op_input.specs.Events.{Event, put, bad}

-- the manifest with its key. One whose key can't be read is nobody's, and broken by the first breach of what names it.
abbrev pub put_of : Data → Event
put_of d = option_map_or bad (first (key_wrongs [] d)) (put (key_of d) d)
