-- Secrets, after Kubernetes: `data` holds texts in base64 (RFC 4648, section 4, with padding, without white space),
-- `stringData` texts as they are. Where both have a key, `stringData` wins.
use Rattle.std.specs.Prelude.{ℕ, Bool, List, [], ◌∷◌, ◌++◌, Option, codes, is_some, unwrap_or}
use Rattle.std.specs.Option.{option_map_or}
use Rattle.base64.specs.Engines.{standard}
use Rattle.base64.specs.GeneralPurpose.{decoded_of}
use Rattle.serde_json.specs.Data.{Data}
use Rattle.op_base.specs.Labels.{Texts}
use Rattle.op_base.specs.Maps.{text_cmp, in_order}
use Rattle.op_manifest.specs.declared.shape.Shape.{Shape}
use Rattle.op_manifest.specs.declared.shape.TheConstants.ShapeRule.{BAD_CHOICE, BAD_LABEL}
use Rattle.op_manifest.specs.Checks.{Check, Row, may, rows_wrongs}
use Rattle.op_manifest.specs.Heads.{head_wrongs, key_of, tags_of}
use Rattle.op_manifest.specs.Maps.{is_any, texts_by, texts, map_in}
use Rattle.kind_admin.specs.declared.secret.Secret.{Secret}

-- the bytes that a text in base64 stands for, where it is one
abbrev pub bytes_of : List ℕ → Option (List ℕ)
bytes_of text = decoded_of standard text

-- the text is in base64
abbrev pub is_base64 : List ℕ → Bool
is_base64 text = is_some (bytes_of text)

-- a map of texts in base64
abbrev pub encoded : Check
encoded = texts_by is_any BAD_LABEL is_base64 BAD_CHOICE

-- the fields of a Secret
abbrev pub secret_rows : List Row
secret_rows =
    may (codes "data") encoded
    ∷ may (codes "stringData") texts
    ∷ []

-- all that can be wrong with a Secret: its other fields stand in the head
abbrev pub secret_wrongs : Data → List Shape
secret_wrongs d = head_wrongs [] d ++ rows_wrongs secret_rows [] d

-- the entry of a key, where its text is in base64
abbrev pub decoded_entry : List ℕ × List ℕ → Texts
decoded_entry entry = option_map_or (λ bytes. (entry.0, bytes) ∷ []) (bytes_of entry.1) []

-- the entries whose texts are in base64, with their bytes
abbrev pub decoded_entries : Texts → Texts
decoded_entries [] = []
decoded_entries (entry ∷ entries) = decoded_entry entry ++ decoded_entries entries

-- the bytes at each key
abbrev pub by_key_of : Data → Texts
by_key_of d =
    in_order text_cmp
    (decoded_entries (unwrap_or (map_in (codes "data") d) []) ++ unwrap_or (map_in (codes "stringData") d) [])

-- a Secret
abbrev pub secret_of : Data → Secret
secret_of d = record { key = key_of d; tags = tags_of d; by_key = by_key_of d }
