-- The fields of a thin object: which stand there, and what its metadata names. A field that is null
-- counts as absent, under whatever name.
use Rattle.std.specs.Prelude.{ℕ, List, [], ◌∷◌, Bool, false, not, Option, Some, None, ◌&&◌, codes, option_and_then, is_some, if◌then◌else◌}
use Rattle.serde_json.specs.Data.{Data, null, boolean, number, string, array, object, Items, no_items, item}
use Rattle.serde_json.specs.Find.{get, as_str}
use Rattle.op_base.specs.Names.{is_namespace, is_name}
use Rattle.op_json.specs.Reading.{is_text, stray}

-- an object whose fields that aren't null have these names
abbrev pub has_only : List (List ℕ) → Data → Bool
has_only names null = false
has_only names (boolean b) = false
has_only names (number n) = false
has_only names (string s) = false
has_only names (array ds) = false
has_only names (object ms) = not (is_some (stray names ms))

-- the only item of a list
abbrev pub only_item : Items → Option Data
only_item no_items = None
only_item (item d no_items) = Some d
only_item (item d (item e ds)) = None

-- the item of an array that has one alone
abbrev pub only_item_of : Data → Option Data
only_item_of null = None
only_item_of (boolean b) = None
only_item_of (number n) = None
only_item_of (string s) = None
only_item_of (array ds) = only_item ds
only_item_of (object ms) = None

-- the text of a field, where it is a text that passes
abbrev pub checked : (List ℕ → Bool) → Option (List ℕ) → Option (List ℕ)
checked test None = None
checked test (Some t) = if test t then Some t else None

-- the text of a field, where it is one
abbrev pub text_at : List ℕ → Data → Option (List ℕ)
text_at name d = option_and_then as_str (get name d)

-- what two values make, where both are there
abbrev pub both : {A B C : Type 0} → (A → B → C) → Option A → Option B → Option C
both f None b = None
both f (Some a) None = None
both f (Some a) (Some b) = Some (f a b)

-- the object where it has the fields and no others
abbrev pub with_only : List (List ℕ) → Data → Option Data
with_only names d = if has_only names d then Some d else None

-- the field is there with that text
abbrev pub has_text : List ℕ → List ℕ → Data → Bool
has_text name wanted d = is_some (checked (is_text wanted) (text_at name d))

-- the only item of a list that is a field
abbrev pub only_item_at : List ℕ → Data → Option Data
only_item_at name d = option_and_then only_item_of (get name d)

-- `metadata`: exactly a namespace and a name, both well formed
abbrev pub names_of : Data → Option (List ℕ × List ℕ)
names_of d = option_and_then (λ metadata. both (λ namespace name. (namespace, name))
    (checked is_namespace (text_at (codes "namespace") metadata))
    (checked is_name (text_at (codes "name") metadata)))
    (with_only (codes "name" ∷ codes "namespace" ∷ []) d)

-- a monitoring object of the kind, with no other fields
abbrev pub object_of_kind : List ℕ → Data → Option Data
object_of_kind kind d = option_and_then (λ object.
    if has_text (codes "apiVersion") (codes "monitoring.coreos.com/v1") object
    && has_text (codes "kind") kind object
    then Some object else None)
    (with_only (codes "apiVersion" ∷ codes "kind" ∷ codes "metadata" ∷ codes "spec" ∷ []) d)
