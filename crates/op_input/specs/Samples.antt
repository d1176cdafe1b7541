-- A sample of a page, after the Prometheus data model: a list of its labels, the metric's name among them, and its
-- value, which is a whole number of 64 bits.
use Rattle.std.specs.Prelude.{ℕ, ℤ, pos, List, [], ◌++◌, Bool, Option, Some, None, length, option_and_then, unwrap_or, is_some, ◌==◌, ◌||◌, ◌&&◌, not, codes, if◌then◌else◌}
use Rattle.std.specs.List.{starts_with}
use Rattle.std.specs.Option.{option_map_or}
use Rattle.serde_json.specs.Data.{Data, Items, no_items, item}
use Rattle.serde_json.specs.Find.{as_str, as_number, as_i64, as_array}
use Rattle.op_base.specs.declared.label_names.TheConstants.{METRIC_NAME}
use Rattle.op_base.specs.Labels.{Texts, labels_with_all}
use Rattle.op_base.specs.Names.{is_metric_name, is_label_name}
use Rattle.op_json.specs.Reading.{is_text}
use Rattle.op_manifest.specs.declared.shape.Shape.{Shape}
use Rattle.op_manifest.specs.declared.shape.TheConstants.ShapeRule.{WRONG_TYPE, MISSING, BAD_NUMBER, BAD_LABEL}
use Rattle.op_manifest.specs.Checks.{Check, required}
use Rattle.op_manifest.specs.Heads.{object}
use Rattle.op_manifest.specs.Maps.{is_any, texts_by, texts_of}
use Rattle.op_manifest.specs.Shapes.{path_at, wrong, unless}
use Rattle.srv_scrape.specs.declared.pages.Sample.{Sample}

-- a label's name, which doesn't begin with `__`
abbrev pub is_plain_label : List ℕ → Bool
is_plain_label name = is_label_name name && not (starts_with ◌==◌ name (codes "__"))

-- the name of a label of a sample: the metric's, or such a one
abbrev pub is_sample_label : List ℕ → Bool
is_sample_label name = is_text name METRIC_NAME.now || is_plain_label name

-- what is wrong with the text of the metric's name: an empty one is missing
abbrev pub name_wrongs : List ℕ → List ℕ → List Shape
name_wrongs path name = if length name == 0 then wrong MISSING path else unless (is_metric_name name) BAD_LABEL path

-- the metric's name
unfoldable pub metric : Check
metric path d = option_map_or (name_wrongs path) (as_str d) (wrong WRONG_TYPE path)

-- the labels: an object of texts. The metric's name has to stand, and comes before the others.
abbrev pub labels : Check
labels path d =
    object path d
    ++ required metric METRIC_NAME.now path d
    ++ texts_by is_sample_label BAD_LABEL is_any BAD_LABEL path d

-- the labels; one with the empty text is an absent one
abbrev pub labels_of : Data → Texts
labels_of d = labels_with_all [] (texts_of d)

-- the value: a whole number that 64 bits with a sign hold
unfoldable pub value : Check
value path d = option_map_or (λ n. unless (is_some (as_i64 n)) BAD_NUMBER path) (as_number d) (wrong WRONG_TYPE path)

-- the value, or 0
abbrev pub value_of : Data → ℤ
value_of d = unwrap_or (option_and_then as_i64 (as_number d)) (pos 0)

-- the two items, where there are exactly two
abbrev pub two_of : Items → Option (Data × Data)
two_of no_items = None
two_of (item d no_items) = None
two_of (item d (item e no_items)) = Some (d, e)
two_of (item d (item e (item f ds))) = None

-- the two items that a value is a list of
abbrev pub pair : Data → Option (Data × Data)
pair d = option_and_then two_of (as_array d)

-- the labels come before the value
abbrev pub parts_wrongs : List ℕ → Data × Data → List Shape
parts_wrongs path parts = labels (path_at path 0) parts.0 ++ value (path_at path 1) parts.1

-- a sample: a list of exactly two
unfoldable pub sample : Check
sample path d = option_map_or (parts_wrongs path) (pair d) (wrong WRONG_TYPE path)

-- the sample of its labels and its value
abbrev pub parts_of : Data × Data → Sample
parts_of parts = record { labels = labels_of parts.0; value = value_of parts.1 }

-- the sample of no list of two, which is a breach: no labels, and 0
abbrev pub no_sample : Sample
no_sample = record { labels = []; value = pos 0 }

-- the sample
abbrev pub sample_of : Data → Sample
sample_of d = option_map_or parts_of (pair d) no_sample
