-- The lines of an input: each is a JSON object (RFC 8259) with exactly one key, which says what its value is. A field
-- that is null counts as absent. Paths of breaches are counted from the value of the key.
use Rattle.std.specs.Prelude.{ℕ, List, [], codes}
use Rattle.std.specs.Option.{option_map_or}
use Rattle.serde_json.specs.Data.{Data}
use Rattle.op_manifest.specs.declared.shape.TheConstants.ShapeRule.{UNKNOWN_KIND}
use Rattle.op_manifest.specs.Checks.{table, whole}
use Rattle.op_manifest.specs.Files.{json_wrongs, json_in}
use Rattle.op_manifest.specs.Shapes.{first, broken}
use Rattle.op_input.specs.Deletes.{delete_of}
use Rattle.op_input.specs.Events.{Event, page, tick, bad}
use Rattle.op_input.specs.Keys.{only_field}
use Rattle.op_input.specs.Pages.{page_rows, url_of, samples_of}
use Rattle.op_input.specs.Puts.{put_of}
use Rattle.op_input.specs.Targets.{targets_of}
use Rattle.op_input.specs.Ticks.{moment_of}

-- a page, or its first breach
abbrev pub page_event : Data → Event
page_event d = option_map_or bad (first (table page_rows [] d)) (page (url_of d) (samples_of d))

-- a tick, or its breach
abbrev pub tick_event : Data → Event
tick_event d = option_map_or bad (first (whole [] d)) (tick (moment_of d))

-- what the value of the key says, where no other field stands beside it, and else the other event
abbrev pub with_key : List ℕ → (Data → Event) → Data → Event → Event
with_key key read d other = option_map_or read (only_field key d) other

-- a value without exactly one known key is nobody's
abbrev pub unknown : Event
unknown = bad (broken UNKNOWN_KIND [])

-- a page or a tick
abbrev pub observed : Data → Event
observed d =
    with_key (codes "page") page_event d
    (with_key (codes "tick") tick_event d
    unknown)

-- a deletion or targets, or else such a one
abbrev pub unput : Data → Event
unput d =
    with_key (codes "delete") delete_of d
    (with_key (codes "targets") targets_of d
    (observed d))

-- what a line's JSON value asks for: a manifest, or else such a one
abbrev pub value_event : Data → Event
value_event d = with_key (codes "put") put_of d (unput d)

-- what a line's bytes ask for
unfoldable pub line_event : List ℕ → Event
line_event bytes = option_map_or bad (first (json_wrongs bytes)) (value_event (json_in bytes))

-- a deletion
abbrev pub deleted : Data → Event
deleted d = with_key (codes "delete") delete_of d unknown

-- what a line's JSON value asks for where manifests and deletions alone are known
abbrev pub value_change : Data → Event
value_change d = with_key (codes "put") put_of d (deleted d)

-- what a line's bytes ask for there
unfoldable pub line_change : List ℕ → Event
line_change bytes = option_map_or bad (first (json_wrongs bytes)) (value_change (json_in bytes))
