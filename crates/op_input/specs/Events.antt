-- What a line of the input asks for. A manifest stands in it as the JSON value that it is.
use Rattle.std.specs.Prelude.{ℕ, List, Bool, true, false, Option}
use Rattle.std.specs.Option.{option_map_or}
use Rattle.serde_json.specs.Data.{Data}
use Rattle.op_base.specs.declared.key.Key.{Key}
use Rattle.op_base.specs.declared.moment.Moment.{Moment}
use Rattle.op_base.specs.Moments.{IsTick}
use Rattle.op_input.specs.declared.event.InputEvent.{InputEvent}
use Rattle.op_input.specs.declared.event.InputEvent.TheVariants as read
use Rattle.op_manifest.specs.declared.shape.Shape.{Shape}
use Rattle.op_manifest.specs.Trees.{data_of}
use Rattle.srv_scrape.specs.declared.found.Found.{Found}
use Rattle.srv_scrape.specs.declared.pages.Sample.{Sample}

pub data Event : Type 0 where
  -- the manifest of that key, of which nothing but the key is read yet
  put : Key → Data → Event
  -- the object of the key goes
  delete : Key → Event
  -- so it is asked, and a rule on shape is broken
  refused_delete : Key → Shape → Event
  -- in the namespace these entries are discovered, and no other
  targets : List ℕ → List Found → Event
  -- so it is asked, and a rule on shape is broken
  refused_targets : List ℕ → Shape → Event
  -- a scrape of the URL answers the samples, or fails
  page : List ℕ → Option (List Sample) → Event
  -- the clock stands at the moment
  tick : Moment → Event
  -- a rule on shape is broken, and whose the line is can't be read
  bad : Shape → Event

-- a line that was read
abbrev pub event_of : InputEvent → Event
event_of (read.Put key manifest) = put key (data_of manifest)
event_of (read.Delete key) = delete key
event_of (read.RefusedDelete key shape) = refused_delete key shape
event_of (read.Targets namespace found) = targets namespace found
event_of (read.RefusedTargets namespace shape) = refused_targets namespace shape
event_of (read.Page url samples) = page url samples
event_of (read.Tick moment) = tick moment
event_of (read.Bad shape) = bad shape

-- a tick's moment is within the limits of moments
abbrev pub HasTime : InputEvent → Type 0
HasTime (read.Put key manifest) = Unit {0}
HasTime (read.Delete key) = Unit {0}
HasTime (read.RefusedDelete key shape) = Unit {0}
HasTime (read.Targets namespace found) = Unit {0}
HasTime (read.RefusedTargets namespace shape) = Unit {0}
HasTime (read.Page url samples) = Unit {0}
HasTime (read.Tick moment) = IsTick moment
HasTime (read.Bad shape) = Unit {0}

-- a line that breaks a rule on shape: its owner's where the owner is named, and else nobody's
abbrev pub refusal : (Shape → Event) → Bool → Shape → Event
refusal refused true shape = refused shape
refusal refused false shape = bad shape

-- what is asked for, unless a rule is broken
abbrev pub judged : Event → (Shape → Event) → Bool → Option Shape → Event
judged asked refused is_named found = option_map_or (refusal refused is_named) found asked
