-- The command for the words after the first, once `clap` has built it, and what its rows say.
use Rattle.std.proofs.Common.{◌≡◌, ◌∙◌, Bool, true, refl, List, [], ◌∷◌, ◌++◌, Option, Some, None, option_map}
use Rattle.std.specs.Prelude.{codes}
use Rattle.clap.specs.Values.{reading_of}
use Rattle.clap.specs.Walk.{Row, Rule, Text}
use Rattle.clap.specs.Simple.{App, Shape, built}
use Rattle.clap.specs.Faults.{is_simple_and_free}
use Rattle.clap.specs.Kinds.{Kinds}
use Rattle.clap.specs.declared.builder.action.ArgAction.TheVariants.{Set}
use Rattle.clap.specs.declared.builder.value_parser.Reading.TheVariants.{AsWritten}
use Rattle.clap.specs.declared.builder.value_parser.ValueParser.{ValueParser}
use Rattle.clap.specs.declared.builder.value_parser.ValueParser.TheVariants as vp
use Rattle.op_words.specs.declared.reading.Part.{Part}
use Rattle.op_words.specs.declared.reading.Part.TheVariants.{Alertmanager, Prometheus, Rules}
use Rattle.op_words.specs.Commands.{dir_rule, each_rule, part_rule, words_app}
use Rattle.op_words.proofs.RowLemmas.{find_last, find_skips, found, given_row}

-- DIR, filled in: it is the first positional
abbrev pub dir_arg : Rule
dir_arg = record dir_rule { index = Some 1; action = Some Set; range = Some (record { start_inclusive = 1; end_inclusive = 1 }); parser = Some vp.String }

-- `--part`, filled in: it takes one value
abbrev pub part_arg : ValueParser → Rule
part_arg p = record (part_rule p) { action = Some Set; range = Some (record { start_inclusive = 1; end_inclusive = 1 }) }

-- `--each`, filled in: it takes no value, and is false where it isn't used
abbrev pub each_arg : Rule
each_arg = record each_rule {
  range = Some (record { start_inclusive = 0; end_inclusive = 0 });
  defaults = codes "false" ∷ [];
  missing = codes "true" ∷ [];
  parser = Some vp.Bool;
}

-- the arguments that clap walks by
abbrev pub words_rules : ValueParser → List Rule
words_rules p = dir_arg ∷ part_arg p ∷ each_arg ∷ []

-- the command that clap walks by
abbrev pub words_shape : ValueParser → Shape
words_shape p = record (words_app p).top { rules = words_rules p; is_built = true; disable_help_subcommand = true }

-- the command as `clap` builds it
abbrev pub built_app : ValueParser → App
built_app p = record { top = words_shape p; subs = [] }

-- building it comes to this
pub built_is : (p : ValueParser) → built (words_app p) ≡ built_app p
built_is p = refl

-- what clap says of its matches and faults is said of this command
pub is_simple_words : (p : ValueParser) → is_simple_and_free (words_app p) ≡ true
is_simple_words p = refl

-- ---- what rows say

-- the name of a part
abbrev pub part_text : Part → Text
part_text Alertmanager = codes "alertmanager"
part_text Prometheus = codes "prometheus"
part_text Rules = codes "rules"

-- what the words so far have said
pub record Said : Type 0 where
  pub dir : Option Text
  pub part : Option Part
  pub each : Option Bool

-- the row of a DIR
abbrev pub dir_row : Text → Row
dir_row dir = given_row (codes "dir") AsWritten dir

-- the row of a part
abbrev pub part_row : ValueParser → Part → Row
part_row p part = given_row (codes "part") (reading_of p) (part_text part)

-- the row of `--each`
abbrev pub each_row : Row
each_row = given_row (codes "each") AsWritten (codes "true")

-- the rows are those of what was said
pub record Holds (p : ValueParser) (rows : List Row) (s : Said) : Type 0 where
  pub dir : found (codes "dir") rows ≡ option_map dir_row s.dir
  pub part : found (codes "part") rows ≡ option_map (part_row p) s.part
  pub each : found (codes "each") rows ≡ option_map (λ _. each_row) s.each

-- a first DIR adds its row
pub holds_dir : (p : ValueParser) (rows : List Row) (part : Option Part) (each : Option Bool) (text : Text)
    → Holds p rows (record { dir = None; part = part; each = each }) → Holds p (rows ++ dir_row text ∷ []) (record { dir = Some text; part = part; each = each })
holds_dir p rows part each text h = record {
  dir = find_last _ rows (dir_row text) h.dir refl;
  part = find_skips _ rows (dir_row text) refl ∙ h.part;
  each = find_skips _ rows (dir_row text) refl ∙ h.each;
}

-- a first part adds its row
pub holds_part : (p : ValueParser) (rows : List Row) (dir : Option Text) (each : Option Bool) (x : Part)
    → Holds p rows (record { dir = dir; part = None; each = each }) → Holds p (rows ++ part_row p x ∷ []) (record { dir = dir; part = Some x; each = each })
holds_part p rows dir each x h = record {
  dir = find_skips _ rows (part_row p x) refl ∙ h.dir;
  part = find_last _ rows (part_row p x) h.part refl;
  each = find_skips _ rows (part_row p x) refl ∙ h.each;
}

-- a first `--each` adds its row
pub holds_each : (p : ValueParser) (rows : List Row) (dir : Option Text) (part : Option Part)
    → Holds p rows (record { dir = dir; part = part; each = None }) → Holds p (rows ++ each_row ∷ []) (record { dir = dir; part = part; each = Some true })
holds_each p rows dir part h = record {
  dir = find_skips _ rows each_row refl ∙ h.dir;
  part = find_skips _ rows each_row refl ∙ h.part;
  each = find_last _ rows each_row h.each refl;
}

-- some kind comes
abbrev pub Fails : Kinds → Type 0
Fails [] = ⊥
Fails (k ∷ ks) = Unit {0}
