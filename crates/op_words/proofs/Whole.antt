-- What clap says of the words, exactly: it faults where they give nothing, and else its matches give it.
use Rattle.std.proofs.Common.{◌≡◌, ◌∙◌, ◌||◌, Bool, true, false, cond, not, refl, sym, ap, ap₂, subst, subst₂, List, [], ◌∷◌, ◌++◌, map, Option, Some, None, is_some, option_map}
use Rattle.std.specs.Prelude.{String, codes, fold, option_and_then, slice_get, string_bytes}
use Rattle.std.specs.Option.{option_map_or}
use Rattle.std.specs.Str.{bytes_eq}
use Rattle.std.proofs.lemmas.Str.{IsUtf8-string_bytes}
use Rattle.clap.specs.Kinds.{IsAmong, Kinds, or_else}
use Rattle.clap.specs.Matches.{first_value, one_text}
use Rattle.clap.specs.Simple.{matches_of}
use Rattle.clap.specs.Walk.{Held, Row, Text, first_of, has_row, more_values, nothing_held, one_of, row_text, rows_of, settled, walk_from, walked, with_default, with_values}
use Rattle.clap.specs.Faults.{check_fault, defaults_fault, fault_of, settle_fault, walk_fault}
use Rattle.clap.specs.Facts.{explicit_source}
use Rattle.clap.specs.declared.error.kind.ErrorKind.{ErrorKind}
use Rattle.clap.specs.declared.error.kind.ErrorKind.TheVariants as kind
use Rattle.clap.specs.declared.builder.value_parser.Reading.TheVariants.{AsWritten}
use Rattle.clap.specs.declared.parser.matches.ValueSource.TheVariants.{DefaultValue}
use Rattle.clap.specs.declared.builder.value_parser.ValueParser.{ValueParser}
use Rattle.clap.specs.declared.parser.matches.Found.{Found}
use Rattle.clap.proofs.FaultLemmas.{leaf_fault}
use Rattle.clap.proofs.WalkLemmas.{first_value-rows, one_text-rows}
use Rattle.op_words.specs.Commands.{KnowsParts, flag_text, given_by, words_app}
use Rattle.op_words.specs.Readings.{given_in, part_named}
use Rattle.op_words.specs.declared.reading.Given.{Given}
use Rattle.op_words.specs.declared.reading.Part.{Part}
use Rattle.op_words.proofs.PartLemmas.{part_named-text}
use Rattle.op_words.proofs.RowLemmas.{at_row-new, find_last, find_skips, found, list_any-find}
use Rattle.op_words.proofs.Rules.{Fails, Holds, Said, built_app, dir_arg, dir_row, each_arg, each_row, part_arg, part_row, words_rules, words_shape}
use Rattle.op_words.proofs.Said.{given_by_said, given_in-said, nothing_said, said}
use Rattle.op_words.proofs.Turns.{Ends, Outcome, Stands, fails_after}
use Rattle.op_words.proofs.Exact.{AllUtf8, exact, so_far}

-- ---- the rows at the end

-- a choice of one thing
either : {X : Type 0} (b : Bool) (x : X) → cond b x x ≡ x
either true x = refl
either false x = refl

-- `--each`, where it isn't used
abbrev default_row : Row
default_row = record { id = codes "each"; values = codes "false" ∷ []; count = None; source = Some DefaultValue; reading = AsWritten }

-- the rows with those of defaults
abbrev ended : Option Bool → List Row → List Row
ended None rows = rows ++ default_row ∷ []
ended (Some each) rows = rows

-- the default of `--each` adds a row where it wasn't used
each_default : (rows : List Row) (each : Option Bool) → found (codes "each") rows ≡ option_map (λ _. each_row) each → with_default rows each_arg ≡ ended each rows
each_default rows None is =
    ap (λ b. cond b rows (with_values (codes "each") AsWritten DefaultValue (codes "false" ∷ []) rows)) (list_any-find (λ r. bytes_eq r.id (codes "each")) rows ∙ ap is_some is)
    ∙ at_row-new (codes "each") (more_values DefaultValue (codes "false" ∷ [])) (default_row ∷ []) rows is
each_default rows (Some each) is =
    ap (λ b. cond b rows (with_values (codes "each") AsWritten DefaultValue (codes "false" ∷ []) rows)) (list_any-find (λ r. bytes_eq r.id (codes "each")) rows ∙ ap is_some is)

module _ (p : ValueParser) where
  -- the rows that clap gives
  abbrev given_rows : List Row → List Row
  given_rows rows = fold with_default rows (words_rules p)

  -- the defaults of all arguments: DIR and `--part` have none
  rows_end : (rows : List Row) (each : Option Bool) → found (codes "each") rows ≡ option_map (λ _. each_row) each → given_rows rows ≡ ended each rows
  rows_end rows each is =
      ap (λ r. with_default (with_default r (part_arg p)) each_arg) (either (has_row (codes "dir") rows) rows)
      ∙ ap (λ r. with_default r each_arg) (either (has_row (codes "part") rows) rows)
      ∙ each_default rows each is

  -- the defaults fault nothing
  defaults_pass : (rows : List Row) → defaults_fault rows (words_rules p) ≡ []
  unfolding defaults_fault
  defaults_pass rows =
      let first = with_default rows dir_arg in
      let second = with_default first (part_arg p) in
      let nothing : Kinds = [] in
      λ i. or_else (either (has_row (codes "dir") rows || true) nothing i) (or_else (either (has_row (codes "part") first || true) nothing i)
      (or_else (either (has_row (codes "each") second || false) nothing i) nothing))

  -- the defaults leave the row of DIR
  ended_dir : (rows : List Row) (each : Option Bool) → found (codes "dir") (ended each rows) ≡ found (codes "dir") rows
  ended_dir rows None = find_skips _ rows default_row refl
  ended_dir rows (Some each) = refl

  -- the defaults leave the row of the part
  ended_part : (rows : List Row) (each : Option Bool) → found (codes "part") (ended each rows) ≡ found (codes "part") rows
  ended_part rows None = find_skips _ rows default_row refl
  ended_part rows (Some each) = refl

  -- with the defaults `--each` has the text of what was said
  ended_each : (rows : List Row) (each : Option Bool) → found (codes "each") rows ≡ option_map (λ _. each_row) each → one_of (codes "each") (ended each rows) ≡ Some (flag_text (is_some each))
  ended_each rows None is = ap (option_and_then row_text) (find_last _ rows default_row is refl)
  ended_each rows (Some each) is = ap (option_and_then row_text) is

  -- the row of a part has its name
  part_back : (part : Option Part) → option_and_then part_named (option_and_then (λ (r : Row). slice_get r.values 0) (option_map (part_row p) part)) ≡ part
  part_back None = refl
  part_back (Some part) = part_named-text part

  -- ---- the faults of all

  -- what clap makes of the words, where they give this
  abbrev Law : Option Given → Kinds → List Row → Type 0
  Law None kinds rows = Fails kinds
  Law (Some given) kinds rows =
      (kinds ≡ []) × (first_of (codes "dir") rows ≡ Some given.dir) × (option_and_then part_named (first_of (codes "part") rows) ≡ given.part)
      × (one_of (codes "each") rows ≡ Some (flag_text given.each))

  -- the faults, those of the walk and of settling first
  abbrev all_faults : Kinds → Kinds → List Row → Kinds
  all_faults walking settling rows =
      or_else walking (or_else [] (or_else settling (or_else (defaults_fault rows (words_rules p)) (check_fault (words_shape p) (given_rows rows) false))))

  -- the last check: DIR is there
  abbrev missing : Option Row → Kinds
  missing row = cond (not (option_map_or (λ r. explicit_source r.source) row false) || false) (kind.MissingRequiredArgument ∷ []) []

  -- where the rows hold what was said, only DIR may be missing
  held_law : (rows : List Row) (dir : Option Text) (part : Option Part) (each : Option Bool) → Holds p rows (so_far dir part each)
      → Law (given_by_said (so_far dir part each)) (all_faults [] [] rows) (given_rows rows)
  held_law rows dir part each h = by dir h.dir
    where
      rows_are : given_rows rows ≡ ended each rows
      rows_are = rows_end rows each h.each

      dir_is : found (codes "dir") (given_rows rows) ≡ found (codes "dir") rows
      dir_is = ap (found (codes "dir")) rows_are ∙ ended_dir rows each

      by : (o : Option Text) → found (codes "dir") rows ≡ option_map dir_row o → Law (given_by_said (so_far o part each)) (all_faults [] [] rows) (given_rows rows)
      by None is =
          fails_after (defaults_fault rows (words_rules p)) (check_fault (words_shape p) (given_rows rows) false)
          (subst (λ o. Fails (missing o)) (sym (dir_is ∙ is)) tt)
      by (Some dir) is = (
        ap₂ or_else (defaults_pass rows) (ap missing (dir_is ∙ is)),
        ap (option_and_then (λ (r : Row). slice_get r.values 0)) (dir_is ∙ is),
        ap (λ o. option_and_then part_named (option_and_then (λ (r : Row). slice_get r.values 0) o)) (ap (found (codes "part")) rows_are ∙ ended_part rows each ∙ h.part) ∙ part_back part,
        ap (one_of (codes "each")) rows_are ∙ ended_each rows each h.each,
      )

  -- what the walk comes to, with what clap checks behind it
  law_of : (walking settling : Kinds) (rows : List Row) (o : Option Said) → Outcome p (or_else walking settling) rows o
      → Law (option_and_then given_by_said o) (all_faults walking settling rows) (given_rows rows)
  law_of [] [] rows None h = absurd h
  law_of [] (k ∷ ks) rows None h = tt
  law_of (k ∷ ks) settling rows None h = tt
  law_of [] [] rows (Some s) h = held_law rows s.dir s.part s.each h
  law_of [] (k ∷ ks) rows (Some s) h = absurd h
  law_of (k ∷ ks) settling rows (Some s) h = absurd h

  -- clap faults where the words give nothing, and else its rows have what they give
  law : KnowsParts p → (words : List Text) → AllUtf8 words → Law (given_in words) (fault_of (words_app p) words) (matches_of (words_app p) words)
  law known words u =
      let end : Held = (fold (walked (words_rules p) []) (walk_from nothing_held) words).held in
      let nothing_stands : Stands p [] None nothing_said = record { clean = refl; holds = record { dir = refl; part = refl; each = refl } } in
      let ends : Ends p (walk_from nothing_held) words (said words nothing_said) = (exact p known words u).reading [] None None None None nothing_stands in
      let whole = law_of (walk_fault (words_shape p) [] (walk_from nothing_held) words) (settle_fault (words_rules p) false end) (settled (words_rules p) end).rows (said words nothing_said) ends in
      subst₂ (λ g k. Law g k (matches_of (words_app p) words)) (sym (given_in-said words)) (sym (leaf_fault (built_app p) nothing_held words refl)) whole

  -- ---- what a caller concludes

  -- where clap faults nothing, what is read of its matches is what the words give
  pub taken : KnowsParts p → (words : List Text) → AllUtf8 words → (matches : Found) → fault_of (words_app p) words ≡ [] → rows_of matches ≡ matches_of (words_app p) words
      → (given : Option Given) → ((each : Bool) → one_text matches (codes "each") ≡ Some (flag_text each) → given ≡ given_by matches each) → given ≡ given_in words
  taken known words u matches clean rows given read = go (given_in words) (law known words u)
    where
      makes : Text → Option Part → Bool → Given
      makes d part each = record { dir = d; part = part; each = each }

      go : (o : Option Given) → Law o (fault_of (words_app p) words) (matches_of (words_app p) words) → given ≡ o
      go None h = absurd (subst Fails clean h)
      go (Some g) h =
          let dir : first_value matches (codes "dir") ≡ Some g.dir = first_value-rows matches (codes "dir") ∙ ap (first_of (codes "dir")) rows ∙ h.1 in
          let part : option_and_then part_named (first_value matches (codes "part")) ≡ g.part =
          ap (option_and_then part_named) (first_value-rows matches (codes "part") ∙ ap (first_of (codes "part")) rows) ∙ h.2 in
          let each : one_text matches (codes "each") ≡ Some (flag_text g.each) = one_text-rows matches (codes "each") ∙ ap (one_of (codes "each")) rows ∙ h.3 in
          read g.each each ∙ (λ i. option_map (λ (d : Text). makes d (part i) g.each) (dir i))

  -- where clap refuses the words, they give nothing
  pub none_given : KnowsParts p → (words : List Text) → AllUtf8 words → (k : ErrorKind) → IsAmong k (fault_of (words_app p) words) → None ≡ given_in words
  none_given known words u k among = go (given_in words) (fault_of (words_app p) words) among (law known words u)
    where
      go : (o : Option Given) (kinds : Kinds) → IsAmong k kinds → Law o kinds (matches_of (words_app p) words) → None ≡ o
      go None kinds a h = refl
      go (Some g) [] a h = absurd a
      go (Some g) (x ∷ xs) a h = absurd (subst Fails h.0 tt)

-- the words of a command line are texts
pub all_utf8 : {Z : Type 0} (words : List (String Z)) → AllUtf8 (map string_bytes words)
all_utf8 [] = tt
all_utf8 (word ∷ words) = (IsUtf8-string_bytes word, all_utf8 words)
