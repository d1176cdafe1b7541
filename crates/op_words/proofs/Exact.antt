-- On every list of texts, clap's walk comes to what is said by reading the words from left to right.
use Rattle.std.proofs.Common.{◌≡◌, ◌∙◌, Bool, true, false, cond, refl, sym, ap, subst, List, [], ◌∷◌, ◌++◌, Option, Some, None}
use Rattle.std.specs.Prelude.{codes, option_and_then}
use Rattle.std.specs.Str.{IsUtf8, bytes_eq}
use Rattle.clap.specs.Kinds.{or_else}
use Rattle.clap.specs.Walk.{Row, Text, Waiting, Walk, idle, option, settled_rows, used, walked}
use Rattle.clap.specs.declared.builder.value_parser.ValueParser.{ValueParser}
use Rattle.op_words.specs.Commands.{KnowsParts}
use Rattle.op_words.specs.declared.reading.Part.{Part}
use Rattle.op_words.specs.Readings.{begins, is_option, part_named}
use Rattle.op_words.proofs.Rules.{Fails, Holds, Said, each_arg, each_row, part_arg, part_row, words_rules}
use Rattle.op_words.proofs.Said.{said, said_dirs, said_part, with_dir, with_part}
use Rattle.op_words.proofs.Turns.{Ends, Stands, at, dir_holds, dir_used, each_again, each_holds, each_used, ends_lost, ends_well, fails_after, fails_first, folder_fault, folder_walk, part_again, part_holds, part_used, part_wrong, place, plain_turn, plain_walked, stops, turns, unknown_turn, unknown_value, unsettled, value_turn, value_walked}
use Rattle.op_words.proofs.Views.{IsOther, IsPlain, IsUnknown, View, ends, has, names, plain, sets, unknown, view}

-- each word is a text
abbrev pub AllUtf8 : List Text → Type 0
AllUtf8 [] = Unit {0}
AllUtf8 (word ∷ words) = IsUtf8 word × AllUtf8 words

-- what was said so far
abbrev pub so_far : Option Text → Option Part → Option Bool → Said
so_far dir part each = record { dir = dir; part = part; each = each }

-- ---- after `--`

module _ (p : ValueParser) where
  -- a fault of what is held comes with the next word, or at the end
  lost_trailing : (rows : List Row) (pending : Option (Text × List Text)) (waiting : Waiting) (dir : Option Text) (words : List Text) → Fails (unsettled p rows pending)
      → Ends p (at rows pending waiting true (place dir)) words None
  lost_trailing rows pending waiting dir [] h = ends_lost p rows pending waiting true (place dir) h
  lost_trailing rows pending waiting None (word ∷ words) h =
      stops p (at rows pending waiting true 1) word words (subst Fails (sym (folder_fault p rows pending)) h)
  lost_trailing rows pending waiting (Some dir) (word ∷ words) h = stops p (at rows pending waiting true 2) word words tt

  -- DIR is held
  abbrev held_dir : Text → Option (Text × List Text)
  held_dir dir = Some (codes "dir", dir ∷ [])

  -- a first DIR is held, and what was pending before it is settled
  stands_dir : (rows : List Row) (pending : Option (Text × List Text)) (part : Option Part) (each : Option Bool) (dir : Text) → Stands p rows pending (so_far None part each)
      → Stands p (settled_rows (words_rules p) pending rows) (held_dir dir) (so_far (Some dir) part each)
  stands_dir rows pending part each dir st = record {
    clean = dir_used p (settled_rows (words_rules p) pending rows) dir st.holds.dir;
    holds = dir_holds p (settled_rows (words_rules p) pending rows) part each dir st.holds;
  }

  -- after `--` a word goes to DIR
  trailing_walked : (rows : List Row) (pending : Option (Text × List Text)) (word : Text)
      → walked (words_rules p) [] (at rows pending idle true 1) word ≡ at (settled_rows (words_rules p) pending rows) (held_dir word) idle true 2
  unfolding walked
  trailing_walked rows pending word = folder_walk p rows pending word true

  -- after `--` the words come to what is said of them, each as DIR
  trailing_reads : (words : List Text) (rows : List Row) (pending : Option (Text × List Text)) (dir : Option Text) (part : Option Part) (each : Option Bool)
      → Stands p rows pending (so_far dir part each) → Ends p (at rows pending idle true (place dir)) words (said_dirs words (so_far dir part each))
  unfolding said_dirs
  trailing_reads [] rows pending dir part each st = ends_well p rows pending idle true (place dir) (so_far dir part each) st
  trailing_reads (word ∷ words) rows pending None part each st =
      turns p (at rows pending idle true 1) _ word words (said_dirs words (so_far (Some word) part each)) (folder_fault p rows pending ∙ st.clean) (trailing_walked rows pending word)
      (trailing_reads words (settled_rows (words_rules p) pending rows) (held_dir word) (Some word) part each (stands_dir rows pending part each word st))
  trailing_reads (word ∷ words) rows pending (Some dir) part each st = stops p (at rows pending idle true 2) word words tt

-- ---- while options are read

-- the words come to what is said: where an option may come next, and where the value of `--part` comes next
pub record Reads (p : ValueParser) (words : List Text) : Type 0 where
  pub reading : (rows : List Row) (pending : Option (Text × List Text)) (dir : Option Text) (part : Option Part) (each : Option Bool) → Stands p rows pending (so_far dir part each)
      → Ends p (at rows pending idle false (place dir)) words (said words (so_far dir part each))
  pub naming : (rows : List Row) (dir : Option Text) (part : Option Part) (each : Option Bool) → Holds p rows (so_far dir part each)
      → Ends p (at rows (Some (codes "part", [])) (option (codes "part")) false (place dir)) words (said_part words (so_far dir part each))

-- the last two of six choices, where the first four aren't taken
last_two : {X : Type 0} (word : Text) (other : IsOther word) (e : Bool) (a b c d x y : X)
    → cond (bytes_eq word (codes "--")) a (cond (bytes_eq word (codes "--part")) b (cond (begins (codes "--part=") word) c (cond (bytes_eq word (codes "--each")) d (cond e x y)))) ≡ cond e x y
last_two word other e a b c d x y = λ i. cond (other.ends i) a (cond (other.names i) b (cond (other.has i) c (cond (other.sets i) d (cond e x y))))

-- an option that there isn't says nothing
said_unknown : (p : ValueParser) (word : Text) (words : List Text) (s : Said) → IsUnknown p word → said (word ∷ words) s ≡ None
unfolding said
said_unknown p word words s u = last_two word u.other (is_option word) _ _ _ _ None _ ∙ ap (λ b. cond b None (option_and_then (said words) (with_dir word s))) u.option

-- a word that is no option says DIR
said_plain : (word : Text) (words : List Text) (s : Said) → IsPlain word → said (word ∷ words) s ≡ option_and_then (said words) (with_dir word s)
unfolding said
said_plain word words s x = last_two word x.other (is_option word) _ _ _ _ None _ ∙ ap (λ b. cond b None (option_and_then (said words) (with_dir word s))) x.option

module _ (p : ValueParser) (known : KnowsParts p) where
  -- ---- what is held can't be settled

  -- a word behind what can't be settled: it faults, or is `--`
  lost_at : (word : Text) → View p word → (words : List Text) (rows : List Row) (pending : Option (Text × List Text)) (dir : Option Text) → Fails (unsettled p rows pending)
      → Ends p (at rows pending idle false (place dir)) (word ∷ words) None
  unfolding walked
  lost_at _ ends words rows pending dir h =
      turns p (at rows pending idle false (place dir)) (at rows pending idle true (place dir)) (codes "--") words None refl refl (lost_trailing p rows pending idle dir words h)
  lost_at _ names words rows pending dir h = stops p (at rows pending idle false (place dir)) (codes "--part") words (fails_first (unsettled p rows pending) _ h)
  lost_at _ (has name) words rows pending dir h =
      stops p (at rows pending idle false (place dir)) (codes "--part=" ++ name) words (fails_first (or_else (unsettled p rows pending) _) _ (fails_first (unsettled p rows pending) _ h))
  lost_at _ sets words rows pending dir h =
      stops p (at rows pending idle false (place dir)) (codes "--each") words (fails_first (or_else (unsettled p rows pending) _) _ (fails_first (unsettled p rows pending) _ h))
  lost_at _ (unknown word u) words rows pending dir h = stops p (at rows pending idle false (place dir)) word words (unknown_turn p rows pending (place dir) word u)
  lost_at _ (plain word x) words rows pending None h =
      stops p (at rows pending idle false 1) word words (subst Fails (sym (plain_turn p rows pending 1 word x ∙ folder_fault p rows pending)) h)
  lost_at _ (plain word x) words rows pending (Some dir) h = stops p (at rows pending idle false 2) word words (subst Fails (sym (plain_turn p rows pending 2 word x)) tt)

  -- what can't be settled stays so: whatever the words are, they fault
  lost : (words : List Text) → AllUtf8 words → (rows : List Row) (pending : Option (Text × List Text)) (dir : Option Text) → Fails (unsettled p rows pending)
      → Ends p (at rows pending idle false (place dir)) words None
  lost [] u rows pending dir h = ends_lost p rows pending idle false (place dir) h
  lost (word ∷ words) u rows pending dir h = lost_at word (view p word u.0) words rows pending dir h

  -- ---- one word where an option may come

  -- `--part=NAME`, by the part that it names
  part_reads : (words : List Text) → Reads p words → (name : Text) (found : Option Part) → part_named name ≡ found → (rows : List Row) (pending : Option (Text × List Text)) (dir : Option Text)
      (part : Option Part) (each : Option Bool) → Stands p rows pending (so_far dir part each)
      → Ends p (at rows pending idle false (place dir)) ((codes "--part=" ++ name) ∷ words) (option_and_then (said words) (with_part found (so_far dir part each)))
  unfolding walked
  part_reads words rest name None is rows pending dir part each st =
      stops p (at rows pending idle false (place dir)) (codes "--part=" ++ name) words
      (fails_first (or_else (unsettled p rows pending) _) _ (fails_after (unsettled p rows pending) _ (part_wrong p known (settled_rows (words_rules p) pending rows) name is)))
  part_reads words rest name (Some new) is rows pending dir (Some part) each st =
      stops p (at rows pending idle false (place dir)) (codes "--part=" ++ name) words
      (fails_first (or_else (unsettled p rows pending) _) _ (fails_after (unsettled p rows pending) _ (part_again p known (settled_rows (words_rules p) pending rows) name (part_row p part) st.holds.part)))
  part_reads words rest name (Some new) is rows pending dir None each st =
      turns p (at rows pending idle false (place dir)) (at (used (part_arg p) (name ∷ []) (settled_rows (words_rules p) pending rows)) None idle false (place dir)) (codes "--part=" ++ name) words
      (said words (so_far dir (Some new) each))
      (λ i. or_else (or_else (st.clean i) (part_used p known (settled_rows (words_rules p) pending rows) name new is st.holds.part i)) [])
      refl
      (rest.reading (used (part_arg p) (name ∷ []) (settled_rows (words_rules p) pending rows)) None dir (Some new) each
      (record { clean = refl; holds = part_holds p (settled_rows (words_rules p) pending rows) dir each name new is st.holds }))

  -- `--each`, a first or a second time
  each_reads : (words : List Text) → Reads p words → (rows : List Row) (pending : Option (Text × List Text)) (dir : Option Text) (part : Option Part) (each : Option Bool)
      → Stands p rows pending (so_far dir part each) → Ends p (at rows pending idle false (place dir)) (codes "--each" ∷ words) (said (codes "--each" ∷ words) (so_far dir part each))
  unfolding said walked
  each_reads words rest rows pending dir part (Some each) st =
      stops p (at rows pending idle false (place dir)) (codes "--each") words
      (fails_first (or_else (unsettled p rows pending) _) _ (fails_after (unsettled p rows pending) _ (each_again (settled_rows (words_rules p) pending rows) each_row st.holds.each)))
  each_reads words rest rows pending dir part None st =
      turns p (at rows pending idle false (place dir)) (at (used each_arg [] (settled_rows (words_rules p) pending rows)) None idle false (place dir)) (codes "--each") words
      (said words (so_far dir part (Some true)))
      (λ i. or_else (or_else (st.clean i) (each_used (settled_rows (words_rules p) pending rows) st.holds.each i)) [])
      refl
      (rest.reading (used each_arg [] (settled_rows (words_rules p) pending rows)) None dir part (Some true)
      (record { clean = refl; holds = each_holds p (settled_rows (words_rules p) pending rows) dir part st.holds }))

  -- a word that is no option, as the first DIR or the second
  dir_reads : (words : List Text) → Reads p words → (word : Text) → IsPlain word → (rows : List Row) (pending : Option (Text × List Text)) (dir : Option Text) (part : Option Part)
      (each : Option Bool) → Stands p rows pending (so_far dir part each)
      → Ends p (at rows pending idle false (place dir)) (word ∷ words) (option_and_then (said words) (with_dir word (so_far dir part each)))
  dir_reads words rest word x rows pending None part each st =
      turns p (at rows pending idle false 1) (at (settled_rows (words_rules p) pending rows) (held_dir p word) idle false 2) word words (said words (so_far (Some word) part each))
      (plain_turn p rows pending 1 word x ∙ folder_fault p rows pending ∙ st.clean) (plain_walked p rows pending 1 word x ∙ folder_walk p rows pending word false)
      (rest.reading (settled_rows (words_rules p) pending rows) (held_dir p word) (Some word) part each (stands_dir p rows pending part each word st))
  dir_reads words rest word x rows pending (Some dir) part each st =
      stops p (at rows pending idle false 2) word words (subst Fails (sym (plain_turn p rows pending 2 word x)) tt)

  -- a word of any kind, where an option may come
  reads_at : (word : Text) → View p word → (words : List Text) → Reads p words → (rows : List Row) (pending : Option (Text × List Text)) (dir : Option Text) (part : Option Part)
      (each : Option Bool) → Stands p rows pending (so_far dir part each)
      → Ends p (at rows pending idle false (place dir)) (word ∷ words) (said (word ∷ words) (so_far dir part each))
  unfolding said walked
  reads_at _ ends words rest rows pending dir part each st =
      turns p (at rows pending idle false (place dir)) (at rows pending idle true (place dir)) (codes "--") words (said_dirs words (so_far dir part each)) refl refl
      (trailing_reads p words rows pending dir part each st)
  reads_at _ names words rest rows pending dir part each st =
      turns p (at rows pending idle false (place dir)) (at (settled_rows (words_rules p) pending rows) (Some (codes "part", [])) (option (codes "part")) false (place dir)) (codes "--part") words
      (said_part words (so_far dir part each)) (ap (λ f. or_else f []) st.clean) refl
      (rest.naming (settled_rows (words_rules p) pending rows) dir part each st.holds)
  reads_at _ (has name) words rest rows pending dir part each st = part_reads words rest name (part_named name) refl rows pending dir part each st
  reads_at _ sets words rest rows pending dir part each st = each_reads words rest rows pending dir part each st
  reads_at _ (unknown word u) words rest rows pending dir part each st =
      subst (Ends p (at rows pending idle false (place dir)) (word ∷ words)) (sym (said_unknown p word words (so_far dir part each) u))
      (stops p (at rows pending idle false (place dir)) word words (unknown_turn p rows pending (place dir) word u))
  reads_at _ (plain word x) words rest rows pending dir part each st =
      subst (Ends p (at rows pending idle false (place dir)) (word ∷ words)) (sym (said_plain word words (so_far dir part each) x))
      (dir_reads words rest word x rows pending dir part each st)

  -- ---- the word after `--part`

  -- where the walk stands after `--part`
  abbrev asked_at : List Row → Option Text → Walk
  asked_at rows dir = at rows (Some (codes "part", [])) (option (codes "part")) false (place dir)

  -- the value of `--part`, by the part that it names: one that it doesn't take is lost, and faults later
  value_reads : (words : List Text) → AllUtf8 words → Reads p words → (word : Text) → IsPlain word → (found : Option Part) → part_named word ≡ found → (rows : List Row) (dir : Option Text)
      (part : Option Part) (each : Option Bool) → Holds p rows (so_far dir part each)
      → Ends p (asked_at rows dir) (word ∷ words) (option_and_then (said words) (with_part found (so_far dir part each)))
  value_reads words u rest word x None is rows dir part each h =
      turns p (asked_at rows dir) (at rows (Some (codes "part", word ∷ [])) idle false (place dir)) word words None (value_turn p rows (place dir) word x) (value_walked p rows (place dir) word x)
      (lost words u rows (Some (codes "part", word ∷ [])) dir (part_wrong p known rows word is))
  value_reads words u rest word x (Some new) is rows dir (Some part) each h =
      turns p (asked_at rows dir) (at rows (Some (codes "part", word ∷ [])) idle false (place dir)) word words None (value_turn p rows (place dir) word x) (value_walked p rows (place dir) word x)
      (lost words u rows (Some (codes "part", word ∷ [])) dir (part_again p known rows word (part_row p part) h.part))
  value_reads words u rest word x (Some new) is rows dir None each h =
      turns p (asked_at rows dir) (at rows (Some (codes "part", word ∷ [])) idle false (place dir)) word words (said words (so_far dir (Some new) each))
      (value_turn p rows (place dir) word x) (value_walked p rows (place dir) word x)
      (rest.reading rows (Some (codes "part", word ∷ [])) dir (Some new) each
      (record { clean = part_used p known rows word new is h.part; holds = part_holds p rows dir each word new is h }))

  -- a word of any kind after `--part`
  naming_at : (word : Text) → View p word → (words : List Text) → AllUtf8 words → Reads p words → (rows : List Row) (dir : Option Text) (part : Option Part) (each : Option Bool)
      → Holds p rows (so_far dir part each) → Ends p (asked_at rows dir) (word ∷ words) (option_and_then (said words) (with_part (part_named word) (so_far dir part each)))
  unfolding walked
  naming_at _ ends words u rest rows dir part each h =
      turns p (asked_at rows dir) (at rows (Some (codes "part", [])) (option (codes "part")) true (place dir)) (codes "--") words None refl refl
      (lost_trailing p rows (Some (codes "part", [])) (option (codes "part")) dir words tt)
  naming_at _ names words u rest rows dir part each h = stops p (asked_at rows dir) (codes "--part") words tt
  naming_at _ (has name) words u rest rows dir part each h = stops p (asked_at rows dir) (codes "--part=" ++ name) words tt
  naming_at _ sets words u rest rows dir part each h = stops p (asked_at rows dir) (codes "--each") words tt
  naming_at _ (unknown word x) words u rest rows dir part each h =
      subst (λ o. Ends p (asked_at rows dir) (word ∷ words) (option_and_then (said words) (with_part o (so_far dir part each)))) (sym x.no_part)
      (stops p (asked_at rows dir) word words (unknown_value p rows (Some (codes "part", [])) (place dir) word x))
  naming_at _ (plain word x) words u rest rows dir part each h = value_reads words u rest word x (part_named word) refl rows dir part each h

  -- ---- all words

  -- the words come to what is said, in both states
  pub exact : (words : List Text) → AllUtf8 words → Reads p words
  unfolding said said_part
  exact [] u = record {
    reading = λ rows pending dir part each st. ends_well p rows pending idle false (place dir) (so_far dir part each) st;
    naming = λ rows dir part each h. ends_lost p rows (Some (codes "part", [])) (option (codes "part")) false (place dir) tt;
  }
  exact (word ∷ words) u =
      let rest : Reads p words = exact words u.1 in
      record {
        reading = λ rows pending dir part each st. reads_at word (view p word u.0) words rest rows pending dir part each st;
        naming = λ rows dir part each h. naming_at word (view p word u.0) words u.1 rest rows dir part each h;
      }
