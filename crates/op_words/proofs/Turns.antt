-- What clap's walk makes of one word, in each state that it can be in.
use Rattle.std.proofs.Common.{◌≡◌, ◌∙◌, ◌&&◌, ◌||◌, ℕ, Bool, true, false, cond, not, sym, ap, ap₂, subst, List, [], ◌∷◌, Option, Some, None, is_some}
use Rattle.std.specs.Prelude.{codes, fold}
use Rattle.std.specs.Option.{option_map_or}
use Rattle.std.specs.Str.{bytes_eq}
use Rattle.clap.specs.Lexer.{long_of}
use Rattle.clap.specs.Values.{refused_kind}
use Rattle.clap.specs.ValueTests.{accepts}
use Rattle.clap.specs.Kinds.{Kinds, or_else}
use Rattle.clap.specs.Walk.{Held, Row, Step, Text, Waiting, Walk, after_step, has_row, idle, is_pending, next, option, pushed, settled, settled_rows, trailing, value, used, walked, word_met}
use Rattle.clap.specs.Walk.{long_or_other, short_or_plain}
use Rattle.clap.specs.Faults.{bundle_fault, flag_word_fault, settle_fault, step_fault, turn_fault, use_fault, walk_fault, word_fault}
use Rattle.clap.specs.declared.builder.value_parser.ValueParser.{ValueParser}
use Rattle.clap.specs.declared.error.kind.ErrorKind.TheVariants as kind
use Rattle.op_words.specs.Commands.{KnowsParts}
use Rattle.op_words.specs.declared.reading.Part.{Part}
use Rattle.op_words.specs.Readings.{part_named}
use Rattle.op_words.proofs.PartLemmas.{name_of_part}
use Rattle.op_words.proofs.RowLemmas.{and_false, found, list_any-find, with_values-new}
use Rattle.op_words.proofs.Rules.{Fails, Holds, Said, dir_arg, each_arg, holds_dir, holds_each, holds_part, part_arg, part_text, words_rules, words_shape}
use Rattle.op_words.proofs.Views.{IsPlain, IsUnknown, held_with}

-- ---- faults, one after another

-- a first fault stays
pub fails_first : (a b : Kinds) → Fails a → Fails (or_else a b)
fails_first [] b h = absurd h
fails_first (k ∷ ks) b h = tt

-- a second fault comes, or the first does
pub fails_after : (a b : Kinds) → Fails b → Fails (or_else a b)
fails_after [] b h = h
fails_after (k ∷ ks) b h = tt

-- ---- where the walk stands

-- where the next DIR would go: there is one place
abbrev pub place : Option Text → ℕ
place dir = cond (is_some dir) 2 1

-- a place of the walk, where no subcommand was met and no flag is to be passed over
abbrev pub at : List Row → Option (Text × List Text) → Waiting → Bool → ℕ → Walk
at rows pending waiting is_trailing position = record {
  held = held_with rows pending;
  waiting = waiting;
  position = position;
  is_trailing = is_trailing;
  stopped = None;
}

-- the fault of settling what is held
abbrev pub unsettled : ValueParser → List Row → Option (Text × List Text) → Kinds
unsettled p rows pending = settle_fault (words_rules p) false (held_with rows pending)

-- what the words so far come to: they fault, or the rows say what was said
abbrev pub Outcome : ValueParser → Kinds → List Row → Option Said → Type 0
Outcome p [] rows None = ⊥
Outcome p [] rows (Some s) = Holds p rows s
Outcome p (k ∷ ks) rows None = Unit {0}
Outcome p (k ∷ ks) rows (Some s) = ⊥

-- from this place the words come to what was said
abbrev pub Ends : ValueParser → Walk → List Text → Option Said → Type 0
Ends p w words o =
    Outcome p (or_else (walk_fault (words_shape p) [] w words) (settle_fault (words_rules p) false (fold (walked (words_rules p) []) w words).held))
    (settled (words_rules p) (fold (walked (words_rules p) []) w words).held).rows o

-- a fault comes to nothing said
fails_out : (p : ValueParser) (f : Kinds) (rows : List Row) → Fails f → Outcome p f rows None
fails_out p [] rows h = absurd h
fails_out p (k ∷ ks) rows h = tt

-- one more word, which doesn't fault
pub turns : (p : ValueParser) (w after : Walk) (word : Text) (words : List Text) (o : Option Said) → turn_fault (words_shape p) [] w word ≡ [] → walked (words_rules p) [] w word ≡ after
    → Ends p after words o → Ends p w (word ∷ words) o
unfolding walk_fault
turns p w after word words o clean is h =
    let there : Ends p (walked (words_rules p) [] w word) words o = subst (λ x. Ends p x words o) (sym is) h in
    let end : Held = (fold (walked (words_rules p) []) (walked (words_rules p) [] w word) words).held in
    subst (λ f. Outcome p (or_else (or_else f (walk_fault (words_shape p) [] (walked (words_rules p) [] w word) words)) (settle_fault (words_rules p) false end))
    (settled (words_rules p) end).rows o) (sym clean) there

-- one more word, which faults
pub stops : (p : ValueParser) (w : Walk) (word : Text) (words : List Text) → Fails (turn_fault (words_shape p) [] w word) → Ends p w (word ∷ words) None
unfolding walk_fault
stops p w word words h = fails_out p _ _ (fails_first _ _ (fails_first (turn_fault (words_shape p) [] w word) _ h))

-- no more words
pub ends_lost : (p : ValueParser) (rows : List Row) (pending : Option (Text × List Text)) (waiting : Waiting) (is_trailing : Bool) (position : ℕ) → Fails (unsettled p rows pending)
    → Ends p (at rows pending waiting is_trailing position) [] None
unfolding walk_fault
ends_lost p rows pending waiting is_trailing position h = fails_out p (unsettled p rows pending) _ h

-- ---- what is held, once it is settled, is what was said

-- what is held can be settled, and then holds what was said
pub record Stands (p : ValueParser) (rows : List Row) (pending : Option (Text × List Text)) (s : Said) : Type 0 where
  pub clean : unsettled p rows pending ≡ []
  pub holds : Holds p (settled_rows (words_rules p) pending rows) s

-- no more words, where what is held can be settled
pub ends_well : (p : ValueParser) (rows : List Row) (pending : Option (Text × List Text)) (waiting : Waiting) (is_trailing : Bool) (position : ℕ) (s : Said) → Stands p rows pending s
    → Ends p (at rows pending waiting is_trailing position) [] (Some s)
unfolding walk_fault
ends_well p rows pending waiting is_trailing position s st =
    subst (λ f. Outcome p f (settled_rows (words_rules p) pending rows) (Some s)) (sym st.clean) st.holds

-- ---- one use of an argument

-- no row is found where there is none
has_none : (id : Text) (rows : List Row) → found id rows ≡ None → has_row id rows ≡ false
has_none id rows none = list_any-find (λ r. bytes_eq r.id id) rows ∙ ap is_some none

-- a row is found where there is one
has_one : (id : Text) (rows : List Row) (row : Row) → found id rows ≡ Some row → has_row id rows ≡ true
has_one id rows row is = list_any-find (λ r. bytes_eq r.id id) rows ∙ ap is_some is

-- a use that may come once
abbrev once : Bool → Kinds → Kinds
once is_there values = or_else (cond (is_there && not false) (kind.ArgumentConflict ∷ []) []) values

-- a first DIR can be settled
pub dir_used : (p : ValueParser) (rows : List Row) (dir : Text) → found (codes "dir") rows ≡ None → unsettled p rows (Some (codes "dir", dir ∷ [])) ≡ []
dir_used p rows dir none = ap (λ b. once b []) (has_none (codes "dir") rows none)

-- a first `--each` passes
pub each_used : (rows : List Row) → found (codes "each") rows ≡ None → use_fault false each_arg [] rows ≡ []
each_used rows none = ap (λ b. once b []) (has_none (codes "each") rows none)

-- a second `--each` faults
pub each_again : (rows : List Row) (row : Row) → found (codes "each") rows ≡ Some row → Fails (use_fault false each_arg [] rows)
each_again rows row is = subst (λ b. Fails (once b [])) (sym (has_one (codes "each") rows row is)) tt

module _ (p : ValueParser) (known : KnowsParts p) where
  -- the fault of a value of `--part`
  abbrev refused : Bool → Kinds
  refused taken = or_else (cond taken [] (refused_kind p ∷ [])) []

  -- a first part passes
  pub part_used : (rows : List Row) (name : Text) (part : Part) → part_named name ≡ Some part → found (codes "part") rows ≡ None → use_fault false (part_arg p) (name ∷ []) rows ≡ []
  part_used rows name part is none = ap₂ (λ b t. once b (refused t)) (has_none (codes "part") rows none) (known name ∙ ap is_some is)

  -- a second part faults
  pub part_again : (rows : List Row) (name : Text) (row : Row) → found (codes "part") rows ≡ Some row → Fails (use_fault false (part_arg p) (name ∷ []) rows)
  part_again rows name row is = subst (λ b. Fails (once b (refused (accepts false p name)))) (sym (has_one (codes "part") rows row is)) tt

  -- a value that names no part faults
  pub part_wrong : (rows : List Row) (name : Text) → part_named name ≡ None → Fails (use_fault false (part_arg p) (name ∷ []) rows)
  part_wrong rows name is =
      fails_after (cond (has_row (codes "part") rows && not false) (kind.ArgumentConflict ∷ []) []) (refused (accepts false p name))
      (subst (λ t. Fails (refused t)) (sym (known name ∙ ap is_some is)) tt)

-- ---- the rows after a use

-- the rows after a first DIR
pub dir_holds : (p : ValueParser) (rows : List Row) (part : Option Part) (each : Option Bool) (dir : Text) → Holds p rows (record { dir = None; part = part; each = each })
    → Holds p (used dir_arg (dir ∷ []) rows) (record { dir = Some dir; part = part; each = each })
dir_holds p rows part each dir h =
    subst (λ r. Holds p r (record { dir = Some dir; part = part; each = each })) (sym (with_values-new (codes "dir") _ dir rows h.dir)) (holds_dir p rows part each dir h)

-- the rows after a first part
pub part_holds : (p : ValueParser) (rows : List Row) (dir : Option Text) (each : Option Bool) (name : Text) (part : Part) → part_named name ≡ Some part
    → Holds p rows (record { dir = dir; part = None; each = each }) → Holds p (used (part_arg p) (name ∷ []) rows) (record { dir = dir; part = Some part; each = each })
part_holds p rows dir each name part is h =
    subst (λ n. Holds p (used (part_arg p) (n ∷ []) rows) (record { dir = dir; part = Some part; each = each })) (sym (name_of_part name part is))
    (subst (λ r. Holds p r (record { dir = dir; part = Some part; each = each })) (sym (with_values-new (codes "part") _ (part_text part) rows h.part)) (holds_part p rows dir each part h))

-- the rows after a first `--each`
pub each_holds : (p : ValueParser) (rows : List Row) (dir : Option Text) (part : Option Part) → Holds p rows (record { dir = dir; part = part; each = None })
    → Holds p (used each_arg [] rows) (record { dir = dir; part = part; each = Some true })
each_holds p rows dir part h =
    subst (λ r. Holds p r (record { dir = dir; part = part; each = Some true })) (sym (with_values-new (codes "each") _ (codes "true") rows h.each)) (holds_each p rows dir part h)

-- ---- a word that goes to DIR

-- the first settles what is pending
pub folder_fault : (p : ValueParser) (rows : List Row) (pending : Option (Text × List Text)) → step_fault (words_shape p) 1 (held_with rows pending) value ≡ unsettled p rows pending
folder_fault p rows pending = ap (λ b. cond b [] (unsettled p rows pending)) (and_false (is_pending dir_arg pending))

-- then DIR is held
pub folder_walk : (p : ValueParser) (rows : List Row) (pending : Option (Text × List Text)) (word : Text) (is_trailing : Bool)
    → after_step (words_rules p) word (at rows pending idle is_trailing 1) (held_with rows pending) value
    ≡ at (settled_rows (words_rules p) pending rows) (Some (codes "dir", word ∷ [])) idle (is_trailing || false) 2
folder_walk p rows pending word is_trailing = ap walk_with (and_false (is_pending dir_arg pending))
  where
    walk_with : Bool → Walk
    walk_with b = record {
      held = pushed (codes "dir") word (cond b (held_with rows pending) (settled (words_rules p) (held_with rows pending)));
      waiting = idle;
      position = 2;
      is_trailing = is_trailing || false;
      stopped = None;
    }

-- ---- a word that is no option

-- it goes to DIR where nothing waits for it
module _ (p : ValueParser) (rows : List Row) (pending : Option (Text × List Text)) (position : ℕ) (word : Text) (x : IsPlain word) where
  -- it is met as a value of a positional
  plain_met : word_met (words_rules p) [] false idle position word (held_with rows pending) ≡ (held_with rows pending, value)
  plain_met = ap by_end x.other.ends ∙ ap by_long x.long ∙ ap by_short x.short
    where
      by_end : Bool → Held × Step
      by_end b = cond b (held_with rows pending, trailing position) (long_or_other (words_rules p) idle word (long_of word) (held_with rows pending))

      by_long : Option (Text × Option Text) → Held × Step
      by_long l = long_or_other (words_rules p) idle word l (held_with rows pending)

      by_short : Option Text → Held × Step
      by_short s = short_or_plain (words_rules p) idle word s (held_with rows pending)

  -- the word itself faults nothing
  plain_fault : word_fault (words_shape p) [] false idle word (held_with rows pending) ≡ []
  plain_fault = ap by_end x.other.ends ∙ ap by_long x.long ∙ ap by_short x.short
    where
      by_end : Bool → Kinds
      by_end b = cond b [] (flag_word_fault (words_rules p) false (long_of word) word (held_with rows pending))

      by_long : Option (Text × Option Text) → Kinds
      by_long l = flag_word_fault (words_rules p) false l word (held_with rows pending)

      by_short : Option Text → Kinds
      by_short s = option_map_or (λ flags. bundle_fault (words_rules p) false flags (held_with rows pending)) s []

  -- so its turn faults as the step to the positional does
  pub plain_turn : turn_fault (words_shape p) [] (at rows pending idle false position) word ≡ step_fault (words_shape p) position (held_with rows pending) value
  plain_turn = ap₂ (λ f (m : Held × Step). or_else f (step_fault (words_shape p) position m.0 m.1)) plain_fault plain_met

  -- and the walk takes that step
  pub plain_walked : walked (words_rules p) [] (at rows pending idle false position) word
      ≡ after_step (words_rules p) word (at rows pending idle false position) (held_with rows pending) value
  unfolding walked
  plain_walked = ap (λ (m : Held × Step). after_step (words_rules p) word (at rows pending idle false position) m.0 m.1) plain_met

-- it is the value of `--part` that waits for it
module _ (p : ValueParser) (rows : List Row) (position : ℕ) (word : Text) (x : IsPlain word) where
  -- the value of `--part` is awaited
  abbrev waits : Waiting
  waits = option (codes "part")

  -- `--part` is held with no value yet
  abbrev asked : Held
  asked = held_with rows (Some (codes "part", []))

  -- it is met as that value
  value_met : word_met (words_rules p) [] false waits position word asked ≡ (held_with rows (Some (codes "part", word ∷ [])), next idle)
  value_met = ap by_end x.other.ends ∙ ap by_long x.long ∙ ap by_short x.short
    where
      by_end : Bool → Held × Step
      by_end b = cond b (asked, trailing position) (long_or_other (words_rules p) waits word (long_of word) asked)

      by_long : Option (Text × Option Text) → Held × Step
      by_long l = long_or_other (words_rules p) waits word l asked

      by_short : Option Text → Held × Step
      by_short s = short_or_plain (words_rules p) waits word s asked

  -- the word itself faults nothing
  value_fault : word_fault (words_shape p) [] false waits word asked ≡ []
  value_fault = ap by_end x.other.ends ∙ ap by_long x.long ∙ ap by_short x.short
    where
      by_end : Bool → Kinds
      by_end b = cond b [] (flag_word_fault (words_rules p) false (long_of word) word asked)

      by_long : Option (Text × Option Text) → Kinds
      by_long l = flag_word_fault (words_rules p) false l word asked

      by_short : Option Text → Kinds
      by_short s = option_map_or (λ flags. bundle_fault (words_rules p) false flags asked) s []

  -- nor does its turn
  pub value_turn : turn_fault (words_shape p) [] (at rows (Some (codes "part", [])) (option (codes "part")) false position) word ≡ []
  value_turn = ap₂ (λ f (m : Held × Step). or_else f (step_fault (words_shape p) position m.0 m.1)) value_fault value_met

  -- and the value is held
  pub value_walked : walked (words_rules p) [] (at rows (Some (codes "part", [])) (option (codes "part")) false position) word
      ≡ at rows (Some (codes "part", word ∷ [])) idle false position
  unfolding walked
  value_walked = ap (λ (m : Held × Step). after_step (words_rules p) word (at rows (Some (codes "part", [])) (option (codes "part")) false position) m.0 m.1) value_met

-- ---- an option that there isn't

module _ (p : ValueParser) (rows : List Row) (pending : Option (Text × List Text)) (position : ℕ) (word : Text) (u : IsUnknown p word) where
  -- it is refused, as it isn't `--`
  unknown_fault : Fails (cond (bytes_eq word (codes "--")) [] (flag_word_fault (words_rules p) false (long_of word) word (held_with rows pending)))
  unknown_fault = subst (λ b. Fails (cond b [] (flag_word_fault (words_rules p) false (long_of word) word (held_with rows pending)))) (sym u.other.ends) (u.fault rows pending)

  -- its turn faults where nothing is awaited
  pub unknown_turn : Fails (turn_fault (words_shape p) [] (at rows pending idle false position) word)
  unknown_turn = fails_first (word_fault (words_shape p) [] false idle word (held_with rows pending)) _ unknown_fault

  -- and where the value of `--part` is
  pub unknown_value : Fails (turn_fault (words_shape p) [] (at rows pending (option (codes "part")) false position) word)
  unknown_value = fails_first (word_fault (words_shape p) [] false (option (codes "part")) word (held_with rows pending)) _ unknown_fault
