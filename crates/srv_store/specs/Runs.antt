-- Runs: what a store keeps of each label set, and how its parts make the list of its entries.
-- Only private contracts, the invariants of types and proofs use these words.
use Rattle.std.specs.Prelude.{◌≡◌, ℕ, suc, cond, ℤ, ◌<◌, List, [], ◌∷◌, ◌++◌, Bool, true, Option, Some, None, filter, fold, map, length, is_some, if◌then◌else◌, nat_eq, slice_index_or, slice_get, slice_set}
use Rattle.std.specs.FinMap as finite
use Rattle.std.specs.FinMap.Entries.{is_sorted}
use Rattle.std.specs.List.{AllByRecursion, IsDistinct, flat_map, list_any}
use Rattle.std.specs.Option.{option_map_or}
use Rattle.std.specs.declared.cmp.Ordering.{Ordering}
use Rattle.std.specs.Ordering.{int_cmp, on, is_gt}
use Rattle.op_base.specs.declared.matcher.Matcher.{Matcher}
use Rattle.op_base.specs.declared.moment.Moment.{Moment}
use Rattle.op_base.specs.Labels.{Texts, labels_cmp}
use Rattle.indexmap.specs.IndexSet.{insert_key}
use Rattle.srv_store.specs.declared.addition.Addition.{Addition}
use Rattle.srv_store.specs.declared.entry.Entry.{Entry}
use Rattle.srv_store.specs.LabelMaps.{LabelMap, value_of, with_value}
use Rattle.srv_store.specs.Stores.{Store, same_labels, all_hold, is_within, unless_stale, Point, point_of}

-- how many of the first things pass a test, up to one that doesn't
abbrev pub front : {X : Type 0} → (X → Bool) → List X → ℕ
front test [] = 0
front test (x ∷ xs) = cond (test x) (suc (front test xs)) 0

-- how many keys of a list in order stand before a key
abbrev pub place_in : {K X : Type 0} → (K → K → Ordering) → K → List (K × X) → ℕ
place_in R key entries = front (λ entry. is_gt (R key entry.0)) entries

-- entries with a new one in its place; a key that is there keeps its value
abbrev pub with_new : {K X : Type 0} → (K → K → Ordering) → K → X → List (K × X) → List (K × X)
with_new R key value entries = if is_some (finite.find R key entries) then entries else finite.put R key value entries

-- moments in order
abbrev pub moment_cmp : Moment → Moment → Ordering
moment_cmp = on (λ (moment : Moment). moment.0) int_cmp

-- a moment with its value, or none for a staleness marker
abbrev pub Reading : Type 0
Reading = Moment × Option ℤ

-- the readings of one label set; `IsRun` says that their moments rise
abbrev pub Run : Type 0
Run = List Reading

-- the moments strictly rise
abbrev pub IsRun : Run → Type 0
IsRun run = is_sorted moment_cmp run ≡ true

-- a run has a reading of the moment
abbrev pub has_moment : Run → Moment → Bool
has_moment run at = is_some (finite.find moment_cmp at run)

-- a run with a reading; a second one of a moment is ignored
abbrev pub with_reading : Run → Moment → Option ℤ → Run
with_reading run at value = with_new moment_cmp at value run

-- a run with a reading, over any of its moment
abbrev pub over_reading : Run → Moment → Option ℤ → Run
over_reading run at value = finite.put moment_cmp at value run

-- the readings from one moment to another
abbrev pub window_in : ℤ → ℤ → Run → Run
window_in from to run = filter (λ reading. is_within from to reading.0) run

-- a later answer, where there is one
abbrev pub later : {X : Type 0} → Option X → Option X → Option X
later (Some found) other = Some found
later None other = other

-- the last thing of a list
abbrev pub last_of : {X : Type 0} → List X → Option X
last_of [] = None
last_of (x ∷ xs) = later (last_of xs) (Some x)

-- the last reading from one moment to another
abbrev pub newest_in : ℤ → ℤ → Run → Option Reading
newest_in from to [] = None
newest_in from to (reading ∷ run) = later (newest_in from to run) (if is_within from to reading.0 then Some reading else None)

-- the label set of a number
abbrev pub key_at : List Texts → ℕ → Texts
key_at keys number = slice_index_or keys number []

-- the run of a number
abbrev pub run_at : List Run → ℕ → Run
run_at runs number = slice_index_or runs number []

-- the list of additions with one more, where its run has no reading of its moment
abbrev pub log_with : List Run → List Addition → Addition → List Addition
log_with runs log x = if has_moment (run_at runs x.number) x.at then log else log ++ x ∷ []

-- the runs with the reading that is added
abbrev pub runs_with : List Run → Addition → List Run
runs_with runs x = slice_set runs x.number (with_reading (run_at runs x.number) x.at x.value)

-- the entry that an addition gave
abbrev pub entry_of : List Texts → Addition → Entry
entry_of keys x = record { labels = key_at keys x.number; at = x.at; value = x.value }

-- the entries of all additions, in their order
abbrev pub entries_of : List Texts → List Addition → Store
entries_of keys log = map (entry_of keys) log

-- a run after an addition, where it is the run's; the first reading of a moment stays
abbrev pub with_added : ℕ → Run → Addition → Run
with_added number run x = if nat_eq x.number number then with_reading run x.at x.value else run

-- the same, where the last reading of a moment stays
abbrev pub over_added : ℕ → Run → Addition → Run
over_added number run x = if nat_eq x.number number then over_reading run x.at x.value else run

-- the label sets, runs and additions of a store: each addition is of a run, and each run has the readings that
-- were added to it, of which no two have one moment
pub record IsKept (keys : List Texts) (runs : List Run) (log : List Addition) : Type 0 where
  pub as_many : length runs ≡ length keys
  pub below : AllByRecursion (λ x. x.number < length keys) log
  pub first : (number : ℕ) → run_at runs number ≡ fold (with_added number) [] log
  pub last : (number : ℕ) → run_at runs number ≡ fold (over_added number) [] log

-- a label set has a number, and all else stays; a new label set has a run without readings
pub record IsNumbered (keys : List Texts) (runs : List Run) (new_keys : List Texts) (new_runs : List Run) (labels : Texts) (number : ℕ) : Type 0 where
  pub keys_are : new_keys ≡ insert_key same_labels keys labels
  pub distinct : IsDistinct same_labels new_keys
  pub within : number < length new_keys
  pub at : key_at new_keys number ≡ labels
  pub as_many : length runs ≡ length keys → length new_runs ≡ length new_keys
  pub same_runs : (n : ℕ) → run_at new_runs n ≡ run_at runs n

-- the numbers of runs to look at: the number of each label set on which the matchers hold is there
abbrev pub IsComplete : List Texts → List Matcher → List ℕ → Type 0
IsComplete keys matchers numbers =
    (n : ℕ) → n < length keys → all_hold matchers (key_at keys n) ≡ true → list_any (nat_eq n) numbers ≡ true

-- the numbers so far by their label sets, with one at a label set where the matchers hold on that
abbrev pub with_held : List Matcher → LabelMap ℕ → Texts → ℕ → LabelMap ℕ
with_held matchers found labels n = if all_hold matchers labels then with_value found labels n else found

-- the same at the label set of the number
abbrev pub with_match : List Texts → List Matcher → LabelMap ℕ → ℕ → LabelMap ℕ
with_match keys matchers found n = option_map_or (λ labels. with_held matchers found labels n) (slice_get keys n) found

-- of those numbers, the ones on whose label sets the matchers hold, by the label sets
abbrev pub matching : List Texts → List Matcher → List ℕ → LabelMap ℕ
matching keys matchers numbers = fold (with_match keys matchers) [] numbers

-- the label sets on which the matchers hold, each with its number, where no two numbers have one label set
pub record AreFound (keys : List Texts) (matchers : List Matcher) (found : LabelMap ℕ) : Type 0 where
  pub distinct : IsDistinct same_labels keys
  pub rises : is_sorted labels_cmp found ≡ true
  pub each : (labels : Texts) (n : ℕ) → value_of found labels ≡ Some n → (n < length keys) × (key_at keys n ≡ labels) × (all_hold matchers labels ≡ true)
  pub all : (n : ℕ) → n < length keys → all_hold matchers (key_at keys n) ≡ true → value_of found (key_at keys n) ≡ Some n

-- the entry of a reading
abbrev pub reading_entry : Texts → Reading → Entry
reading_entry labels reading = record { labels = labels; at = reading.0; value = reading.1 }

-- the entry of the reading that was found, where it isn't stale
abbrev pub newest_entry : Texts → Option Reading → List Entry
newest_entry labels found = option_map_or (λ reading. unless_stale (reading_entry labels reading)) found []

-- the newest entry of a run that was found, where it isn't stale
abbrev pub newest_of : List Run → ℤ → ℤ → Texts × ℕ → List Entry
newest_of runs from to found = newest_entry found.0 (newest_in from to (run_at runs found.1))

-- the entries of the window of a run that was found
abbrev pub selected_of : List Run → ℤ → ℤ → Texts × ℕ → List Entry
selected_of runs from to found = map (reading_entry found.0) (window_in from to (run_at runs found.1))

-- the samples of readings, without stale ones
abbrev pub samples_in : Run → List Point
samples_in run = flat_map (λ reading. point_of reading.1 reading.0) run

-- samples with their label set, where there are some
abbrev pub series_entry : Texts → List Point → LabelMap (List Point)
series_entry labels [] = []
series_entry labels (sample ∷ samples) = (labels, sample ∷ samples) ∷ []

-- the samples of the window of a run that was found
abbrev pub ranged_of : List Run → ℤ → ℤ → Texts × ℕ → LabelMap (List Point)
ranged_of runs from to found = series_entry found.0 (samples_in (window_in from to (run_at runs found.1)))
