-- The entries of one scrape. After Prometheus on scrapes and the series `up`.
use Rattle.std.specs.Prelude.{ℕ, ℤ, pos, List, [], ◌∷◌, ◌++◌, Bool, true, ◌&&◌, ◌||◌, ◌==◌, nat_le, length, Option, Some, None, codes, map, if◌then◌else◌}
use Rattle.std.specs.List.{list_all, filter_map}
use Rattle.op_base.specs.declared.moment.Moment.{Moment}
use Rattle.op_base.specs.declared.label_names.TheConstants.{METRIC_NAME}
use Rattle.op_base.specs.Labels.{Texts, labels_with, labels_with_all}
use Rattle.op_relabel.specs.declared.step.Step.{Step}
use Rattle.op_relabel.specs.Relabelled.{relabelled}
use Rattle.srv_store.specs.declared.entry.Entry.{Entry}
use Rattle.srv_scrape.specs.declared.pages.Sample.{Sample}
use Rattle.srv_scrape.specs.declared.target.Target.{Target}
use Rattle.srv_scrape.specs.Joined.{joined, has_name}

-- how samples become entries: whether a scraped label wins, the metric steps, the sample limit, and labels
-- put over all
pub record Manner : Type 0 where
  pub honor : Bool
  pub steps : List Step
  pub limit : Option ℕ
  pub force : Texts

-- a sample that is left
abbrev pub Left : Type 0
Left = Sample

-- a sample without any label counts as dropped
abbrev pub left_with : ℤ → Texts → Option Left
left_with value [] = None
left_with value (label ∷ labels) = Some (record { labels = label ∷ labels; value = value })

-- what is left of a sample: joined, then through the steps, then with the forced labels
abbrev pub left_after : Texts → ℤ → Option Texts → Option Left
left_after force value None = None
left_after force value (Some labels) = left_with value (labels_with_all labels force)

-- what is left of a sample, if anything: its labels are joined to the target's and relabelled
abbrev pub left_of : Manner → Target → Sample → Option Left
left_of manner target sample =
    left_after manner.force sample.value (relabelled manner.steps (joined manner.honor target.labels sample.labels))

-- the samples that are left
abbrev pub all_left : Manner → Target → List Sample → List Left
all_left manner target samples = filter_map (left_of manner target) samples

-- each has a name; else the scrape fails
abbrev pub all_named : List Left → Bool
all_named samples = list_all (λ sample. has_name sample.labels METRIC_NAME.now) samples

-- there are no more than a limit above 0
abbrev pub is_within : Option ℕ → List Left → Bool
is_within None left = true
is_within (Some limit) left = limit == 0 || nat_le (length left) limit

-- the series `up` of a target: 1, or 0 where the scrape failed
abbrev pub up_entry : Target → Moment → ℤ → Entry
up_entry target t value = record { labels = labels_with target.labels METRIC_NAME.now (codes "up"); at = t; value = Some value }

-- a scrape that failed gives `up` with 0 alone
abbrev pub failed_scrape : Target → Moment → List Entry
failed_scrape target t = up_entry target t (pos 0) ∷ []

-- the entry of what is left of a sample
abbrev pub entry_of : Moment → Left → Entry
entry_of t sample = record { labels = sample.labels; at = t; value = Some sample.value }

-- the entries of samples, and then `up`; a sample without a name and one too many fail the scrape
abbrev pub entries_of : Option ℕ → Target → Moment → List Left → List Entry
entries_of limit target t samples =
    if all_named samples && is_within limit samples then map (entry_of t) samples ++ up_entry target t (pos 1) ∷ [] else failed_scrape target t

-- the entries of one scrape of a target whose page is given; without samples it fails
abbrev pub scraped : Manner → Target → Option (List Sample) → Moment → List Entry
scraped manner target None t = failed_scrape target t
scraped manner target (Some samples) t = entries_of manner.limit target t (all_left manner target samples)
