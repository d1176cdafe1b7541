-- The entries that the scrapes of one tick give, staleness markers included.
use Rattle.std.specs.Prelude.{ℤ, List, [], ◌++◌, Option, fold}
use Rattle.std.specs.List.{flat_map}
use Rattle.op_base.specs.declared.moment.Moment.{Moment}
use Rattle.op_base.specs.Labels.{Texts}
use Rattle.cfg_types.specs.declared.job.Job.{Job}
use Rattle.srv_store.specs.declared.entry.Entry.{Entry}
use Rattle.srv_store.specs.LabelMaps.{LabelMap, with_value, labels_in, stale_entries}
use Rattle.srv_scrape.specs.declared.target.Target.{Target}
use Rattle.srv_scrape.specs.Pages.{Pages, page_at}
use Rattle.srv_scrape.specs.Scraped.{Manner, scraped}
use Rattle.srv_scrape.specs.Targets.{job_targets}

-- a job's own manner: nothing is forced beside its steps
abbrev pub manner_of : Job → Manner
manner_of job = record { honor = job.honor_labels; steps = job.metric_relabel_configs; limit = job.sample_limit; force = [] }

-- the entries of the scrapes of these targets in one manner
abbrev pub target_entries : Pages → Moment → Manner → List Target → List Entry
target_entries pages t manner targets = flat_map (λ target. scraped manner target (page_at pages target.url) t) targets

-- the entries of a job's scrapes
abbrev pub job_entries : Pages → Moment → Job → List Entry
job_entries pages t job = target_entries pages t (manner_of job) (job_targets job)

-- the entries of all scrapes, job after job
abbrev pub scraped_entries : Pages → Moment → List Job → List Entry
scraped_entries pages t jobs = flat_map (job_entries pages t) jobs

-- the label sets of entries with their values, in label order
abbrev pub by_labels : List Entry → LabelMap (Option ℤ)
by_labels entries = fold (λ placed entry. with_value placed entry.labels entry.value) [] entries

-- the label sets that entries have, each once, in label order
abbrev pub label_sets : List Entry → List Texts
label_sets entries = labels_in (by_labels entries)

-- a staleness marker for each label set of the tick before that isn't given now
abbrev pub markers : Moment → List Texts → List Entry → List Entry
markers t before entries = stale_entries t before (by_labels entries)

-- the entries of a tick's scrapes, and then the staleness markers
abbrev pub tick_entries : Moment → List Texts → List Entry → List Entry
tick_entries t before entries = entries ++ markers t before entries
