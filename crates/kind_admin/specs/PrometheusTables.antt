-- The fields of `spec` of Prometheus objects, after the API reference of `monitoring.coreos.com/v1`: what can be wrong
-- with them in reading order, and what they are read as. All other fields are passed over.
use Rattle.std.specs.Prelude.{ℕ, Bool, true, not, ◌==◌, ◌||◌, ◌&&◌, List, [], ◌∷◌, ◌++◌, Option, codes, length, unwrap_or, nat_eq}
use Rattle.std.specs.List.{starts_with}
use Rattle.std.specs.Option.{option_map_or}
use Rattle.serde_json.specs.Data.{Data}
use Rattle.op_base.specs.Names.{is_label_name}
use Rattle.op_manifest.specs.declared.shape.TheConstants.ShapeRule.{BAD_CHOICE, BAD_LABEL}
use Rattle.op_manifest.specs.Checks.{Check, Row, may, optional, flag, whole, worded, span, list, table, rows_wrongs}
use Rattle.op_manifest.specs.Heads.{object}
use Rattle.op_manifest.specs.Maps.{labels, map_in}
use Rattle.op_manifest.specs.Parts.{item_in}
use Rattle.op_manifest.specs.Shapes.{path_to, unless}
use Rattle.op_manifest.specs.Values.{text_in, number_in, items_in}
use Rattle.kind_admin.specs.declared.enforcing.Enforcing.{Enforcing}
use Rattle.kind_admin.specs.declared.file_access.FileAccess.{FileAccess}
use Rattle.kind_admin.specs.declared.globals.Globals.{Globals}
use Rattle.kind_admin.specs.declared.globals.TheConstants.{INTERVAL, TIMEOUT}
use Rattle.kind_admin.specs.declared.parts.PrometheusParts.{PrometheusParts}
use Rattle.kind_admin.specs.declared.selecting.Selecting.{Selecting}
use Rattle.kind_admin.specs.Choices.{choosing, choice_in}
use Rattle.kind_admin.specs.Exclusions.{exclusion_rows, exclusion_of}
use Rattle.kind_admin.specs.OpenTables.{never}
use Rattle.op_manifest.specs.Optional.{unless_empty, interval_in, is_set}

-- fields that would change what the object means, in the order of their bytes
abbrev pub barred_rows : List Row
barred_rows =
    never (codes "additionalAlertManagerConfigs")
    ∷ never (codes "additionalAlertRelabelConfigs")
    ∷ never (codes "additionalScrapeConfigs")
    ∷ never (codes "remoteRead")
    ∷ never (codes "remoteWrite")
    ∷ never (codes "scrapeClasses")
    ∷ []

-- which objects are taken
abbrev pub selecting_rows : List Row
selecting_rows =
    choosing (codes "serviceMonitorSelector") (codes "serviceMonitorNamespaceSelector")
    ∷ choosing (codes "podMonitorSelector") (codes "podMonitorNamespaceSelector")
    ∷ choosing (codes "probeSelector") (codes "probeNamespaceSelector")
    ∷ choosing (codes "ruleSelector") (codes "ruleNamespaceSelector")
    ∷ []

-- which objects are taken, of each kind
unfoldable pub selecting_of : Data → Selecting
selecting_of d =
    record {
      service_monitors = choice_in (codes "serviceMonitorSelector") (codes "serviceMonitorNamespaceSelector") d;
      pod_monitors = choice_in (codes "podMonitorSelector") (codes "podMonitorNamespaceSelector") d;
      probes = choice_in (codes "probeSelector") (codes "probeNamespaceSelector") d;
      rules = choice_in (codes "ruleSelector") (codes "ruleNamespaceSelector") d;
    }

-- what holds for all scrapes and rules
abbrev pub global_rows : List Row
global_rows =
    may (codes "externalLabels") labels
    ∷ may (codes "scrapeInterval") span
    ∷ may (codes "scrapeTimeout") span
    ∷ may (codes "evaluationInterval") span
    ∷ []

-- what holds for all scrapes and rules, with the defaults
unfoldable pub globals_of : Data → Globals
globals_of d =
    record {
      external_labels = unwrap_or (map_in (codes "externalLabels") d) [];
      scrape_interval = unwrap_or (interval_in (codes "scrapeInterval") d) INTERVAL;
      scrape_timeout = unwrap_or (interval_in (codes "scrapeTimeout") d) TIMEOUT;
      evaluation_interval = unwrap_or (interval_in (codes "evaluationInterval") d) INTERVAL;
    }

-- a label name that doesn't begin with `__`; an empty text counts as absent
abbrev pub is_enforced_label : List ℕ → Bool
is_enforced_label text = length text == 0 || (is_label_name text && not (starts_with nat_eq text (codes "__")))

-- whether monitors may name files
abbrev pub access_rows : List Row
access_rows = may (codes "deny") flag ∷ []

-- whether monitors may name files
unfoldable pub access_of : Data → FileAccess
access_of d = record { deny = is_set (codes "deny") d }

-- there is one shard, where the number of shards is given
abbrev pub is_one : Option ℕ → Bool
is_one count = option_map_or (λ n. n == 1) count true

-- the number of shards: a number first, and then one
unfoldable pub one_shard : List ℕ → Check
one_shard name path d = optional whole name path d ++ unless (is_one (number_in name d)) BAD_CHOICE (path_to path name)

-- the row of the number of shards
abbrev pub shards_row : Row
shards_row = record { name = codes "shards"; wrongs = one_shard (codes "shards") }

-- what is enforced upon tenants
abbrev pub enforcing_rows : List Row
enforcing_rows =
    may (codes "enforcedNamespaceLabel") (worded BAD_LABEL is_enforced_label)
    ∷ may (codes "enforcedLabelErrorOnReplace") flag
    ∷ may (codes "ignoreNamespaceSelectors") flag
    ∷ may (codes "overrideHonorLabels") flag
    ∷ may (codes "arbitraryFSAccessThroughSMs") (table access_rows)
    ∷ may (codes "enforcedSampleLimit") whole
    ∷ may (codes "excludedFromEnforcement") (list (table exclusion_rows))
    ∷ shards_row
    ∷ []

-- what is enforced upon tenants
unfoldable pub enforcing_of : Data → Enforcing
enforcing_of d =
    record {
      namespace_label = unless_empty (text_in (codes "enforcedNamespaceLabel") d);
      label_error_on_replace = is_set (codes "enforcedLabelErrorOnReplace") d;
      ignore_namespace_selectors = is_set (codes "ignoreNamespaceSelectors") d;
      override_honor_labels = is_set (codes "overrideHonorLabels") d;
      file_access = item_in access_of (codes "arbitraryFSAccessThroughSMs") d;
      sample_limit = number_in (codes "enforcedSampleLimit") d;
      excluded = unwrap_or (items_in exclusion_of (codes "excludedFromEnforcement") d) [];
    }

-- all that can be wrong with `spec`
abbrev pub prometheus_wrongs : Check
prometheus_wrongs path d =
    object path d ++ rows_wrongs barred_rows path d ++ rows_wrongs selecting_rows path d ++ rows_wrongs global_rows path d
    ++ rows_wrongs enforcing_rows path d

-- what `spec` is read as
abbrev pub parts_of : Data → PrometheusParts
parts_of d = record { selecting = selecting_of d; globals = globals_of d; enforcing = enforcing_of d }
