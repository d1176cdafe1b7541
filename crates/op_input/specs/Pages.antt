-- A page: the URL that it is of, and its samples or none.
use Rattle.std.specs.Prelude.{ℕ, List, [], ◌∷◌, codes, Option, unwrap_or}
use Rattle.serde_json.specs.Data.{Data}
use Rattle.op_manifest.specs.Checks.{Row, may, must, text, list}
use Rattle.op_manifest.specs.Values.{text_in, items_in}
use Rattle.srv_scrape.specs.declared.pages.Sample.{Sample}
use Rattle.op_input.specs.declared.line.InputLine.{InputLine}
use Rattle.op_input.specs.declared.line.InputLine.TheVariants.{Page}
use Rattle.op_input.specs.Samples.{sample, sample_of}

-- the fields of a page
abbrev pub page_rows : List Row
page_rows =
    must (codes "url") text
    ∷ may (codes "samples") (list sample)
    ∷ []

-- the URL
abbrev pub url_of : Data → List ℕ
url_of d = unwrap_or (text_in (codes "url") d) []

-- the samples, or none
abbrev pub samples_of : Data → Option (List Sample)
samples_of d = items_in sample_of (codes "samples") d

-- the page
abbrev pub page_of : Data → InputLine
page_of d = Page (url_of d) (samples_of d)
