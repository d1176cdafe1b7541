-- Pages: what the last line for a URL said that a scrape of it answers.
use Rattle.std.specs.Prelude.{ℕ, List, Option, None, unwrap_or}
use Rattle.op_base.specs.Maps.{Map, value_at}
use Rattle.srv_scrape.specs.declared.pages.Sample.{Sample}

-- by URL, the samples, or none where the scrape fails
abbrev pub Pages : Type 0
Pages = Map (Option (List Sample))

-- the samples that a URL answers; a URL without a page fails
abbrev pub page_at : Pages → List ℕ → Option (List Sample)
page_at pages url = unwrap_or (value_at pages url) None
