-- Endpoints, part by part.
use Rattle.std.specs.Prelude.{ℕ, List, ◌∷◌, ◌++◌, ◌≡◌, codes, map, Option}
use Rattle.serde_json.specs.Data.{Data}
use Rattle.op_manifest.specs.declared.shape.Shape.{Shape}
use Rattle.op_manifest.specs.Checks.{Row, known, rows_wrongs, table, optional, may}
use Rattle.op_manifest.specs.Shapes.{later}
use Rattle.op_manifest.proofs.RowLemmas.{read_rows, row, end}
use Rattle.kind_scrape.specs.EndpointTables.{scrape_rows, address_rows, timing_rows, handling_rows, relabelling_rows}
use Rattle.kind_scrape.specs.Params.{params}
use Rattle.kind_scrape.specs.Relabelings.{steps}
use Rattle.kind_scrape.proofs.PartLemmas.{part, one, whole}

module _ (credentials : List Row) (tls : Row) where
  -- the fields of an endpoint with these credentials and that row of TLS
  abbrev pub rows_with : List Row
  rows_with = scrape_rows ++ credentials ++ tls ∷ relabelling_rows

  -- the parts were read one after the other
  pub endpoint_read : (path : List ℕ) (d : Data) (old entered addressed given timed handled shown checked relabelled new : Option Shape)
      → entered ≡ later old (known (map (λ (r : Row). r.name) rows_with) path d)
      → addressed ≡ later entered (rows_wrongs address_rows path d)
      → given ≡ later addressed (optional params (codes "params") path d)
      → timed ≡ later given (rows_wrongs timing_rows path d)
      → handled ≡ later timed (rows_wrongs handling_rows path d)
      → shown ≡ later handled (rows_wrongs credentials path d)
      → checked ≡ later shown (tls.wrongs path d)
      → relabelled ≡ later checked (optional steps (codes "relabelings") path d)
      → new ≡ later relabelled (optional steps (codes "metricRelabelings") path d)
      → new ≡ later old (table rows_with path d)
  endpoint_read path d old entered addressed given timed handled shown checked relabelled new k a p t h c s r m =
      let behind_handling = credentials ++ tls ∷ relabelling_rows in
      let behind_timing = handling_rows ++ behind_handling in
      let behind_params = timing_rows ++ behind_timing in
      whole path d rows_with old entered new k
      (part path d address_rows (may (codes "params") params ∷ behind_params) entered addressed new a
      (one path d (may (codes "params") params) behind_params addressed given new p
      (part path d timing_rows behind_timing given timed new t
      (part path d handling_rows behind_handling timed handled new h
      (part path d credentials (tls ∷ relabelling_rows) handled shown new c
      (one path d tls relabelling_rows shown checked new s
      (read_rows path d relabelling_rows checked new (row r (row m end)))))))))
