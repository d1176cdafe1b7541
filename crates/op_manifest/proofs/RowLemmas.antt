-- Tables, read row by row.
use Rattle.std.proofs.Common.{◌∙◌, ap, sym}
use Rattle.std.specs.Prelude.{ℕ, List, [], ◌∷◌, ◌≡◌, map, Option}
use Rattle.serde_json.specs.Data.{Data}
use Rattle.op_manifest.specs.declared.shape.Shape.{Shape}
use Rattle.op_manifest.specs.Checks.{Row, known, rows_wrongs, table}
use Rattle.op_manifest.specs.Shapes.{later}
use Rattle.op_manifest.proofs.ShapeLemmas.{later_both, later_none}

-- readers noted the breaches of the rows, one row after the other
pub data Rows (path : List ℕ) (d : Data) : List Row → Option Shape → Option Shape → Type 0 where
  end : {found : Option Shape} → Rows path d [] found found
  row : {r : Row} {rows : List Row} {old mid new : Option Shape} → mid ≡ later old (r.wrongs path d) → Rows path d rows mid new → Rows path d (r ∷ rows) old new

-- together they noted those of all rows
pub read_rows : (path : List ℕ) (d : Data) (rows : List Row) (old new : Option Shape) → Rows path d rows old new → new ≡ later old (rows_wrongs rows path d)
read_rows path d [] old new end = sym (later_none old)
read_rows path d (r ∷ rows) old new (row noted rest) =
    read_rows path d rows _ new rest ∙ ap (λ found. later found (rows_wrongs rows path d)) noted
    ∙ sym (later_both old (r.wrongs path d) (rows_wrongs rows path d))

-- a reader of a table noted the unknown fields, and then the breaches of the rows
pub read_table : (rows : List Row) (path : List ℕ) (d : Data) (old mid new : Option Shape)
    → mid ≡ later old (known (map (λ (r : Row). r.name) rows) path d) → Rows path d rows mid new → new ≡ later old (table rows path d)
unfolding table
read_table rows path d old mid new noted each =
    read_rows path d rows mid new each ∙ ap (λ found. later found (rows_wrongs rows path d)) noted
    ∙ sym (later_both old (known (map (λ (r : Row). r.name) rows) path d) (rows_wrongs rows path d))
