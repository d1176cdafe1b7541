-- Tables that are read in parts, each of several rows.
use Rattle.std.proofs.Common.{◌∙◌, ap, refl, sym, append_assoc}
use Rattle.std.specs.Prelude.{ℕ, List, [], ◌∷◌, ◌++◌, ◌≡◌, map, Option}
use Rattle.serde_json.specs.Data.{Data}
use Rattle.op_manifest.specs.declared.shape.Shape.{Shape}
use Rattle.op_manifest.specs.Checks.{Row, known, rows_wrongs, table}
use Rattle.op_manifest.specs.Shapes.{later}
use Rattle.op_manifest.proofs.ShapeLemmas.{later_both}

-- the breaches of rows, and of more rows
rows_both : (these those : List Row) (path : List ℕ) (d : Data) → rows_wrongs (these ++ those) path d ≡ rows_wrongs these path d ++ rows_wrongs those path d
rows_both [] those path d = refl
rows_both (row ∷ these) those path d =
    ap (λ wrongs. row.wrongs path d ++ wrongs) (rows_both these those path d)
    ∙ sym (append_assoc (row.wrongs path d) (rows_wrongs these path d) (rows_wrongs those path d))

module _ (path : List ℕ) (d : Data) where
  -- some rows were read, and then the others
  pub part : (these those : List Row) (old mid new : Option Shape) → mid ≡ later old (rows_wrongs these path d) → new ≡ later mid (rows_wrongs those path d)
      → new ≡ later old (rows_wrongs (these ++ those) path d)
  part these those old mid new first rest =
      rest ∙ ap (λ found. later found (rows_wrongs those path d)) first
      ∙ sym (later_both old (rows_wrongs these path d) (rows_wrongs those path d))
      ∙ ap (later old) (sym (rows_both these those path d))

  -- one row was read, and then the others
  pub one : (r : Row) (those : List Row) (old mid new : Option Shape) → mid ≡ later old (r.wrongs path d) → new ≡ later mid (rows_wrongs those path d)
      → new ≡ later old (rows_wrongs (r ∷ those) path d)
  one r those old mid new first rest =
      rest ∙ ap (λ found. later found (rows_wrongs those path d)) first
      ∙ sym (later_both old (r.wrongs path d) (rows_wrongs those path d))

  -- the unknown fields were noted, and then the breaches of all rows
  pub whole : (rows : List Row) (old mid new : Option Shape) → mid ≡ later old (known (map (λ (r : Row). r.name) rows) path d)
      → new ≡ later mid (rows_wrongs rows path d) → new ≡ later old (table rows path d)
  unfolding table
  whole rows old mid new first rest =
      rest ∙ ap (λ found. later found (rows_wrongs rows path d)) first
      ∙ sym (later_both old (known (map (λ (r : Row). r.name) rows) path d) (rows_wrongs rows path d))
