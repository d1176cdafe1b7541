-- The labels of a sample joined with those of its target. After Prometheus on `honor_labels`.
use Rattle.std.specs.Prelude.{ℕ, zero, suc, ◌+◌, List, [], ◌++◌, Bool, true, false, not, ◌||◌, codes, filter, fold, length, is_some, sum_by, if◌then◌else◌}
use Rattle.std.specs.FinMap as finite
use Rattle.std.specs.Cmp.Lexicographic.{slice_cmp}
use Rattle.std.specs.Ordering.{nat_cmp, on, then_cmp}
use Rattle.std.specs.declared.cmp.Ordering.{Ordering}
use Rattle.op_base.specs.Maps.{value_at}
use Rattle.op_base.specs.Labels.{Texts, labels_with, labels_with_all}

-- a name is there
abbrev pub has_name : Texts → List ℕ → Bool
has_name labels name = is_some (value_at labels name)

-- names before one another: shorter first, equal lengths in order
abbrev pub name_cmp : List ℕ → List ℕ → Ordering
name_cmp = then_cmp (on length nat_cmp) (slice_cmp nat_cmp)

-- labels with one more in its place, shorter names first
abbrev pub placed_with : Texts → List ℕ × List ℕ → Texts
placed_with placed label = finite.put name_cmp label.0 label.1 placed

-- the scraped labels whose names the target has, shorter names first
abbrev pub clashing : Texts → Texts → Texts
clashing target scraped = fold placed_with [] (filter (λ label. has_name target label.0) scraped)

-- the scraped labels whose names the target doesn't have
abbrev pub apart : Texts → Texts → Texts
apart target scraped = filter (λ label. not (has_name target label.0)) scraped

-- a name that the target, the scraped labels or those already given have
abbrev pub is_taken : Texts → Texts → List ℕ → Bool
is_taken scraped given name = has_name given name || has_name scraped name

-- a name behind `exported_`, repeated while it is taken. Each time it is longer, and no taken name is
-- longer than `room`, so that many times are enough
abbrev pub exported : ℕ → Texts → Texts → List ℕ → List ℕ
exported zero scraped given name = name
exported (suc room) scraped given name =
    if is_taken scraped given name then exported room scraped given (codes "exported_" ++ name) else name

-- the bytes of all names together: no name has more
abbrev pub name_bytes : Texts → ℕ
name_bytes labels = sum_by (λ label. length label.0) labels

-- no taken name is longer
abbrev pub room_of : Texts → Texts → ℕ
room_of scraped given = name_bytes scraped + name_bytes given

-- the name that a clashing label gets
abbrev pub new_name : Texts → Texts → List ℕ → List ℕ
new_name scraped given name = exported (room_of scraped given) scraped given (codes "exported_" ++ name)

-- a label under its new name beside those already given
abbrev pub with_exported : Texts → Texts → List ℕ × List ℕ → Texts
with_exported scraped given label = labels_with given (new_name scraped given label.0) label.1

-- labels under their new names, one after the other, beside those already given
abbrev pub all_exported : Texts → Texts → Texts → Texts
all_exported scraped given labels = fold (with_exported scraped) given labels

-- the target's labels, the scraped ones beside them, and those that clash under new names
abbrev pub renamed : Texts → Texts → Texts
renamed target scraped =
    all_exported scraped (labels_with_all target (apart target scraped)) (clashing target scraped)

-- with `honor_labels` a scraped label wins, else it is renamed
abbrev pub joined : Bool → Texts → Texts → Texts
joined true target scraped = labels_with_all target scraped
joined false target scraped = renamed target scraped
