-- The known namespaces: whether a name is one, and that their names are well formed.
use Rattle.std.proofs.Common.{◌≡◌, ℕ, true, ◌||◌, List, [], ◌∷◌, ◌++◌, map, bytes_eq, is_some, refl, ap, sym, ◌∙◌}
use Rattle.std.specs.declared.cmp.Ordering.TheVariants.{Less, Equal, Greater}
use Rattle.std.specs.Ordering.{nat_cmp, eq_by_cmp}
use Rattle.std.specs.Cmp.Lexicographic.{slice_cmp, texts_ties}
use Rattle.std.proofs.lemmas.Cmp.{nat_list_eq_equiv}
use Rattle.std.specs.FinMap.Entries.{put, by_order, is_some-find}
use Rattle.std.specs.List.{AllByRecursion, list_any}
use Rattle.op_base.specs.declared.moment.Moment.{Moment}
use Rattle.op_base.specs.Names.{is_namespace}
use Rattle.op_base.specs.Maps.{Map, keys_of, value_at, with_entry}
use Rattle.op_report.specs.ReadBack.{AreNamed}
use Rattle.srv_run.specs.Memories.{Ticked}
use Rattle.srv_run.specs.Served.{AreKnown}
use Rattle.srv_run.specs.Shares.{tenant_report, global_report}
use Rattle.srv_run.specs.Ticking.{is_among}

any-tied : (name : List ℕ) (names : List (List ℕ)) → list_any (eq_by_cmp (slice_cmp nat_cmp) name) names ≡ is_among names name
any-tied name [] = refl
any-tied name (n ∷ names) =
    ap (λ b. b || list_any (eq_by_cmp (slice_cmp nat_cmp) name) names) (sym (texts_ties name n) ∙ nat_list_eq_equiv.symm name n)
    ∙ ap (λ b. bytes_eq n name || b) (any-tied name names)

-- a name is known where it is found
pub found-among : (known : Map (Unit {0})) (name : List ℕ) → is_some (value_at known name) ≡ is_among (keys_of known) name
found-among known name = is_some-find (slice_cmp nat_cmp) name known ∙ any-tied name (keys_of known)

-- one more well-formed namespace is known
pub known-more : (known : Map (Unit {0})) (name : List ℕ) (v : Unit {0}) → is_namespace name ≡ true → AreKnown known → AreKnown (with_entry known name v)
known-more [] name v good all = (good, tt)
known-more (e ∷ known) name v good all =
    elim (slice_cmp nat_cmp name e.0) as (λ o. AreKnown (by_order o ((name, v) ∷ e ∷ known) ((e.0, v) ∷ known) (e ∷ put (slice_cmp nat_cmp) name v known))) [
      | Less ↦ (good, all)
      | Equal ↦ all
      | Greater ↦ (all.0, known-more known name v good all.1)
    ]

-- each line of a tick is for everyone or for a namespace
pub lines-named : (names all : List (List ℕ)) (given : Ticked) (t : Moment) → AllByRecursion (λ name. is_namespace name ≡ true) names
    → AreNamed (map (tenant_report given t) names ++ global_report all given t ∷ [])
lines-named [] all given t good = (tt, tt)
lines-named (name ∷ names) all given t good = (good.0, lines-named names all given t good.1)
