-- How a `List` stores its items, for types that hold themselves through one: as a `Vec` stores
-- them, and seen as the list of them.
use mathlib.Core.Former.{Former, this, list, via, children}
use mathlib.Core.List.{List, []}
use mathlib.Core.Path.{◌≡◌, refl, sym}
use base.Stored.{code_map}
use denote.RattleType.{RattleType}
use denote.Hole.Carrier.{listed, list-listed}
use denote.Hole.Fix.{over}
use denote.HoleLaws.{Alike}
use denote.HolePlaces.{Recodes, struct_places, laid}
use denote.Model.Placed.{view_places}
use denote.Param.Weighed.{Weighed, w_list}
use Rattle.std.specs.declared.alloc.Global.{Global}
use Rattle.std.specs.contracts.alloc.Global as heap
use Rattle.std.specs.contracts.impls.GlobalAllocator.TheImpl.{ghosts}
use Rattle.std.specs.formers.vec.Vec as vec
use Rattle.op_base.specs.declared.list.List.TheInside.{Inside}
use Rattle.op_base.specs.declared.list.List.TheView.{view, invariant}
use Rattle.op_base.specs.contracts.list.List as whole
use Rattle.op_base.specs.contracts.list.List.TheInside as inside

-- what contracts see of it: a list
abbrev pub the_former : Former {0} → Former {0}
the_former item = list item

-- a list of weighed items is weighed
abbrev pub the_weighed : {item : Former {0}} → Weighed item → Weighed (the_former item)
the_weighed weighed = w_list weighed

-- it may be empty, so a type may hold itself by it
pub the_empty : List ⊥
the_empty = []

-- the items of a list
abbrev pub the_items : (X : Type 0) → List X → List X
the_items X items = items

pub the_items_listed : (X : Type 0) (items : List X) → listed _ (children (the_former this) X items) ≡ the_items X items
the_items_listed X items = list-listed X items

-- what it is made of: the one field, a `Vec`
abbrev stored : Former {0}
stored = via (vec.the_former this Global) Inside (λ X fields. fields.inner) (λ X v. record { inner = v }) (λ X fields. refl) (λ X v. refl)

module _ (From To : RattleType) (h : From.Denot → To.Denot) where
  pub the_places : Alike From To h → Alike (whole.the_row From) (whole.the_row To) ((the_former this).map From.Denot To.Denot h)
  the_places alike =
      let vec_alike = laid _ _ _ (vec.the_places heap.the_row ghosts From To h alike) in
      view_places stored (list this) view (λ X Y k fields. refl) (λ X fields. refl) From.Denot To.Denot h
      (whole.the_row From).coded (whole.the_row To).coded (invariant From.Denot) (invariant To.Denot)
      (λ fields p q. refl) (λ fields p q. refl) (λ fields e. tt) (λ fields e. tt)
      (over (inside.the_row From)) (over (inside.the_row To))
      (struct_places (inside.the_type From) (inside.the_type To) (vec.mapped h, tt) _ (λ d. refl) refl (vec_alike, tt))

  pub the_codes_placed : Recodes From To h → Recodes (whole.the_row From) (whole.the_row To) ((the_former this).map From.Denot To.Denot h)
  the_codes_placed same items = sym (code_map From.coded.code To.coded.code h (λ x. sym (same x)) items)
