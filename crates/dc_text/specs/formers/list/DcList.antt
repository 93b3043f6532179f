-- How a `DcList` holds its items, so that a type may reach itself through one.
-- What it holds is exactly its list of items, with no shape beside it.
use mathlib.Core.Path.{◌≡◌, refl, sym}
use mathlib.Core.List.{List, []}
use mathlib.Core.Former.{Former, this, list, via, children}
use base.Stored.{code_map}
use denote.RattleType.{RattleType}
use denote.HoleLaws.{Alike}
use denote.HolePlaces.{Recodes, struct_places, laid}
use denote.Hole.Carrier.{listed, list-listed}
use denote.Hole.Fix.{over}
use denote.Param.Weighed.{Weighed, w_list}
use denote.Model.Placed.{view_places}
use Rattle.std.specs.formers.vec.Vec as vec
use Rattle.std.specs.declared.alloc.Global.{Global}
use Rattle.std.specs.contracts.alloc.Global as heap
use Rattle.std.specs.contracts.impls.GlobalAllocator.TheImpl.{ghosts}
use Rattle.dc_text.specs.declared.list.DcList.TheInside.{Inside}
use Rattle.dc_text.specs.declared.list.DcList.TheView.{view, invariant}
use Rattle.dc_text.specs.contracts.list.DcList as outside
use Rattle.dc_text.specs.contracts.list.DcList.TheInside as inside

abbrev pub the_former : Former {0} → Former {0}
the_former item = list item

abbrev pub the_weighed : {item : Former {0}} → Weighed item → Weighed (the_former item)
the_weighed weight = w_list weight

pub the_empty : List ⊥
the_empty = []

abbrev pub the_items : (X : Type 0) → List X → List X
the_items X xs = xs

pub the_items_listed : (X : Type 0) (xs : List X) → listed _ (children (the_former this) X xs) ≡ the_items X xs
the_items_listed X xs = list-listed X xs

-- the one field, a `Vec` over the global allocator
abbrev field : Former {0}
field = via (vec.the_former this Global) Inside (λ X s. s.items) (λ X v. record { items = v }) (λ X s. refl) (λ X v. refl)

module _ (From To : RattleType) (along : From.Denot → To.Denot) where
  pub the_places : Alike From To along → Alike (outside.the_row From) (outside.the_row To) ((the_former this).map From.Denot To.Denot along)
  the_places alike =
      view_places field (list this) view (λ X Y k s. refl) (λ X s. refl) From.Denot To.Denot along (outside.the_row From).coded (outside.the_row To).coded
      (invariant From.Denot) (invariant To.Denot) (λ s p q. refl) (λ s p q. refl) (λ s e. tt) (λ s e. tt)
      (over (inside.the_row From)) (over (inside.the_row To))
      (struct_places (inside.the_type From) (inside.the_type To) (vec.mapped along, tt) _ (λ xs. refl) refl
      (laid _ _ _ (vec.the_places heap.the_row ghosts From To along alike), tt))

  pub the_codes_placed : Recodes From To along → Recodes (outside.the_row From) (outside.the_row To) ((the_former this).map From.Denot To.Denot along)
  the_codes_placed recodes xs = sym (code_map From.coded.code To.coded.code along (λ x. sym (recodes x)) xs)
