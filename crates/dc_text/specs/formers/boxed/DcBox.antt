-- How a `DcBox` holds its value, so that a type may reach itself through one.
-- What it holds is exactly that value, and no part of the pointer.
use mathlib.Core.Path.{refl}
use mathlib.Core.Former.{Former, this, const, pair, via}
use base.Stored.{gnil}
use base.Fml.{ftrue}
use denote.RattleType.{RattleType}
use denote.Memory.{part_of}
use denote.RawPtr.{Ptr}
use denote.Sharing.{nothing}
use denote.HoleLaws.{Alike}
use denote.HolePlaces.{Recodes, struct_places, laid, one_value}
use denote.Hole.Fix.{over}
use denote.Param.Weighed.{Weighed}
use denote.Model.Placed.{view_places}
use Rattle.std.specs.declared.boxed.Box.{Box}
use Rattle.std.specs.contracts.boxed.Box as box
use Rattle.std.specs.declared.alloc.Global.{Global}
use Rattle.std.specs.contracts.alloc.Global as heap
use Rattle.std.specs.contracts.impls.GlobalAllocator.TheImpl.{ghosts}
use Rattle.dc_text.specs.declared.boxed.DcBox.TheInside.{Inside}
use Rattle.dc_text.specs.declared.boxed.DcBox.TheView.{view, invariant}
use Rattle.dc_text.specs.contracts.boxed.DcBox as outside
use Rattle.dc_text.specs.contracts.boxed.DcBox.TheInside as inside

abbrev pub the_former : Former {0} → Former {0}
the_former held = held

abbrev pub the_weighed : {held : Former {0}} → Weighed held → Weighed (the_former held)
the_weighed weight = weight

-- the one field: a pointer and an allocator beside the value
abbrev field : Former {0}
field = via (pair (const (Ptr × Global)) this) Inside (λ X s. ((s.inner.ptr, s.inner.alloc), s.inner.value))
    (λ X v. record { inner = record { ptr = v.0.0; alloc = v.0.1; value = v.1 } }) (λ X s. refl) (λ X v. refl)

-- the same box around another value
abbrev around : {X Y : Type 0} → Box X Global → Y → Box Y Global
around b y = record { ptr = b.ptr; alloc = b.alloc; value = y }

abbrev box_row : RattleType → RattleType
box_row R = box.the_row R heap.the_row ghosts

module _ (From To : RattleType) (along : From.Denot → To.Denot) where
  -- a box owns and lends alike at both types
  box_alike : Alike From To along → Alike (box_row From) (box_row To) (λ b. around b (along b.value))
  unfolding part_of
  box_alike alike = record {
    mir_same = λ i. (box_row (one_value From (alike.mir_same i) (λ _. ftrue) (λ _ _. nothing) gnil)).mir;
    own_same = λ b i. (box_row (one_value From (alike.mir_same i) (alike.own_same b.value i) (alike.shr_same b.value i) gnil)).own_val (around b tt);
    shr_same = λ b i. (box_row (one_value From (alike.mir_same i) (alike.own_same b.value i) (alike.shr_same b.value i) gnil)).shr_at (around b tt);
  }

  pub the_places : Alike From To along → Alike (outside.the_row From) (outside.the_row To) ((the_former this).map From.Denot To.Denot along)
  the_places alike =
      view_places field this view (λ X Y k s. refl) (λ X s. refl) From.Denot To.Denot along (outside.the_row From).coded (outside.the_row To).coded
      (invariant From.Denot) (invariant To.Denot) (λ s p q. refl) (λ s p q. refl) (λ s e. tt) (λ s e. tt)
      (over (inside.the_row From)) (over (inside.the_row To))
      (struct_places (inside.the_type From) (inside.the_type To) ((λ b. around b (along b.value)), tt) _ (λ d. refl) refl
      (laid _ _ _ (box_alike alike), tt))

  pub the_codes_placed : Recodes From To along → Recodes (outside.the_row From) (outside.the_row To) ((the_former this).map From.Denot To.Denot along)
  the_codes_placed recodes held = recodes held
