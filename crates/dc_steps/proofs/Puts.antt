-- Elements that are put on the line one after another.
use Rattle.std.proofs.Common.{◌≡◌, ◌<◌, ℕ, ◌+◌, Bool, true, false, List, map, refl, sym, ap, ◌∙◌}
use Rattle.std.specs.Prelude.{ℤ, Err}
use Rattle.dc_int.specs.declared.access.ElementId.{ElementId}
use Rattle.dc_int.specs.declared.kind.Kind.{Kind}
use Rattle.dc_int.specs.declared.variable.Shape.{Shape}
use Rattle.dc_int.specs.Entries.{Entry}
use Rattle.dc_int.specs.Sorts.{sort_with}
use Rattle.dc_int.specs.Store.{Store}
use Rattle.dc_code.specs.Codes.{CodeLists, element}
use Rattle.dc_code.specs.Computation.{give, sequence, done}
use Rattle.dc_code.specs.Frames.{Frame, put, put_each}
use Rattle.dc_code.specs.OverCells.{over_cells}
use Rattle.dc_code.specs.Reaching.{sort_of_shape, element_read, all_read}
use Rattle.dc_code.specs.Troubles.{Computing}
use Rattle.dc_lists.specs.Output.{written}
use Rattle.dc_steps.specs.declared.halt.Halt.{Halt}
use Rattle.dc_steps.specs.Elementwise.{elements_from}
use Rattle.dc_steps.specs.Halting.{Reaches}
use Rattle.dc_steps.proofs.Behind.{reaches_as, read_more, read_halts}
use Rattle.dc_steps.proofs.Rest.{elements_more}

abbrev pub put_onto : CodeLists → ℕ → Shape → List ElementId → Frame → Computing Frame
put_onto code line shape elements frame = sequence (all_read code line elements) (λ zs. give (put_each (map (written (sort_of_shape shape)) zs) frame))

-- What a value writes doesn't depend on its kind.
pub written_alike : (is_logical : Bool) (kind other : Kind) (z : ℤ) → written (sort_with is_logical kind) z ≡ written (sort_with is_logical other) z
written_alike true kind other z = refl
written_alike false kind other z = refl

module _ {M : Type 0} (code : CodeLists) (shown : M → Store) (after : Entry → M → M) (line : ℕ) (held now : M) (shape : Shape) (variable position : ℕ) (frame : Frame) (less : position < shape.elements) where
  abbrev putting : List ℤ → Computing Frame
  putting zs = give (put_each (map (written (sort_of_shape shape)) zs) frame)

  pub put_more : (z given : ℤ) (left : Frame) → over_cells shown after held (element_read code line (element variable position)) ≡ record { meaning = now; reached = done z }
      → given ≡ z → left ≡ put (written (sort_with shape.logical Kind.K8) given) frame
      → over_cells shown after held (put_onto code line shape (elements_from variable position shape.elements) frame)
      ≡ over_cells shown after now (put_onto code line shape (elements_from variable (position + 1) shape.elements) left)
  put_more z given left reached same is =
      ap (λ elements. over_cells shown after held (put_onto code line shape elements frame)) (elements_more variable position shape.elements less)
      ∙ (read_more code shown after line held now (element variable position) (elements_from variable (position + 1) shape.elements) z putting reached
      ∙ ap (λ left. over_cells shown after now (put_onto code line shape (elements_from variable (position + 1) shape.elements) left))
      (sym (is ∙ (ap (λ z. put (written (sort_with shape.logical Kind.K8) z) frame) same ∙ ap (λ bytes. put bytes frame) (written_alike shape.logical Kind.K8 shape.kind z)))))

  pub put_stops : {A : Type 0} (halt : Halt) (made : A → Frame) → Reaches line (Err halt) (λ (z : ℤ). z) now (over_cells shown after held (element_read code line (element variable position)))
      → Reaches line (Err halt) made now (over_cells shown after held (put_onto code line shape (elements_from variable position shape.elements) frame))
  put_stops halt made halts =
      reaches_as line (Err halt) made now _ _
      (ap (λ elements. over_cells shown after held (put_onto code line shape elements frame)) (elements_more variable position shape.elements less))
      (read_halts code shown after line held now (element variable position) (elements_from variable (position + 1) shape.elements) halt made putting halts)
