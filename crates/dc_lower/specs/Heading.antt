-- What the code of a header leaves on the stack. This project's own.
use Rattle.std.specs.Prelude.{◌≡◌, ℕ, List, [], ◌∷◌, reverse, slice_get, Some}
use Rattle.dc_code.specs.declared.frame.Item.{Item}
use Rattle.dc_code.specs.declared.plan.ConstructCode.{ConstructCode}
use Rattle.dc_code.specs.Codes.{CodeLists}
use Rattle.dc_code.specs.Combinations.{Span}
use Rattle.dc_code.specs.Computation.{give, sequence}
use Rattle.dc_code.specs.Frames.{with_stack}
use Rattle.dc_code.specs.Loops.{Form}
use Rattle.dc_code.specs.Machine.{machine, new_frame}

-- The limits and the step of each index, in the order in which they are pushed.
abbrev pub items_of : List Span → List Item
items_of [] = []
items_of (span ∷ spans) = Item.Value span.first ∷ Item.Value span.last ∷ Item.Value span.step ∷ items_of spans

-- A stack of them alone, which has first what was pushed last.
abbrev pub stack_of : List Span → List Item
stack_of spans = reverse (items_of spans)

-- The code has a loop of that number, whose header does what the header of the form does and leaves as many turns: from
-- a new frame it leaves that frame with the spans on its stack, and no other change.
pub record HasHeader (code : CodeLists) (number : ℕ) (form : Form) : Type 0 where
  pub construct : ConstructCode
  pub there : slice_get code.constructs number ≡ Some construct
  pub leaves : (turns : ℕ) → machine code construct.header (new_frame code construct.header) turns
      ≡ sequence (form.header turns) (λ w. give (with_stack (stack_of w.0) (new_frame code construct.header), w.1))
