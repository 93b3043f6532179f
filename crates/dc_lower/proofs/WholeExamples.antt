-- A small program whose code is made, and this code.
use Rattle.std.proofs.Common.{◌≡◌, ℕ, List, [], ◌∷◌, map, refl}
use Rattle.std.specs.Prelude.{pos}
use Rattle.dc_int.specs.declared.kind.Kind.{Kind}
use Rattle.dc_code.specs.declared.instr.Instr.{Instr}
use Rattle.dc_code.specs.declared.instr.What.{What}
use Rattle.dc_code.specs.declared.plan.ConstructCode.{ConstructCode}
use Rattle.dc_tree.specs.declared.symbols.Symbol.{Symbol}
use Rattle.dc_tree.specs.Blocks.{Source}
use Rattle.dc_meaning.proofs.Sources.{a, i, one, four, var, set_at, print, from_to, concurrent, scalar, array, declared, program}
use Rattle.dc_lower.specs.Lowerable.{IsLowerable}
use Rattle.dc_lower.specs.Lowered.{lowered}

abbrev symbols : List Symbol
symbols = declared a (array 4) ∷ declared i scalar ∷ []

-- do concurrent (i = 1:4); a(i) = i; end do; print *, a
abbrev filled : Source
filled = program (concurrent 3 (from_to i one four ∷ []) [] (set_at 4 a (var i ∷ []) (var i) ∷ []) ∷ print 6 (var a ∷ []) ∷ [])

-- It is one of the programs of which the laws speak.
filled-lowerable : IsLowerable symbols filled
filled-lowerable = record { built = refl; sound = refl; lowered = refl; typed = refl; loops = refl }

-- The main program, and behind it the header and the block of the loop.
filled-code : map (λ (instr : Instr). instr.what) (lowered symbols filled).instructions
    ≡ What.Enter 0 ∷ What.PutAll 0 ∷ What.PutEnd ∷ What.End
    ∷ What.Const Kind.K4 (pos 1) ∷ What.Wrap Kind.K4 ∷ What.Const Kind.K4 (pos 4) ∷ What.Wrap Kind.K4 ∷ What.Const Kind.K4 (pos 1) ∷ What.End
    ∷ What.SubscriptSlot 0 ∷ What.LoadSlot 0 ∷ What.SubscriptSlot 0 ∷ What.LoadSlot 0 ∷ What.Subscript 0 ∷ What.Store 0 ∷ What.End ∷ []
filled-code = refl

filled-places : map {B = ℕ × ℕ} (λ (construct : ConstructCode). (construct.header, construct.body)) (lowered symbols filled).constructs ≡ (4, 10) ∷ []
filled-places = refl
