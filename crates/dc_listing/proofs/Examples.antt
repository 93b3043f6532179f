-- Lines of listings, and the listing of a small code with a loop.
use Rattle.std.proofs.Common.{◌≡◌, ℕ, true, false, List, [], ◌∷◌, ◌++◌, Some, None, refl, codes}
use Rattle.std.specs.Prelude.{pos, negsuc}
use Rattle.dc_int.specs.declared.kind.Kind.{Kind}
use Rattle.dc_int.specs.declared.operation.Op.{Op}
use Rattle.dc_int.specs.declared.operation.ReduceOp.{ReduceOp}
use Rattle.dc_int.specs.declared.variable.Locality.{Locality}
use Rattle.dc_code.specs.declared.instr.Instr.{Instr}
use Rattle.dc_code.specs.declared.instr.Folding.{Folding}
use Rattle.dc_code.specs.declared.instr.Relation.{Relation}
use Rattle.dc_code.specs.declared.instr.What.{What}
use Rattle.dc_code.specs.declared.plan.Passing.{Passing}
use Rattle.dc_code.specs.Codes.{CodeLists}
use Rattle.dc_listing.specs.Listing.{instruction_line, told_line, text_words, shape_words, bounds_words, plan_words, entry_words, construct_words, listing}
use Rattle.dc_listing.specs.Words.{fields, number}

-- these bytes, and a line feed
abbrev row : List ℕ → List ℕ
row text = text ++ 10 ∷ []

-- ---- instructions

-- at place 12, of line 3
abbrev shown : What → List ℕ
shown what = instruction_line 12 (record { line = 3; what = what })

negative_number : shown (What.Const Kind.K4 (negsuc 4)) ≡ row (codes "12 3 Const 4 -5")
unfolding fields number
negative_number = refl

zero_of_kind_8 : shown (What.Const Kind.K8 (pos 0)) ≡ row (codes "12 3 Const 8 0")
unfolding fields number
zero_of_kind_8 = refl

a_truth : shown (What.Truth false) ≡ row (codes "12 3 Truth F")
unfolding fields number
a_truth = refl

an_operation : shown (What.Arith Op.Modulo Kind.K2) ≡ row (codes "12 3 Arith Modulo 2")
unfolding fields number
an_operation = refl

a_relation : shown (What.Compare Relation.Le) ≡ row (codes "12 3 Compare Le")
unfolding fields number
a_relation = refl

a_folding : shown (What.Fold Folding.Count 10) ≡ row (codes "12 3 Fold Count 10")
unfolding fields number
a_folding = refl

a_reduction : shown (What.Contribute ReduceOp.Neqv 1) ≡ row (codes "12 3 Contribute Neqv 1")
unfolding fields number
a_reduction = refl

a_call : shown (What.Call 2 3) ≡ row (codes "12 3 Call 2 3")
unfolding fields number
a_call = refl

no_operands : shown What.Turn ≡ row (codes "12 3 Turn")
unfolding fields number
no_operands = refl

-- ---- other lines

a_text : told_line (codes "text") text_words 0 (codes "Hi") ≡ row (codes "text 0 2 72 105")
unfolding fields number
a_text = refl

-- a blank, a line feed, and bytes that are no characters
any_bytes : told_line (codes "text") text_words 12 (32 ∷ 10 ∷ 0 ∷ 255 ∷ []) ≡ row (codes "text 12 4 32 10 0 255")
unfolding fields number
any_bytes = refl

empty_text : told_line (codes "text") text_words 0 [] ≡ row (codes "text 0 0")
unfolding fields number
empty_text = refl

a_shape : told_line (codes "shape") shape_words 2 (record { kind = Kind.K1; logical = false; elements = 30 }) ≡ row (codes "shape 2 1 F 30")
unfolding fields number
a_shape = refl

bounds_of_an_array : told_line (codes "bounds") bounds_words 0 ((negsuc 0, pos 1) ∷ (pos 1, pos 10) ∷ []) ≡ row (codes "bounds 0 2 -1 1 1 10")
unfolding fields number
bounds_of_an_array = refl

bounds_of_a_scalar : told_line (codes "bounds") bounds_words 1 [] ≡ row (codes "bounds 1 0")
unfolding fields number
bounds_of_a_scalar = refl

a_plan
    : told_line (codes "plan") plan_words 3 (record {
      dummies = record { kind = Kind.K4; logical = true; passing = Passing.OutPlace } ∷ [];
      groups = record { kind = Kind.K8; logical = false; bounds = (pos 0, pos 4) ∷ [] } ∷ [];
    })
    ≡ row (codes "plan 3 1 4 T OutPlace 1 8 F 1 0 4")
unfolding fields number
a_plan = refl

an_entry : told_line (codes "entry") entry_words 0 7 ≡ row (codes "entry 0 7")
unfolding fields number
an_entry = refl

a_construct
    : told_line (codes "construct") construct_words 0 (record {
      line = 2;
      width = 2;
      kinds = Kind.K4 ∷ Kind.K8 ∷ [];
      header = 5;
      mask = Some 11;
      body = 14;
      localities = Locality.Local ∷ Locality.Reduce ReduceOp.Max ∷ Locality.Plain ∷ [];
    })
    ≡ row (codes "construct 0 2 2 2 4 8 5 11 14 3 Local Reduce Max Plain")
unfolding fields number
a_construct = refl

-- ---- a code: `do concurrent (i = 1:3)` in line 2 with body `a(i) = i` in line 3

abbrev at_line : ℕ → What → Instr
at_line line what = record { line = line; what = what }

abbrev looping : CodeLists
looping =
    record {
      instructions =
          at_line 2 (What.Enter 0) ∷ at_line 5 What.End
          ∷ at_line 2 (What.Const Kind.K4 (pos 1)) ∷ at_line 2 (What.Const Kind.K4 (pos 3)) ∷ at_line 2 (What.Const Kind.K4 (pos 1)) ∷ at_line 2 What.End
          ∷ at_line 3 (What.SubscriptSlot 0) ∷ at_line 3 (What.LoadSlot 0) ∷ at_line 3 (What.SubscriptSlot 0) ∷ at_line 3 (What.LoadSlot 0)
          ∷ at_line 3 (What.Subscript 0) ∷ at_line 3 (What.Store 0) ∷ at_line 4 What.End ∷ [];
      texts = [];
      shapes = record { kind = Kind.K4; logical = false; elements = 3 } ∷ [];
      bounds = ((pos 1, pos 3) ∷ []) ∷ [];
      plans =
          record { dummies = []; groups = [] } ∷ record { dummies = []; groups = [] }
          ∷ record { dummies = []; groups = record { kind = Kind.K4; logical = false; bounds = [] } ∷ [] } ∷ [];
      entries = [];
      constructs =
          record { line = 2; width = 1; kinds = Kind.K4 ∷ []; header = 2; mask = None; body = 6; localities = Locality.Plain ∷ [] } ∷ [];
    }

listing_of_a_loop
    : listing looping
    ≡ row (codes "0 2 Enter 0") ++ row (codes "1 5 End")
    ++ row (codes "2 2 Const 4 1") ++ row (codes "3 2 Const 4 3") ++ row (codes "4 2 Const 4 1") ++ row (codes "5 2 End")
    ++ row (codes "6 3 SubscriptSlot 0") ++ row (codes "7 3 LoadSlot 0") ++ row (codes "8 3 SubscriptSlot 0") ++ row (codes "9 3 LoadSlot 0")
    ++ row (codes "10 3 Subscript 0") ++ row (codes "11 3 Store 0") ++ row (codes "12 4 End")
    ++ row (codes "shape 0 4 F 3") ++ row (codes "bounds 0 1 1 3")
    ++ row (codes "plan 0 0 0") ++ row (codes "plan 1 0 0") ++ row (codes "plan 2 0 1 4 F 0")
    ++ row (codes "construct 0 2 1 1 4 2 - 6 1 Plain")
unfolding fields number
listing_of_a_loop = refl
