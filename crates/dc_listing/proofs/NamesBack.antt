-- Words that stand for names are read back.
use Rattle.std.proofs.Common.{◌≡◌, Bool, true, false, List, [], ◌∷◌, refl, sym, ap, ◌∙◌}
use Rattle.std.specs.Prelude.{Option, Some, None, if◌then◌else◌}
use Rattle.std.specs.Str.{bytes_eq}
use Rattle.dc_int.specs.declared.kind.Kind.{Kind}
use Rattle.dc_int.specs.declared.operation.Op.{Op}
use Rattle.dc_int.specs.declared.operation.ReduceOp.{ReduceOp}
use Rattle.dc_code.specs.declared.instr.Folding.{Folding}
use Rattle.dc_code.specs.declared.instr.Relation.{Relation}
use Rattle.dc_code.specs.declared.plan.Passing.{Passing}
use Rattle.dc_listing.specs.Words.{Word, truth_word, kind_word, operation_word, reduction_word, relation_word, folding_word, passing_word}
use Rattle.dc_listing.proofs.Plain.{is_plain}

-- the first of these that has this word
abbrev pub named : {A : Type 0} → (A → Word) → List A → Word → Option A
named word [] text = None
named word (first ∷ rest) text = if bytes_eq text (word first) then Some first else named word rest text

-- A plain word that is read back.
pub record IsTold {A : Type 0} (word : A → Word) (read : Word → Option A) (x : A) : Type 0 where
  pub back : read (word x) ≡ Some x
  pub plain : is_plain (word x) ≡ true

-- A word that is read back tells what it is of.
pub tells-one
    : {A : Type 0} (word : A → Word) (read : Word → Option A) → ((x : A) → IsTold word read x) → (x y : A) → word x ≡ word y → x ≡ y
tells-one word read told x y same = let one : Some x ≡ Some y = sym (told x).back ∙ ap read same ∙ (told y).back in cc

abbrev pub truth_in : Word → Option Bool
truth_in word = named truth_word (true ∷ false ∷ []) word

pub truth-told : (truth : Bool) → IsTold truth_word truth_in truth
truth-told true = record { back = refl; plain = refl }
truth-told false = record { back = refl; plain = refl }

abbrev kinds : List Kind
kinds =
    Kind.K1 ∷ Kind.K2 ∷ Kind.K4 ∷ Kind.K8 ∷ []

abbrev pub kind_in : Word → Option Kind
kind_in word = named kind_word kinds word

pub kind-told : (kind : Kind) → IsTold kind_word kind_in kind
kind-told Kind.K1 = record { back = refl; plain = refl }
kind-told Kind.K2 = record { back = refl; plain = refl }
kind-told Kind.K4 = record { back = refl; plain = refl }
kind-told Kind.K8 = record { back = refl; plain = refl }

abbrev operations : List Op
operations =
    Op.Add ∷ Op.Sub ∷ Op.Mul ∷ Op.Neg ∷ Op.Abs ∷ Op.Div ∷ Op.Mod ∷ Op.Modulo ∷ Op.Pow ∷ Op.Min ∷ Op.Max ∷ Op.Sign ∷ Op.Dim ∷
    Op.Iand ∷ Op.Ior ∷ Op.Ieor ∷ Op.Not ∷ Op.Ishft ∷ Op.Shiftl ∷ Op.Shiftr ∷ Op.Shifta ∷ Op.Ibset ∷ Op.Ibclr ∷ Op.Popcnt ∷ []

abbrev pub operation_in : Word → Option Op
operation_in word = named operation_word operations word

pub operation-told : (operation : Op) → IsTold operation_word operation_in operation
operation-told Op.Add = record { back = refl; plain = refl }
operation-told Op.Sub = record { back = refl; plain = refl }
operation-told Op.Mul = record { back = refl; plain = refl }
operation-told Op.Neg = record { back = refl; plain = refl }
operation-told Op.Abs = record { back = refl; plain = refl }
operation-told Op.Div = record { back = refl; plain = refl }
operation-told Op.Mod = record { back = refl; plain = refl }
operation-told Op.Modulo = record { back = refl; plain = refl }
operation-told Op.Pow = record { back = refl; plain = refl }
operation-told Op.Min = record { back = refl; plain = refl }
operation-told Op.Max = record { back = refl; plain = refl }
operation-told Op.Sign = record { back = refl; plain = refl }
operation-told Op.Dim = record { back = refl; plain = refl }
operation-told Op.Iand = record { back = refl; plain = refl }
operation-told Op.Ior = record { back = refl; plain = refl }
operation-told Op.Ieor = record { back = refl; plain = refl }
operation-told Op.Not = record { back = refl; plain = refl }
operation-told Op.Ishft = record { back = refl; plain = refl }
operation-told Op.Shiftl = record { back = refl; plain = refl }
operation-told Op.Shiftr = record { back = refl; plain = refl }
operation-told Op.Shifta = record { back = refl; plain = refl }
operation-told Op.Ibset = record { back = refl; plain = refl }
operation-told Op.Ibclr = record { back = refl; plain = refl }
operation-told Op.Popcnt = record { back = refl; plain = refl }

abbrev reductions : List ReduceOp
reductions =
    ReduceOp.Add ∷ ReduceOp.Mul ∷ ReduceOp.And ∷ ReduceOp.Or ∷ ReduceOp.Eqv ∷ ReduceOp.Neqv ∷ ReduceOp.Max ∷ ReduceOp.Min ∷
    ReduceOp.Iand ∷ ReduceOp.Ior ∷ ReduceOp.Ieor ∷ []

abbrev pub reduction_in : Word → Option ReduceOp
reduction_in word = named reduction_word reductions word

pub reduction-told : (reduction : ReduceOp) → IsTold reduction_word reduction_in reduction
reduction-told ReduceOp.Add = record { back = refl; plain = refl }
reduction-told ReduceOp.Mul = record { back = refl; plain = refl }
reduction-told ReduceOp.And = record { back = refl; plain = refl }
reduction-told ReduceOp.Or = record { back = refl; plain = refl }
reduction-told ReduceOp.Eqv = record { back = refl; plain = refl }
reduction-told ReduceOp.Neqv = record { back = refl; plain = refl }
reduction-told ReduceOp.Max = record { back = refl; plain = refl }
reduction-told ReduceOp.Min = record { back = refl; plain = refl }
reduction-told ReduceOp.Iand = record { back = refl; plain = refl }
reduction-told ReduceOp.Ior = record { back = refl; plain = refl }
reduction-told ReduceOp.Ieor = record { back = refl; plain = refl }

abbrev relations : List Relation
relations =
    Relation.Eq ∷ Relation.Ne ∷ Relation.Lt ∷ Relation.Le ∷ Relation.Gt ∷ Relation.Ge ∷ []

abbrev pub relation_in : Word → Option Relation
relation_in word = named relation_word relations word

pub relation-told : (relation : Relation) → IsTold relation_word relation_in relation
relation-told Relation.Eq = record { back = refl; plain = refl }
relation-told Relation.Ne = record { back = refl; plain = refl }
relation-told Relation.Lt = record { back = refl; plain = refl }
relation-told Relation.Le = record { back = refl; plain = refl }
relation-told Relation.Gt = record { back = refl; plain = refl }
relation-told Relation.Ge = record { back = refl; plain = refl }

abbrev foldings : List Folding
foldings =
    Folding.Sum ∷ Folding.Count ∷ Folding.Any ∷ Folding.All ∷ []

abbrev pub folding_in : Word → Option Folding
folding_in word = named folding_word foldings word

pub folding-told : (folding : Folding) → IsTold folding_word folding_in folding
folding-told Folding.Sum = record { back = refl; plain = refl }
folding-told Folding.Count = record { back = refl; plain = refl }
folding-told Folding.Any = record { back = refl; plain = refl }
folding-told Folding.All = record { back = refl; plain = refl }

abbrev passings : List Passing
passings =
    Passing.Value ∷ Passing.Place ∷ Passing.OutPlace ∷ []

abbrev pub passing_in : Word → Option Passing
passing_in word = named passing_word passings word

pub passing-told : (passing : Passing) → IsTold passing_word passing_in passing
passing-told Passing.Value = record { back = refl; plain = refl }
passing-told Passing.Place = record { back = refl; plain = refl }
passing-told Passing.OutPlace = record { back = refl; plain = refl }
