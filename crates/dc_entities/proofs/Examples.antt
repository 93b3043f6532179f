-- What the definitions say of small things.
use Rattle.std.proofs.Common.{◌≡◌, true, false, List, [], ◌∷◌, refl}
use Rattle.std.specs.Prelude.{pos, negsuc}
use Rattle.dc_int.specs.declared.kind.Kind.{Kind}
use Rattle.dc_int.specs.Sorts.{whole, logical}
use Rattle.dc_code.specs.Combinations.{values_of, combinations}
use Rattle.dc_code.specs.Loops.{are_too_many}
use Rattle.dc_tree.specs.declared.symbols.Role as roles
use Rattle.dc_tree.specs.declared.symbols.Symbol.{Symbol}
use Rattle.dc_tree.specs.Entities.{outside, slots, constant, nothing}
use Rattle.dc_tree.specs.Statements.{Name}
use Rattle.dc_sorts.specs.declared.form.Form.{Form}
use Rattle.dc_entities.specs.declared.found.Found.{Found}
use Rattle.dc_entities.specs.Found.{entity_of, bounds_found, entity_at}
use Rattle.dc_entities.specs.Numbering.{numbers_of}
use Rattle.dc_entities.proofs.Spans.{span}

-- ---- numbers

abbrev named : Name → roles.Role → Symbol
named name role = record { scope = 0; name = name; role = role }

-- INTEGER, PARAMETER :: n = 3; INTEGER :: a(n), b; LOGICAL, PARAMETER :: t = .true.; LOGICAL :: l
abbrev declared : List Symbol
declared =
    named (110 ∷ []) (roles.Role.Constant false Kind.K4 (pos 3))
    ∷ named (97 ∷ []) (roles.Role.Variable false Kind.K4 ((pos 1, pos 3) ∷ []) [])
    ∷ named (98 ∷ []) (roles.Role.Variable false Kind.K4 [] [])
    ∷ named (116 ∷ []) (roles.Role.Constant true Kind.K4 (pos 1))
    ∷ named (108 ∷ []) (roles.Role.Variable true Kind.K4 [] [])
    ∷ []

pub constants_have_no_number : numbers_of declared ≡ 0 ∷ 0 ∷ 1 ∷ 2 ∷ 2 ∷ []
constants_have_no_number = refl

-- ---- what is found

pub index_is_in_a_slot : entity_of (Found.Index Kind.K8) ≡ slots 0 (whole Kind.K8) []
index_is_in_a_slot = refl

pub truth_constant : entity_of (Found.Constant Form.Logical (pos 1)) ≡ constant logical (pos 1)
truth_constant = refl

pub constant_has_no_bounds : bounds_found (Found.Constant (Form.Whole Kind.K4) (pos 3)) ≡ []
constant_has_no_bounds = refl

pub declared_array : entity_at 2 (roles.Role.Variable false Kind.K2 ((negsuc 0, pos 1) ∷ []) []) ≡ outside 2 (whole Kind.K2) ((negsuc 0, pos 1) ∷ [])
declared_array = refl

pub subroutine_is_nothing : entity_at 2 (roles.Role.Subroutine 1) ≡ nothing
subroutine_is_nothing = refl

-- ---- the values of an index

pub three_values : values_of (span (negsuc 0) (pos 1)) ≡ negsuc 0 ∷ pos 0 ∷ pos 1 ∷ []
three_values = refl

pub no_values : values_of (span (pos 2) (pos 1)) ≡ []
no_values = refl

pub one_index : combinations (span (pos 1) (pos 2) ∷ []) ≡ (pos 1 ∷ []) ∷ (pos 2 ∷ []) ∷ []
one_index = refl

pub just_enough : are_too_many (span (pos 1) (pos 4194304) ∷ []) ≡ false
just_enough = refl

pub one_too_many : are_too_many (span (pos 0) (pos 4194304) ∷ []) ≡ true
one_too_many = refl
