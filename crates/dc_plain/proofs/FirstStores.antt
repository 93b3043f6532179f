-- The store with which a program of today's form begins.
use Rattle.std.proofs.Common.{◌≡◌, true, List, ◌∷◌, refl}
use Rattle.std.specs.Prelude.{nat_eq, ℤ, Bool}
use Rattle.dc_int.specs.declared.kind.Kind.{Kind}
use Rattle.dc_int.specs.Store.{Bounds}
use Rattle.dc_tree.specs.declared.symbols.Role.{Role}
use Rattle.dc_tree.specs.declared.symbols.Symbol.{Symbol}
use Rattle.dc_plain.specs.FirstStores.{begun, first_store}

-- One variable more.
pub first-more
    : (first : Symbol) (rest : List Symbol) (logical : Bool) (kind : Kind) (bounds : Bounds) (initial : List ℤ) → nat_eq first.scope 0 ≡ true
    → first.role ≡ Role.Variable logical kind bounds initial → first_store (first ∷ rest) ≡ begun bounds initial ∷ first_store rest
first-more first rest logical kind bounds initial scope role = rw (scope, role) refl
