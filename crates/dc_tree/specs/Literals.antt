-- The numbers that digits write, and the kinds that numbers name. After ISO/IEC 1539-1:2023, clause 7.4.3.1;
-- which kinds there are is this project's own.
use Rattle.std.specs.Prelude.{ℕ, ◌+◌, ◌-◌, ◌*◌, ◌==◌, List, [], ◌∷◌, if◌then◌else◌, ℤ, pos}
use Rattle.dc_int.specs.declared.kind.Kind.{Kind}

-- the number that decimal digits write, behind a number that stands already
abbrev pub number_from : ℕ → List ℕ → ℕ
number_from n [] = n
number_from n (digit ∷ digits) = number_from (n * 10 + (digit - 48)) digits

abbrev pub number_of : List ℕ → ℕ
number_of = number_from 0

-- The kind that a number names; the default kind is 4.
abbrev pub kind_numbered : ℤ → Kind
kind_numbered (pos n) = if n == 1 then Kind.K1 else (if n == 2 then Kind.K2 else (if n == 8 then Kind.K8 else Kind.K4))
kind_numbered other = Kind.K4

-- The number of a kind, which KIND of clause 16.9 gives.
abbrev pub kind_number : Kind → ℤ
kind_number Kind.K1 = pos 1
kind_number Kind.K2 = pos 2
kind_number Kind.K4 = pos 4
kind_number Kind.K8 = pos 8
