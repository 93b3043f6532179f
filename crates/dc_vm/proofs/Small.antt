-- The small code of the test is well formed: it stores 42 in a scalar, reads it back, and puts it on a line.
use Rattle.std.proofs.Common.{◌≡◌, ◌<◌, ◌≤◌, ℕ, zero, suc, ◌+◌, true, false, List, [], ◌∷◌, ◌-◌, map, Option, Some, None, refl, sym, ◌∙◌, subst, arith}
use Rattle.std.proofs.lemmas.Option.{none-some}
use Rattle.std.specs.Prelude.{pos, slice_get, option_map}
use Rattle.dc_int.specs.declared.kind.Kind.{Kind}
use Rattle.dc_code.specs.declared.instr.Instr.{Instr}
use Rattle.dc_code.specs.declared.instr.What.{What}
use Rattle.dc_code.specs.Codes.{CodeLists}
use Rattle.dc_code.specs.StackSorts.{Sorts, number, in_variable, sorts_after}
use Rattle.dc_code.specs.WellFormed.{Part, main, parts, PlanFits, may_stand, may_change, changes, contributes, MayContribute, goes_on, target_of, ends_part, end_of, Stands, IsWellFormed}

abbrev pub small : CodeLists
small = record {
  instructions =
      record { line = 1; what = What.Const Kind.K4 (pos 42) }
      ∷ record { line = 1; what = What.Subscript 0 }
      ∷ record { line = 1; what = What.Store 0 }
      ∷ record { line = 2; what = What.Subscript 0 }
      ∷ record { line = 2; what = What.Load 0 }
      ∷ record { line = 2; what = What.PutNumber }
      ∷ record { line = 2; what = What.PutEnd }
      ∷ record { line = 3; what = What.End } ∷ [];
  texts = [];
  shapes = record { kind = Kind.K4; logical = false; elements = 1 } ∷ [];
  bounds = [] ∷ [];
  plans = record { dummies = []; groups = [] } ∷ [];
  entries = [];
  constructs = [];
}

abbrev the_part : Part
the_part = record { kind = main; start = 0; plan = record { dummies = []; groups = [] } }

-- the instructions, each with the sorts that it leaves
abbrev leaving : List (Instr × Sorts)
leaving =
    (record { line = 1; what = What.Const Kind.K4 (pos 42) }, number Kind.K4 ∷ [])
    ∷ (record { line = 1; what = What.Subscript 0 }, in_variable 0 ∷ number Kind.K4 ∷ [])
    ∷ (record { line = 1; what = What.Store 0 }, [])
    ∷ (record { line = 2; what = What.Subscript 0 }, in_variable 0 ∷ [])
    ∷ (record { line = 2; what = What.Load 0 }, number Kind.K4 ∷ [])
    ∷ (record { line = 2; what = What.PutNumber }, [])
    ∷ (record { line = 2; what = What.PutEnd }, [])
    ∷ (record { line = 3; what = What.End }, []) ∷ []

-- the sorts before each
abbrev sorts : ℕ → Sorts
sorts zero = []
sorts (suc at) = by (slice_get leaving at)
  where
    by : Option (Instr × Sorts) → Sorts
    by (Some w) = w.1
    by None = []

standing
    : (at : ℕ) (instr : Instr) (after : Sorts)
    → sorts_after small the_part.plan (option_map (λ (before : Instr). before.what) (slice_get small.instructions (at - 1))) instr.what (sorts at) ≡ Some after
    → may_stand main instr.what ≡ true → may_change main (changes instr.what) ≡ true → MayContribute small main (contributes instr.what)
    → target_of instr.what ≡ None → (goes_on instr.what ≡ true → (suc at < 8) × (sorts (suc at) ≡ after)) → (ends_part instr.what ≡ true → after ≡ [])
    → Stands small sorts the_part at instr after
standing at instr after operands place changed contributed target next end = record {
  operands = operands;
  place = place;
  changed = changed;
  contributed = contributed;
  next = next;
  jump = λ to e. absurd (none-some to (sym target ∙ e));
  no_result = λ to found e there. absurd (none-some to (sym target ∙ e));
  end = end;
}

abbrev StandAll : ℕ → List (Instr × Sorts) → Type 0
StandAll at [] = Unit {0}
StandAll at (first ∷ rest) = Stands small sorts the_part at first.0 first.1 × StandAll (suc at) rest

all-stand : StandAll 0 leaving
all-stand = (
  standing 0 _ _ refl refl refl tt refl (λ on. (omega arith, refl)) (λ e. absurd (cc e)),
  (
    standing 1 _ _ refl refl refl tt refl (λ on. (omega arith, refl)) (λ e. absurd (cc e)),
    (
      standing 2 _ _ refl refl refl tt refl (λ on. (omega arith, refl)) (λ e. absurd (cc e)),
      (
        standing 3 _ _ refl refl refl tt refl (λ on. (omega arith, refl)) (λ e. absurd (cc e)),
        (
          standing 4 _ _ refl refl refl tt refl (λ on. (omega arith, refl)) (λ e. absurd (cc e)),
          (
            standing 5 _ _ refl refl refl tt refl (λ on. (omega arith, refl)) (λ e. absurd (cc e)),
            (
              standing 6 _ _ refl refl refl tt refl (λ on. (omega arith, refl)) (λ e. absurd (cc e)),
              (standing 7 _ _ refl refl refl tt refl (λ on. absurd (cc on)) (λ e. refl), tt),
            ),
          ),
        ),
      ),
    ),
  ),
)

-- one of them
stands-there : (start : ℕ) (items : List (Instr × Sorts)) → StandAll start items → (n : ℕ) (instr : Instr)
    → slice_get (map (λ (w : Instr × Sorts). w.0) items) n ≡ Some instr → (after : Sorts) × Stands small sorts the_part (start + n) instr after
stands-there start [] all n instr found = absurd (none-some instr found)
stands-there start (first ∷ rest) all zero instr found =
    let same : first.0 ≡ instr = cc found in
    let here : start ≡ start + 0 = omega arith in
    (first.1, subst (λ at. Stands small sorts the_part at instr first.1) here (subst (λ instr. Stands small sorts the_part start instr first.1) same all.0))
stands-there start (first ∷ rest) all (suc n) instr found =
    let there : suc start + n ≡ start + suc n = omega arith in
    let one = stands-there (suc start) rest all.1 n instr found in
    (one.0, subst (λ at. Stands small sorts the_part at instr one.0) there one.1)

-- There is one part.
only-part : (P : Part → Type 0) → P the_part → (n : ℕ) (part : Part) → slice_get (parts small) n ≡ Some part → P part
only-part P holds zero part found = let same : the_part ≡ part = cc found in subst P same holds
only-part P holds (suc n) part found = absurd (none-some part found)

pub small_formed : IsWellFormed small
small_formed = record {
  bounds = refl;
  sizes = refl;
  plans = refl;
  constructs = refl;
  different = refl;
  inside = refl;
  plan_fits = only-part (λ part. PlanFits small part.kind part.plan) refl;
  sorts = sorts;
  beginning = only-part (λ part. sorts part.start ≡ []) refl;
  stands = only-part
      (λ part. (at : ℕ) (instr : Instr) → part.start ≤ at → at < end_of small part.start → slice_get small.instructions at ≡ Some instr → (after : Sorts) × Stands small sorts part at instr after)
      (λ at instr from to found. let one = stands-there 0 leaving all-stand at instr found in let there : 0 + at ≡ at = omega arith in (one.0, subst (λ n. Stands small sorts the_part n instr one.0) there one.1));
}
