-- What the plain judge says of a loop, from what was marked and found.
use Rattle.std.proofs.Common.{◌≡◌, ℕ, ◌+◌, List, [], map, Option, Some, None, sym, ap, ◌∙◌, arith}
use Rattle.std.specs.Prelude.{slice_get, ℤ}
use Rattle.dc_int.specs.Store.{Store}
use Rattle.dc_code.specs.Loops.{Loop, order, closed}
use Rattle.dc_code.specs.Verdicts.{race_among, first_of}
use Rattle.dc_walk.specs.declared.judge.Bad.{Bad}
use Rattle.dc_walk.specs.declared.judge.Told.{Told}
use Rattle.dc_walk.specs.declared.plain.PlainVerdict.{PlainVerdict}
use Rattle.dc_walk.specs.Judging.{IsMarked, combination, runs_of, bad_of, told_of}
use Rattle.dc_plain.specs.Marks.{Marks}
use Rattle.dc_walk.specs.PlainVerdicts.{IsSaid}
use Rattle.dc_plain.specs.Views.{states_in}
use Rattle.dc_walk.proofs.Racing.{verdict-is}

pub said-bad : (parts : Loop) (store : Store) (active : List ℤ) (before after : Marks) (bad : Bad) → IsMarked parts store active before after (Some bad)
    → IsSaid parts store active (PlainVerdict.Bad bad.iteration bad.why bad.line)
said-bad parts store active before after bad (at, bad_is, k, at_k, counted) = (
  at,
  ap (slice_get active) (counted ∙ from_none k) ∙ at_k,
  verdict-is parts store active ∙ ap (λ b. first_of b (race_among parts store (map combination active) (runs_of parts store active))) bad_is,
)
  where
    from_none : (k : ℕ) → 0 + k ≡ k
    from_none k = omega arith

pub said-race : (parts : Loop) (store : Store) (active : List ℤ) (told : Told) → bad_of parts store active ≡ None
    → Some (told_of told) ≡ race_among parts store (map combination active) (runs_of parts store active) → IsSaid parts store active (PlainVerdict.Race told.race)
said-race parts store active told well is = (told.first, told.second, verdict-is parts store active ∙ (λ i. first_of (well i) (sym is i)))

pub said-well : (parts : Loop) (store after : Store) (active : List ℤ) (closing : List (Option ℤ)) → bad_of parts store active ≡ None
    → None ≡ race_among parts store (map combination active) (runs_of parts store active) → after ≡ closed parts (order parts [] store (map combination active))
    → closing ≡ states_in after → IsSaid parts store active (PlainVerdict.GoOn closing)
said-well parts store after active closing well none closed_is states = (verdict-is parts store active ∙ (λ i. first_of (well i) (sym none i)), states ∙ ap states_in closed_is)
