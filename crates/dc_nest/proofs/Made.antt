-- Statements that break no rule are those of a program.
use Rattle.std.proofs.Common.{◌≡◌, ℕ, true, List, None, inl, inr}
use Rattle.std.proofs.lemmas.Bool.{cases_Bool}
use Rattle.dc_tree.specs.Blocks.{Line, Source}
use Rattle.dc_tree.specs.Findings.{least_of}
use Rattle.dc_nest.specs.declared.place.Place.{Place}
use Rattle.dc_nest.specs.declared.rule.Rule.{Rule}
use Rattle.dc_nest.specs.Rules.{Breaks}
use Rattle.dc_nest.specs.Judging.{findings, is_whole}
use Rattle.dc_nest.specs.Ahead.{ReadsProgram, ProgramAhead}
use Rattle.dc_nest.specs.Answer.{Nests}
use Rattle.dc_nest.proofs.Judged.{none-broken, whole-list, broken-misplaced}
use Rattle.dc_nest.proofs.Found.{program-found}

pub unbroken-ahead : (list : List Line) → least_of (findings list) ≡ None → ProgramAhead list
unbroken-ahead list none = program-found list (whole-list list none)

pub nests : (list : List Line) (source : Source) → least_of (findings list) ≡ None → ReadsProgram source list → Nests list source
nests list source none reads = record { none_broken = none-broken list none; is_nested = reads.nested; lists = reads.lines }

pub some-source : (list : List Line) → ((rule : Rule) (line : ℕ) → Breaks rule list line → ⊥) → (source : Source) × Nests list source
some-source list none =
    let whole : is_whole Place.Outset list ≡ true =
    elim (cases_Bool (is_whole Place.Outset list)) [
      | inl whole ↦ whole
      | inr unended ↦ let broken = broken-misplaced Place.Outset 1 list unended in absurd (none Rule.Misplaced broken.0 broken.1)
    ] in
    let found = program-found list whole in
    (found.source, record { none_broken = none; is_nested = found.reads.nested; lists = found.reads.lines })
