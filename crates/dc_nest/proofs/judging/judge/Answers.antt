use Rattle.std.proofs.Common.{◌≡◌, ◌+◌, ℕ, true, List, [], ◌∷◌, ◌++◌, Option, drop, map, sym, ap, ◌∙◌}
use Rattle.std.specs.Prelude.{if◌then◌else◌}
use Rattle.std.proofs.lemmas.List.{drop_more}
use Rattle.dc_tree.specs.declared.fail.Refusal.{Refusal}
use Rattle.dc_tree.specs.declared.program.Lined.{Lined}
use Rattle.dc_tree.specs.Blocks.{Line, line_of}
use Rattle.dc_tree.specs.Findings.{least_with_all}
use Rattle.dc_tree.proofs.Findings.{least_with_all-append}
use Rattle.dc_nest.specs.declared.place.Place.{Place}
use Rattle.dc_nest.specs.Places.{allows, behind}
use Rattle.dc_nest.specs.Judging.{findings_at, findings_from}
use Rattle.dc_nest.proofs.judging.judge.Goals as goal

one-more : (found noted : Option Refusal) (place next : Place) (line : ℕ) (first : Line) (rest : List Line) → noted ≡ least_with_all found (findings_at place first) → allows place first.says ≡ true → next ≡ behind place first.says
    → least_with_all noted (findings_from next first.line rest) ≡ least_with_all found (findings_from place line (first ∷ rest))
one-more found noted place next line first rest noted_is allowed next_is =
    let further = findings_from (behind place first.says) first.line rest in
    ap (λ (p : Place). least_with_all noted (findings_from p first.line rest)) next_is
    ∙ ap (λ (f : Option Refusal). least_with_all f further) noted_is
    ∙ sym (least_with_all-append found (findings_at place first) further)
    ∙ ap (λ b. least_with_all found (findings_at place first ++ (if b then further else []))) (sym allowed)

pub loop-lined-preserved : goal.loop-lined-preserved
loop-lined-preserved c =
    let k = c.loop-lined.lined-index in
    let lined = c.lined-item.result in
    let found = c.loop-lined.found in
    let rest = drop (k + 1) c.args.list.now in
    let left : drop k c.args.list.now ≡ lined ∷ rest =
    drop_more c.args.list.now k lined c.loop-lined-test.true ∙ ap (λ (l : Lined). l ∷ rest) (sym c.lined-item.is) in
    one-more found c.note_all.new.found c.loop-lined.place c.in_ok-place.place c.loop-lined.line (line_of lined) (map line_of rest) c.note_all.ensures (sym c.allows.ensures ∙ c.if-not-allows.false) c.in_ok-place.ensures
    ∙ ap (λ (l : List Lined). least_with_all found (findings_from c.loop-lined.place c.loop-lined.line (map line_of l))) (sym left)
    ∙ c.loop-lined.invariant
