use Rattle.std.proofs.Common.{rules, ◌≡◌, ◌++◌, ◌∙◌, ap, List, ℕ}
use Rattle.std.specs.Prelude.{codes}
use Rattle.std.proofs.lemmas.List.{append_assoc}
use Rattle.std.proofs.lemmas.Result.{on_ok_weaker}
use Rattle.dc_run.specs.Answered.{variable_of, declared_bounds, sides_text}
use Rattle.dc_run.specs.ReportLine.{outside_names, element}
use Rattle.dc_run.proofs.report.put_race.Goals as goal

joined : (old first named second sides : List ℕ) → old ++ first ++ named ++ second ++ sides ≡ old ++ (first ++ (named ++ (second ++ sides)))
joined old first named second sides =
    append_assoc (old ++ first ++ named) second sides ∙ append_assoc (old ++ first) named (second ++ sides) ∙ append_assoc old first (named ++ (second ++ sides))

pub returns : goal.returns
returns c =
    let old : List ℕ = c.args.text.now in
    let named : List ℕ = element (outside_names c.args.symbols.now) (declared_bounds (variable_of c.args.symbols.now c.args.race.element)) c.args.race.element in
    let sides : List ℕ = sides_text c.args.race c.args.first_at.now c.args.second_at.now in
    let before : c.append-2.new.self ≡ old ++ codes "race: " ++ named ++ codes ": " = search rules in
    on_ok_weaker c.put_sides.result (λ is. is ∙ ap (λ (text : List ℕ). text ++ sides) before ∙ joined old (codes "race: ") named (codes ": ") sides) c.put_sides.ensures
