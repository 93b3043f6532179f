use Rattle.std.proofs.Common.{◌≡◌, ◌+◌, ◌≤◌, length, drop, sym, ap, ◌∙◌, arith}
use Rattle.dc_lines.specs.Reading.{stands, stops, outcome}
use Rattle.dc_lines.specs.TextLines.{lines_of}
use Rattle.dc_lines.proofs.Cutting.{read-step, shorter}
use Rattle.dc_lines.proofs.Steps.{step-lines, read-refused, told-stopped}
use Rattle.dc_lines.proofs.reading.read.Goals as goal

pub loop-rest-preserved : goal.loop-rest-preserved
loop-rest-preserved c =
    let rest = c.loop-rest.rest.now in
    let went = c.in_ok-step.ensures in
    let less : length (drop (length c.first_of-line.result.now + 1) rest) + 1 ≤ length rest = shorter rest (length c.first_of-line.result.now) c.loop-rest-test.ensures in
    let same = ap length c.from-rest.ensures in
    let more : c.step.new.self.lines ≡ c.loop-rest.place.lines + 1 = step-lines _ c.loop-rest.place c.step.new.self c.without_return.result.now went in (
      c.loop-rest.invariant.0
          ∙ read-step c.loop-rest.place rest c.from-rest.result.now c.first_of-line.result.now c.without_return.result.now _ (stands c.step.new.self) c.loop-rest-test.ensures c.first_of-line.ensures c.from-rest.ensures c.without_return.ensures c.is_empty-in-loop-rest.ensures (sym went),
      omega (arith, less, same, more, c.loop-rest.invariant.1),
    )

pub returns-in_err-step : goal.returns-in_err-step
returns-in_err-step c =
    let rest = c.loop-rest.rest.now in
    told-stopped c.from_residual.result _ _ c.step.new.self _ c.from_residual.ensures.1 c.in_err-step.ensures (
    λ refusal is. ap outcome (
    c.loop-rest.invariant.0
    ∙ read-step c.loop-rest.place rest c.from-rest.result.now c.first_of-line.result.now c.without_return.result.now _ (stops refusal) c.loop-rest-test.ensures c.first_of-line.ensures c.from-rest.ensures c.without_return.ensures c.is_empty-in-loop-rest.ensures (sym is)
    ∙ read-refused refusal (lines_of c.from-rest.result.now)
    )
    )
