use Rattle.std.proofs.Common.{Some, sym, ap, ◌∙◌}
use Rattle.dc_lines.proofs.Steps.{put-part, put-stopped, put_line-ended}
use Rattle.dc_lines.proofs.draft.Draft.put_line.Goals as goal

pub returns-in_err-put_signs : goal.returns-in_err-put_signs
returns-in_err-put_signs c =
    put-stopped c.args.self.now c.put_gap.new.self c.put_signs.new.self c.args.number c.args.joint c.args.line.now c.is_apart.result c.context_of.result c.spelled.result.now
    c.from_residual-in_err-put_signs.result _ c.from_residual-in_err-put_signs.ensures.1 c.in_ok-put_gap.ensures c.in_err-put_signs.ensures
    c.is_apart.ensures c.context_of.ensures c.spelled.ensures

pub returns-in_ok-close : goal.returns-in_ok-close
returns-in_ok-close c =
    sym (
    put_line-ended c.args.self.now c.put_signs.new.self c.args.number c.args.joint c.args.line.now
    (put-part c.args.self.now c.put_gap.new.self c.args.number c.args.joint c.args.line.now c.is_apart.result c.context_of.result c.spelled.result.now (Some c.put_signs.new.self)
    (sym c.in_ok-put_gap.ensures) (sym c.in_ok-put_signs.ensures) c.is_apart.ensures c.context_of.ensures c.spelled.ensures)
    (sym c.is_continued.ensures ∙ c.if-is_continued.false)
    )
    ∙ ap Some (sym c.in_ok-close.ensures)
