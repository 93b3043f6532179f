use Rattle.std.proofs.Common.{map, sym, subst, ◌∙◌}
use Rattle.std.proofs.lemmas.Bool.{false≢true}
use Rattle.dc_tree.specs.Blocks.{line_of, subprogram_of}
use Rattle.dc_nest.proofs.Units.{HasProcedures, no-procedures, one-more, next-procedure, further-procedures, procedures-read, procedure-shorter}
use Rattle.dc_nest.proofs.building.procedures.Goals as goal

pub loop-alloc-init : goal.loop-alloc-init
loop-alloc-init c =
    let start = map line_of c.args.rest.now in
    record { has = subst (λ made. HasProcedures (map subprogram_of made) start start) (sym c.new-procedures.ensures) (no-procedures start); ahead = c.requires }

pub procedure-requires : goal.procedure-requires
procedure-requires c = next-procedure (map line_of c.loop-alloc.rest) c.loop-alloc.invariant.ahead (c.is_next.ensures.0 c.loop-alloc-test.true)

pub loop-alloc-preserved : goal.loop-alloc-preserved
loop-alloc-preserved c =
    let start = map line_of c.args.rest.now in
    let now = map line_of c.loop-alloc.rest in
    let left = map line_of c.procedure.new.rest in
    let read = c.in_ok-procedure.field-0 in
    record {
      has =
          subst (λ made. HasProcedures (map subprogram_of made) start left) (sym c.in_ok-push.ensures.ok)
          (one-more c.loop-alloc.procedures read start now left c.loop-alloc.invariant.has c.in_ok-procedure.ensures);
      ahead = further-procedures now left (subprogram_of read) c.loop-alloc.invariant.ahead (c.is_next.ensures.0 c.loop-alloc-test.true) c.in_ok-procedure.ensures;
    }

pub loop-alloc-smaller : goal.loop-alloc-smaller
loop-alloc-smaller c = procedure-shorter (subprogram_of c.in_ok-procedure.field-0) c.loop-alloc.rest c.procedure.new.rest c.in_ok-procedure.ensures

pub returns : goal.returns
returns c =
    procedures-read (map subprogram_of c.loop-alloc.procedures) (map line_of c.args.rest.now) (map line_of c.loop-alloc.rest) c.loop-alloc.invariant.has c.loop-alloc.invariant.ahead
    (λ same. false≢true (sym c.loop-alloc-test.false ∙ c.is_next.ensures.1 same))
