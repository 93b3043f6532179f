use Rattle.std.proofs.Common.{map, sym, ap, subst, ◌∙◌}
use Rattle.std.proofs.lemmas.Bool.{false≢true}
use Rattle.dc_tree.specs.Blocks.{line_of}
use Rattle.dc_nest.specs.declared.form.Form.{Form}
use Rattle.dc_nest.proofs.Reading.{next-some}
use Rattle.dc_nest.proofs.Units.{HasFront, no-front, one-line, front-read}
use Rattle.dc_nest.proofs.building.front.Goals as goal

pub loop-front-init : goal.loop-front-init
loop-front-init c = subst (λ front. HasFront (map line_of front) (map line_of c.args.rest.now) (map line_of c.args.rest.now)) (sym c.new-front.ensures) (no-front (map line_of c.args.rest.now))

pub take-requires : goal.take-requires
take-requires c = next-some (map line_of c.loop-front.rest) Form.InFront (c.is_next.ensures.0 c.loop-front-test.true)

pub loop-front-preserved : goal.loop-front-preserved
loop-front-preserved c =
    subst (λ front. HasFront (map line_of front) (map line_of c.args.rest.now) (map line_of c.take.new.rest)) (sym c.in_ok-push.ensures.ok)
    (one-line c.loop-front.front c.take.result (map line_of c.args.rest.now) (map line_of c.loop-front.rest) (map line_of c.take.new.rest) c.loop-front.invariant
    (c.is_next.ensures.0 c.loop-front-test.true) (ap (map line_of) c.take.ensures))

pub returns : goal.returns
returns c =
    front-read (map line_of c.loop-front.front) (map line_of c.args.rest.now) (map line_of c.loop-front.rest) c.loop-front.invariant
    (λ same. false≢true (sym c.loop-front-test.false ∙ c.is_next.ensures.1 same))
