use Rattle.std.proofs.Common.{◌≡◌, ◌-◌, ◌≤◌, suc, pos, FitsSigned, w64, subst, rules, arith}
use Rattle.std.proofs.lemmas.Bool.Decides.{nat_tests}
use Rattle.std.proofs.lemmas.Int.{to_z-of_z}
use Rattle.dc_int.specs.Store.{elements_in}
use Rattle.dc_frame.proofs.Gathered.{Gathered, gathered-first, gathered-missing, gathered-more, gathered-room, gathered-out}
use Rattle.dc_frame.proofs.frame.Frame.take_subscripts.Goals as goal
use Rattle.dc_frame.proofs.frame.Frame.take_subscripts.Goals.{After-take_value}

before : (c : After-take_value) → Gathered c.args.bounds.now c.args.self.now c.loop-rank.self (suc (c.loop-rank.rank - 1)) c.loop-rank.position
before c =
    let next : c.loop-rank.rank ≡ suc (c.loop-rank.rank - 1) = omega arith in
    subst (λ rank. Gathered c.args.bounds.now c.args.self.now c.loop-rank.self rank c.loop-rank.position) next c.loop-rank.invariant

pub loop-rank-init : goal.loop-rank-init
loop-rank-init c =
    gathered-first c.args.bounds.now c.args.self.now c.first_position-position.result c.first_position-position.ensures.some c.first_position-position.ensures.none

pub returns-in_default : goal.returns-in_default
returns-in_default c =
    gathered-missing c.args.bounds.now c.args.self.now c.loop-rank.self (c.loop-rank.rank - 1) c.loop-rank.position (before (goal.at.returns-in_default c).After-take_value) c.take_value.new.self c.in_default.ensures

pub joined-position-requires : goal.joined-position-requires
joined-position-requires c =
    let few : elements_in c.args.bounds.now ≤ 4194304 = grind (arith, nat_tests, c.requires) in
    gathered-room c.args.bounds.now c.args.self.now c.loop-rank.self (c.loop-rank.rank - 1) c.loop-rank.position (before (goal.at.joined-position-requires c).After-take_value) (pos 0, pos 0) few

pub loop-rank-preserved : goal.loop-rank-preserved
loop-rank-preserved c =
    let fits : FitsSigned w64 c.in-Some.subscript = search rules in
    gathered-more c.args.bounds.now c.args.self.now c.loop-rank.self (c.loop-rank.rank - 1) c.loop-rank.position (before (goal.at.loop-rank-preserved c).After-take_value) c.take_value.new.self c.in-Some.subscript (pos 0, pos 0) c.joined-position.result c.in-Some.ensures (simp to_z-of_z at c.joined-position.ensures)

pub returns-in-None : goal.returns-in-None
returns-in-None c =
    let none : c.loop-rank.rank ≡ 0 = omega arith in
    let gathered = subst (λ rank. Gathered c.args.bounds.now c.args.self.now c.loop-rank.self rank c.loop-rank.position) none c.loop-rank.invariant in
    gathered-out c.args.bounds.now c.args.self.now c.loop-rank.self c.loop-rank.position gathered c.in-None.is
