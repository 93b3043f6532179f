use Rattle.std.proofs.Common.{refl}
use Rattle.dc_code.specs.Machine.{machine}
use Rattle.dc_tree.specs.Entities.{entity}
use Rattle.dc_actions.proofs.AssignmentLaws.{assignment-law}
use Rattle.dc_actions.proofs.Going.{machine-goes}
use Rattle.dc_actions.proofs.Facts.{both-hold}
use Rattle.dc_actions.proofs.law.instructions_of_an_assignment_carry_it_out.Goals as goal

pub returns : goal.returns
returns c = λ code scope call line target tree so takes at frame state names start stand rest later.
    assignment-law code (machine code) (machine-goes code) scope call line at frame state target tree (entity scope target.name) refl names stand (both-hold so takes) rest later
