use Rattle.dc_code.specs.Machine.{machine}
use Rattle.dc_flows.proofs.FlowGoing.{machine-flows}
use Rattle.dc_flows.proofs.FlowParts.{block-law}
use Rattle.dc_flows.proofs.law.instructions_of_a_block_with_branches_carry_it_out.Goals as goal

pub returns : goal.returns
returns c = λ code scope call before main around block so there ends frame state names kept start stand alone small rest later.
    block-law code (machine code) (machine-flows code) scope call before around main frame state block (record { names = names; kept = kept; start = start }) there stand so alone ends small rest later
