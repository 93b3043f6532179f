use Rattle.dc_tree.specs.Findings.{found_in}
use Rattle.dc_tree.proofs.Findings.{first_is_one, least-is_first, none-found}
use Rattle.dc_tree.proofs.laws.the_least_finding_is_the_first.Goals as goal

pub returns-clause-first : goal.returns-clause-first
returns-clause-first c = least-is_first

pub returns-clause-none : goal.returns-clause-none
returns-clause-none c = none-found

pub returns-clause-one : goal.returns-clause-one
returns-clause-one c findings = first_is_one (found_in findings)
