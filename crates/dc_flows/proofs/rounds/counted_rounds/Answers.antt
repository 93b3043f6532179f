use Rattle.std.proofs.Common.{ap, ◌∙◌}
use Rattle.dc_tree.specs.Entities.{entity}
use Rattle.dc_tree.specs.Statements.{counted_ranging}
use Rattle.dc_actions.specs.Limits.{is_held_index}
use Rattle.dc_actions.specs.Naming.{scope_of}
use Rattle.dc_actions.specs.Printing.{is_outside}
use Rattle.dc_actions.proofs.Facts.{both-true}
use Rattle.dc_flows.proofs.rounds.counted_rounds.Goals as goal

-- The variable is one of the main program.
pub counted_step-requires-clause-outside : goal.counted_step-requires-clause-outside
counted_step-requires-clause-outside c =
    ap is_outside (c.find-found.ensures.found ∙ ap (entity (scope_of c.args.names.now)) c.as_bytes.ensures) ∙ (both-true {a = is_held_index (counted_ranging c.args.counted.now)} c.requires.held).1
