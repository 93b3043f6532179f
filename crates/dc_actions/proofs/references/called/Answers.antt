use Rattle.std.proofs.Common.{◌≡◌, ◌∷◌, [], map}
use Rattle.dc_code.specs.declared.instr.What.{What}
use Rattle.dc_tree.specs.Intrinsics.{converted}
use Rattle.dc_tree.specs.Syntax.{arg_tree, args_from}
use Rattle.dc_sorts.specs.Forms.{sort_of_form}
use Rattle.dc_actions.specs.Naming.{scope_of}
use Rattle.dc_actions.specs.References.{called_code}
use Rattle.dc_actions.proofs.Making.{code-converted}
use Rattle.dc_actions.proofs.references.called.Goals as goal

pub returns-in-Converted : goal.returns-in-Converted
returns-in-Converted c =
    let code : What.Wrap c.kind_converted.result ∷ [] ≡ called_code (scope_of c.args.names.now) converted (args_from (map arg_tree c.args.args.now)) (sort_of_form c.args.form) =
    code-converted (scope_of c.args.names.now) (args_from (map arg_tree c.args.args.now)) (sort_of_form c.args.form) c.args.known.now c.kind_converted.result c.requires.known c.kind_converted.ensures in
    rw c.in-Converted.is (rw (← code) c.push-in-Converted.ensures.ok)
