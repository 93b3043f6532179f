use Rattle.std.proofs.Common.{◌≡◌, map}
use Rattle.dc_tree.specs.Syntax.{arg_tree, args_from}
use Rattle.dc_tree.specs.Typing.{first_sort, sorts_of}
use Rattle.dc_sorts.specs.Forms.{sort_of_form}
use Rattle.dc_sorts.specs.Functions.{function_of}
use Rattle.dc_actions.specs.Naming.{scope_of}
use Rattle.dc_actions.specs.References.{called_code}
use Rattle.dc_actions.proofs.Making.{code-called}
use Rattle.dc_actions.proofs.references.behind.Goals as goal

pub returns-in-Some : goal.returns-in-Some
returns-in-Some c =
    let scope = scope_of c.args.names.now in
    let args = args_from (map arg_tree c.args.args.now) in
    let code : called_code scope (function_of c.in-Some.function) args (sort_of_form c.first_form.result) ≡ called_code scope (function_of c.in-Some.function) args (first_sort (sorts_of scope args)) =
    code-called scope (function_of c.in-Some.function) args c.args.known.now c.first_form.result c.requires.known c.first_form.ensures in
    rw c.in-Some.is (rw (← code) c.called.ensures)
