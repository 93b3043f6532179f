use Rattle.std.proofs.Common.{refl, ap, ◌∙◌}
use Rattle.dc_tree.specs.Blocks.{Source}
use Rattle.dc_meaning.proofs.Looping.{block-items}
use Rattle.dc_run.specs.declared.standing.Task.{Task}
use Rattle.dc_run.proofs.Beginnings.{task-is, begins-with, comes-by}
use Rattle.dc_run.proofs.program.run_lowered.Goals as goal

pub run_code-requires : goal.run_code-requires
run_code-requires g c =
    let symbols = c.args.symbols.now in
    let task : Task = record { symbols = c.args.symbols; numbering = record { ref_ptr = _; now = c.in_ok-numbering.numbering }; code = c.args.code; nodes = c.as_slice-nodes.result; loops = c.as_slice.result; turns = c.args.turns } in
    let body = ap (λ (s : Source). s.body) c.requires.0 ∙ block-items c.args.program.now.body c.as_slice-nodes.result.now c.as_slice-nodes.ensures in (
      task-is symbols g.source c.args.turns task c.requires.1.0 body refl c.requires.1.1.0 c.in_ok-numbering.ensures (c.as_slice.ensures ∙ c.in_ok-loops.ensures) c.requires.1.1.1 refl,
      begins-with symbols symbols g.source c.args.code.now c.in_ok-standing.standing c.requires.1.0 refl c.requires.1.1.0 c.in_ok-standing.ensures,
    )

pub returns-clause-is : goal.returns-clause-is
returns-clause-is g c = λ given.
    comes-by c.args.symbols.now g.source c.args.turns given c.args.code.now c.in_ok-standing.standing c.run_code.new.standing c.in_ok-ending.ending c.requires.1.0 c.requires.1.1.0 c.in_ok-standing.ensures c.in_ok-ending.ensures
