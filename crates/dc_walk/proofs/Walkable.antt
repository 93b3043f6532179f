-- Blocks of assignments alone are walked.
use Rattle.std.proofs.Common.{◌≡◌, true, ◌&&◌, [], ◌∷◌, refl, ap₂}
use Rattle.std.proofs.lemmas.Bool.{and_parts}
use Rattle.dc_tree.specs.Blocks.{Items, plain, branch, select, loop, none, and_then}
use Rattle.dc_tree.specs.Entities.{Scope}
use Rattle.dc_tree.specs.Statements as statements
use Rattle.dc_tree.specs.Statements.{Name, Statement}
use Rattle.dc_form.specs.BuiltPrograms.{is_built_inside, is_built_block, spares, all_spare}
use Rattle.dc_walk.specs.Walked.{is_walked_line, is_walked_block}

line-walked : (index : Name) (says : Statement) → is_built_inside says ≡ true → spares index says ≡ true → is_walked_line (index ∷ []) says ≡ true
line-walked index (statements.act (statements.assign target value)) built spared = ap₂ (λ a b. a && (b && true)) built spared
line-walked index (statements.act (statements.fill text values)) built spared = ap₂ (λ a b. a && (b && true)) built spared
line-walked index (statements.act (statements.call text brackets trees)) built spared = cc
line-walked index (statements.act (statements.cycle label)) built spared = refl
line-walked index (statements.act (statements.exit label)) built spared = refl
line-walked index (statements.act statements.return) built spared = cc
line-walked index (statements.act statements.continue) built spared = refl
line-walked index (statements.act statements.stop) built spared = cc
line-walked index (statements.act statements.error_stop) built spared = cc
line-walked index (statements.act (statements.print written trees)) built spared = cc
line-walked index (statements.act (statements.read bracketed targets)) built spared = cc
line-walked index (statements.program_line name) built spared = cc
line-walked index (statements.use_line form source names) built spared = cc
line-walked index statements.implicit_none built spared = cc
line-walked index (statements.declare form attributes colons names) built spared = cc
line-walked index statements.contains_line built spared = cc
line-walked index (statements.procedure_line prefix with_result text brackets dummies result) built spared = cc
line-walked index (statements.end_line unit text) built spared = cc
line-walked index (statements.if_then test) built spared = cc
line-walked index (statements.else_if test) built spared = cc
line-walked index statements.else_line built spared = cc
line-walked index statements.end_if built spared = cc
line-walked index (statements.if_action test deed) built spared = cc
line-walked index (statements.select_case tree) built spared = cc
line-walked index (statements.case ranges) built spared = cc
line-walked index statements.case_default built spared = cc
line-walked index statements.end_select built spared = cc
line-walked index (statements.do_line label ranging) built spared = cc
line-walked index (statements.do_while label test) built spared = cc
line-walked index (statements.concurrent label spec indexes mask locality) built spared = cc
line-walked index (statements.end_do label) built spared = cc

pub built-walked : (scope : Scope) (index : Name) (block : Items) → is_built_block block ≡ true → all_spare index block ≡ true → is_walked_block scope (index ∷ []) block ≡ true
built-walked scope index none built spared = refl
built-walked scope index (and_then (plain line) rest) built spared =
    let both = and_parts (is_built_inside line.says) (is_built_block rest) built in
    let apart = and_parts (spares index line.says) (all_spare index rest) spared in
    ap₂ (λ a b. a && b) (line-walked index line.says both.0 apart.0) (built-walked scope index rest both.1 apart.1)
built-walked scope index (and_then (branch arms close) rest) built spared = cc
built-walked scope index (and_then (select head arms close) rest) built spared = cc
built-walked scope index (and_then (loop head body close) rest) built spared = cc
