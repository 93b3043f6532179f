-- A block that the walker executes has no DO CONCURRENT inside, so its statements have one number.
use Rattle.std.proofs.Common.{◌≡◌, ◌+◌, true, false, ◌&&◌, List, refl, ap₂}
use Rattle.std.specs.Prelude.{if◌then◌else◌}
use Rattle.std.proofs.lemmas.Bool.{and_parts}
use Rattle.dc_tree.specs.Blocks.{Item, Items, Arms, plain, branch, select, loop, none, and_then, no_arms, arm}
use Rattle.dc_tree.specs.Entities.{Scope}
use Rattle.dc_tree.specs.Statements as statements
use Rattle.dc_tree.specs.Statements.{Name, Statement}
use Rattle.dc_meaning.specs.Execution.{is_concurrent, loops_in, loops_in_all, loops_in_arms}
use Rattle.dc_walk.specs.Arms.{test_of}
use Rattle.dc_walk.specs.Walked.{is_held_or_absent, is_walked_select, is_walked_loop, is_walked, is_walked_block, are_walked_arms}

not-concurrent : (scope : Scope) (says : Statement) → is_walked_loop scope says ≡ true → is_concurrent says ≡ false
not-concurrent scope (statements.program_line name) walked = refl
not-concurrent scope (statements.use_line form source names) walked = refl
not-concurrent scope statements.implicit_none walked = refl
not-concurrent scope (statements.declare form attributes colons names) walked = refl
not-concurrent scope statements.contains_line walked = refl
not-concurrent scope (statements.procedure_line prefix with_result text brackets dummies result) walked = refl
not-concurrent scope (statements.end_line unit text) walked = refl
not-concurrent scope (statements.if_then test) walked = refl
not-concurrent scope (statements.else_if test) walked = refl
not-concurrent scope statements.else_line walked = refl
not-concurrent scope statements.end_if walked = refl
not-concurrent scope (statements.if_action test deed) walked = refl
not-concurrent scope (statements.select_case tree) walked = refl
not-concurrent scope (statements.case ranges) walked = refl
not-concurrent scope statements.case_default walked = refl
not-concurrent scope statements.end_select walked = refl
not-concurrent scope (statements.do_line label ranging) walked = refl
not-concurrent scope (statements.do_while label test) walked = refl
not-concurrent scope (statements.concurrent label spec indexes mask locality) walked = cc
not-concurrent scope (statements.end_do label) walked = refl
not-concurrent scope (statements.act deed) walked = refl

module _ (scope : Scope) (indexes : List Name) where
  mutual
    pub none-inside : (item : Item) → is_walked scope indexes item ≡ true → loops_in item ≡ 0
    none-inside (plain line) walked = refl
    none-inside (branch arms close) walked = none-in-arms arms walked
    none-inside (select head arms close) walked = none-in-arms arms (and_parts (is_walked_select head.says) (are_walked_arms scope indexes arms) walked).1
    none-inside (loop head body close) walked =
        let both = and_parts (is_walked_loop scope head.says) (is_walked_block scope indexes body) walked in
        ap₂ (λ is n. (if is then 1 else 0) + n) (not-concurrent scope head.says both.0) (none-in-all body both.1)

    pub none-in-all : (block : Items) → is_walked_block scope indexes block ≡ true → loops_in_all block ≡ 0
    none-in-all none walked = refl
    none-in-all (and_then first rest) walked =
        let both = and_parts (is_walked scope indexes first) (is_walked_block scope indexes rest) walked in
        ap₂ (λ m n. m + n) (none-inside first both.0) (none-in-all rest both.1)

    pub none-in-arms : (arms : Arms) → are_walked_arms scope indexes arms ≡ true → loops_in_arms arms ≡ 0
    none-in-arms no_arms walked = refl
    none-in-arms (arm head body rest) walked =
        let all = and_parts (is_held_or_absent (test_of head.says)) (is_walked_block scope indexes body && are_walked_arms scope indexes rest) walked in
        let both = and_parts (is_walked_block scope indexes body) (are_walked_arms scope indexes rest) all.1 in
        ap₂ (λ m n. m + n) (none-in-all body both.0) (none-in-arms rest both.1)
