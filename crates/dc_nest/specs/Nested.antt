-- The programs whose closings fit their openings: each statement stands where a statement of its form belongs. Constructs are
-- after ISO/IEC 1539-1:2023, 11.1, and units after 14.1 and 15.6.2.
use Rattle.std.specs.Prelude.{◌≡◌, ℕ, List, [], All, Option, None, Some}
use Rattle.dc_tree.specs.Statements.{Statement, program_line, use_line, implicit_none, declare, contains_line, procedure_line, end_line}
use Rattle.dc_tree.specs.Statements.{if_then, else_if, else_line, end_if, if_action, select_case, case, case_default, end_select}
use Rattle.dc_tree.specs.Statements.{do_line, do_while, concurrent, end_do, act}
use Rattle.dc_tree.specs.Blocks.{Line, Item, Items, Arms, plain, branch, select, loop, none, and_then, no_arms, arm, Subprogram, Source}
use Rattle.dc_nest.specs.declared.form.Form.{Form}

-- What a statement is to the statements around it.
abbrev pub form_of : Statement → Form
form_of (program_line name) = Form.BeginsProgram
form_of (use_line written used names) = Form.InFront
form_of implicit_none = Form.InFront
form_of (declare written attributes colons names) = Form.InFront
form_of contains_line = Form.BeginsProcedures
form_of (procedure_line prefixes function name brackets dummies given) = Form.BeginsProcedure
form_of (end_line unit name) = Form.EndsUnit
form_of (if_then test) = Form.BeginsIf
form_of (else_if test) = Form.BeginsElse
form_of else_line = Form.BeginsElse
form_of end_if = Form.EndsIf
form_of (if_action test action) = Form.Acts
form_of (select_case selector) = Form.BeginsSelect
form_of (case values) = Form.BeginsCase
form_of case_default = Form.BeginsCase
form_of end_select = Form.EndsSelect
form_of (do_line label counted) = Form.BeginsLoop
form_of (do_while label test) = Form.BeginsLoop
form_of (concurrent label written indexes mask locality) = Form.BeginsLoop
form_of (end_do label) = Form.EndsLoop
form_of (act action) = Form.Acts

abbrev pub Is : Form → Line → Type 0
Is wanted line = form_of line.says ≡ wanted

-- A statement alone does something. A construct ends as it begins. Its arms begin with IF and ELSE, or with CASE.
abbrev mutual
  pub IsNestedItem : Item → Type 0
  IsNestedItem (plain line) = Is Form.Acts line
  IsNestedItem (branch arms close) = IsBranch arms × Is Form.EndsIf close
  IsNestedItem (select head arms close) = Is Form.BeginsSelect head × AreArms Form.BeginsCase arms × Is Form.EndsSelect close
  IsNestedItem (loop head body close) = Is Form.BeginsLoop head × AreNested body × Is Form.EndsLoop close

  pub AreNested : Items → Type 0
  AreNested none = Unit {0}
  AreNested (and_then first rest) = IsNestedItem first × AreNested rest

  pub IsBranch : Arms → Type 0
  IsBranch no_arms = ⊥
  IsBranch (arm head body rest) = Is Form.BeginsIf head × AreNested body × AreArms Form.BeginsElse rest

  pub AreArms : Form → Arms → Type 0
  AreArms wanted no_arms = Unit {0}
  AreArms wanted (arm head body rest) = Is wanted head × AreNested body × AreArms wanted rest

pub record IsNestedSubprogram (subprogram : Subprogram) : Type 0 where
  pub head : Is Form.BeginsProcedure subprogram.head
  pub front : All (Is Form.InFront) subprogram.front
  pub body : AreNested subprogram.body
  pub close : Is Form.EndsUnit subprogram.close

-- Procedures stand behind CONTAINS.
abbrev pub AreContained : Option ℕ → List Subprogram → Type 0
AreContained None subprograms = subprograms ≡ []
AreContained (Some line) subprograms = All IsNestedSubprogram subprograms

pub record IsNested (source : Source) : Type 0 where
  pub head : Is Form.BeginsProgram source.head
  pub front : All (Is Form.InFront) source.front
  pub body : AreNested source.body
  pub procedures : AreContained source.contains source.procedures
  pub close : Is Form.EndsUnit source.close
