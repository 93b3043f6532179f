-- The symbols that the declarations of a program make, and the rules that these break. After ISO/IEC 1539-1:2023,
-- clauses 8 and 19.3.1.
use Rattle.std.specs.Prelude.{ℕ, suc, List, [], ◌∷◌, ◌++◌}
use Rattle.dc_tree.specs.declared.fail.Refusal.{Refusal}
use Rattle.dc_tree.specs.declared.symbols.Symbol.{Symbol}
use Rattle.dc_tree.specs.Blocks.{Line, Subprogram, Source}
use Rattle.dc_tree.specs.Statements.{TypeForm, Attribute, Declared, Statement, use_line, declare}
use Rattle.dc_declare.specs.declared.given.Given.{Given}
use Rattle.dc_declare.specs.declared.heading.Heading.{Heading}
use Rattle.dc_declare.specs.declared.scan.Scan.{Scan}
use Rattle.dc_declare.specs.Entities.{plainly, with_attributes, each_attribute, after_entities, entities_findings}
use Rattle.dc_declare.specs.Headings.{bare_heading, heading_of, with_heading, heading_findings, asked_findings}
use Rattle.dc_declare.specs.Tables.{declaring}
use Rattle.dc_declare.specs.Types.{type_of, type_findings}
use Rattle.dc_declare.specs.Uses.{with_used, each_used, module_findings}

-- ---- statements

-- The type and the attributes of a declaration, which stand in front of its names.
abbrev pub given_in : List Symbol → ℕ → TypeForm → List Attribute → Given
given_in symbols unit form attributes =
    let standing = declaring symbols unit in
    with_attributes standing (plainly (type_of standing form)) attributes

abbrev pub given_findings : List Symbol → ℕ → ℕ → TypeForm → List Attribute → List Refusal
given_findings symbols unit line form attributes =
    let standing = declaring symbols unit in
    type_findings standing line form ++ each_attribute standing line attributes

abbrev pub after_declaration : Heading → Scan → TypeForm → List Attribute → List Declared → Scan
after_declaration heading scan form attributes names = after_entities heading scan (given_in scan.symbols heading.unit form attributes) names

abbrev pub declaring_findings : Heading → Scan → ℕ → TypeForm → List Attribute → List Declared → List Refusal
declaring_findings heading scan line form attributes names =
    given_findings scan.symbols heading.unit line form attributes
    ++ entities_findings heading line scan (given_in scan.symbols heading.unit form attributes) names

abbrev pub after_statement : Heading → Scan → Statement → Scan
after_statement heading scan (use_line form used names) = record { symbols = with_used scan.symbols heading.unit names; elements = scan.elements }
after_statement heading scan (declare form attributes colons names) = after_declaration heading scan form attributes names
after_statement heading scan other = scan

abbrev pub statement_findings : Heading → Scan → ℕ → Statement → List Refusal
statement_findings heading scan line (use_line form used names) = module_findings line used ++ each_used line scan.symbols heading.unit names
statement_findings heading scan line (declare form attributes colons names) = declaring_findings heading scan line form attributes names
statement_findings heading scan line other = []

-- ---- units

abbrev pub after_front : Heading → Scan → List Line → Scan
after_front heading scan [] = scan
after_front heading scan (first ∷ rest) = after_front heading (after_statement heading scan first.says) rest

abbrev pub front_findings : Heading → Scan → List Line → List Refusal
front_findings heading scan [] = []
front_findings heading scan (first ∷ rest) =
    statement_findings heading scan first.line first.says ++ front_findings heading (after_statement heading scan first.says) rest

-- A unit begins with no elements.
abbrev pub scan_of : List Symbol → Scan
scan_of symbols = record { symbols = symbols; elements = 0 }

abbrev pub symbols_after : Heading → List Symbol → List Line → List Symbol
symbols_after heading symbols front = (after_front heading (scan_of symbols) front).symbols

-- The symbols behind a procedure: its name, its result where a type stands in front of FUNCTION, and what is
-- declared in it.
abbrev pub after_procedure : ℕ → List Symbol → Subprogram → List Symbol
after_procedure number symbols procedure =
    symbols_after (heading_of number procedure.head.says) (with_heading number symbols procedure.head.says) procedure.front

abbrev pub procedure_findings : ℕ → List Symbol → Subprogram → List Refusal
procedure_findings number symbols procedure =
    heading_findings number symbols procedure.head.line procedure.head.says
    ++ (front_findings (heading_of number procedure.head.says) (scan_of (with_heading number symbols procedure.head.says)) procedure.front
    ++ asked_findings number (after_procedure number symbols procedure) procedure.head.line procedure.head.says)

-- the same of all procedures, which are numbered from one on
abbrev pub after_procedures : ℕ → List Symbol → List Subprogram → List Symbol
after_procedures number symbols [] = symbols
after_procedures number symbols (procedure ∷ rest) = after_procedures (suc number) (after_procedure number symbols procedure) rest

abbrev pub procedures_findings : ℕ → List Symbol → List Subprogram → List Refusal
procedures_findings number symbols [] = []
procedures_findings number symbols (procedure ∷ rest) =
    procedure_findings number symbols procedure ++ procedures_findings (suc number) (after_procedure number symbols procedure) rest

-- ---- programs

abbrev pub main_heading : Heading
main_heading = bare_heading 0

abbrev pub main_symbols : Source → List Symbol
main_symbols source = symbols_after main_heading [] source.front

-- The declared names of a program, in the order in which they are declared.
abbrev pub symbols_of : Source → List Symbol
symbols_of source = after_procedures 1 (main_symbols source) source.procedures

-- K19 to K26 of its declarations.
abbrev pub declaration_findings : Source → List Refusal
declaration_findings source =
    front_findings main_heading (scan_of []) source.front ++ procedures_findings 1 (main_symbols source) source.procedures
