-- The declared names of a program are sound, and no scope has a name twice.
use Rattle.std.proofs.Common.{◌≡◌, ℕ, suc, Bool, true, false, not, ◌&&◌, cond, List, [], ◌∷◌, ◌++◌, Option, Some, None, refl, sym, ap₂, ◌∙◌, arith}
use Rattle.std.specs.Prelude.{nat_eq, bytes_eq, codes, is_some, if◌then◌else◌, pos}
use Rattle.std.specs.List.{list_all}
use Rattle.std.proofs.lemmas.Bool.{false≢true, and_parts}
use Rattle.std.proofs.lemmas.Cmp.{nat_list_eq_equiv}
use Rattle.std.proofs.lemmas.Option.{none-some}
use Rattle.dc_int.specs.declared.kind.Kind.{Kind}
use Rattle.dc_tree.specs.declared.symbols.Role as roles
use Rattle.dc_tree.specs.declared.symbols.Symbol.{Symbol}
use Rattle.dc_tree.specs.Blocks.{Line, Subprogram, Source}
use Rattle.dc_tree.specs.Statements.{Name, Declared, Statement, program_line, use_line, implicit_none, declare, contains_line, procedure_line, end_line}
use Rattle.dc_tree.specs.Statements.{if_then, else_if, else_line, end_if, if_action, select_case, case, case_default, end_select, do_line, do_while, concurrent, end_do, act}
use Rattle.dc_tree.specs.Symbols.{declares, symbol_at, is_sound}
use Rattle.dc_tree.proofs.Results.{sound-one_more}
use Rattle.dc_declare.specs.declared.given.Given.{Given}
use Rattle.dc_declare.specs.declared.heading.Heading.{Heading}
use Rattle.dc_declare.specs.declared.scan.Scan.{Scan}
use Rattle.dc_declare.specs.declared.types.ElementType.{ElementType}
use Rattle.dc_declare.specs.Declarations.{given_in, after_statement, after_front, scan_of, after_procedure, after_procedures, main_heading, main_symbols, symbols_of}
use Rattle.dc_declare.specs.Entities.{entry_of, total_after, after_entity, after_entities}
use Rattle.dc_declare.specs.Headings.{result_name, heading_of, type_behind, with_procedure, with_result, with_heading}
use Rattle.dc_declare.specs.Tables.{declaring, is_taken, symbol_with, with_symbol, are_apart}
use Rattle.dc_declare.specs.Uses.{kind_named, with_kind, with_used}
use Rattle.dc_declare.proofs.Sound.{both, not-zero, made-sound}

-- ---- one symbol more

same-swapped : (m n : ℕ) → nat_eq m n ≡ nat_eq n m
same-swapped m n = grind arith

swapped : (one other : Symbol) → declares one.scope one.name other ≡ declares other.scope other.name one
swapped one other = ap₂ (λ a b. a && b) (same-swapped other.scope one.scope) (nat_list_eq_equiv.symm other.name one.name)

still-free
    : (symbols : List Symbol) (symbol : Symbol) (scope : ℕ) (name : Name) → not (is_taken symbols scope name) ≡ true → declares scope name symbol ≡ false
    → not (is_taken (symbols ++ symbol ∷ []) scope name) ≡ true
still-free [] symbol scope name free other = rw other refl
still-free (first ∷ rest) symbol scope name free other = by (declares scope name first) (λ others. still-free rest symbol scope name others other) free
  where
    by : (b : Bool) → (not (is_taken rest scope name) ≡ true → not (is_taken (rest ++ symbol ∷ []) scope name) ≡ true)
        → not (is_some (cond b (Some first) (symbol_at rest scope name))) ≡ true
        → not (is_some (cond b (Some first) (symbol_at (rest ++ symbol ∷ []) scope name))) ≡ true
    by true others taken = absurd (false≢true taken)
    by false others free = others free

none-parts : (b : Bool) (first : Symbol) (rest : Option Symbol) → cond b (Some first) rest ≡ None → (b ≡ false) × (rest ≡ None)
none-parts true first rest none = absurd (none-some first (sym none))
none-parts false first rest none = (refl, none)

push-apart : (symbols : List Symbol) (symbol : Symbol) → symbol_at symbols symbol.scope symbol.name ≡ None → are_apart symbols ≡ true → are_apart (symbols ++ symbol ∷ []) ≡ true
push-apart [] symbol free apart = refl
push-apart (first ∷ rest) symbol free apart =
    let parts = and_parts (not (is_taken rest first.scope first.name)) (are_apart rest) apart in
    let others = none-parts (declares symbol.scope symbol.name first) first (symbol_at rest symbol.scope symbol.name) free in
    both (still-free rest symbol first.scope first.name parts.0 (swapped first symbol ∙ others.0)) (push-apart rest symbol others.1 parts.1)

-- The symbols are sound, and no scope has a name twice.
abbrev pub Good : List Symbol → Type 0
Good symbols = (list_all is_sound symbols ≡ true) × (are_apart symbols ≡ true)

with-good : (symbols : List Symbol) (symbol : Symbol) → is_sound symbol ≡ true → Good symbols → Good (with_symbol symbols symbol)
with-good symbols symbol sound good = by (symbol_at symbols symbol.scope symbol.name) refl
  where
    by : (at : Option Symbol) → symbol_at symbols symbol.scope symbol.name ≡ at → Good (if is_some at then symbols else symbols ++ symbol ∷ [])
    by (Some other) is = good
    by None is = (sound-one_more symbols symbol good.0 sound, push-apart symbols symbol is good.1)

-- ---- statements

kind-good : (symbols : List Symbol) (unit : ℕ) (name : Name) → Good symbols → Good (with_kind symbols unit name (kind_named name))
kind-good symbols unit name good = by (bytes_eq name (codes "int8")) (bytes_eq name (codes "int16")) (bytes_eq name (codes "int32")) (bytes_eq name (codes "int64"))
  where
    by : (a b c d : Bool)
        → Good (with_kind symbols unit name (if a then Some (pos 1) else if b then Some (pos 2) else if c then Some (pos 4) else if d then Some (pos 8) else None))
    by true b c d = with-good symbols (symbol_with unit name (roles.Role.Constant false Kind.K4 (pos 1))) refl good
    by false true c d = with-good symbols (symbol_with unit name (roles.Role.Constant false Kind.K4 (pos 2))) refl good
    by false false true d = with-good symbols (symbol_with unit name (roles.Role.Constant false Kind.K4 (pos 4))) refl good
    by false false false true = with-good symbols (symbol_with unit name (roles.Role.Constant false Kind.K4 (pos 8))) refl good
    by false false false false = good

used-good : (symbols : List Symbol) (unit : ℕ) (names : List Name) → Good symbols → Good (with_used symbols unit names)
used-good symbols unit [] good = good
used-good symbols unit (name ∷ rest) good = used-good (with_kind symbols unit name (kind_named name)) unit rest (kind-good symbols unit name good)

entity-good : (heading : Heading) (scan : Scan) (given : Given) (declared : Declared) → Good scan.symbols → Good (after_entity heading scan given declared).symbols
entity-good heading scan given declared good =
    let standing = declaring scan.symbols heading.unit in
    let total = total_after scan.elements (entry_of heading standing given declared) in
    with-good scan.symbols _ (made-sound heading standing given declared total) good

entities-good : (heading : Heading) (scan : Scan) (given : Given) (names : List Declared) → Good scan.symbols → Good (after_entities heading scan given names).symbols
entities-good heading scan given [] good = good
entities-good heading scan given (declared ∷ rest) good =
    entities-good heading (after_entity heading scan given declared) given rest (entity-good heading scan given declared good)

statement-good : (heading : Heading) (scan : Scan) (says : Statement) → Good scan.symbols → Good (after_statement heading scan says).symbols
statement-good heading scan (use_line form used names) good = used-good scan.symbols heading.unit names good
statement-good heading scan (declare form attributes colons names) good =
    entities-good heading scan (given_in scan.symbols heading.unit form attributes) names good
statement-good heading scan (program_line name) good = good
statement-good heading scan implicit_none good = good
statement-good heading scan contains_line good = good
statement-good heading scan (procedure_line prefixes function name brackets dummies result) good = good
statement-good heading scan (end_line unit name) good = good
statement-good heading scan (if_then test) good = good
statement-good heading scan (else_if test) good = good
statement-good heading scan else_line good = good
statement-good heading scan end_if good = good
statement-good heading scan (if_action test action) good = good
statement-good heading scan (select_case selector) good = good
statement-good heading scan (case ranges) good = good
statement-good heading scan case_default good = good
statement-good heading scan end_select good = good
statement-good heading scan (do_line label counted) good = good
statement-good heading scan (do_while label test) good = good
statement-good heading scan (concurrent label form indexes mask locality) good = good
statement-good heading scan (end_do label) good = good
statement-good heading scan (act action) good = good

front-good : (heading : Heading) (scan : Scan) (front : List Line) → Good scan.symbols → Good (after_front heading scan front).symbols
front-good heading scan [] good = good
front-good heading scan (first ∷ rest) good = front-good heading (after_statement heading scan first.says) rest (statement-good heading scan first.says good)

-- ---- procedures

named-good : (number : ℕ) (symbols : List Symbol) (function : Bool) (name : Name) → Good symbols → Good (with_procedure number symbols function name)
named-good number symbols true name good = with-good symbols (symbol_with 0 name (roles.Role.Function number)) refl good
named-good number symbols false name good = with-good symbols (symbol_with 0 name (roles.Role.Subroutine number)) refl good

result-good : (before : ℕ) (symbols : List Symbol) (name : Option Name) (form : Option ElementType) → Good symbols → Good (with_result (suc before) symbols name form)
result-good before symbols None form good = good
result-good before symbols (Some name) None good = good
result-good before symbols (Some name) (Some form) good =
    with-good symbols (symbol_with (suc before) name (roles.Role.Result form.logical form.kind)) (not-zero before) good

heading-good : (before : ℕ) (symbols : List Symbol) (says : Statement) → Good symbols → Good (with_heading (suc before) symbols says)
heading-good before symbols (procedure_line prefixes function name brackets dummies result) good =
    let named = with_procedure (suc before) symbols function name in
    result-good before named (result_name function name result) (type_behind (declaring named (suc before)) None prefixes)
    (named-good (suc before) symbols function name good)
heading-good before symbols (use_line form used names) good = good
heading-good before symbols (declare form attributes colons names) good = good
heading-good before symbols (program_line name) good = good
heading-good before symbols implicit_none good = good
heading-good before symbols contains_line good = good
heading-good before symbols (end_line unit name) good = good
heading-good before symbols (if_then test) good = good
heading-good before symbols (else_if test) good = good
heading-good before symbols else_line good = good
heading-good before symbols end_if good = good
heading-good before symbols (if_action test action) good = good
heading-good before symbols (select_case selector) good = good
heading-good before symbols (case ranges) good = good
heading-good before symbols case_default good = good
heading-good before symbols end_select good = good
heading-good before symbols (do_line label counted) good = good
heading-good before symbols (do_while label test) good = good
heading-good before symbols (concurrent label form indexes mask locality) good = good
heading-good before symbols (end_do label) good = good
heading-good before symbols (act action) good = good

procedure-good : (before : ℕ) (symbols : List Symbol) (procedure : Subprogram) → Good symbols → Good (after_procedure (suc before) symbols procedure)
procedure-good before symbols procedure good =
    front-good (heading_of (suc before) procedure.head.says) (scan_of (with_heading (suc before) symbols procedure.head.says)) procedure.front
    (heading-good before symbols procedure.head.says good)

procedures-good : (before : ℕ) (symbols : List Symbol) (procedures : List Subprogram) → Good symbols → Good (after_procedures (suc before) symbols procedures)
procedures-good before symbols [] good = good
procedures-good before symbols (procedure ∷ rest) good =
    procedures-good (suc before) (after_procedure (suc before) symbols procedure) rest (procedure-good before symbols procedure good)

pub symbols-good : (source : Source) → Good (symbols_of source)
symbols-good source = procedures-good 0 (main_symbols source) source.procedures (front-good main_heading (scan_of []) source.front (refl, refl))
