use Rattle.std.proofs.Common.{map, sym, ap, subst}
use Rattle.std.specs.Prelude.{IfOk}
use Rattle.dc_tree.specs.Blocks.{line_of, items, subprogram_of}
use Rattle.dc_nest.specs.declared.building.OpenUnit.{OpenUnit}
use Rattle.dc_nest.specs.Ahead.{ReadsUnit, ReadsProcedures}
use Rattle.dc_nest.proofs.Units.{program-unit, program-procedures, procedures-some, program-read}
use Rattle.dc_nest.proofs.building.program.Goals as goal

pub unit-requires : goal.unit-requires
unit-requires c = program-unit (map line_of c.args.rest.now) c.requires

pub procedures-requires : goal.procedures-requires
procedures-requires c =
    program-procedures (map line_of c.args.rest.now) (map line_of c.unit.new.rest) (map line_of c.contains-contains.new.rest) (map line_of c.in_ok-unit.unit.front) (line_of c.in_ok-unit.unit.head) (items c.in_ok-unit.unit.body)
    c.contains-contains.result c.requires c.in_ok-unit.ensures (record { lines = c.contains-contains.ensures.reads; absent = c.contains-contains.ensures.absent })

pub take-close-requires : goal.take-close-requires
take-close-requires c =
    procedures-some (map line_of c.contains-contains.new.rest) (map line_of c.procedures.new.rest) (map subprogram_of c.in_ok-unit-2.procedures)
    (subst (λ made. IfOk made (λ list. ReadsProcedures (map subprogram_of list) (map line_of c.contains-contains.new.rest) (map line_of c.procedures.new.rest))) c.in_ok-unit-2.ensures.1 c.procedures.ensures)

pub returns : goal.returns
returns c =
    let list = map line_of c.args.rest.now in
    let left = map line_of c.unit.new.rest in
    let last = map line_of c.contains-contains.new.rest in
    let end = map line_of c.procedures.new.rest in
    let unit = c.in_ok-unit-2.unit in
    program-read list left last end (map line_of c.take-close.new.rest) (map line_of unit.front) (line_of unit.head) (line_of c.take-close.result) (items unit.body) c.contains-contains.result
    (map subprogram_of c.in_ok-unit-2.procedures) c.requires
    (subst (λ (one : OpenUnit). ReadsUnit (line_of one.head) (map line_of one.front) (items one.body) list left) (sym c.in_ok-unit-2.ensures.0) c.in_ok-unit.ensures)
    (record { lines = c.contains-contains.ensures.reads; absent = c.contains-contains.ensures.absent })
    (subst (λ made. IfOk made (λ list. ReadsProcedures (map subprogram_of list) last end)) c.in_ok-unit-2.ensures.1 c.procedures.ensures) (ap (map line_of) c.take-close.ensures)
