use Rattle.std.proofs.Common.{map, ap}
use Rattle.dc_tree.specs.Blocks.{line_of, items}
use Rattle.dc_nest.proofs.Units.{procedure-unit, procedure-some, procedure-read}
use Rattle.dc_nest.proofs.building.procedure.Goals as goal

pub unit-requires : goal.unit-requires
unit-requires c = procedure-unit (map line_of c.args.rest.now) c.requires

pub take-close-requires : goal.take-close-requires
take-close-requires c =
    procedure-some (map line_of c.args.rest.now) (map line_of c.unit.new.rest) (map line_of c.in_ok-head.field-0.front) (line_of c.in_ok-head.field-0.head) (items c.in_ok-head.field-0.body) c.requires c.in_ok-head.ensures

pub returns : goal.returns
returns c =
    procedure-read (map line_of c.args.rest.now) (map line_of c.unit.new.rest) (map line_of c.in_ok-head.field-0.front) (map line_of c.take-close.new.rest)
    (line_of c.in_ok-head.field-0.head) (line_of c.take-close.result) (items c.in_ok-head.field-0.body) c.requires c.in_ok-head.ensures (ap (map line_of) c.take-close.ensures)
