-- The lists of the outside variables, from the declared names. This project's own.
use Rattle.std.specs.Prelude.{List, map}
use Rattle.dc_int.specs.declared.variable.Shape.{Shape}
use Rattle.dc_int.specs.Store.{Bounds}
use Rattle.dc_tree.specs.declared.symbols.Symbol.{Symbol}
use Rattle.dc_tree.specs.Entities.{symbols_in}
use Rattle.dc_meaning.specs.Concurrent.{Outside}
use Rattle.dc_meaning.specs.Programs.{outsides_from}
use Rattle.dc_lower.specs.Lowered.{shape_of}

abbrev pub outsides_of : List Symbol → List Outside
outsides_of symbols = outsides_from 0 (symbols_in 0 symbols)

abbrev pub shapes_of : List Symbol → List Shape
shapes_of symbols = map shape_of (outsides_of symbols)

abbrev pub bounds_of_all : List Symbol → List Bounds
bounds_of_all symbols = map (λ (variable : Outside). variable.bounds) (outsides_of symbols)
