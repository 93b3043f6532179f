-- The code that is made of a program is a code of it.
use Rattle.std.proofs.Common.{List, IsTrue}
use Rattle.dc_tree.specs.declared.symbols.Symbol.{Symbol}
use Rattle.dc_tree.specs.Blocks.{Source}
use Rattle.dc_lower.specs.CodeOf.{IsCodeOf}
use Rattle.dc_lower.specs.Lowerable.{IsLowerable, are_held_symbols}
use Rattle.dc_lower.specs.Lowered.{lowered}
use Rattle.dc_lower.proofs.LoopForms.{forms-law, none-law}
use Rattle.dc_lower.proofs.MainPrograms.{main-law}
use Rattle.dc_lower.proofs.WellFormedCodes.{code-is-well-formed}

pub is-code-of : (symbols : List Symbol) (source : Source) → IsLowerable symbols source → IsTrue (are_held_symbols symbols) → IsCodeOf symbols source (lowered symbols source)
is-code-of symbols source able held = record {
  formed = code-is-well-formed symbols source able held;
  main = main-law symbols source able;
  loops = forms-law symbols source able;
  no_others = λ turns number none. (none-law symbols source able turns number none).0;
}
