-- The least finding of a program is what its check answers.
use Rattle.std.proofs.Common.{◌≡◌, List, Option, Some, None}
use Rattle.dc_tree.specs.declared.fail.Refusal.{Refusal}
use Rattle.dc_tree.specs.declared.symbols.Symbol.{Symbol}
use Rattle.dc_tree.specs.Blocks.{Source}
use Rattle.dc_tree.specs.Findings.{least_of, passed}
use Rattle.dc_tree.proofs.Findings.{none-found, least-is_first}
use Rattle.dc_types.specs.Types.{Answers, type_findings}

pub answered : (symbols : List Symbol) (source : Source) (least : Option Refusal) → least_of (type_findings symbols source) ≡ least → Answers symbols source (passed least)
answered symbols source None none = none-found (type_findings symbols source) none
answered symbols source (Some refusal) some = least-is_first (type_findings symbols source) refusal some
