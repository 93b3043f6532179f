-- The parts of the main program and of the block of a DO CONCURRENT are joined.
use Rattle.std.proofs.Common.{◌≡◌, inl, inr, ℕ, ◌+◌, Bool, true, false, List, [], ◌∷◌, length, map, Option, refl, sym, ap, ◌∙◌, subst, arith}
use Rattle.dc_code.specs.declared.instr.What.{What}
use Rattle.dc_code.specs.declared.plan.Plan.{Plan}
use Rattle.dc_code.specs.Codes.{CodeLists}
use Rattle.dc_code.specs.WellFormed.{PartOf, may_stand, left_at_end}
use Rattle.dc_tree.specs.Blocks.{Items}
use Rattle.dc_tree.specs.Entities.{Scope}
use Rattle.dc_tree.specs.Statements.{Name}
use Rattle.dc_meaning.specs.Execution.{loops_in_all}
use Rattle.dc_actions.specs.Deeds.{lined}
use Rattle.dc_actions.proofs.RunsOfDeeds.{whats_of}
use Rattle.dc_actions.proofs.Straight.{Ground}
use Rattle.dc_flows.specs.Flows.{Before, LoopAround, block_size, texts_of_block, groups_of_block, block_code, part_code, around_part}
use Rattle.dc_flows.specs.FlowsLowered.{EndBehind, block_is_lowered}
use Rattle.dc_flows.specs.FlowsTyped.{block_is_typed, block_is_silent}
use Rattle.dc_flows.proofs.FlowSizes.{block-length}
use Rattle.dc_flows.proofs.StandArms.{whats-both, whats-long}
use Rattle.dc_flows.proofs.StandBlocks.{block-is-joined}
use Rattle.dc_flows.proofs.StandFlows.{Flows}
use Rattle.dc_flows.proofs.StandGrounds.{Suits, Rooms, IsAround}
use Rattle.dc_flows.proofs.StandJoints.{joint-end, AreJoined, joined-within}
use Rattle.dc_flows.proofs.StandParts.{Segment, code_of, nowhere, IsJoined}

-- ---- the loops around the block of a part

same-labels : (labels : List (Option Name)) (end : ℕ) → map (λ (loop : LoopAround). loop.label) (around_part labels end) ≡ labels
same-labels [] end = refl
same-labels (label ∷ labels) end = ap (λ others. label ∷ others) (same-labels labels end)

end-there : (labels : List (Option Name)) (end : ℕ) → EndBehind end (around_part labels end)
end-there [] end = tt
end-there (label ∷ labels) end = (omega arith, (omega arith, end-there labels end))

-- All their places are the end.
only-end : (labels : List (Option Name)) (end place : ℕ) → IsAround (around_part labels end) place → place ≡ end
only-end [] end place outside = absurd outside
only-end (label ∷ labels) end place outside = elim outside [
  | inl same ↦ same
  | inr others ↦ elim others [
    | inl same ↦ same
    | inr further ↦ only-end labels end place further
  ]
]

-- ---- parts

-- The loops around the block, and the part that it makes.
abbrev pub loops_around : Scope → Before → List (Option Name) → Items → List LoopAround
loops_around scope before labels block = around_part labels (before.at + block_size scope block)

abbrev pub block_segment : PartOf → Plan → Scope → Before → List (Option Name) → Items → Segment
block_segment kind plan scope before labels block = record { kind = kind; plan = plan; whats = whats_of (block_code scope before (loops_around scope before labels block) block) }

pub part-whats : (kind : PartOf) (plan : Plan) (scope : Scope) (before : Before) (labels : List (Option Name)) (block : Items) (line : ℕ)
    → whats_of (part_code scope before (loops_around scope before labels block) block line) ≡ code_of (block_segment kind plan scope before labels block)
part-whats kind plan scope before labels block line = whats-both (block_code scope before (loops_around scope before labels block) block) (lined line (What.End ∷ []))

module _ (code : CodeLists) (kind : PartOf) (plan : Plan) (scope : Scope) (in_main : Bool) (before : Before) (labels : List (Option Name)) (block : Items) where
  abbrev ground : Ground
  ground = record { code = code; kind = kind; plan = plan }

  pub block-joined : Suits ground scope in_main → Rooms ground before.texts before.groups before.loops (texts_of_block block) (groups_of_block scope block) (loops_in_all block)
      → block_is_lowered scope in_main labels block ≡ true → block_is_typed scope block ≡ true → (in_main ≡ false → block_is_silent block ≡ true)
      → AreJoined ground nowhere before.at (whats_of (block_code scope before (loops_around scope before labels block) block))
  block-joined suits rooms so typed silent =
      joined-within ground (IsAround around) nowhere before.at whats
      (λ target outside. inr (record { place = length whats; there = only-end labels end target outside ∙ long; joint = joint-end ground whats joined.flows })) joined
    where
      end : ℕ
      end = before.at + block_size scope block

      around : List LoopAround
      around = around_part labels end

      whats : List What
      whats = whats_of (block_code scope before around block)

      long : end ≡ before.at + length whats
      long = ap (λ n. before.at + n) (sym (whats-long (block_code scope before around block) ∙ block-length scope before around block))

      joined : AreJoined ground (IsAround around) before.at whats
      joined =
          block-is-joined ground scope in_main suits before around block rooms (subst (λ found. block_is_lowered scope in_main found block ≡ true) (sym (same-labels labels end)) so) typed silent
          (end-there labels end)

  pub part-joined : Suits ground scope in_main → Rooms ground before.texts before.groups before.loops (texts_of_block block) (groups_of_block scope block) (loops_in_all block)
      → block_is_lowered scope in_main labels block ≡ true → block_is_typed scope block ≡ true → (in_main ≡ false → block_is_silent block ≡ true)
      → may_stand kind What.End ≡ true → left_at_end kind ≡ [] → IsJoined code (block_segment kind plan scope before labels block) before.at
  part-joined suits rooms so typed silent ends nothing_left =
      let joined = block-joined suits rooms so typed silent in
      record {
        ends = ends;
        flows = subst (λ left. Flows ground [] (whats_of (block_code scope before (loops_around scope before labels block) block)) left) (sym nothing_left) joined.flows;
        jumps = joined.jumps;
      }
