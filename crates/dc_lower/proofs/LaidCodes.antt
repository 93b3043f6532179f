-- The parts of the code of a program, and where they begin.
use Rattle.std.proofs.Common.{◌≡◌, ℕ, ◌+◌, List, [], ◌∷◌, ◌++◌, length, map, refl, sym, ap, ◌∙◌, arith, append_assoc}
use Rattle.std.specs.Prelude.{flat_map, zip}
use Rattle.dc_code.specs.declared.instr.Instr.{Instr}
use Rattle.dc_code.specs.declared.instr.What.{What}
use Rattle.dc_code.specs.declared.plan.Plan.{Plan}
use Rattle.dc_code.specs.Codes.{starts, starts_of_loop}
use Rattle.dc_code.specs.WellFormed.{PartOf, main, header, body, Part, parts, parts_of_loop}
use Rattle.dc_tree.specs.declared.symbols.Symbol.{Symbol}
use Rattle.dc_tree.specs.Blocks.{Source}
use Rattle.dc_tree.specs.Entities.{main_scope}
use Rattle.dc_meaning.specs.Concurrent.{Concurrent, Surroundings, block_scope}
use Rattle.dc_actions.specs.Deeds.{lined}
use Rattle.dc_lower.specs.Blocks.{block_code}
use Rattle.dc_actions.specs.Limits.{limits_code}
use Rattle.dc_lower.specs.Lowered.{kind_of_index, header_code, body_code, loop_code, loops_code, no_slots, body_plan, plans_of_loops, construct_at, constructs_from, main_code, main_plan, lowered_with}
use Rattle.dc_actions.proofs.RunsOfDeeds.{whats_of, whats-lined}
use Rattle.dc_lower.proofs.StraightCodes.{Segment, code_of, code_of_all, part_at, parts_from, starts_from}
use Rattle.std.proofs.lemmas.List.{map-append, length-map, length-append}

-- ---- the parts

abbrev pub limits_of_loop : Concurrent → List What
limits_of_loop loop = flat_map (λ ranging. limits_code loop.around (kind_of_index loop ranging) ranging) loop.indexes

abbrev pub header_segment : Surroundings → ℕ → Concurrent → Segment
header_segment within at loop = record { kind = header (construct_at within at loop); plan = no_slots; whats = limits_of_loop loop }

abbrev pub body_segment : Surroundings → ℕ → Concurrent → Segment
body_segment within at loop = record {
  kind = body (construct_at within at loop);
  plan = body_plan within loop;
  whats = whats_of (block_code (block_scope within loop) 0 (block_scope within loop).groups 0 loop.body);
}

abbrev pub segments_from : Surroundings → ℕ → List Concurrent → List Segment
segments_from within at [] = []
segments_from within at (loop ∷ loops) = header_segment within at loop ∷ (body_segment within at loop ∷ segments_from within (at + length (loop_code within loop)) loops)

abbrev pub main_segment : List Symbol → Source → Segment
main_segment symbols source = record { kind = main; plan = main_plan symbols source; whats = whats_of (block_code (main_scope symbols) 0 0 0 source.body) }

abbrev pub all_segments : List Symbol → Source → Surroundings → List Concurrent → List Segment
all_segments symbols source within loops = main_segment symbols source ∷ segments_from within (length (main_code symbols source)) loops

-- ---- their instructions

what_in : Instr → What
what_in instr = instr.what

long-as : (instrs : List Instr) (whats : List What) → whats_of instrs ≡ whats → length instrs ≡ length whats
long-as instrs whats e = sym (length-map instrs (λ (instr : Instr). instr.what)) ∙ ap length e

part-whats : (block : List Instr) (line : ℕ) → whats_of (block ++ lined line (What.End ∷ [])) ≡ whats_of block ++ What.End ∷ []
part-whats block line = map-append (λ (instr : Instr). instr.what) block (lined line (What.End ∷ []))

header-whats : (within : Surroundings) (at : ℕ) (loop : Concurrent) → whats_of (header_code loop) ≡ code_of (header_segment within at loop)
header-whats within at loop = whats-lined loop.line (limits_of_loop loop ++ What.End ∷ [])

body-whats : (within : Surroundings) (at : ℕ) (loop : Concurrent) → whats_of (body_code within loop) ≡ code_of (body_segment within at loop)
body-whats within at loop = part-whats (block_code (block_scope within loop) 0 (block_scope within loop).groups 0 loop.body) loop.line

loops-whats : (within : Surroundings) (at : ℕ) (loops : List Concurrent) → whats_of (loops_code within loops) ≡ code_of_all (segments_from within at loops)
loops-whats within at [] = refl
loops-whats within at (loop ∷ loops) =
    let first = code_of (header_segment within at loop) in
    let second = code_of (body_segment within at loop) in
    map-append (λ (instr : Instr). instr.what) (loop_code within loop) (loops_code within loops)
    ∙ ap (λ whats. whats ++ whats_of (loops_code within loops))
    (map-append (λ (instr : Instr). instr.what) (header_code loop) (body_code within loop)
    ∙ ap (λ whats. whats ++ whats_of (body_code within loop)) (header-whats within at loop)
    ∙ ap (λ whats. first ++ whats) (body-whats within at loop))
    ∙ ap (λ whats. (first ++ second) ++ whats) (loops-whats within (at + length (loop_code within loop)) loops)
    ∙ append_assoc first second (code_of_all (segments_from within (at + length (loop_code within loop)) loops))

pub all-whats : (symbols : List Symbol) (source : Source) (within : Surroundings) (loops : List Concurrent)
    → whats_of (lowered_with symbols source within loops).instructions ≡ code_of_all (all_segments symbols source within loops)
all-whats symbols source within loops =
    map-append (λ (instr : Instr). instr.what) (main_code symbols source) (loops_code within loops)
    ∙ ap (λ whats. whats ++ whats_of (loops_code within loops)) (part-whats (block_code (main_scope symbols) 0 0 0 source.body) source.close.line)
    ∙ ap (λ whats. code_of (main_segment symbols source) ++ whats) (loops-whats within (length (main_code symbols source)) loops)

-- ---- where they begin

header-long : (within : Surroundings) (at : ℕ) (loop : Concurrent) → at + length (header_code loop) ≡ at + length (code_of (header_segment within at loop))
header-long within at loop = ap (λ n. at + n) (long-as (header_code loop) (code_of (header_segment within at loop)) (header-whats within at loop))

loop-long : (within : Surroundings) (at : ℕ) (loop : Concurrent)
    → at + length (loop_code within loop) ≡ at + length (code_of (header_segment within at loop)) + length (code_of (body_segment within at loop))
loop-long within at loop =
    let a = long-as (header_code loop) (code_of (header_segment within at loop)) (header-whats within at loop) in
    let b = long-as (body_code within loop) (code_of (body_segment within at loop)) (body-whats within at loop) in
    ap (λ n. at + n) (length-append (header_code loop) (body_code within loop)) ∙ (λ i. at + (a i + b i)) ∙ together at (length (code_of (header_segment within at loop))) (length (code_of (body_segment within at loop)))
  where
    together : (a b c : ℕ) → a + (b + c) ≡ a + b + c
    together a b c = omega arith

main-long : (symbols : List Symbol) (source : Source) → length (main_code symbols source) ≡ 0 + length (code_of (main_segment symbols source))
main-long symbols source =
    long-as (main_code symbols source) (code_of (main_segment symbols source)) (part-whats (block_code (main_scope symbols) 0 0 0 source.body) source.close.line) ∙ omega arith

starts-laid : (within : Surroundings) (at : ℕ) (loops : List Concurrent) → flat_map starts_of_loop (constructs_from within at loops) ≡ starts_from at (segments_from within at loops)
starts-laid within at [] = refl
starts-laid within at (loop ∷ loops) =
    let next = at + length (loop_code within loop) in
    let others : flat_map starts_of_loop (constructs_from within next loops)
    ≡ starts_from (at + length (code_of (header_segment within at loop)) + length (code_of (body_segment within at loop))) (segments_from within next loops) =
    starts-laid within next loops ∙ ap (λ n. starts_from n (segments_from within next loops)) (loop-long within at loop) in
    λ i. at ∷ (header-long within at loop i ∷ others i)

abbrev part_from : PartOf × (ℕ × Plan) → Part
part_from w = record { kind = w.0; start = (w.1).0; plan = (w.1).1 }

abbrev parts_among : Surroundings → ℕ → List Concurrent → List Part
parts_among within at loops =
    map part_from (zip (flat_map parts_of_loop (constructs_from within at loops)) (zip (flat_map starts_of_loop (constructs_from within at loops)) (plans_of_loops within loops)))

parts-laid : (within : Surroundings) (at : ℕ) (loops : List Concurrent) → parts_among within at loops ≡ parts_from at (segments_from within at loops)
parts-laid within at [] = refl
parts-laid within at (loop ∷ loops) =
    let next = at + length (loop_code within loop) in
    let others : parts_among within next loops
    ≡ parts_from (at + length (code_of (header_segment within at loop)) + length (code_of (body_segment within at loop))) (segments_from within next loops) =
    parts-laid within next loops ∙ ap (λ n. parts_from n (segments_from within next loops)) (loop-long within at loop) in
    λ i. part_at at (header_segment within at loop) ∷ (part_at (header-long within at loop i) (body_segment within at loop) ∷ others i)

pub all-starts : (symbols : List Symbol) (source : Source) (within : Surroundings) (loops : List Concurrent)
    → starts (lowered_with symbols source within loops) ≡ starts_from 0 (all_segments symbols source within loops)
all-starts symbols source within loops =
    let at = length (main_code symbols source) in
    ap (λ rest. 0 ∷ rest) (starts-laid within at loops ∙ ap (λ n. starts_from n (segments_from within at loops)) (main-long symbols source))

pub all-parts : (symbols : List Symbol) (source : Source) (within : Surroundings) (loops : List Concurrent)
    → parts (lowered_with symbols source within loops) ≡ parts_from 0 (all_segments symbols source within loops)
all-parts symbols source within loops =
    let at = length (main_code symbols source) in
    ap (λ rest. part_at 0 (main_segment symbols source) ∷ rest) (parts-laid within at loops ∙ ap (λ n. parts_from n (segments_from within at loops)) (main-long symbols source))
