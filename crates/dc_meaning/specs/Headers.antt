-- What the header, the mask and the block of a DO CONCURRENT do. After ISO/IEC 1539-1:2023, clause 11.1.7.4.
use Rattle.std.specs.Prelude.{ℕ, suc, Bool, true, false, List, [], ◌∷◌, ◌++◌, flat_map, slice_get, Option, Some, None, ℤ}
use Rattle.dc_int.specs.declared.kind.Kind.{Kind}
use Rattle.dc_int.specs.declared.variable.Locality.{Locality}
use Rattle.dc_int.specs.Reductions.{truth}
use Rattle.dc_int.specs.Sorts.{kind_of}
use Rattle.dc_code.specs.Closing.{Localities}
use Rattle.dc_code.specs.Combinations.{Span}
use Rattle.dc_code.specs.Computation.{give, sequence}
use Rattle.dc_code.specs.Loops.{Form, Copies}
use Rattle.dc_code.specs.Troubles.{Computing, Slots}
use Rattle.dc_tree.specs.Entities.{entity}
use Rattle.dc_tree.specs.Syntax.{Tree}
use Rattle.dc_meaning.specs.Acts.{Act, for_each}
use Rattle.dc_meaning.specs.Concurrent.{Outside, Concurrent, Surroundings, index_sort, index_slots, locality_of, locals_of, mask_scope, block_scope, is_reduction, copied_by, combined_by, fresh_locals}
use Rattle.dc_meaning.specs.Execution.{span_of, exec_all}
use Rattle.dc_meaning.specs.Values.{value}

-- An act in one frame with these slots, and what comes of its result and the turns left.
abbrev pub inside_frame : {A B : Type 0} → Slots → ℕ → Act A → (A → ℕ → B) → Computing B
inside_frame own turns act tell =
    sequence (act (record { frames = record { slots = own; dummies = [] } ∷ []; turns = turns })) (λ w. give (tell w.0 (w.1).turns))

abbrev pub header_act : Surroundings → Concurrent → Act (List Span)
header_act within loop = for_each (λ ranging. span_of loop.around within.call loop.line (index_sort loop.around loop.spec ranging) ranging) loop.indexes

abbrev pub mask_of : Surroundings → Concurrent → Slots → List ℤ → Computing Bool
mask_of within loop around at = by loop.mask
  where
    by : Option Tree → Computing Bool
    by None = give true
    by (Some tree) = inside_frame (around ++ index_slots at) within.turns (value (mask_scope loop) within.call loop.line tree) (λ z left. truth z)

abbrev pub block_of : Surroundings → Concurrent → Slots → Copies → List ℤ → Computing ℕ
block_of within loop around copies at =
    let own = around ++ (index_slots at ++ fresh_locals loop.around around copies (locals_of within loop)) in
    inside_frame own within.turns (exec_all (block_scope within loop) within.call (suc loop.number) loop.body) (λ flow left. left)

abbrev pub localities_of : Surroundings → Concurrent → Localities
localities_of within loop = record {
  locality = λ number. with_outside number Locality.Plain (λ variable. locality_of loop.locality variable.name);
  kind = λ number. with_outside number Kind.K4 (λ variable. kind_of variable.sort);
  passed = λ number. with_outside number false (λ variable. is_reduction (entity loop.around variable.name));
}
  where
    told : {A : Type 0} → A → (Outside → A) → Option Outside → A
    told other tell None = other
    told other tell (Some variable) = tell variable

    with_outside : {A : Type 0} → ℕ → A → (Outside → A) → A
    with_outside number other tell = told other tell (slice_get within.outsides number)

-- The loop, where it is reached inside these entities.
abbrev pub form_of : Surroundings → Concurrent → Slots → Form
form_of within loop around = record {
  line = loop.line;
  localities = localities_of within loop;
  copied = flat_map (copied_by loop) (locals_of within loop);
  combines = flat_map (combined_by loop) within.outsides;
  header = λ turns. inside_frame around turns (header_act within loop) (λ spans left. (spans, left));
  mask = mask_of within loop around;
  block = block_of within loop around;
}
