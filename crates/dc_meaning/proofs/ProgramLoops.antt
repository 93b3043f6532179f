-- The loops of a program that can be run, by their numbers.
use Rattle.std.proofs.Common.{◌≡◌, ℕ, true, ◌&&◌, List, [], ◌∷◌, Option, Some, None, refl, sym, ap, subst, ◌∙◌}
use Rattle.std.specs.Prelude.{slice_get, is_some, is_none}
use Rattle.std.proofs.lemmas.Bool.{and_parts, false≢true}
use Rattle.dc_int.specs.declared.variable.Locality.{Locality}
use Rattle.dc_code.specs.Loops.{Form}
use Rattle.dc_code.specs.Troubles.{Slots}
use Rattle.dc_tree.specs.declared.symbols.Symbol.{Symbol}
use Rattle.dc_tree.specs.Blocks.{Line, Items, Subprogram, Source}
use Rattle.dc_form.specs.BuiltPrograms.{are_built_symbols, are_built_items, is_built_loop, is_built}
use Rattle.dc_tree.specs.Entities.{main_scope}
use Rattle.dc_meaning.specs.Looping.{nth_loop}
use Rattle.dc_meaning.specs.Concurrent.{Outside, Concurrent, Surroundings}
use Rattle.dc_meaning.specs.Headers.{localities_of, form_of}
use Rattle.dc_meaning.specs.Numbering.{loops_of_all, no_loop}
use Rattle.dc_meaning.specs.Programs.{surroundings, program_forms, program_loops}
use Rattle.dc_meaning.proofs.Looping.{concurrent-with, LoopAt, IsLoop, loop-found, copies-form}

-- Without localities of its own, all variables of a loop have unspecified locality.
pub all-plain : (within : Surroundings) (loop : Concurrent) → loop.locality ≡ [] → (number : ℕ) (found : Option Outside) → slice_get within.outsides number ≡ found
    → (localities_of within loop).locality number ≡ Locality.Plain
all-plain within loop none number None is = rw is refl
all-plain within loop none number (Some variable) is = rw (is, none) refl

abbrev pub form-by : List Symbol → Source → ℕ → Slots → Option Concurrent → Form
form-by symbols source turns around None = no_loop
form-by symbols source turns around (Some found) = form_of (surroundings symbols source turns) found around

abbrev pub loops-in : List Symbol → Source → ℕ → List Concurrent
loops-in symbols source turns = loops_of_all (surroundings symbols source turns) (main_scope symbols) 0 source.body

pub form-is : (symbols : List Symbol) (source : Source) (turns number : ℕ) (around : Slots) (found : Option Concurrent) → slice_get (loops-in symbols source turns) number ≡ found
    → program_forms symbols source turns number around ≡ form-by symbols source turns around found
form-is symbols source turns number around None at = rw at refl
form-is symbols source turns number around (Some found) at = rw at refl

-- A program that can be run: its names, and its statements.
pub record BuiltSource (symbols : List Symbol) (source : Source) : Type 0 where
  pub names : are_built_symbols symbols ≡ true
  pub body : are_built_items (main_scope symbols) source.body ≡ true

pub built-source : (symbols : List Symbol) (source : Source) → is_built symbols source ≡ true → BuiltSource symbols source
built-source symbols source built = by source.procedures built
  where
    by : (procedures : List Subprogram)
        → is_built symbols (record { head = source.head; front = source.front; body = source.body; contains = source.contains; procedures = procedures; close = source.close }) ≡ true
        → BuiltSource symbols source
    by [] e =
        let names = are_built_symbols symbols in
        let body = are_built_items (main_scope symbols) source.body in
        let both = and_parts names body (and_parts (is_none source.contains) (names && body) e).1 in
        record { names = both.0; body = both.1 }
    by (first ∷ rest) e = absurd (false≢true e)

module _ (symbols : List Symbol) (source : Source) (form : is_built symbols source ≡ true) (number : ℕ) where
  pub found-at : (turns : ℕ) → IsLoop (main_scope symbols) (loops-in symbols source turns) number (nth_loop number source.body)
  found-at turns = loop-found (surroundings symbols source turns) (main_scope symbols) 0 number source.body (built-source symbols source form).body

  -- There is such a loop where the walker finds one.
  pub some-loop : (turns : ℕ) → is_some (nth_loop number source.body) ≡ is_some (slice_get (program_loops symbols source turns) number)
  some-loop turns = by (nth_loop number source.body) (found-at turns)
    where
      by : (found : Option (Line × Items)) → IsLoop (main_scope symbols) (loops-in symbols source turns) number found
          → is_some found ≡ is_some (slice_get (program_loops symbols source turns) number)
      by None at = sym (ap is_some at)
      by (Some found) at = sym (ap is_some at.at)

  pub loop-at : (turns : ℕ) (head : Line) (body : Items) → Some (head, body) ≡ nth_loop number source.body → LoopAt (main_scope symbols) (loops-in symbols source turns) number head body
  loop-at turns head body is = subst (IsLoop (main_scope symbols) (loops-in symbols source turns) number) (sym is) (found-at turns)

  pub none-at : (turns : ℕ) → None ≡ nth_loop number source.body → slice_get (loops-in symbols source turns) number ≡ None
  none-at turns is = subst (IsLoop (main_scope symbols) (loops-in symbols source turns) number) (sym is) (found-at turns)

  pub loop-built : (head : Line) (body : Items) → Some (head, body) ≡ nth_loop number source.body → is_built_loop (main_scope symbols) head.says body ≡ true
  loop-built head body is = (loop-at 0 head body is).whole

  pub no-copies : (turns : ℕ) → (program_forms symbols source turns number []).copied ≡ []
  no-copies turns = by (nth_loop number source.body) (found-at turns)
    where
      by : (found : Option (Line × Items)) → IsLoop (main_scope symbols) (loops-in symbols source turns) number found → (program_forms symbols source turns number []).copied ≡ []
      by None at = ap (λ (f : Form). f.copied) (form-is symbols source turns number [] None at)
      by (Some found) at =
          ap (λ (f : Form). f.copied) (form-is symbols source turns number [] (Some (concurrent-with (main_scope symbols) at.counted found.0 found.1 at.built.ranging)) at.at)
          ∙ copies-form (surroundings symbols source turns) symbols at.counted found.0 found.1 at.built []
