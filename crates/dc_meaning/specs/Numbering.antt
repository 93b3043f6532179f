-- The DO CONCURRENT loops of a program, in the order of the text. This project's own.
use Rattle.std.specs.Prelude.{ℕ, suc, ◌+◌, false, List, [], ◌∷◌, ◌++◌, length, slice_get, Option, Some, None}
use Rattle.dc_int.specs.declared.kind.Kind.{Kind}
use Rattle.dc_int.specs.declared.variable.Locality.{Locality}
use Rattle.dc_code.specs.Computation.{give}
use Rattle.dc_code.specs.Inner.{Forms}
use Rattle.dc_code.specs.Loops.{Form}
use Rattle.dc_tree.specs.Blocks as blocks
use Rattle.dc_tree.specs.Blocks.{Line, Item, Items, Arms, plain, branch, select, none, and_then, no_arms, arm}
use Rattle.dc_tree.specs.Entities.{Scope}
use Rattle.dc_tree.specs.Statements as statements
use Rattle.dc_tree.specs.Statements.{Statement}
use Rattle.dc_meaning.specs.Concurrent.{Concurrent, Surroundings, block_scope}
use Rattle.dc_meaning.specs.Headers.{form_of}

abbrev pub concurrent_at : Scope → ℕ → Line → Items → Option Concurrent
concurrent_at scope number head inside = by head.says
  where
    by : Statement → Option Concurrent
    by (statements.concurrent label spec indexes mask locality) =
        Some (record { number = number; line = head.line; around = scope; spec = spec; indexes = indexes; mask = mask; locality = locality; body = inside })
    by other = None

-- A loop before those inside it, which see its entities.
abbrev pub loop_and_inside : Surroundings → Scope → ℕ → Option Concurrent → (Scope → ℕ → List Concurrent) → List Concurrent
loop_and_inside within scope number None inside = inside scope number
loop_and_inside within scope number (Some found) inside = found ∷ inside (block_scope within found) (suc number)

abbrev mutual
  pub loops_of : Surroundings → Scope → ℕ → Item → List Concurrent
  loops_of within scope number (plain line) = []
  loops_of within scope number (branch arms close) = loops_of_arms within scope number arms
  loops_of within scope number (select head arms close) = loops_of_arms within scope number arms
  loops_of within scope number (blocks.loop head body close) =
      loop_and_inside within scope number (concurrent_at scope number head body) (λ inner from. loops_of_all within inner from body)

  pub loops_of_all : Surroundings → Scope → ℕ → Items → List Concurrent
  loops_of_all within scope number none = []
  loops_of_all within scope number (and_then first rest) =
      let here = loops_of within scope number first in here ++ loops_of_all within scope (number + length here) rest

  pub loops_of_arms : Surroundings → Scope → ℕ → Arms → List Concurrent
  loops_of_arms within scope number no_arms = []
  loops_of_arms within scope number (arm head body rest) =
      let here = loops_of_all within scope number body in here ++ loops_of_arms within scope (number + length here) rest

-- A program's loops by their numbers. No other number is asked for; a loop of no iterations stands there.
abbrev pub no_loop : Form
no_loop = record {
  line = 0;
  localities = record { locality = λ number. Locality.Plain; kind = λ number. Kind.K4; passed = λ number. false };
  copied = [];
  combines = [];
  header = λ turns. give ([], turns);
  mask = λ at. give false;
  block = λ copies at. give 0;
}

abbrev pub forms_of : Surroundings → List Concurrent → Forms
forms_of within loops number around = by (slice_get loops number)
  where
    by : Option Concurrent → Form
    by (Some found) = form_of within found around
    by None = no_loop
