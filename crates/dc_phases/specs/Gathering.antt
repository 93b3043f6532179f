-- How the answers to the items of a list are gathered.
use Rattle.std.specs.Prelude.{List, [], ◌∷◌, ◌++◌, Option, None, Some, Result, Ok, Err}
use Rattle.dc_tree.specs.declared.fail.Fail.{Fail}
use Rattle.dc_tree.specs.declared.fail.Refusal.{Refusal}
use Rattle.dc_tree.specs.Findings.{least_with}
use Rattle.dc_phases.specs.declared.gathering.Gathered.{Gathered}

-- with one answer more
abbrev pub with_answer : {B : Type 0} → Gathered B → Result B Fail → Option (Gathered B)
with_answer so_far (Ok item) = Some (record { items = so_far.items ++ item ∷ []; first = so_far.first })
with_answer so_far (Err (Fail.Refused refusal)) = Some (record { items = so_far.items; first = least_with so_far.first refusal })
with_answer so_far (Err Fail.NoMemory) = None

abbrev pub told : {B : Type 0} → List B → Option Refusal → Result (List B) Fail
told items None = Ok items
told items (Some refusal) = Err (Fail.Refused refusal)
