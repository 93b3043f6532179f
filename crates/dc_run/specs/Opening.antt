-- The header of a loop, run by its code. This project's own.
use Rattle.std.specs.Prelude.{◌≡◌, ℕ, [], ◌∷◌}
use Rattle.dc_int.specs.Store.{Store}
use Rattle.dc_code.specs.Computation.{done, bad, over}
use Rattle.dc_code.specs.Loops.{Form}
use Rattle.dc_walk.specs.Visiting.{span_with}
use Rattle.dc_run.specs.declared.opening.Opened.{Opened}

-- What the header's computation comes to over a store: the values of one index between these limits, with so many turns
-- left, or a statement that isn't carried out.
abbrev pub OpensBy : Form → ℕ → Store → Opened → Type 0
OpensBy form turns store (Opened.Between limits left) = (over store (form.header turns)).reached ≡ done (span_with limits ∷ [], left)
OpensBy form turns store (Opened.Bad why line) = (over store (form.header turns)).reached ≡ bad (record { why = why; line = line })
