-- What a run of a code over the cells of one store needs. This project's own.
use Rattle.std.specs.Prelude.{◌≡◌, ◌<◌, length}
use Rattle.dc_code.specs.Codes.{CodeLists}
use Rattle.dc_steps.specs.Ready.{AreReady}
use Rattle.dc_store.specs.Shaped.{ShapedStore, IsFitting}
use Rattle.dc_store.specs.Whole.{Whole, whole_of}
use Rattle.dc_store.specs.declared.whole.WholeStore.{WholeStore}

-- Each instruction has a place, and the cells are ready for the code.
pub record IsReady (code : CodeLists) (cells : WholeStore) : Type 0 where
  pub few : length code.instructions < 4294967296
  pub ready : AreReady code (λ (whole : Whole). whole.shaped.shapes) (λ (whole : Whole). whole.shaped.store) (whole_of cells)

-- A store of which cells are made that are ready for the code.
pub record IsFreshStore (code : CodeLists) (shaped : ShapedStore) : Type 0 where
  pub few : length code.instructions < 4294967296
  pub same : shaped.shapes ≡ code.shapes
  pub fitting : IsFitting shaped
