use Rattle.std.proofs.Common.{◌≡◌, ◌≤◌, ◌-◌, ◌++◌, length, take}
use Rattle.std.specs.Prelude.{Some, IfSome, option_map}
use Rattle.docon.proofs.writing.write_all.Given as goal

abbrev pub invariant-loop-done : goal.invariant-loop-done
invariant-loop-done g l = record {
  within : l.done ≤ length l.bytes;
  taken : g.W.Sink.taken l.sink ≡ option_map (λ held. held ++ take l.done l.bytes) (g.W.Sink.taken l.fn.sink);
  steady : g.W.Sink.faults l.sink ≡ g.W.Sink.faults l.fn.sink;
  room : IfSome (g.W.Sink.room l.fn.sink) (λ free. length l.bytes ≤ free → g.W.Sink.room l.sink ≡ Some (free - l.done));
}

abbrev pub decreases-loop-done : goal.decreases-loop-done
decreases-loop-done g l = length l.bytes - l.done
