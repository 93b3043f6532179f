use Rattle.std.proofs.Common.{◌≡◌, ℕ, ◌+◌, ◌-◌, ◌<◌, ◌≤◌, ◌++◌, true, false, List, length, take, drop, length-drop, refl, sym, ap, ◌∙◌, arith, rules, append_assoc}
use Rattle.std.specs.Prelude.{Option, Some, None, IfSome, option_map}
use Rattle.std.proofs.Math.Seq.{take-add}
use Rattle.docon.specs.Room.{WritesInRoom}
use Rattle.docon.proofs.writing.write_all.Goals as goal

-- one more piece behind what a sink took
taken-more : (held : Option (List ℕ)) (bytes : List ℕ) (done count : ℕ)
    → option_map (λ h. h ++ take count (drop done bytes)) (option_map (λ h. h ++ take done bytes) held) ≡ option_map (λ h. h ++ take (done + count) bytes) held
taken-more None bytes done count = refl
taken-more (Some h) bytes done count = ap (λ (x : List ℕ). Some x) (append_assoc h (take done bytes) (take count (drop done bytes)) ∙ ap (λ x. h ++ x) (sym (take-add done count bytes)))

-- the room that is left once so many of the bytes were taken, where it was enough for all
abbrev RoomAfter : Option ℕ → Option ℕ → ℕ → ℕ → Type 0
RoomAfter before now all done = IfSome before (λ free. all ≤ free → now ≡ Some (free - done))

room-start : (before : Option ℕ) (all : ℕ) → RoomAfter before before all 0
room-start None all = tt
room-start (Some free) all = λ enough. ap (λ (n : ℕ). Some n) (omega arith)

room-more : (before now later : Option ℕ) (all done count : ℕ) → RoomAfter before now all done → later ≡ option_map (λ free. free - count) now
    → RoomAfter before later all (done + count)
room-more None now later all done count kept moved = tt
room-more (Some free) now later all done count kept moved =
    λ enough. moved ∙ ap (option_map (λ f. f - count)) (kept enough) ∙ ap (λ (n : ℕ). Some n) (omega arith)

-- a sink with room doesn't fail
room-sure : (before now later : Option ℕ) (all done : ℕ) → RoomAfter before now all done → done < all → IfSome now (λ free. 0 < free → false ≡ true) → WritesInRoom before later all false
room-sure None now later all done kept more sure = tt
room-sure (Some free) now later all done kept more sure =
    λ enough.
    let left : IfSome (Some (free - done)) (λ free. 0 < free → false ≡ true) = rw (kept enough) at sure in
    absurd (let no : false ≡ true = left (omega arith) in cc)

room-whole : (before now : Option ℕ) (all done : ℕ) → RoomAfter before now all done → done ≡ all → WritesInRoom before now all true
room-whole None now all done kept is = tt
room-whole (Some free) now all done kept is = λ enough. (refl, kept enough ∙ ap (λ (n : ℕ). Some (free - n)) is)

pub loop-done-init : goal.loop-done-init
loop-done-init g c =
    record {
      within = search rules;
      taken = search rules;
      steady = search rules;
      room = room-start (g.W.Sink.room c.args.sink.now) (length c.args.bytes.now);
    }

pub loop-done-preserved : goal.loop-done-preserved
loop-done-preserved g c =
    let rest = c.from.ensures in
    let moved = c.in-Ok.ensures.moved in
    record {
      within = omega (arith, c.in-Ok.ensures.within, ap length rest, length-drop c.loop-done.done c.args.bytes.now);
      taken = moved ∙ ap (λ (x : List ℕ). option_map (λ h. h ++ take c.in-Ok.count x) (g.W.Sink.taken c.loop-done.sink)) rest
          ∙ ap (option_map (λ h. h ++ take c.in-Ok.count (drop c.loop-done.done c.args.bytes.now))) c.loop-done.invariant.taken
          ∙ taken-more (g.W.Sink.taken c.args.sink.now) c.args.bytes.now c.loop-done.done c.in-Ok.count;
      steady = c.in-Ok.ensures.count.ok ∙ c.loop-done.invariant.steady;
      room = room-more (g.W.Sink.room c.args.sink.now) (g.W.Sink.room c.loop-done.sink) (g.W.Sink.room c.write.new.self) (length c.args.bytes.now) c.loop-done.done c.in-Ok.count
          c.loop-done.invariant.room c.in-Ok.ensures.space.ok;
    }

pub returns-in-Err-clause-room : goal.returns-in-Err-clause-room
returns-in-Err-clause-room g c =
    room-sure (g.W.Sink.room c.args.sink.now) (g.W.Sink.room c.loop-done.sink) (g.W.Sink.room c.write.new.self) (length c.args.bytes.now) c.loop-done.done
    c.loop-done.invariant.room (omega arith) c.in-Err.ensures.space.sure

pub returns-clause-room : goal.returns-clause-room
returns-clause-room g c =
    room-whole (g.W.Sink.room c.args.sink.now) (g.W.Sink.room c.loop-done.sink) (length c.args.bytes.now) c.loop-done.done c.loop-done.invariant.room (omega arith)
