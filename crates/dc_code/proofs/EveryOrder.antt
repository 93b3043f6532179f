-- What is said of a loop of the main program holds in every order of its iterations.
use Rattle.std.proofs.Common.{◌≡◌, ◌⊎◌, inl, inr, ℕ, refl, ap, subst}
use Rattle.dc_int.specs.Store.{Store}
use Rattle.dc_code.specs.Computation.{Reached, done, bad, paused, over}
use Rattle.dc_code.specs.EveryOrder.{HoldsInOrders, TellsHeader, TellsOrders, SaysOfOrders}
use Rattle.dc_code.specs.Laws.{IsFramed, DiffersAtRead, KeepLocality}
use Rattle.dc_code.specs.Loops.{HeaderResult, header_of, iterations_of, Loop}
use Rattle.dc_code.specs.Troubles.{Trouble}
use Rattle.dc_code.specs.Verdicts.{Verdict, go_on, at_header, in_iteration, race, verdict, visited_by, judged_by}
use Rattle.dc_code.proofs.GoesOn.{goes-on_alike}
use Rattle.dc_code.proofs.Judged.{race-names}
use Rattle.dc_code.proofs.Reduced.{HoldsCombinable}
use Rattle.dc_code.proofs.Orders.{bad-ends, race-in_order}
use Rattle.dc_code.proofs.Verdicts.{told-place, told-no_header}

module _ (loop : Loop) (store : Store) (framed : IsFramed loop) (differs : DiffersAtRead loop)
    (holds : HoldsCombinable loop.form.localities store) where
  verdict-holds
      : (given : HeaderResult) (said : Verdict) → KeepLocality loop store given.iterations → verdict loop store given.iterations ≡ said
      → HoldsInOrders loop store given.iterations (visited_by loop store given said).store (visited_by loop store given said).verdict
  verdict-holds given go_on keep is = record {
    each = λ ordered permuted. (goes-on_alike loop store framed differs holds given.iterations keep is ordered permuted).ends;
  }
  verdict-holds given (at_header trouble) keep is = told-no_header loop store given.iterations trouble is
  verdict-holds given (in_iteration met at) keep is =
      let found = told-place loop store given.iterations met at is in
      record { place = found.0; is = found.1; each = λ rest. bad-ends loop store given.iterations met at is rest }
  verdict-holds given (race found first second) keep is = record {
    names = race-names loop store given.iterations found first second is;
    each = λ rest. race-in_order loop store given.iterations found first second is rest;
  }

  pub says-of-orders
      : (turns : ℕ) → KeepLocality loop store (iterations_of (over store (header_of loop.form turns)).reached) → SaysOfOrders loop turns store
  says-of-orders turns keep = record { says = by (over store (header_of loop.form turns)).reached refl }
    where
      by
          : (reached : Reached ⊥ Trouble HeaderResult) → (over store (header_of loop.form turns)).reached ≡ reached
          → TellsHeader loop turns store ⊎ TellsOrders loop turns store
      by (bad trouble) is = inl (record { trouble = trouble; met = is; is = ap (λ r. (judged_by loop store r).verdict) is })
      by (done given) is = inr (record {
        given = given;
        opens = is;
        holds =
            let kept : KeepLocality loop store given.iterations = subst (λ r. KeepLocality loop store (iterations_of r)) is keep in
            rw is (verdict-holds given (verdict loop store given.iterations) kept refl);
      })
      by (paused event rest) is = absurd event
