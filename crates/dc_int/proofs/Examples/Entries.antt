-- The entries of single iterations, and what the definitions say of them.
use Rattle.std.proofs.Common.{◌≡◌, ℕ, List, [], ◌∷◌, true, false, Some, None, refl}
use Rattle.std.specs.Prelude.{pos}
use Rattle.dc_int.specs.declared.access.ElementId.{ElementId}
use Rattle.dc_int.specs.declared.access.Action.{Action}
use Rattle.dc_int.specs.declared.operation.ReduceOp.{ReduceOp}
use Rattle.dc_int.specs.Store.{put_at}
use Rattle.dc_int.specs.Entries.{Entry, Reads, Defines, Undefines, Contributes, store_after, reads, touches, exposes, touched_of, exposed_of, firsts, last_states, settling, accesses_of, contributions_of}
use Rattle.dc_int.proofs.Examples.Store.{element, small}

abbrev t : ElementId
t = element 1 0

abbrev a : ℕ → ElementId
a position = element 0 position

-- t = 1 on line 4, and a(1) = t*2 on line 5: a temporary
abbrev temporary : List Entry
temporary = Defines t (pos 1) 4 ∷ Reads t 5 ∷ Defines (a 0) (pos 2) 5 ∷ []

pub t_is_read : reads t temporary ≡ true
t_is_read = refl

pub a_is_not_read : reads (a 0) temporary ≡ false
a_is_not_read = refl

pub both_touched : touched_of temporary ≡ t ∷ a 0 ∷ []
both_touched = refl

pub a_second_element_is_not : touches (a 1) temporary ≡ false
a_second_element_is_not = refl

pub t_is_not_exposed : exposes t temporary ≡ false
t_is_not_exposed = refl

pub nothing_exposed : exposed_of temporary ≡ []
nothing_exposed = refl

pub all_are_first : firsts temporary ≡ temporary
all_are_first = refl

pub states_left : last_states temporary ≡ record { element = t; value = Some (pos 1) } ∷ record { element = a 0; value = Some (pos 2) } ∷ []
states_left = refl

pub listed : accesses_of temporary
    ≡ record { action = Action.Defines; element = t; line = 4 } ∷ record { action = Action.Reads; element = t; line = 5 }
    ∷ record { action = Action.Defines; element = a 0; line = 5 } ∷ []
listed = refl

-- t = t + 1 on line 4, t made undefined on line 5, t = 8 and t = 9 on lines 6 and 7, t read again
abbrev updated : List Entry
updated = Reads t 4 ∷ Defines t (pos 1) 4 ∷ Undefines t 5 ∷ Defines t (pos 8) 6 ∷ Defines t (pos 9) 7 ∷ Reads t 8 ∷ []

pub t_is_exposed : exposes t updated ≡ true
t_is_exposed = refl

pub once_exposed : exposed_of updated ≡ t ∷ []
once_exposed = refl

pub once_touched : touched_of updated ≡ t ∷ []
once_touched = refl

pub two_are_first : firsts updated ≡ Reads t 4 ∷ Defines t (pos 1) 4 ∷ []
two_are_first = refl

pub the_last_state : last_states updated ≡ record { element = t; value = Some (pos 9) } ∷ []
the_last_state = refl

-- a touch first, and then the first read: the read isn't exposed, and is a first access
pub first_read_after_touch : firsts (Undefines t 4 ∷ Reads t 5 ∷ Reads t 6 ∷ Defines t (pos 1) 7 ∷ []) ≡ Undefines t 4 ∷ Reads t 5 ∷ []
first_read_after_touch = refl

pub left_undefined : last_states (Defines t (pos 1) 4 ∷ Undefines t 5 ∷ []) ≡ record { element = t; value = None } ∷ []
left_undefined = refl

pub settled_again : settling 9 (record { element = t; value = None }) ≡ Undefines t 9
settled_again = refl

-- the order of first touch is not store order
pub in_order_of_first_touch : touched_of (Defines t (pos 1) 4 ∷ Defines (a 2) (pos 1) 5 ∷ Defines (a 0) (pos 1) 6 ∷ Defines t (pos 2) 7 ∷ []) ≡ t ∷ a 2 ∷ a 0 ∷ []
in_order_of_first_touch = refl

-- a contribution is no access and changes no store
abbrev contributed : List Entry
contributed = Reads (a 1) 4 ∷ Contributes t ReduceOp.Add (pos 3) ∷ Contributes t ReduceOp.Add (pos 4) ∷ []

pub contributions_are_listed : contributions_of contributed ≡ record { element = t; value = pos 3 } ∷ record { element = t; value = pos 4 } ∷ []
contributions_are_listed = refl

pub no_touch_by_contributions : touched_of contributed ≡ []
no_touch_by_contributions = refl

pub one_first : firsts contributed ≡ Reads (a 1) 4 ∷ []
one_first = refl

pub store_stays : store_after contributed small ≡ small
store_stays = refl

pub store_changes : store_after temporary small
    ≡ put_at (put_at small t (Some (pos 1))) (a 0) (Some (pos 2))
store_changes = refl
