-- Subscripts that are taken off one after another, the last first.
use Rattle.std.proofs.Common.{◌≡◌, ℕ, zero, suc, ◌+◌, ◌*◌, ◌≤◌, List, [], ◌∷◌, ◌++◌, length, drop, get_or, append_assoc, append-nil, add-one, Option, Some, None, refl, sym, ap, ◌∙◌, arith}
use Rattle.std.specs.Prelude.{ℤ}
use Rattle.std.proofs.lemmas.List.{drop_more, drop_all}
use Rattle.std.proofs.lemmas.Option.{none-some}
use Rattle.std.proofs.Math.Nat.{mul-le-mul_left}
use Rattle.dc_int.specs.declared.fault.FaultKind.{FaultKind}
use Rattle.dc_int.specs.Store.{Bounds, extent, elements_in, offset_in, joined_position, position_in}
use Rattle.dc_code.specs.declared.frame.Item.{Item}
use Rattle.dc_code.specs.Computation.{give, sequence, ◌>>=◌}
use Rattle.dc_code.specs.Frames.{Frame, pushed}
use Rattle.dc_code.specs.Operands.{faulty, stuck, value_off, values_off}
use Rattle.dc_code.specs.Reaching.{positioned, within_bounds}
use Rattle.dc_code.specs.Troubles.{Computing}
use Rattle.dc_code.proofs.Sequences.{sequence-then}
use Rattle.dc_frame.specs.Taking.{taken, subscripts_off}
use Rattle.dc_frame.proofs.Positions.{elements-later, position-less, no-position, joined-none}

-- the position by all subscripts
abbrev named : ℕ → Bounds → List ℤ × Frame → Computing (ℕ × Frame)
named line bounds (subscripts, left) = within_bounds line (position_in bounds subscripts) >>= (λ at. give (at, left))

-- the same behind subscripts that were taken off before
abbrev named_before : ℕ → Bounds → List ℤ → List ℤ × Frame → Computing (ℕ × Frame)
named_before line bounds later (subscripts, left) = named line bounds (subscripts ++ later, left)

-- After the later subscripts were taken off, as many are left as there are earlier dimensions, and the position by the
-- later ones is this, unless there are no elements at all.
pub record Gathered (bounds : Bounds) (first frame : Frame) (rank : ℕ) (position : Option ℕ) : Type 0 where
  pub within : rank ≤ length bounds
  pub later : List ℤ
  pub off : (line : ℕ) → subscripts_off line bounds first ≡ sequence (values_off line rank frame) (named_before line bounds later)
  pub some : 1 ≤ elements_in bounds → position ≡ position_in (drop rank bounds) later
  pub none : elements_in bounds ≡ 0 → position ≡ None

-- ---- at first

pub gathered-first
    : (bounds : Bounds) (frame : Frame) (position : Option ℕ) → (1 ≤ elements_in bounds → position ≡ Some 0) → (elements_in bounds ≡ 0 → position ≡ None)
    → Gathered bounds frame frame (length bounds) position
gathered-first bounds frame position some none =
    record {
      within = omega arith;
      later = [];
      off = λ line. sym (λ i. sequence (values_off line (length bounds) frame) (λ w. named line bounds (append-nil w.0 i, w.1)));
      some = λ one. some one ∙ sym (ap (λ later. position_in later []) (drop_all (length bounds) bounds (omega arith)));
      none = none;
    }

-- ---- one subscript more

module _ (bounds : Bounds) (first frame : Frame) (k : ℕ) (position : Option ℕ) (before : Gathered bounds first frame (suc k) position) where
  abbrev after_last : ℕ → ℤ × Frame → Computing (List ℤ × Frame)
  after_last line (last, left) = values_off line k left >>= (λ (zs, rest). give (zs ++ last ∷ [], rest))

  -- Where a subscript is missing.
  pub gathered-missing : (left : Frame) → ((line : ℕ) → value_off line frame ≡ taken line None left) → (line : ℕ) → subscripts_off line bounds first ≡ stuck line
  gathered-missing left missing line =
      before.off line ∙ ap (λ c. sequence (sequence c (after_last line)) (named_before line bounds before.later)) (missing line)

  off-more
      : (left : Frame) (z : ℤ) → ((line : ℕ) → value_off line frame ≡ taken line (Some z) left) → (line : ℕ)
      → subscripts_off line bounds first ≡ sequence (values_off line k left) (named_before line bounds (z ∷ before.later))
  off-more left z taken_off line =
      before.off line
      ∙ (ap (λ c. sequence (sequence c (after_last line)) (named_before line bounds before.later)) (taken_off line)
      ∙ (sequence-then (values_off line k left) (λ (zs, rest). give (zs ++ z ∷ [], rest)) (named_before line bounds before.later)
      ∙ (λ i. sequence (values_off line k left) (λ w. named line bounds (append_assoc w.0 (z ∷ []) before.later i, w.1)))))

  -- the dimension of the subscript, where there is one
  abbrev its_dimension : ℤ × ℤ → ℤ × ℤ
  its_dimension other = get_or bounds k other

  dropped : (other : ℤ × ℤ) → drop k bounds ≡ its_dimension other ∷ drop (suc k) bounds
  dropped other = drop_more bounds k other (omega (arith, before.within)) ∙ ap (λ n. its_dimension other ∷ drop n bounds) (add-one k)

  pub gathered-more
      : (left : Frame) (z : ℤ) (other : ℤ × ℤ) (next : Option ℕ) → ((line : ℕ) → value_off line frame ≡ taken line (Some z) left)
      → next ≡ joined_position (extent (its_dimension other)) (offset_in (its_dimension other) z) position → Gathered bounds first left k next
  gathered-more left z other next taken_off joined =
      record {
        within = omega (arith, before.within);
        later = z ∷ before.later;
        off = off-more left z taken_off;
        some = λ one. joined ∙ (ap join (before.some one) ∙ sym (ap (λ later. position_in later (z ∷ before.later)) (dropped other)));
        none = λ zero_elements.
            joined ∙ (ap join (before.none zero_elements) ∙ joined-none (extent (its_dimension other)) (offset_in (its_dimension other) z));
      }
    where
      join : Option ℕ → Option ℕ
      join others = joined_position (extent (its_dimension other)) (offset_in (its_dimension other) z) others

  -- The dimensions have room for one more of the later positions.
  pub gathered-room
      : (other : ℤ × ℤ) → elements_in bounds ≤ 4194304 → (others : ℕ) → position ≡ Some others
      → extent (its_dimension other) * (others + 1) ≤ 4194304
  gathered-room other few others is = by (elements_in bounds) refl
    where
      by : (elements : ℕ) → elements_in bounds ≡ elements → extent (its_dimension other) * (others + 1) ≤ 4194304
      by zero none = absurd (none-some others (sym (before.none none) ∙ is))
      by (suc elements) count =
          let one : 1 ≤ elements_in bounds = omega (arith, count) in
          let less = position-less (drop (suc k) bounds) before.later others (sym (before.some one) ∙ is) in
          let whole : extent (its_dimension other) * elements_in (drop (suc k) bounds) ≤ elements_in bounds = rw (dropped other) at (elements-later k bounds one) in
          let more : extent (its_dimension other) * (others + 1) ≤ extent (its_dimension other) * elements_in (drop (suc k) bounds) =
          mul-le-mul_left (extent (its_dimension other)) (omega (arith, less)) in
          omega (arith, more, whole, few)

-- ---- at last

-- Where no element has these subscripts.
pub gathered-out
    : (bounds : Bounds) (first frame : Frame) (position : Option ℕ) → Gathered bounds first frame 0 position → position ≡ None → (line : ℕ)
    → subscripts_off line bounds first ≡ faulty FaultKind.Subscript line
gathered-out bounds first frame position gathered out line = gathered.off line ∙ ap (λ p. within_bounds line p >>= (λ at. give (at, frame))) (by (elements_in bounds) refl)
  where
    by : (elements : ℕ) → elements_in bounds ≡ elements → position_in bounds gathered.later ≡ None
    by zero none = no-position bounds gathered.later none
    by (suc elements) count = sym (gathered.some (omega (arith, count))) ∙ out

-- ---- what the machine makes of them

pub positioned-subscripts
    : (line : ℕ) (bounds : Bounds) (frame : Frame)
    → positioned line (Some bounds) frame ≡ (subscripts_off line bounds frame >>= (λ (position, left). give (pushed (Item.Position position) left)))
positioned-subscripts line bounds frame =
    sym
    (sequence-then (values_off line (length bounds) frame) (named line bounds) push
    ∙ (λ i.
    sequence (values_off line (length bounds) frame)
    (λ w. sequence-then (within_bounds line (position_in bounds w.0)) (λ at. give (at, w.1)) push i)))
  where
    push : ℕ × Frame → Computing Frame
    push (position, left) = give (pushed (Item.Position position) left)
