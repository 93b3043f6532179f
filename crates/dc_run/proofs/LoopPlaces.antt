-- The loops of a main program by their places.
use Rattle.std.proofs.Common.{◌≡◌, ◌+◌, ◌<◌, ℕ, zero, suc, List, [], ◌∷◌, map, length, Some, refl, sym, ap, subst, ◌∙◌, arith}
use Rattle.std.proofs.lemmas.List.{length-map}
use Rattle.std.proofs.lemmas.Option.{none-some, same_Some, slice_get_within}
use Rattle.std.specs.Prelude.{slice_get, option_map}
use Rattle.dc_tree.specs.declared.program.Block.{Block}
use Rattle.dc_tree.specs.declared.program.Lined.{Lined}
use Rattle.dc_tree.specs.declared.program.Node.{Node, Plain, If, Select, Loop}
use Rattle.dc_tree.specs.declared.program.Part.{Part}
use Rattle.dc_tree.specs.Blocks.{Line, Item, Items, Arms, and_then, plain, branch, select, loop, items_from, item, items, line_of}
use Rattle.dc_tree.proofs.Views.{item-Plain, item-If, item-Select, item-Loop}
use Rattle.dc_meaning.specs.Looping.{nth_loop}
use Rattle.dc_run.specs.LoopPlaces.{loop_places}

-- A loop stands at a place behind so many items.
record StandsAt (before : ℕ) (all : List Item) (number place : ℕ) : Type 0 where
  at : ℕ
  place_is : place ≡ before + at
  head : Line
  body : Items
  close : Line
  there : slice_get all at ≡ Some (loop head body close)
  nth : nth_loop number (items_from all) ≡ Some (head, body)

further : (before : ℕ) (first : Item) (rest : List Item) (number later place : ℕ) → ((head : Line) (body : Items) → nth_loop number (items_from rest) ≡ Some (head, body) → nth_loop later (items_from (first ∷ rest)) ≡ Some (head, body))
    → StandsAt (suc before) rest number place → StandsAt before (first ∷ rest) later place
further before first rest number later place nth found =
    let is : place ≡ suc before + found.at = found.place_is in
    record {
      at = suc found.at;
      place_is = omega (arith, is);
      head = found.head;
      body = found.body;
      close = found.close;
      there = found.there;
      nth = nth found.head found.body found.nth;
    }

over-plain : (number : ℕ) (line : Line) (rest : Items) → nth_loop number (and_then (plain line) rest) ≡ nth_loop number rest
over-plain zero line rest = refl
over-plain (suc number) line rest = refl

over-branch : (number : ℕ) (arms : Arms) (close : Line) (rest : Items) → nth_loop number (and_then (branch arms close) rest) ≡ nth_loop number rest
over-branch zero arms close rest = refl
over-branch (suc number) arms close rest = refl

over-select : (number : ℕ) (head : Line) (arms : Arms) (close : Line) (rest : Items) → nth_loop number (and_then (select head arms close) rest) ≡ nth_loop number rest
over-select zero head arms close rest = refl
over-select (suc number) head arms close rest = refl

stands : (before : ℕ) (all : List Item) (number place : ℕ) → slice_get (loop_places before all) number ≡ Some place → StandsAt before all number place
stands before [] number place found = absurd (none-some place found)
stands before (plain line ∷ rest) number place found =
    further before (plain line) rest number number place (λ head body is. over-plain number line (items_from rest) ∙ is) (stands (suc before) rest number place found)
stands before (branch arms close ∷ rest) number place found =
    further before (branch arms close) rest number number place (λ head body is. over-branch number arms close (items_from rest) ∙ is) (stands (suc before) rest number place found)
stands before (select head arms close ∷ rest) number place found =
    further before (select head arms close) rest number number place (λ head' body is. over-select number head arms close (items_from rest) ∙ is) (stands (suc before) rest number place found)
stands before (loop head body close ∷ rest) zero place found =
    let is : before ≡ place = same_Some before place found in
    record { at = 0; place_is = omega (arith, is); head = head; body = body; close = close; there = refl; nth = refl }
stands before (loop head body close ∷ rest) (suc number) place found =
    further before (loop head body close) rest number (suc number) place (λ head' body' is. is) (stands (suc before) rest number place found)

-- The same by the nodes of a block.
pub record IsLoopAt (nodes : List Node) (number place : ℕ) : Type 0 where
  pub inside : place < length nodes
  pub head : Line
  pub body : Items
  pub close : Line
  pub there : (node : Node) → slice_get nodes place ≡ Some node → item node ≡ loop head body close
  pub nth : nth_loop number (items_from (map item nodes)) ≡ Some (head, body)

slice-map : {A B : Type 0} (f : A → B) (xs : List A) (at : ℕ) → slice_get (map f xs) at ≡ option_map f (slice_get xs at)
slice-map f [] at = refl
slice-map f (x ∷ xs) zero = refl
slice-map f (x ∷ xs) (suc at) = slice-map f xs at

pub loop-at : (nodes : List Node) (number place : ℕ) → slice_get (loop_places 0 (map item nodes)) number ≡ Some place → IsLoopAt nodes number place
loop-at nodes number place found =
    let it = stands 0 (map item nodes) number place found in
    let is : place ≡ 0 + it.at = it.place_is in
    let same : place ≡ it.at = omega (arith, is) in
    let there : slice_get (map item nodes) place ≡ Some (loop it.head it.body it.close) = ap (slice_get (map item nodes)) same ∙ it.there in
    let long : place < length (map item nodes) = slice_get_within (map item nodes) place (loop it.head it.body it.close) there in
    record {
      inside = subst (λ n. place < n) (length-map nodes item) long;
      head = it.head;
      body = it.body;
      close = it.close;
      there = λ node at. same_Some (item node) (loop it.head it.body it.close) (ap (option_map item) (sym at) ∙ sym (slice-map item nodes place) ∙ there);
      nth = it.nth;
    }

same-parts : (one other : Line) (body more : Items) (close end : Line) → loop one body close ≡ loop other more end → ◌≡◌ {A = Line × Items} (one, body) (other, more)
same-parts one other body more close end e = cc

-- What a node at that place is.
pub is-loop : (nodes : List Node) (number place : ℕ) (it : IsLoopAt nodes number place) (node : Node) (head : Lined) (body : Block) (close : Lined) → slice_get nodes place ≡ Some node → node ≡ Loop head body close
    → nth_loop number (items_from (map item nodes)) ≡ Some (line_of head, items body)
is-loop nodes number place it node head body close at is =
    it.nth ∙ ap (λ w. Some w) (same-parts it.head (line_of head) it.body (items body) it.close (line_of close) (sym (it.there node at) ∙ ap item is ∙ item-Loop head body close))

pub no-plain : (nodes : List Node) (number place : ℕ) → IsLoopAt nodes number place → (node : Node) (lined : Lined) → slice_get nodes place ≡ Some node → node ≡ Plain lined → ⊥
no-plain nodes number place it node lined at is = let same = sym (it.there node at) ∙ ap item is ∙ item-Plain lined in absurd (loop-plain _ _ _ _ same)
  where
    loop-plain : (head : Line) (body : Items) (close line : Line) → loop head body close ≡ plain line → ⊥
    loop-plain head body close line e = cc

pub no-branch : (nodes : List Node) (number place : ℕ) → IsLoopAt nodes number place → (node : Node) (arms : List Part) (close : Lined) → slice_get nodes place ≡ Some node → node ≡ If arms close → ⊥
no-branch nodes number place it node arms close at is = let same = sym (it.there node at) ∙ ap item is ∙ item-If arms close in absurd (loop-branch _ _ _ _ _ same)
  where
    loop-branch : (head : Line) (body : Items) (close : Line) (arms : Arms) (end : Line) → loop head body close ≡ branch arms end → ⊥
    loop-branch head body close arms end e = cc

pub no-select : (nodes : List Node) (number place : ℕ) → IsLoopAt nodes number place → (node : Node) (start : Lined) (arms : List Part) (close : Lined) → slice_get nodes place ≡ Some node → node ≡ Select start arms close → ⊥
no-select nodes number place it node start arms close at is = let same = sym (it.there node at) ∙ ap item is ∙ item-Select start arms close in absurd (loop-select _ _ _ _ _ _ same)
  where
    loop-select : (head : Line) (body : Items) (close start : Line) (arms : Arms) (end : Line) → loop head body close ≡ select start arms end → ⊥
    loop-select head body close start arms end e = cc
