-- What is read of statements ahead is what stands there, and what is left behind it can be read on.
use Rattle.std.proofs.Common.{◌≡◌, true, false, List, [], ◌∷◌, ◌++◌, map, Option, None, Some, refl, sym, ap, subst, ◌∙◌, append_assoc}
use Rattle.std.proofs.lemmas.Bool.{false≢true}
use Rattle.std.proofs.lemmas.List.{append-nil, map-append}
use Rattle.dc_tree.specs.declared.program.Lined.{Lined}
use Rattle.dc_tree.specs.declared.program.Block.{Block, roll-Block}
use Rattle.dc_tree.specs.declared.program.Node.{Node, Plain, If, Select, Loop}
use Rattle.dc_tree.specs.declared.program.Part.{Part, roll-Part, fold_out-Part}
use Rattle.dc_tree.specs.Blocks.{Line, Item, Items, Arms, plain, branch, select, loop, none, and_then, no_arms, arm, items_from, arms_from, line_of, item, items, part_items, item_step, items_step, part_step}
use Rattle.dc_tree.specs.Listing.{item_lines, lines_of, arm_lines}
use Rattle.dc_tree.proofs.Views.{items-Block, item-Plain, item-If, item-Select, item-Loop, part_items-Part}
use Rattle.dc_nest.specs.declared.form.Form.{Form}
use Rattle.dc_nest.specs.Nested.{form_of, Is, IsNestedItem, AreNested, AreArms}
use Rattle.dc_nest.specs.Ahead.{next_form, begins_node, is_node_next, ReadsItem, ReadsBlock, ReadsPart, ReadsArms, AddsArms, ItemAhead, BlockAhead, PartAhead, ArmsAhead}
use Rattle.dc_nest.proofs.Unique.{BeginsNone, Stops, item_form, begins, same-first, same-rest, some-form, one-block, one-item, one-arms, Behind}

-- ---- which statement is next

pub some-ahead : (line : Line) (rest list : List Line) → list ≡ line ∷ rest → list ≡ [] → ⊥
some-ahead line rest list same empty = let no : [] ≡ line ∷ rest = sym empty ∙ same in cc

stops-form : (form : Form) → begins_node form ≡ false → BeginsNone form
stops-form Form.Acts is = absurd (false≢true (sym is))
stops-form Form.BeginsIf is = absurd (false≢true (sym is))
stops-form Form.BeginsSelect is = absurd (false≢true (sym is))
stops-form Form.BeginsLoop is = absurd (false≢true (sym is))
stops-form _ is = tt

pub stops-of : (list : List Line) → is_node_next list ≡ false → Stops list
stops-of [] is = tt
stops-of (line ∷ rest) is = stops-form (form_of line.says) is

-- The next statement is the first one of a node that is ahead.
item-next : (item : Item) (rest list : List Line) → ReadsItem item list rest → next_form list ≡ Some (item_form item)
item-next item rest list reads =
    let one = begins item rest reads.nested in
    ap next_form (sym reads.lines ∙ one.lines) ∙ ap Some one.is

form-begins : (item : Item) → begins_node (item_form item) ≡ true
form-begins (plain line) = refl
form-begins (branch arms close) = refl
form-begins (select head arms close) = refl
form-begins (loop head body close) = refl

pub item-begins : (item : Item) (rest list : List Line) → ReadsItem item list rest → is_node_next list ≡ true
item-begins item rest list reads =
    let one = begins item rest reads.nested in
    ap is_node_next (sym reads.lines ∙ one.lines) ∙ ap begins_node one.is ∙ form-begins item

pub item-some : (list : List Line) → ItemAhead list → list ≡ [] → ⊥
item-some list ahead empty =
    let one = begins ahead.item ahead.after ahead.reads.nested in
    some-ahead one.first one.behind list (sym ahead.reads.lines ∙ one.lines) empty

same-form : (item : Item) (rest list : List Line) (form : Form) → ReadsItem item list rest → next_form list ≡ Some form → item_form item ≡ form
same-form item rest list form reads next = some-form (item_form item) form (sym (item-next item rest list reads) ∙ next)

head-is : (head : Line) (more list : List Line) (form : Form) → head ∷ more ≡ list → next_form list ≡ Some form → Is form head
head-is head more list form same next = some-form (form_of head.says) form (ap next_form same ∙ next)

-- a statement that begins no node, in front of others
no-node : (form : Form) (line : Line) (rest : List Line) → begins_node form ≡ false → Is form line → is_node_next (line ∷ rest) ≡ false
no-node form line rest stops is = ap begins_node is ∙ stops

arms-no-node : (wanted : Form) (arms : Arms) (rest : List Line) → begins_node wanted ≡ false → AreArms wanted arms → is_node_next rest ≡ false → is_node_next (arm_lines arms ++ rest) ≡ false
arms-no-node wanted no_arms rest stops nested ends = ends
arms-no-node wanted (arm head body arms) rest stops nested ends = no-node wanted head ((lines_of body ++ arm_lines arms) ++ rest) stops nested.0

pub next-some : (list : List Line) (form : Form) → next_form list ≡ Some form → list ≡ [] → ⊥
next-some list form next empty = let no : ◌≡◌ {A = Option Form} None (Some form) = ap next_form (sym empty) ∙ next in cc

-- ---- blocks

split-item : (body : Items) (after list : List Line) → ReadsBlock body list after → is_node_next list ≡ true → ItemAhead list
split-item none after list reads next = absurd (false≢true (sym reads.ends ∙ ap is_node_next reads.lines ∙ next))
split-item (and_then first rest) after list reads next = record {
  item = first;
  after = lines_of rest ++ after;
  reads = record { nested = reads.nested.0; lines = sym (append_assoc (item_lines first) (lines_of rest) after) ∙ reads.lines };
}

-- In a block the next node can be read, if there is one.
pub block-item : (list : List Line) → BlockAhead list → is_node_next list ≡ true → ItemAhead list
block-item list ahead next = split-item ahead.body ahead.after list ahead.reads next

split-rest : (body : Items) (after list left : List Line) (read : Item) → ReadsBlock body list after → is_node_next list ≡ true → ReadsItem read list left → BlockAhead left
split-rest none after list left read reads next one = absurd (false≢true (sym reads.ends ∙ ap is_node_next reads.lines ∙ next))
split-rest (and_then first rest) after list left read reads next one =
    let lines = sym (append_assoc (item_lines first) (lines_of rest) after) ∙ reads.lines ∙ sym one.lines in
    let same = one-item first read (lines_of rest ++ after) left reads.nested.0 one.nested lines in
    record { body = rest; after = after; reads = record { nested = reads.nested.1; ends = reads.ends; lines = same.1 } }

pub block-rest : (list left : List Line) (read : Item) → BlockAhead list → is_node_next list ≡ true → ReadsItem read list left → BlockAhead left
block-rest list left read ahead next one = split-rest ahead.body ahead.after list left read ahead.reads next one

-- the nodes that were read of a block so far
pub record HasRead (nodes : List Node) (before now : List Line) : Type 0 where
  pub nested : AreNested (items_from (map item nodes))
  pub lines : lines_of (items_from (map item nodes)) ++ now ≡ before

pub none-read : (list : List Line) → HasRead [] list list
none-read list = record { nested = tt; lines = refl }

items-append : (xs ys : List Item) → lines_of (items_from (xs ++ ys)) ≡ lines_of (items_from xs) ++ lines_of (items_from ys)
items-append [] ys = refl
items-append (x ∷ xs) ys = ap (λ rest. item_lines x ++ rest) (items-append xs ys) ∙ sym (append_assoc (item_lines x) (lines_of (items_from xs)) (lines_of (items_from ys)))

nested-append : (xs : List Item) (x : Item) → AreNested (items_from xs) → IsNestedItem x → AreNested (items_from (xs ++ x ∷ []))
nested-append [] x all new = (new, tt)
nested-append (first ∷ rest) x all new = (all.0, nested-append rest x all.1 new)

pub one-read : (nodes : List Node) (node : Node) (before now left : List Line) → HasRead nodes before now → ReadsItem (item node) now left → HasRead (nodes ++ node ∷ []) before left
one-read nodes node before now left read one =
    let Nested : List Item → Type 0 = λ list. AreNested (items_from list) in
    let one_more = sym (map-append item nodes (node ∷ [])) in
    record {
      nested = subst Nested one_more (nested-append (map item nodes) (item node) read.nested one.nested);
      lines =
          ap (λ list. lines_of (items_from list) ++ left) (map-append item nodes (node ∷ []))
          ∙ ap (λ lines. lines ++ left) (items-append (map item nodes) (item node ∷ []) ∙ ap (λ lines. lines_of (items_from (map item nodes)) ++ lines) (append-nil (item_lines (item node))))
          ∙ append_assoc (lines_of (items_from (map item nodes))) (item_lines (item node)) left
          ∙ ap (λ lines. lines_of (items_from (map item nodes)) ++ lines) one.lines
          ∙ read.lines;
    }

pub block-read : (nodes : List Node) (before now : List Line) → HasRead nodes before now → is_node_next now ≡ false → ReadsBlock (items (roll-Block (record { nodes = nodes }))) before now
block-read nodes before now read ends =
    subst (λ body. ReadsBlock body before now) (sym (items-Block nodes)) (record { nested = read.nested; ends = ends; lines = read.lines })

pub plain-read : (list : List Line) (lined : Lined) (rest : List Line) → ItemAhead list → (next_form list ≡ Some Form.BeginsIf → ⊥) → (next_form list ≡ Some Form.BeginsSelect → ⊥) → (next_form list ≡ Some Form.BeginsLoop → ⊥)
    → list ≡ line_of lined ∷ rest → ReadsItem (item (Plain lined)) list rest
plain-read list lined rest ahead no_if no_select no_loop taken = plain-is ahead.item ahead.after ahead.reads
  where
    plain-is : (one : Item) (after : List Line) → ReadsItem one list after → ReadsItem (item (Plain lined)) list rest
    plain-is (plain line) after reads =
        let is : Is Form.Acts (line_of lined) = ap (λ (l : Line). form_of l.says) (same-first (line_of lined) line rest after (sym taken ∙ sym reads.lines)) ∙ reads.nested in
        subst (λ one. ReadsItem one list rest) (sym (item-Plain lined)) (record { nested = is; lines = sym taken })
    plain-is (branch arms close) after reads = absurd (no_if (item-next (branch arms close) after list reads))
    plain-is (select head arms close) after reads = absurd (no_select (item-next (select head arms close) after list reads))
    plain-is (loop head body close) after reads = absurd (no_loop (item-next (loop head body close) after list reads))

-- ---- arms, and loops without their ends

pub one-part : (a b : Line × Items) (list r s : List Line) → ReadsPart a list r → ReadsPart b list s → (a ≡ b) × (r ≡ s)
one-part a b list r s reads other =
    let lines = reads.lines ∙ sym other.lines in
    let head = same-first a.0 b.0 (lines_of a.1 ++ r) (lines_of b.1 ++ s) lines in
    let body = one-block a.1 b.1 r s reads.nested other.nested (stops-of r reads.ends) (stops-of s other.ends) (same-rest a.0 b.0 (lines_of a.1 ++ r) (lines_of b.1 ++ s) lines) in
    ((λ i. (head i, body.0 i)), body.1)

-- behind the head of an arm
pub part-block : (list rest : List Line) (head : Line) → PartAhead list → list ≡ head ∷ rest → BlockAhead rest
part-block list rest head ahead taken = record {
  body = ahead.part.1;
  after = ahead.after;
  reads = record {
    nested = ahead.reads.nested;
    ends = ahead.reads.ends;
    lines = same-rest ahead.part.0 head (lines_of ahead.part.1 ++ ahead.after) rest (ahead.reads.lines ∙ taken);
  };
}

pub part-some : (list : List Line) → PartAhead list → list ≡ [] → ⊥
part-some list ahead empty = some-ahead ahead.part.0 (lines_of ahead.part.1 ++ ahead.after) list (sym ahead.reads.lines) empty

pub part-read : (list rest left : List Line) (head : Lined) (body : Block) → list ≡ line_of head ∷ rest → ReadsBlock (items body) rest left
    → ReadsPart (part_items (roll-Part (record { head = head; body = body }))) list left
part-read list rest left head body taken reads =
    subst (λ part. ReadsPart part list left) (sym (part_items-Part head body))
    (record { nested = reads.nested; ends = reads.ends; lines = ap (λ lines. line_of head ∷ lines) reads.lines ∙ sym taken })

-- ---- loops

pub part-fields : (part : Part) → part_items part ≡ (line_of part.head, items part.body)
part-fields part = fold_out-Part Item Items (Line × Items) item_step items_step part_step part

record LoopAhead (list : List Line) : Type 0 where
  head : Line
  body : Items
  close : Line
  after : List Line
  nested : AreNested body
  closes : Is Form.EndsLoop close
  lines : head ∷ (lines_of body ++ close ∷ after) ≡ list

loop-ahead : (list : List Line) → ItemAhead list → next_form list ≡ Some Form.BeginsLoop → LoopAhead list
loop-ahead list ahead next = by_item ahead.item ahead.after ahead.reads
  where
    by_item : (one : Item) (after : List Line) → ReadsItem one list after → LoopAhead list
    by_item (loop head body close) after reads = record {
      head = head;
      body = body;
      close = close;
      after = after;
      nested = reads.nested.1;
      closes = reads.nested.2;
      lines = ap (λ lines. head ∷ lines) (sym (append_assoc (lines_of body) (close ∷ []) after)) ∙ reads.lines;
    }
    by_item (plain line) after reads = let no : Form.Acts ≡ Form.BeginsLoop = same-form (plain line) after list Form.BeginsLoop reads next in cc
    by_item (branch arms close) after reads = let no : Form.BeginsIf ≡ Form.BeginsLoop = same-form (branch arms close) after list Form.BeginsLoop reads next in cc
    by_item (select head arms close) after reads = let no : Form.BeginsSelect ≡ Form.BeginsLoop = same-form (select head arms close) after list Form.BeginsLoop reads next in cc

loop-reads : (list : List Line) (ahead : LoopAhead list) → ReadsPart (ahead.head, ahead.body) list (ahead.close ∷ ahead.after)
loop-reads list ahead = record { nested = ahead.nested; ends = no-node Form.EndsLoop ahead.close ahead.after refl ahead.closes; lines = ahead.lines }

pub loop-part : (list : List Line) → ItemAhead list → next_form list ≡ Some Form.BeginsLoop → PartAhead list
loop-part list ahead next =
    let one = loop-ahead list ahead next in
    record { part = (one.head, one.body); after = one.close ∷ one.after; reads = loop-reads list one }

pub loop-some : (list left : List Line) (part : Line × Items) → ItemAhead list → next_form list ≡ Some Form.BeginsLoop → ReadsPart part list left → left ≡ [] → ⊥
loop-some list left part ahead next reads empty =
    let one = loop-ahead list ahead next in
    some-ahead one.close one.after left (sym (one-part (one.head, one.body) part list (one.close ∷ one.after) left (loop-reads list one) reads).1) empty

pub loop-read : (list left rest : List Line) (head : Lined) (body : Block) (close : Lined) → ItemAhead list → next_form list ≡ Some Form.BeginsLoop
    → ReadsPart (line_of head, items body) list left → left ≡ line_of close ∷ rest → ReadsItem (item (Loop head body close)) list rest
loop-read list left rest head body close ahead next reads taken =
    let one = loop-ahead list ahead next in
    let same = (one-part (one.head, one.body) (line_of head, items body) list (one.close ∷ one.after) left (loop-reads list one) reads).1 in
    let closes : Is Form.EndsLoop (line_of close) = subst (Is Form.EndsLoop) (same-first one.close (line_of close) one.after rest (same ∙ taken)) one.closes in
    subst (λ item. ReadsItem item list rest) (sym (item-Loop head body close)) (record {
      nested = (head-is (line_of head) (lines_of (items body) ++ left) list Form.BeginsLoop reads.lines next, reads.nested, closes);
      lines =
          ap (λ lines. line_of head ∷ lines) (append_assoc (lines_of (items body)) (line_of close ∷ []) rest ∙ ap (λ lines. lines_of (items body) ++ lines) (sym taken))
          ∙ reads.lines;
    })

-- ---- arms of one kind

pub behind-of : (wanted : Form) (arms : Arms) (list after : List Line) → ReadsArms wanted arms list after → Behind wanted after
behind-of wanted arms list after reads = record { stops = stops-of after reads.ends; other = reads.other }

split-part : (wanted : Form) (arms : Arms) (list after : List Line) → begins_node wanted ≡ false → ReadsArms wanted arms list after → next_form list ≡ Some wanted → PartAhead list
split-part wanted no_arms list after apart reads next = absurd (reads.other (ap next_form reads.lines ∙ next))
split-part wanted (arm head body arms) list after apart reads next = record {
  part = (head, body);
  after = arm_lines arms ++ after;
  reads = record {
    nested = reads.nested.1;
    ends = arms-no-node wanted arms after apart reads.nested.2 reads.ends;
    lines = ap (λ lines. head ∷ lines) (sym (append_assoc (lines_of body) (arm_lines arms) after)) ∙ reads.lines;
  };
}

pub arms-part : (wanted : Form) (list : List Line) → ArmsAhead wanted list → next_form list ≡ Some wanted → PartAhead list
arms-part wanted list ahead next = split-part wanted ahead.arms list ahead.after ahead.apart ahead.reads next

split-arms : (wanted : Form) (arms : Arms) (part : Line × Items) (list after left : List Line) → begins_node wanted ≡ false → ReadsArms wanted arms list after → next_form list ≡ Some wanted
    → ReadsPart part list left → ArmsAhead wanted left
unfolding split-part
split-arms wanted no_arms part list after left apart reads next one = absurd (reads.other (ap next_form reads.lines ∙ next))
split-arms wanted (arm head body arms) part list after left apart reads next one =
    let first = split-part wanted (arm head body arms) list after apart reads next in
    let same = (one-part (head, body) part list (arm_lines arms ++ after) left first.reads one).1 in
    record { apart = apart; arms = arms; after = after; reads = record { nested = reads.nested.2; ends = reads.ends; other = reads.other; lines = same } }

pub arms-rest : (wanted : Form) (part : Line × Items) (list left : List Line) → ArmsAhead wanted list → next_form list ≡ Some wanted → ReadsPart part list left → ArmsAhead wanted left
arms-rest wanted part list left ahead next one = split-arms wanted ahead.arms part list ahead.after left ahead.apart ahead.reads next one

-- the arms that were read so far, behind others
pub record HasArms (wanted : Form) (arms made : List (Line × Items)) (before now : List Line) : Type 0 where
  pub added : List (Line × Items)
  pub is : made ≡ arms ++ added
  pub nested : AreArms wanted (arms_from added)
  pub lines : arm_lines (arms_from added) ++ now ≡ before

pub no-arms : (wanted : Form) (arms : List (Line × Items)) (list : List Line) → HasArms wanted arms arms list list
no-arms wanted arms list = record { added = []; is = sym (append-nil arms); nested = tt; lines = refl }

arms-append : (xs : List (Line × Items)) (x : Line × Items) (rest : List Line) → arm_lines (arms_from (xs ++ x ∷ [])) ++ rest ≡ arm_lines (arms_from xs) ++ (x.0 ∷ (lines_of x.1 ++ rest))
arms-append [] x rest = ap (λ lines. x.0 ∷ (lines ++ rest)) (append-nil (lines_of x.1))
arms-append (first ∷ xs) x rest =
    ap (λ lines. first.0 ∷ lines)
    (append_assoc (lines_of first.1) (arm_lines (arms_from (xs ++ x ∷ []))) rest
    ∙ ap (λ lines. lines_of first.1 ++ lines) (arms-append xs x rest)
    ∙ sym (append_assoc (lines_of first.1) (arm_lines (arms_from xs)) (x.0 ∷ (lines_of x.1 ++ rest))))

arms-push : (wanted : Form) (xs : List (Line × Items)) (x : Line × Items) → AreArms wanted (arms_from xs) → Is wanted x.0 → AreNested x.1 → AreArms wanted (arms_from (xs ++ x ∷ []))
arms-push wanted [] x all is nested = (is, nested, tt)
arms-push wanted (first ∷ xs) x all is nested = (all.0, all.1, arms-push wanted xs x all.2 is nested)

pub one-arm : (wanted : Form) (arms : List (Line × Items)) (made : List Part) (part : Part) (before now left : List Line) → HasArms wanted arms (map part_items made) before now
    → next_form now ≡ Some wanted → ReadsPart (part_items part) now left → HasArms wanted arms (map part_items (made ++ part ∷ [])) before left
one-arm wanted arms made part before now left has next reads =
    let one = part_items part in
    record {
      added = has.added ++ one ∷ [];
      is = map-append part_items made (part ∷ []) ∙ ap (λ list. list ++ one ∷ []) has.is ∙ append_assoc arms has.added (one ∷ []);
      nested = arms-push wanted has.added one has.nested (head-is one.0 (lines_of one.1 ++ left) now wanted reads.lines next) reads.nested;
      lines = arms-append has.added one left ∙ ap (λ lines. arm_lines (arms_from has.added) ++ lines) reads.lines ∙ has.lines;
    }

arms-end : (wanted : Form) (arms : Arms) (list after : List Line) → ReadsArms wanted arms list after → (next_form list ≡ Some wanted → ⊥) → is_node_next list ≡ false
arms-end wanted no_arms list after reads other = ap is_node_next (sym reads.lines) ∙ reads.ends
arms-end wanted (arm head body arms) list after reads other = absurd (other (ap next_form (sym reads.lines) ∙ ap Some reads.nested.0))

pub arms-read : (wanted : Form) (arms made : List (Line × Items)) (before now : List Line) → HasArms wanted arms made before now → ArmsAhead wanted now → (next_form now ≡ Some wanted → ⊥)
    → AddsArms wanted arms made before now
arms-read wanted arms made before now has ahead other = record {
  added = has.added;
  is = has.is;
  reads = record { nested = has.nested; ends = arms-end wanted ahead.arms now ahead.after ahead.reads other; other = other; lines = has.lines };
}

-- ---- IF constructs

record BranchAhead (list : List Line) : Type 0 where
  head : Line
  body : Items
  arms : Arms
  close : Line
  after : List Line
  nested : AreNested body
  further : AreArms Form.BeginsElse arms
  closes : Is Form.EndsIf close
  lines : head ∷ (lines_of body ++ (arm_lines arms ++ close ∷ after)) ≡ list

branch-ahead : (list : List Line) → ItemAhead list → next_form list ≡ Some Form.BeginsIf → BranchAhead list
branch-ahead list ahead next = by_item ahead.item ahead.after ahead.reads
  where
    by_item : (one : Item) (after : List Line) → ReadsItem one list after → BranchAhead list
    by_item (branch no_arms close) after reads = absurd reads.nested.0
    by_item (branch (arm head body arms) close) after reads = record {
      head = head;
      body = body;
      arms = arms;
      close = close;
      after = after;
      nested = reads.nested.0.1;
      further = reads.nested.0.2;
      closes = reads.nested.1;
      lines =
          ap (λ lines. head ∷ lines)
          (sym (append_assoc (lines_of body) (arm_lines arms) (close ∷ after)) ∙ sym (append_assoc (lines_of body ++ arm_lines arms) (close ∷ []) after))
          ∙ reads.lines;
    }
    by_item (plain line) after reads = let no : Form.Acts ≡ Form.BeginsIf = same-form (plain line) after list Form.BeginsIf reads next in cc
    by_item (select head arms close) after reads = let no : Form.BeginsSelect ≡ Form.BeginsIf = same-form (select head arms close) after list Form.BeginsIf reads next in cc
    by_item (loop head body close) after reads = let no : Form.BeginsLoop ≡ Form.BeginsIf = same-form (loop head body close) after list Form.BeginsIf reads next in cc

end-not-else : Form.EndsIf ≡ Form.BeginsElse → ⊥
end-not-else same = cc

end-not-case : Form.EndsSelect ≡ Form.BeginsCase → ⊥
end-not-case same = cc

-- the arms up to the end of a construct
arms-ahead : (wanted ending : Form) (arms : Arms) (close : Line) (after list : List Line) → begins_node wanted ≡ false → begins_node ending ≡ false → (ending ≡ wanted → ⊥) → AreArms wanted arms → Is ending close
    → arm_lines arms ++ close ∷ after ≡ list → ArmsAhead wanted list
arms-ahead wanted ending arms close after list apart stops other nested closes lines = record {
  apart = apart;
  arms = arms;
  after = close ∷ after;
  reads = record {
    nested = nested;
    ends = no-node ending close after stops closes;
    other = λ same. other (some-form ending wanted (ap Some (sym closes) ∙ same));
    lines = lines;
  };
}

branch-reads : (list : List Line) (one : BranchAhead list) → ReadsPart (one.head, one.body) list (arm_lines one.arms ++ one.close ∷ one.after)
branch-reads list one = record {
  nested = one.nested;
  ends = arms-no-node Form.BeginsElse one.arms (one.close ∷ one.after) refl one.further (no-node Form.EndsIf one.close one.after refl one.closes);
  lines = one.lines;
}

pub branch-part : (list : List Line) → ItemAhead list → next_form list ≡ Some Form.BeginsIf → PartAhead list
branch-part list ahead next =
    let one = branch-ahead list ahead next in
    record { part = (one.head, one.body); after = arm_lines one.arms ++ one.close ∷ one.after; reads = branch-reads list one }

-- behind the first arm
branch-lines : (list left : List Line) (one : BranchAhead list) (part : Line × Items) → ReadsPart part list left → arm_lines one.arms ++ one.close ∷ one.after ≡ left
branch-lines list left one part reads = (one-part (one.head, one.body) part list (arm_lines one.arms ++ one.close ∷ one.after) left (branch-reads list one) reads).1

branch-further : (list left : List Line) (one : BranchAhead list) (part : Line × Items) → ReadsPart part list left → ArmsAhead Form.BeginsElse left
branch-further list left one part reads =
    arms-ahead Form.BeginsElse Form.EndsIf one.arms one.close one.after left refl refl end-not-else one.further one.closes (branch-lines list left one part reads)

pub branch-arms : (list left : List Line) (part : Line × Items) → ItemAhead list → next_form list ≡ Some Form.BeginsIf → ReadsPart part list left → ArmsAhead Form.BeginsElse left
branch-arms list left part ahead next reads = branch-further list left (branch-ahead list ahead next) part reads

-- What is left behind the last arm is the end.
same-end : (wanted ending : Form) (arms read : Arms) (close : Line) (after list left : List Line) → BeginsNone wanted → begins_node ending ≡ false → (ending ≡ wanted → ⊥) → AreArms wanted arms → Is ending close
    → arm_lines arms ++ close ∷ after ≡ list → ReadsArms wanted read list left → close ∷ after ≡ left
same-end wanted ending arms read close after list left begins_none stops other nested closes lines reads =
    let behind : Behind wanted (close ∷ after) =
    record { stops = stops-of (close ∷ after) (no-node ending close after stops closes); other = λ same. other (some-form ending wanted (ap Some (sym closes) ∙ same)) } in
    (one-arms wanted arms read (close ∷ after) left begins_none nested reads.nested behind (behind-of wanted read list left reads) (lines ∙ sym reads.lines)).1

branch-end : (list left last : List Line) (one : BranchAhead list) (part : Line × Items) (arms made : List (Line × Items)) → ReadsPart part list left
    → AddsArms Form.BeginsElse arms made left last → one.close ∷ one.after ≡ last
branch-end list left last one part arms made reads adds =
    same-end Form.BeginsElse Form.EndsIf one.arms (arms_from adds.added) one.close one.after left last tt refl end-not-else one.further one.closes (branch-lines list left one part reads) adds.reads

pub branch-some : (list left last : List Line) (part : Line × Items) (arms made : List (Line × Items)) → ItemAhead list → next_form list ≡ Some Form.BeginsIf → ReadsPart part list left
    → AddsArms Form.BeginsElse arms made left last → last ≡ [] → ⊥
branch-some list left last part arms made ahead next reads adds empty =
    let one = branch-ahead list ahead next in
    some-ahead one.close one.after last (sym (branch-end list left last one part arms made reads adds)) empty

pub branch-read : (list left last rest : List Line) (part : Line × Items) (made : List Part) (close : Lined) → ItemAhead list → next_form list ≡ Some Form.BeginsIf → ReadsPart part list left
    → AddsArms Form.BeginsElse (part ∷ []) (map part_items made) left last → last ≡ line_of close ∷ rest → ReadsItem (item (If made close)) list rest
branch-read list left last rest part made close ahead next reads adds taken =
    let one = branch-ahead list ahead next in
    let end = branch-end list left last one part (part ∷ []) (map part_items made) reads adds in
    let closes : Is Form.EndsIf (line_of close) = subst (Is Form.EndsIf) (same-first one.close (line_of close) one.after rest (end ∙ taken)) one.closes in
    let added = arms_from adds.added in
    let whole : item (If made close) ≡ branch (arm part.0 part.1 added) (line_of close) = item-If made close ∙ ap (λ list. branch (arms_from list) (line_of close)) adds.is in
    subst (λ item. ReadsItem item list rest) (sym whole) (record {
      nested = ((head-is part.0 (lines_of part.1 ++ left) list Form.BeginsIf reads.lines next, reads.nested, adds.reads.nested), closes);
      lines =
          ap (λ lines. part.0 ∷ lines)
          (append_assoc (lines_of part.1 ++ arm_lines added) (line_of close ∷ []) rest
          ∙ append_assoc (lines_of part.1) (arm_lines added) (line_of close ∷ rest)
          ∙ ap (λ lines. lines_of part.1 ++ lines) (ap (λ lines. arm_lines added ++ lines) (sym taken) ∙ adds.reads.lines))
          ∙ reads.lines;
    })

-- ---- SELECT CASE constructs

record SelectAhead (list : List Line) : Type 0 where
  head : Line
  arms : Arms
  close : Line
  after : List Line
  nested : AreArms Form.BeginsCase arms
  closes : Is Form.EndsSelect close
  lines : head ∷ (arm_lines arms ++ close ∷ after) ≡ list

select-ahead : (list : List Line) → ItemAhead list → next_form list ≡ Some Form.BeginsSelect → SelectAhead list
select-ahead list ahead next = by_item ahead.item ahead.after ahead.reads
  where
    by_item : (one : Item) (after : List Line) → ReadsItem one list after → SelectAhead list
    by_item (select head arms close) after reads = record {
      head = head;
      arms = arms;
      close = close;
      after = after;
      nested = reads.nested.1;
      closes = reads.nested.2;
      lines = ap (λ lines. head ∷ lines) (sym (append_assoc (arm_lines arms) (close ∷ []) after)) ∙ reads.lines;
    }
    by_item (plain line) after reads = let no : Form.Acts ≡ Form.BeginsSelect = same-form (plain line) after list Form.BeginsSelect reads next in cc
    by_item (branch arms close) after reads = let no : Form.BeginsIf ≡ Form.BeginsSelect = same-form (branch arms close) after list Form.BeginsSelect reads next in cc
    by_item (loop head body close) after reads = let no : Form.BeginsLoop ≡ Form.BeginsSelect = same-form (loop head body close) after list Form.BeginsSelect reads next in cc

select-lines : (list rest : List Line) (one : SelectAhead list) (head : Line) → list ≡ head ∷ rest → arm_lines one.arms ++ one.close ∷ one.after ≡ rest
select-lines list rest one head taken = same-rest one.head head (arm_lines one.arms ++ one.close ∷ one.after) rest (one.lines ∙ taken)

pub select-arms : (list rest : List Line) (head : Line) → ItemAhead list → next_form list ≡ Some Form.BeginsSelect → list ≡ head ∷ rest → ArmsAhead Form.BeginsCase rest
select-arms list rest head ahead next taken =
    let one = select-ahead list ahead next in
    arms-ahead Form.BeginsCase Form.EndsSelect one.arms one.close one.after rest refl refl end-not-case one.nested one.closes (select-lines list rest one head taken)

select-end : (list rest last : List Line) (one : SelectAhead list) (head : Line) (arms made : List (Line × Items)) → list ≡ head ∷ rest → AddsArms Form.BeginsCase arms made rest last → one.close ∷ one.after ≡ last
select-end list rest last one head arms made taken adds =
    same-end Form.BeginsCase Form.EndsSelect one.arms (arms_from adds.added) one.close one.after rest last tt refl end-not-case one.nested one.closes (select-lines list rest one head taken) adds.reads

pub select-some : (list rest last : List Line) (head : Line) (arms made : List (Line × Items)) → ItemAhead list → next_form list ≡ Some Form.BeginsSelect → list ≡ head ∷ rest
    → AddsArms Form.BeginsCase arms made rest last → last ≡ [] → ⊥
select-some list rest last head arms made ahead next taken adds empty =
    let one = select-ahead list ahead next in
    some-ahead one.close one.after last (sym (select-end list rest last one head arms made taken adds)) empty

pub select-read : (list rest last behind : List Line) (head : Lined) (made : List Part) (close : Lined) → ItemAhead list → next_form list ≡ Some Form.BeginsSelect → list ≡ line_of head ∷ rest
    → AddsArms Form.BeginsCase [] (map part_items made) rest last → last ≡ line_of close ∷ behind → ReadsItem (item (Select head made close)) list behind
select-read list rest last behind head made close ahead next taken adds ended =
    let one = select-ahead list ahead next in
    let end = select-end list rest last one (line_of head) [] (map part_items made) taken adds in
    let closes : Is Form.EndsSelect (line_of close) = subst (Is Form.EndsSelect) (same-first one.close (line_of close) one.after behind (end ∙ ended)) one.closes in
    let added = arms_from adds.added in
    let whole : item (Select head made close) ≡ select (line_of head) added (line_of close) =
    item-Select head made close ∙ ap (λ list. select (line_of head) (arms_from list) (line_of close)) adds.is in
    subst (λ item. ReadsItem item list behind) (sym whole) (record {
      nested = (head-is (line_of head) rest list Form.BeginsSelect (sym taken) next, adds.reads.nested, closes);
      lines =
          ap (λ lines. line_of head ∷ lines)
          (append_assoc (arm_lines added) (line_of close ∷ []) behind ∙ ap (λ lines. arm_lines added ++ lines) (sym ended) ∙ adds.reads.lines)
          ∙ sym taken;
    })
