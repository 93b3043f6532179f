-- A list of statements is that of one tree at most.
use Rattle.std.proofs.Common.{◌≡◌, ℕ, List, [], ◌∷◌, ◌++◌, All, Option, None, Some, refl, sym, ap, subst, ◌∙◌, append_assoc}
use Rattle.std.specs.Prelude.{flat_map}
use Rattle.std.proofs.lemmas.List.Elements.{All-head, All-tail}
use Rattle.dc_tree.specs.Statements.{contains_line}
use Rattle.dc_tree.specs.Blocks.{Line, Item, Items, Arms, plain, branch, select, loop, none, and_then, no_arms, arm, Subprogram, Source}
use Rattle.dc_tree.specs.Listing.{item_lines, lines_of, arm_lines, contains_lines, subprogram_lines, listed}
use Rattle.dc_nest.specs.declared.form.Form.{Form}
use Rattle.dc_nest.specs.Ahead.{next_form}
use Rattle.dc_nest.specs.Nested.{form_of, Is, IsNestedItem, AreNested, IsBranch, AreArms, IsNestedSubprogram, AreContained, IsNested}

-- ---- statements that begin no item

abbrev pub BeginsNone : Form → Type 0
BeginsNone Form.Acts = ⊥
BeginsNone Form.BeginsIf = ⊥
BeginsNone Form.BeginsSelect = ⊥
BeginsNone Form.BeginsLoop = ⊥
BeginsNone _ = Unit {0}

-- what follows a block: nothing, or a statement that begins no item
abbrev pub Stops : List Line → Type 0
Stops [] = Unit {0}
Stops (line ∷ rest) = BeginsNone (form_of line.says)

pub stops-by : (wanted : Form) (line : Line) → BeginsNone wanted → Is wanted line → BeginsNone (form_of line.says)
stops-by wanted line stops is = subst BeginsNone (sym is) stops

abbrev first_or : Line → List Line → Line
first_or default [] = default
first_or default (line ∷ rest) = line

abbrev rest_of : List Line → List Line
rest_of [] = []
rest_of (line ∷ rest) = rest

pub same-first : (a b : Line) (more others : List Line) → a ∷ more ≡ b ∷ others → a ≡ b
same-first a b more others same = ap (first_or a) same

pub same-rest : (a b : Line) (more others : List Line) → a ∷ more ≡ b ∷ others → more ≡ others
same-rest a b more others same = ap rest_of same

-- Two forms of one line are one.
one-form : (a b : Form) (x y : Line) → Is a x → Is b y → x ≡ y → a ≡ b
one-form a b x y is other same = sym is ∙ ap (λ (line : Line). form_of line.says) same ∙ other

-- the form of an item's first statement
abbrev pub item_form : Item → Form
item_form (plain line) = Form.Acts
item_form (branch arms close) = Form.BeginsIf
item_form (select head arms close) = Form.BeginsSelect
item_form (loop head body close) = Form.BeginsLoop

-- an item with what stands behind it
pub record Begins (item : Item) (rest : List Line) : Type 0 where
  pub first : Line
  pub behind : List Line
  pub is : Is (item_form item) first
  pub lines : item_lines item ++ rest ≡ first ∷ behind

pub begins : (item : Item) (rest : List Line) → IsNestedItem item → Begins item rest
begins (plain line) rest nested = record { first = line; behind = rest; is = nested; lines = refl }
begins (branch no_arms close) rest nested = absurd nested.0
begins (branch (arm head body arms) close) rest nested =
    record { first = head; behind = ((lines_of body ++ arm_lines arms) ++ close ∷ []) ++ rest; is = nested.0.0; lines = refl }
begins (select head arms close) rest nested = record { first = head; behind = (arm_lines arms ++ close ∷ []) ++ rest; is = nested.0; lines = refl }
begins (loop head body close) rest nested = record { first = head; behind = (lines_of body ++ close ∷ []) ++ rest; is = nested.0; lines = refl }

pub same-forms : (a b : Item) (r s : List Line) → IsNestedItem a → IsNestedItem b → item_lines a ++ r ≡ item_lines b ++ s → item_form a ≡ item_form b
same-forms a b r s nested other same =
    let one = begins a r nested in
    let two = begins b s other in
    let lines : one.first ∷ one.behind ≡ two.first ∷ two.behind = sym one.lines ∙ same ∙ two.lines in
    one-form (item_form a) (item_form b) one.first two.first one.is two.is (same-first one.first two.first one.behind two.behind lines)

begins-item : (item : Item) → BeginsNone (item_form item) → ⊥
begins-item (plain line) stops = stops
begins-item (branch arms close) stops = stops
begins-item (select head arms close) stops = stops
begins-item (loop head body close) stops = stops

-- No item begins where a block stops.
not-stopped : (item : Item) (rest stop : List Line) → IsNestedItem item → Stops stop → item_lines item ++ rest ≡ stop → ⊥
not-stopped item rest stop nested stops same =
    let one = begins item rest nested in
    let lines : one.first ∷ one.behind ≡ stop = sym one.lines ∙ same in
    let stopped : BeginsNone (form_of one.first.says) = subst Stops (sym lines) stops in
    begins-item item (subst BeginsNone one.is stopped)

-- ---- blocks

-- Two with the same statements in front of what follows them are one, and so is what follows.
abbrev pub Same : {A : Type 0} → A → A → List Line → List Line → Type 0
Same a b r s = (a ≡ b) × (r ≡ s)

-- what follows arms of one kind: neither an item, nor another arm
pub record Behind (wanted : Form) (rest : List Line) : Type 0 where
  pub stops : Stops rest
  pub other : next_form rest ≡ Some wanted → ⊥

pub some-form : (a b : Form) → Some a ≡ Some b → a ≡ b
some-form a b same = cc

pub closes : (wanted ending : Form) (close : Line) (rest : List Line) → BeginsNone ending → (ending ≡ wanted → ⊥) → Is ending close → Behind wanted (close ∷ rest)
closes wanted ending close rest stops apart is =
    record { stops = stops-by ending close stops is; other = λ same. apart (some-form ending wanted (ap Some (sym is) ∙ same)) }

no-arm : (wanted : Form) (head : Line) (more rest : List Line) → Is wanted head → Behind wanted rest → head ∷ more ≡ rest → ⊥
no-arm wanted head more rest is behind same = behind.other (ap next_form (sym same) ∙ ap Some is)

pub regroup : (a b c : List Line) → (a ++ b) ++ c ≡ a ++ (b ++ c)
regroup a b c = append_assoc a b c

-- the arms behind a block stop it
pub arms-stop : (wanted : Form) (arms : Arms) (rest : List Line) → BeginsNone wanted → AreArms wanted arms → Behind wanted rest → Stops (arm_lines arms ++ rest)
arms-stop wanted no_arms rest stops nested behind = behind.stops
arms-stop wanted (arm head body arms) rest stops nested behind = stops-by wanted head stops nested.0

-- two arms with the same statements begin alike, and go on alike
arm-rest : (head head' : Line) (body body' : Items) (arms arms' : Arms) (r s : List Line)
    → (head ∷ (lines_of body ++ arm_lines arms)) ++ r ≡ (head' ∷ (lines_of body' ++ arm_lines arms')) ++ s
    → (head ≡ head') × (lines_of body ++ (arm_lines arms ++ r) ≡ lines_of body' ++ (arm_lines arms' ++ s))
arm-rest head head' body body' arms arms' r s same =
    let inner = (lines_of body ++ arm_lines arms) ++ r in
    let inner' = (lines_of body' ++ arm_lines arms') ++ s in (
      same-first head head' inner inner' same,
      sym (regroup (lines_of body) (arm_lines arms) r) ∙ same-rest head head' inner inner' same ∙ regroup (lines_of body') (arm_lines arms') s,
    )

apart-plain-if : Form.Acts ≡ Form.BeginsIf → ⊥
apart-plain-if same = cc

apart-plain-select : Form.Acts ≡ Form.BeginsSelect → ⊥
apart-plain-select same = cc

apart-plain-loop : Form.Acts ≡ Form.BeginsLoop → ⊥
apart-plain-loop same = cc

apart-if-select : Form.BeginsIf ≡ Form.BeginsSelect → ⊥
apart-if-select same = cc

apart-if-loop : Form.BeginsIf ≡ Form.BeginsLoop → ⊥
apart-if-loop same = cc

apart-select-loop : Form.BeginsSelect ≡ Form.BeginsLoop → ⊥
apart-select-loop same = cc

apart-end-else : Form.EndsIf ≡ Form.BeginsElse → ⊥
apart-end-else same = cc

apart-end-case : Form.EndsSelect ≡ Form.BeginsCase → ⊥
apart-end-case same = cc

mutual
  pub one-block : (a b : Items) (r s : List Line) → AreNested a → AreNested b → Stops r → Stops s → lines_of a ++ r ≡ lines_of b ++ s → Same a b r s
  one-block none none r s nested other stops_r stops_s same = (refl, same)
  one-block none (and_then item items) r s nested other stops_r stops_s same =
      absurd (not-stopped item (lines_of items ++ s) r other.0 stops_r (sym (regroup (item_lines item) (lines_of items) s) ∙ sym same))
  one-block (and_then item items) none r s nested other stops_r stops_s same =
      absurd (not-stopped item (lines_of items ++ r) s nested.0 stops_s (sym (regroup (item_lines item) (lines_of items) r) ∙ same))
  one-block (and_then item items) (and_then item' items') r s nested other stops_r stops_s same =
      let lines = sym (regroup (item_lines item) (lines_of items) r) ∙ same ∙ regroup (item_lines item') (lines_of items') s in
      let first = one-item item item' (lines_of items ++ r) (lines_of items' ++ s) nested.0 other.0 lines in
      let rest = one-block items items' r s nested.1 other.1 stops_r stops_s first.1 in
      ((λ i. and_then (first.0 i) (rest.0 i)), rest.1)

  pub one-item : (a b : Item) (r s : List Line) → IsNestedItem a → IsNestedItem b → item_lines a ++ r ≡ item_lines b ++ s → Same a b r s
  one-item (plain line) (plain line') r s nested other same = (ap plain (same-first line line' r s same), same-rest line line' r s same)
  one-item (branch arms close) (branch arms' close') r s nested other same =
      let lines = sym (regroup (arm_lines arms) (close ∷ []) r) ∙ same ∙ regroup (arm_lines arms') (close' ∷ []) s in
      let all = one-branch arms arms' close close' r s nested.0 other.0 nested.1 other.1 lines in
      ((λ i. branch (all.0 i) (same-first close close' r s all.1 i)), same-rest close close' r s all.1)
  one-item (select head arms close) (select head' arms' close') r s nested other same =
      let rest = same-rest head head' ((arm_lines arms ++ close ∷ []) ++ r) ((arm_lines arms' ++ close' ∷ []) ++ s) same in
      let lines = sym (regroup (arm_lines arms) (close ∷ []) r) ∙ rest ∙ regroup (arm_lines arms') (close' ∷ []) s in
      let all = one-arms Form.BeginsCase arms arms' (close ∷ r) (close' ∷ s) tt nested.1 other.1 (closes Form.BeginsCase Form.EndsSelect close r tt apart-end-case nested.2) (closes Form.BeginsCase Form.EndsSelect close' s tt apart-end-case other.2) lines in
      let head_is = same-first head head' ((arm_lines arms ++ close ∷ []) ++ r) ((arm_lines arms' ++ close' ∷ []) ++ s) same in
      ((λ i. select (head_is i) (all.0 i) (same-first close close' r s all.1 i)), same-rest close close' r s all.1)
  one-item (loop head body close) (loop head' body' close') r s nested other same =
      let rest = same-rest head head' ((lines_of body ++ close ∷ []) ++ r) ((lines_of body' ++ close' ∷ []) ++ s) same in
      let lines = sym (regroup (lines_of body) (close ∷ []) r) ∙ rest ∙ regroup (lines_of body') (close' ∷ []) s in
      let all = one-block body body' (close ∷ r) (close' ∷ s) nested.1 other.1 (stops-by Form.EndsLoop close tt nested.2) (stops-by Form.EndsLoop close' tt other.2) lines in
      let head_is = same-first head head' ((lines_of body ++ close ∷ []) ++ r) ((lines_of body' ++ close' ∷ []) ++ s) same in
      ((λ i. loop (head_is i) (all.0 i) (same-first close close' r s all.1 i)), same-rest close close' r s all.1)
  one-item (plain line) (branch arms' close') r s nested other same = let no : Form.Acts ≡ Form.BeginsIf = same-forms (plain line) (branch arms' close') r s nested other same in absurd (apart-plain-if no)
  one-item (plain line) (select head' arms' close') r s nested other same = let no : Form.Acts ≡ Form.BeginsSelect = same-forms (plain line) (select head' arms' close') r s nested other same in absurd (apart-plain-select no)
  one-item (plain line) (loop head' body' close') r s nested other same = let no : Form.Acts ≡ Form.BeginsLoop = same-forms (plain line) (loop head' body' close') r s nested other same in absurd (apart-plain-loop no)
  one-item (branch arms close) (plain line') r s nested other same = let no : Form.BeginsIf ≡ Form.Acts = same-forms (branch arms close) (plain line') r s nested other same in absurd (apart-plain-if (sym no))
  one-item (branch arms close) (select head' arms' close') r s nested other same = let no : Form.BeginsIf ≡ Form.BeginsSelect = same-forms (branch arms close) (select head' arms' close') r s nested other same in absurd (apart-if-select no)
  one-item (branch arms close) (loop head' body' close') r s nested other same = let no : Form.BeginsIf ≡ Form.BeginsLoop = same-forms (branch arms close) (loop head' body' close') r s nested other same in absurd (apart-if-loop no)
  one-item (select head arms close) (plain line') r s nested other same = let no : Form.BeginsSelect ≡ Form.Acts = same-forms (select head arms close) (plain line') r s nested other same in absurd (apart-plain-select (sym no))
  one-item (select head arms close) (branch arms' close') r s nested other same = let no : Form.BeginsSelect ≡ Form.BeginsIf = same-forms (select head arms close) (branch arms' close') r s nested other same in absurd (apart-if-select (sym no))
  one-item (select head arms close) (loop head' body' close') r s nested other same = let no : Form.BeginsSelect ≡ Form.BeginsLoop = same-forms (select head arms close) (loop head' body' close') r s nested other same in absurd (apart-select-loop no)
  one-item (loop head body close) (plain line') r s nested other same = let no : Form.BeginsLoop ≡ Form.Acts = same-forms (loop head body close) (plain line') r s nested other same in absurd (apart-plain-loop (sym no))
  one-item (loop head body close) (branch arms' close') r s nested other same = let no : Form.BeginsLoop ≡ Form.BeginsIf = same-forms (loop head body close) (branch arms' close') r s nested other same in absurd (apart-if-loop (sym no))
  one-item (loop head body close) (select head' arms' close') r s nested other same = let no : Form.BeginsLoop ≡ Form.BeginsSelect = same-forms (loop head body close) (select head' arms' close') r s nested other same in absurd (apart-select-loop (sym no))

  one-branch : (a b : Arms) (close close' : Line) (r s : List Line) → IsBranch a → IsBranch b → Is Form.EndsIf close → Is Form.EndsIf close'
      → arm_lines a ++ close ∷ r ≡ arm_lines b ++ close' ∷ s → Same a b (close ∷ r) (close' ∷ s)
  one-branch no_arms b close close' r s nested other is is' same = absurd nested
  one-branch (arm head body arms) no_arms close close' r s nested other is is' same = absurd other
  one-branch (arm head body arms) (arm head' body' arms') close close' r s nested other is is' same =
      let behind = closes Form.BeginsElse Form.EndsIf close r tt apart-end-else is in
      let behind' = closes Form.BeginsElse Form.EndsIf close' s tt apart-end-else is' in
      let inner = arm-rest head head' body body' arms arms' (close ∷ r) (close' ∷ s) same in
      let block =
      one-block body body' (arm_lines arms ++ close ∷ r) (arm_lines arms' ++ close' ∷ s) nested.1 other.1 (arms-stop Form.BeginsElse arms (close ∷ r) tt nested.2 behind)
      (arms-stop Form.BeginsElse arms' (close' ∷ s) tt other.2 behind') inner.1
      in
      let rest = one-arms Form.BeginsElse arms arms' (close ∷ r) (close' ∷ s) tt nested.2 other.2 behind behind' block.1 in
      ((λ i. arm (inner.0 i) (block.0 i) (rest.0 i)), rest.1)

  pub one-arms : (wanted : Form) (a b : Arms) (r s : List Line) → BeginsNone wanted → AreArms wanted a → AreArms wanted b → Behind wanted r → Behind wanted s
      → arm_lines a ++ r ≡ arm_lines b ++ s → Same a b r s
  one-arms wanted no_arms no_arms r s stops nested other behind behind' same = (refl, same)
  one-arms wanted no_arms (arm head' body' arms') r s stops nested other behind behind' same =
      absurd (no-arm wanted head' ((lines_of body' ++ arm_lines arms') ++ s) r other.0 behind (sym same))
  one-arms wanted (arm head body arms) no_arms r s stops nested other behind behind' same =
      absurd (no-arm wanted head ((lines_of body ++ arm_lines arms) ++ r) s nested.0 behind' same)
  one-arms wanted (arm head body arms) (arm head' body' arms') r s stops nested other behind behind' same =
      let inner = arm-rest head head' body body' arms arms' r s same in
      let block =
      one-block body body' (arm_lines arms ++ r) (arm_lines arms' ++ s) nested.1 other.1 (arms-stop wanted arms r stops nested.2 behind) (arms-stop wanted arms' s stops other.2 behind') inner.1
      in
      let rest = one-arms wanted arms arms' r s stops nested.2 other.2 behind behind' block.1 in
      ((λ i. arm (inner.0 i) (block.0 i) (rest.0 i)), rest.1)

-- ---- units and programs

-- what follows the front of a unit: nothing, or a statement that isn't in a front
abbrev pub EndsFront : List Line → Type 0
EndsFront [] = Unit {0}
EndsFront (line ∷ rest) = form_of line.says ≡ Form.InFront → ⊥

pub one-front : (a b r s : List Line) → All (Is Form.InFront) a → All (Is Form.InFront) b → EndsFront r → EndsFront s → a ++ r ≡ b ++ s → Same a b r s
one-front [] [] r s all other ends_r ends_s same = (refl, same)
one-front [] (line ∷ b) r s all other ends_r ends_s same = absurd (subst EndsFront same ends_r (All-head (Is Form.InFront) line b other))
one-front (line ∷ a) [] r s all other ends_r ends_s same = absurd (subst EndsFront (sym same) ends_s (All-head (Is Form.InFront) line a all))
one-front (line ∷ a) (line' ∷ b) r s all other ends_r ends_s same =
    let rest = one-front a b r s (All-tail (Is Form.InFront) line a all) (All-tail (Is Form.InFront) line' b other) ends_r ends_s (same-rest line line' (a ++ r) (b ++ s) same) in
    ((λ i. same-first line line' (a ++ r) (b ++ s) same i ∷ rest.0 i), rest.1)

item-no-front : (item : Item) → item_form item ≡ Form.InFront → ⊥
item-no-front (plain line) same = let no : ⊥ = cc in no
item-no-front (branch arms close) same = let no : ⊥ = cc in no
item-no-front (select head arms close) same = let no : ⊥ = cc in no
item-no-front (loop head body close) same = let no : ⊥ = cc in no

-- A body, and what follows it, ends a front.
pub body-ends : (body : Items) (rest : List Line) → AreNested body → EndsFront rest → EndsFront (lines_of body ++ rest)
body-ends none rest nested ends = ends
body-ends (and_then item items) rest nested ends =
    let one = begins item (lines_of items ++ rest) nested.0 in
    let lines : (item_lines item ++ lines_of items) ++ rest ≡ one.first ∷ one.behind = regroup (item_lines item) (lines_of items) rest ∙ one.lines in
    subst EndsFront (sym lines) (λ same. item-no-front item (sym one.is ∙ same))

-- what follows the body of a unit
pub record EndsBody (rest : List Line) : Type 0 where
  pub stops : Stops rest
  pub front : EndsFront rest

-- a front and a body
pub one-inside : (front front' : List Line) (body body' : Items) (r s : List Line) → All (Is Form.InFront) front → All (Is Form.InFront) front' → AreNested body → AreNested body' → EndsBody r → EndsBody s
    → front ++ (lines_of body ++ r) ≡ front' ++ (lines_of body' ++ s) → (front ≡ front') × (body ≡ body') × (r ≡ s)
one-inside front front' body body' r s all other nested nested' ends ends' same =
    let fronts = one-front front front' (lines_of body ++ r) (lines_of body' ++ s) all other (body-ends body r nested ends.front) (body-ends body' s nested' ends'.front) same in
    let bodies = one-block body body' r s nested nested' ends.stops ends'.stops fronts.1 in
    (fronts.0, bodies.0, bodies.1)

end-front : Form.EndsUnit ≡ Form.InFront → ⊥
end-front same = cc

pub end-ends : (close : Line) (rest : List Line) → Is Form.EndsUnit close → EndsBody (close ∷ rest)
end-ends close rest is = record { stops = stops-by Form.EndsUnit close tt is; front = λ same. end-front (sym is ∙ same) }

pub end-procedure : Form.EndsUnit ≡ Form.BeginsProcedure → ⊥
end-procedure same = cc

-- one procedure, and what follows it
pub one-procedure : (a b : Subprogram) (r s : List Line) → IsNestedSubprogram a → IsNestedSubprogram b → subprogram_lines a ++ r ≡ subprogram_lines b ++ s → Same a b r s
one-procedure a b r s nested other same =
    let inner : List Line = (a.front ++ (lines_of a.body ++ a.close ∷ [])) ++ r in
    let inner' : List Line = (b.front ++ (lines_of b.body ++ b.close ∷ [])) ++ s in
    let left = regroup a.front (lines_of a.body ++ a.close ∷ []) r ∙ ap (λ lines. a.front ++ lines) (regroup (lines_of a.body) (a.close ∷ []) r) in
    let right = regroup b.front (lines_of b.body ++ b.close ∷ []) s ∙ ap (λ lines. b.front ++ lines) (regroup (lines_of b.body) (b.close ∷ []) s) in
    let lines = sym left ∙ same-rest a.head b.head inner inner' same ∙ right in
    let all =
    one-inside a.front b.front a.body b.body (a.close ∷ r) (b.close ∷ s) nested.front other.front nested.body other.body (end-ends a.close r nested.close) (end-ends b.close s other.close) lines
    in (
      (λ i. record { head = same-first a.head b.head inner inner' same i; front = all.0 i; body = all.1 i; close = same-first a.close b.close r s all.2 i }),
      same-rest a.close b.close r s all.2,
    )

pub no-procedure : (a : Subprogram) (r : List Line) (close : Line) → IsNestedSubprogram a → Is Form.EndsUnit close → subprogram_lines a ++ r ≡ close ∷ [] → ⊥
no-procedure a r close nested is same =
    end-procedure (one-form Form.EndsUnit Form.BeginsProcedure close a.head is nested.head (sym (same-first a.head close ((a.front ++ (lines_of a.body ++ a.close ∷ [])) ++ r) [] same)))

pub one-procedures : (a b : List Subprogram) (close close' : Line) → All IsNestedSubprogram a → All IsNestedSubprogram b → Is Form.EndsUnit close → Is Form.EndsUnit close'
    → flat_map subprogram_lines a ++ close ∷ [] ≡ flat_map subprogram_lines b ++ close' ∷ [] → (a ≡ b) × (close ≡ close')
one-procedures [] [] close close' all other is is' same = (refl, same-first close close' [] [] same)
one-procedures [] (p ∷ b) close close' all other is is' same =
    absurd (no-procedure p (flat_map subprogram_lines b ++ close' ∷ []) close (All-head IsNestedSubprogram p b other) is (sym (regroup (subprogram_lines p) (flat_map subprogram_lines b) (close' ∷ [])) ∙ sym same))
one-procedures (p ∷ a) [] close close' all other is is' same =
    absurd (no-procedure p (flat_map subprogram_lines a ++ close ∷ []) close' (All-head IsNestedSubprogram p a all) is' (sym (regroup (subprogram_lines p) (flat_map subprogram_lines a) (close ∷ [])) ∙ same))
one-procedures (p ∷ a) (q ∷ b) close close' all other is is' same =
    let lines = sym (regroup (subprogram_lines p) (flat_map subprogram_lines a) (close ∷ [])) ∙ same ∙ regroup (subprogram_lines q) (flat_map subprogram_lines b) (close' ∷ []) in
    let first =
    one-procedure p q (flat_map subprogram_lines a ++ close ∷ []) (flat_map subprogram_lines b ++ close' ∷ []) (All-head IsNestedSubprogram p a all) (All-head IsNestedSubprogram q b other) lines
    in
    let rest = one-procedures a b close close' (All-tail IsNestedSubprogram p a all) (All-tail IsNestedSubprogram q b other) is is' first.1 in
    ((λ i. first.0 i ∷ rest.0 i), rest.1)

abbrev pub contained_lines : Option ℕ → List Subprogram → Line → List Line
contained_lines contains procedures close = (contains_lines contains ++ flat_map subprogram_lines procedures) ++ close ∷ []

contains-front : Form.BeginsProcedures ≡ Form.InFront → ⊥
contains-front same = cc

pub contained-ends : (contains : Option ℕ) (procedures : List Subprogram) (close : Line) → AreContained contains procedures → Is Form.EndsUnit close → EndsBody (contained_lines contains procedures close)
contained-ends None procedures close bare is =
    subst EndsBody (ap (λ list. flat_map subprogram_lines list ++ close ∷ []) (sym bare)) (end-ends close [] is)
contained-ends (Some line) procedures close all is = record { stops = tt; front = contains-front }

end-contains : Form.EndsUnit ≡ Form.BeginsProcedures → ⊥
end-contains same = cc

alone-contains : (procedures procedures' : List Subprogram) (line : ℕ) (close close' : Line) → procedures ≡ [] → Is Form.EndsUnit close
    → flat_map subprogram_lines procedures ++ close ∷ [] ≡ contained_lines (Some line) procedures' close' → ⊥
alone-contains procedures procedures' line close close' bare is same =
    let lines : close ∷ [] ≡ contained_lines (Some line) procedures' close' = ap (λ list. flat_map subprogram_lines list ++ close ∷ []) (sym bare) ∙ same in
    let contains : Line = record { line = line; says = contains_line } in
    end-contains (one-form Form.EndsUnit Form.BeginsProcedures close contains is refl (same-first close contains [] (flat_map subprogram_lines procedures' ++ close' ∷ []) lines))

pub one-contained : (contains contains' : Option ℕ) (a b : List Subprogram) (close close' : Line) → AreContained contains a → AreContained contains' b → Is Form.EndsUnit close → Is Form.EndsUnit close'
    → contained_lines contains a close ≡ contained_lines contains' b close' → (contains ≡ contains') × (a ≡ b) × (close ≡ close')
one-contained None None a b close close' bare bare_too is is' same =
    let left = ap (λ list. flat_map subprogram_lines list ++ close ∷ []) bare in
    let right = ap (λ list. flat_map subprogram_lines list ++ close' ∷ []) bare_too in
    (refl, bare ∙ sym bare_too, same-first close close' [] [] (sym left ∙ same ∙ right))
one-contained None (Some line) a b close close' bare all is is' same = absurd (alone-contains a b line close close' bare is same)
one-contained (Some line) None a b close close' all bare is is' same = absurd (alone-contains b a line close' close bare is' (sym same))
one-contained (Some line) (Some line') a b close close' all all' is is' same =
    let contains : Line = record { line = line; says = contains_line } in
    let contains' : Line = record { line = line'; says = contains_line } in
    let r = flat_map subprogram_lines a ++ close ∷ [] in
    let s = flat_map subprogram_lines b ++ close' ∷ [] in
    let both = one-procedures a b close close' all all' is is' (same-rest contains contains' r s same) in
    (ap (λ (l : Line). Some l.line) (same-first contains contains' r s same), both.0, both.1)

pub one-source : (a b : Source) → IsNested a → IsNested b → listed a ≡ listed b → a ≡ b
one-source a b nested other same =
    let r = contained_lines a.contains a.procedures a.close in
    let s = contained_lines b.contains b.procedures b.close in
    let inner = a.front ++ (lines_of a.body ++ r) in
    let inner' = b.front ++ (lines_of b.body ++ s) in
    let inside =
    one-inside a.front b.front a.body b.body r s nested.front other.front nested.body other.body (contained-ends a.contains a.procedures a.close nested.procedures nested.close)
    (contained-ends b.contains b.procedures b.close other.procedures other.close) (same-rest a.head b.head inner inner' same)
    in
    let ends = one-contained a.contains b.contains a.procedures b.procedures a.close b.close nested.procedures other.procedures nested.close other.close inside.2 in
    λ i. record {
      head = same-first a.head b.head inner inner' same i;
      front = inside.0 i;
      body = inside.1 i;
      contains = ends.0 i;
      procedures = ends.1 i;
      close = ends.2 i;
    }
