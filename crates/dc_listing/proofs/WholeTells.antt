-- A listing tells its code.
use Rattle.std.proofs.Common.{◌≡◌, ℕ, suc, Bool, true, false, ◌&&◌, List, [], ◌∷◌, ◌++◌, drop, refl, sym, ap, ◌∙◌, append_assoc, append-nil}
use Rattle.std.specs.Prelude.{codes, ◌==◌}
use Rattle.dc_code.specs.declared.instr.Instr.{Instr}
use Rattle.dc_code.specs.Codes.{CodeLists}
use Rattle.dc_listing.specs.Listing.{section, instruction_line, told_line, instruction_words, text_words, shape_words, bounds_words, plan_words, entry_words, construct_words, listing}
use Rattle.dc_listing.specs.Words.{Word, fields, number}
use Rattle.dc_listing.proofs.Lines.{line-is, line-tells}
use Rattle.dc_listing.proofs.PartsTell.{Tells, tells-whole, text-tells, shape-tells, bounds-tell, plan-tells, entry-tells, construct-tells, instruction-plain, instruction-same}
use Rattle.dc_listing.proofs.Plain.{is_plain, are_plain, is_digit, opens, number-opens, number-plain}

-- ---- sections

-- Numbered lines that are told by a test of their first byte, and that tell their items.
pub record AreLines {A : Type 0} (test : ℕ → Bool) (made : ℕ → A → List ℕ) : Type 0 where
  pub begin : (k : ℕ) (x : A) (r : List ℕ) → opens test (made k x ++ r) ≡ true
  pub tell : (k : ℕ) (x y : A) (r s : List ℕ) → made k x ++ r ≡ made k y ++ s → (x ≡ y) × (r ≡ s)

-- no test has both answers
both_ways : {A : Type 0} (b : Bool) → b ≡ true → b ≡ false → A
both_ways b holds fails = let one : true ≡ false = sym holds ∙ fails in absurd (cc)

module _ {A : Type 0} (test : ℕ → Bool) (made : ℕ → A → List ℕ) (lines : AreLines test made) where
  section-tells
      : (k : ℕ) (xs ys : List A) (r s : List ℕ) → opens test r ≡ false → opens test s ≡ false
      → section made k xs ++ r ≡ section made k ys ++ s → (xs ≡ ys) × (r ≡ s)
  section-tells k [] [] r s other also same = (refl, same)
  section-tells k [] (y ∷ ys) r s other also same =
      let first : r ≡ made k y ++ (section made (suc k) ys ++ s) = same ∙ append_assoc (made k y) (section made (suc k) ys) s in
      both_ways (opens test r) (ap (opens test) first ∙ lines.begin k y (section made (suc k) ys ++ s)) other
  section-tells k (x ∷ xs) [] r s other also same =
      let first : s ≡ made k x ++ (section made (suc k) xs ++ r) = sym same ∙ append_assoc (made k x) (section made (suc k) xs) r in
      both_ways (opens test s) (ap (opens test) first ∙ lines.begin k x (section made (suc k) xs ++ r)) also
  section-tells k (x ∷ xs) (y ∷ ys) r s other also same =
      let one =
      lines.tell k x y (section made (suc k) xs ++ r) (section made (suc k) ys ++ s)
      (sym (append_assoc (made k x) (section made (suc k) xs) r) ∙ same ∙ append_assoc (made k y) (section made (suc k) ys) s) in
      let rest = section-tells (suc k) xs ys r s other also one.1 in
      ((λ i. one.0 i ∷ rest.0 i), rest.1)

-- Lines of another kind, and then something else again.
other-lines
    : {A : Type 0} (test : ℕ → Bool) (made : ℕ → A → List ℕ) → ((k : ℕ) (x : A) (r : List ℕ) → opens test (made k x ++ r) ≡ false)
    → (k : ℕ) (xs : List A) (r : List ℕ) → opens test r ≡ false → opens test (section made k xs ++ r) ≡ false
other-lines test made others k [] r other = other
other-lines test made others k (x ∷ xs) r other =
    ap (opens test) (append_assoc (made k x) (section made (suc k) xs) r) ∙ others k x (section made (suc k) xs ++ r)

-- ---- lines

told-line-tells
    : {A : Type 0} (word : Word) (words : A → List Word) → is_plain word ≡ true → Tells words → (k : ℕ) (x y : A) (r s : List ℕ)
    → told_line word words k x ++ r ≡ told_line word words k y ++ s → (x ≡ y) × (r ≡ s)
told-line-tells word words plain told k x y r s same =
    let one : are_plain (number k ∷ words x) ≡ true = (λ i. number-plain k i && told.plain x i) in
    let two : are_plain (number k ∷ words y) ≡ true = (λ i. number-plain k i && told.plain y i) in
    let parts = line-tells word (number k ∷ words x) (number k ∷ words y) r s plain one two same in
    let left : words x ≡ words y = ap (drop 1) parts.0 in
    (tells-whole words told x y left, parts.1)

instruction-line-tells
    : (k : ℕ) (x y : Instr) (r s : List ℕ) → instruction_line k x ++ r ≡ instruction_line k y ++ s → (x ≡ y) × (r ≡ s)
instruction-line-tells k x y r s same =
    let parts = line-tells (number k) (instruction_words x) (instruction_words y) r s (number-plain k) (instruction-plain x) (instruction-plain y) same in
    (instruction-same x y parts.0, parts.1)

instruction-line-begins : (k : ℕ) (x : Instr) (r : List ℕ) → opens is_digit (instruction_line k x ++ r) ≡ true
instruction-line-begins k x r =
    ap (opens is_digit) (line-is (number k) (instruction_words x) r) ∙ number-opens k (fields (instruction_words x) ++ 10 ∷ r)

-- ---- the listing from each section on

abbrev from_constructs : CodeLists → List ℕ
from_constructs code = section (told_line (codes "construct") construct_words) 0 code.constructs ++ []

abbrev from_entries : CodeLists → List ℕ
from_entries code = section (told_line (codes "entry") entry_words) 0 code.entries ++ from_constructs code

abbrev from_plans : CodeLists → List ℕ
from_plans code = section (told_line (codes "plan") plan_words) 0 code.plans ++ from_entries code

abbrev from_bounds : CodeLists → List ℕ
from_bounds code = section (told_line (codes "bounds") bounds_words) 0 code.bounds ++ from_plans code

abbrev from_shapes : CodeLists → List ℕ
from_shapes code = section (told_line (codes "shape") shape_words) 0 code.shapes ++ from_bounds code

abbrev from_texts : CodeLists → List ℕ
from_texts code = section (told_line (codes "text") text_words) 0 code.texts ++ from_shapes code

abbrev from_instructions : CodeLists → List ℕ
from_instructions code = section instruction_line 0 code.instructions ++ from_texts code

-- lists that are put together from the front, and from the end
seven
    : (a b c d e f g : List ℕ) → ((((((a ++ b) ++ c) ++ d) ++ e) ++ f) ++ g) ≡ a ++ (b ++ (c ++ (d ++ (e ++ (f ++ (g ++ []))))))
seven a b c d e f g =
    append_assoc (((((a ++ b) ++ c) ++ d) ++ e)) f g
    ∙ append_assoc ((((a ++ b) ++ c) ++ d)) e (f ++ g)
    ∙ append_assoc (((a ++ b) ++ c)) d (e ++ (f ++ g))
    ∙ append_assoc ((a ++ b)) c (d ++ (e ++ (f ++ g)))
    ∙ append_assoc a b (c ++ (d ++ (e ++ (f ++ g))))
    ∙ ap (λ (end : List ℕ). a ++ (b ++ (c ++ (d ++ (e ++ (f ++ end)))))) (sym (append-nil g))

listing-is : (code : CodeLists) → listing code ≡ from_instructions code
listing-is code =
    seven (section instruction_line 0 code.instructions)
    (section (told_line (codes "text") text_words) 0 code.texts)
    (section (told_line (codes "shape") shape_words) 0 code.shapes)
    (section (told_line (codes "bounds") bounds_words) 0 code.bounds)
    (section (told_line (codes "plan") plan_words) 0 code.plans)
    (section (told_line (codes "entry") entry_words) 0 code.entries)
    (section (told_line (codes "construct") construct_words) 0 code.constructs)

-- A test that the first letters of the words from a section on don't pass.
module _ (test : ℕ → Bool) (code : CodeLists) where
  no-constructs : test 99 ≡ false → opens test (from_constructs code) ≡ false
  no-constructs c = other-lines test (told_line (codes "construct") construct_words) (λ k x r. c) 0 code.constructs [] refl

  no-entries : test 99 ≡ false → test 101 ≡ false → opens test (from_entries code) ≡ false
  no-entries c e = other-lines test (told_line (codes "entry") entry_words) (λ k x r. e) 0 code.entries (from_constructs code) (no-constructs c)

  no-plans : test 99 ≡ false → test 101 ≡ false → test 112 ≡ false → opens test (from_plans code) ≡ false
  no-plans c e p = other-lines test (told_line (codes "plan") plan_words) (λ k x r. p) 0 code.plans (from_entries code) (no-entries c e)

  no-bounds : test 99 ≡ false → test 101 ≡ false → test 112 ≡ false → test 98 ≡ false → opens test (from_bounds code) ≡ false
  no-bounds c e p b = other-lines test (told_line (codes "bounds") bounds_words) (λ k x r. b) 0 code.bounds (from_plans code) (no-plans c e p)

  no-shapes : test 99 ≡ false → test 101 ≡ false → test 112 ≡ false → test 98 ≡ false → test 115 ≡ false → opens test (from_shapes code) ≡ false
  no-shapes c e p b s = other-lines test (told_line (codes "shape") shape_words) (λ k x r. s) 0 code.shapes (from_bounds code) (no-bounds c e p b)

  no-texts
      : test 99 ≡ false → test 101 ≡ false → test 112 ≡ false → test 98 ≡ false → test 115 ≡ false → test 116 ≡ false
      → opens test (from_texts code) ≡ false
  no-texts c e p b s t = other-lines test (told_line (codes "text") text_words) (λ k x r. t) 0 code.texts (from_shapes code) (no-shapes c e p b s)

-- ---- the whole

abbrev first_is : ℕ → ℕ → Bool
first_is letter byte = byte == letter

pub listing-tells : (first second : CodeLists) → listing first ≡ listing second → first ≡ second
listing-tells first second same =
    let instructions =
    section-tells is_digit instruction_line (record { begin = instruction-line-begins; tell = instruction-line-tells }) 0 first.instructions second.instructions (from_texts first) (from_texts second)
    (no-texts is_digit first refl refl refl refl refl refl) (no-texts is_digit second refl refl refl refl refl refl)
    (sym (listing-is first) ∙ same ∙ listing-is second) in
    let texts =
    section-tells (first_is 116) (told_line (codes "text") text_words) (record { begin = λ k x r. refl; tell = told-line-tells (codes "text") text_words refl text-tells }) 0 first.texts second.texts (from_shapes first) (from_shapes second)
    (no-shapes (first_is 116) first refl refl refl refl refl) (no-shapes (first_is 116) second refl refl refl refl refl) instructions.1 in
    let shapes =
    section-tells (first_is 115) (told_line (codes "shape") shape_words) (record { begin = λ k x r. refl; tell = told-line-tells (codes "shape") shape_words refl shape-tells }) 0 first.shapes second.shapes (from_bounds first) (from_bounds second)
    (no-bounds (first_is 115) first refl refl refl refl) (no-bounds (first_is 115) second refl refl refl refl) texts.1 in
    let bounds =
    section-tells (first_is 98) (told_line (codes "bounds") bounds_words) (record { begin = λ k x r. refl; tell = told-line-tells (codes "bounds") bounds_words refl bounds-tell }) 0 first.bounds second.bounds (from_plans first) (from_plans second)
    (no-plans (first_is 98) first refl refl refl) (no-plans (first_is 98) second refl refl refl) shapes.1 in
    let plans =
    section-tells (first_is 112) (told_line (codes "plan") plan_words) (record { begin = λ k x r. refl; tell = told-line-tells (codes "plan") plan_words refl plan-tells }) 0 first.plans second.plans (from_entries first) (from_entries second)
    (no-entries (first_is 112) first refl refl) (no-entries (first_is 112) second refl refl) bounds.1 in
    let entries =
    section-tells (first_is 101) (told_line (codes "entry") entry_words) (record { begin = λ k x r. refl; tell = told-line-tells (codes "entry") entry_words refl entry-tells }) 0 first.entries second.entries (from_constructs first) (from_constructs second)
    (no-constructs (first_is 101) first refl) (no-constructs (first_is 101) second refl) plans.1 in
    let constructs =
    section-tells (first_is 99) (told_line (codes "construct") construct_words) (record { begin = λ k x r. refl; tell = told-line-tells (codes "construct") construct_words refl construct-tells }) 0 first.constructs second.constructs [] []
    refl refl entries.1 in
    λ i. record {
      instructions = instructions.0 i;
      texts = texts.0 i;
      shapes = shapes.0 i;
      bounds = bounds.0 i;
      plans = plans.0 i;
      entries = entries.0 i;
      constructs = constructs.0 i;
    }
