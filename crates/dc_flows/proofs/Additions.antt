-- What is added to a part of a code, one after the other.
use Rattle.std.proofs.Common.{◌≡◌, ℕ, zero, ◌+◌, List, [], ◌++◌, length, refl, sym, ap, ◌∙◌, arith, append_assoc}
use Rattle.std.proofs.lemmas.List.{length-append}
use Rattle.dc_code.specs.declared.instr.Instr.{Instr}
use Rattle.dc_code.specs.declared.plan.Group.{Group}
use Rattle.dc_flows.specs.declared.lowering.Lowering.{Lowering}
use Rattle.dc_flows.specs.Adding.{before_of, Adds}
use Rattle.dc_flows.specs.Flows.{Before}

-- What stands before, behind so many instructions, texts, groups and loops more.
abbrev pub further_on : (at texts groups loops : ℕ) → Before → Before
further_on at texts groups loops before =
    record { at = before.at + at; texts = before.texts + texts; groups = before.groups + groups; loops = before.loops + loops }

pub before-behind : {a b : Lowering} {instrs : List Instr} {texts : List (List ℕ)} {groups : List Group} {loops : ℕ} → Adds a b instrs texts groups loops
    → before_of b ≡ further_on (length instrs) (length texts) (length groups) loops (before_of a)
before-behind {a} {b} {instrs} {texts} {groups} {loops} adds = λ i. record { at = at i; texts = others i; groups = slots i; loops = adds.loops i }
  where
    at : b.base + length b.instructions ≡ a.base + length a.instructions + length instrs
    at = (λ i. adds.base i + length (adds.instructions i)) ∙ ap (λ n. a.base + n) (length-append a.instructions instrs) ∙ around a.base (length a.instructions) (length instrs)
      where
        around : (k m n : ℕ) → k + (m + n) ≡ k + m + n
        around k m n = omega arith

    others : length b.texts ≡ length a.texts + length texts
    others = ap length adds.texts_are ∙ length-append a.texts texts

    slots : length b.groups ≡ length a.groups + length groups
    slots = ap length adds.groups_are ∙ length-append a.groups groups

pub adds-both : {a b c : Lowering} {first second : List Instr} {texts more : List (List ℕ)} {groups others : List Group} {loops further : ℕ} → Adds a b first texts groups loops
    → Adds b c second more others further → Adds a c (first ++ second) (texts ++ more) (groups ++ others) (loops + further)
adds-both {a} {b} {c} {first} {second} {texts} {more} {groups} {others} {loops} {further} one other = record {
  instructions = other.instructions ∙ ap (λ list. list ++ second) one.instructions ∙ append_assoc a.instructions first second;
  texts_are = other.texts_are ∙ ap (λ list. list ++ more) one.texts_are ∙ append_assoc a.texts texts more;
  groups_are = other.groups_are ∙ ap (λ list. list ++ others) one.groups_are ∙ append_assoc a.groups groups others;
  loops = other.loops ∙ ap (λ n. n + further) one.loops ∙ around a.loops loops further;
  base = other.base ∙ one.base;
}
  where
    around : (k m n : ℕ) → k + m + n ≡ k + (m + n)
    around k m n = omega arith

-- The same addition, said otherwise.
pub adds-as : {a b : Lowering} {first second : List Instr} {texts more : List (List ℕ)} {groups others : List Group} {loops further : ℕ} → first ≡ second → texts ≡ more → groups ≡ others
    → loops ≡ further → Adds a b first texts groups loops → Adds a b second more others further
adds-as {a} {b} is texts_are groups_are loops_are adds = record {
  instructions = adds.instructions ∙ ap (λ list. a.instructions ++ list) is;
  texts_are = adds.texts_are ∙ ap (λ list. a.texts ++ list) texts_are;
  groups_are = adds.groups_are ∙ ap (λ list. a.groups ++ list) groups_are;
  loops = adds.loops ∙ ap (λ n. a.loops + n) loops_are;
  base = adds.base;
}
