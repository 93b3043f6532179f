-- What is answered to the tokens of an expression.
use Rattle.std.proofs.Common.{◌≡◌, ◌≤◌, ℕ, Bool, false, List, [], ◌∷◌, Option, Some, None, Result, Ok, Err, refl, sym, ap, subst, ◌∙◌, inl, inr}
use Rattle.std.specs.Prelude.{nat_le, option_map, IsTrue, ◌↔◌}
use Rattle.std.proofs.lemmas.Bool.{true≢false, cases_Bool, leb-true, leb-false}
use Rattle.dc_tree.specs.declared.expr.Expr.{Expr}
use Rattle.dc_tree.specs.declared.fail.Fail.{Fail}
use Rattle.dc_tree.specs.declared.fail.Refusal.{Refusal}
use Rattle.dc_tree.specs.declared.token.Token.{Token}
use Rattle.dc_tree.specs.Syntax.{Tree, tree}
use Rattle.dc_tree.specs.Grammar.{depth}
use Rattle.dc_tree.specs.Reader.{State, start, run, finish, settled, reading, read_by}
use Rattle.dc_tree.proofs.ReadingComplete.{complete}
use Rattle.dc_tree.proofs.ReadingSound.{sound}
use Rattle.dc_expr.specs.Answers.{Spells, IsNone, IsTooDeep, Answers, Gives, IsRead, Reads, breach, told, outcome, within}
use Rattle.dc_expr.specs.declared.reader.Miss.{Miss}
use Rattle.dc_expr.specs.Limited.{Kept, KeptArgs, Frames, limited, told_apart}
use Rattle.dc_expr.specs.Views.{frames_of}
use Rattle.dc_expr.specs.declared.stack.Pending.{Pending}
use Rattle.dc_expr.proofs.Cutting.{cut, cut-reading}

-- ---- by what the reader of limited trees finds

told-within : (found : Option Tree) → told_apart (option_map cut found) ≡ within found
told-within None = refl
told-within (Some e) = elim (cases_Bool (nat_le (depth e) 256)) [ inl is ↦ rw is refl | inr is ↦ rw is refl ]

pub read-within : (tokens : List Token) → told_apart (read_by limited tokens) ≡ within (reading tokens)
read-within tokens = sym (ap told_apart (cut-reading tokens)) ∙ told-within (reading tokens)

pub read-tells : (tokens : List Token) (opening : List Pending) (state : State Kept KeptArgs) (result : Result Expr Miss) → opening ≡ [] → state ≡ run limited tokens (start (frames_of opening))
    → Reads tree (told_apart (finish limited state)) result → Reads tree (within (reading tokens)) result
read-tells tokens opening state result empty is reads =
    let whole : state ≡ run limited tokens (start []) = is ∙ ap (λ (s : List Pending). run limited tokens (start (frames_of s))) empty in
    subst (λ (o : Result Tree Miss). Reads tree o result) (ap (λ (s : State Kept KeptArgs). told_apart (finish limited s)) whole ∙ read-within tokens) reads

-- Where a part is open, nothing is found.
pub open-nothing : (stack : List Pending) (value : Kept) (joined : Frames × Kept) (empty : Bool) → (frames_of stack, value) ≡ joined → (IsTrue empty ↔ (stack ≡ [])) → empty ≡ false
    → told_apart (settled joined) ≡ Err Miss.Nothing
open-nothing stack value joined empty is tells none = subst (λ (j : Frames × Kept). told_apart (settled j) ≡ Err Miss.Nothing) is (by_stack stack tells)
  where
    by_stack : (s : List Pending) → (IsTrue empty ↔ (s ≡ [])) → told_apart (settled (frames_of s, value)) ≡ Err Miss.Nothing
    by_stack [] tell = absurd (true≢false (sym (tell.1 refl) ∙ none))
    by_stack (part ∷ rest) tell = refl

-- ---- a line for what was missed

abbrev Missed : Result Tree Miss → Result Tree Miss → Type 0
Missed one other = one ≡ other

pub nothing-told : (line : ℕ) (found : Option Tree) → within found ≡ Err Miss.Nothing → told line found ≡ Err (Fail.Refused (breach 11 line))
nothing-told line None is = refl
nothing-told line (Some e) is =
    elim (cases_Bool (nat_le (depth e) 256)) [
      | inl flat ↦ let same : Missed (Ok e) (Err Miss.Nothing) = rw flat at is in absurd (cc)
      | inr over ↦ let same : Missed (Err Miss.Deep) (Err Miss.Nothing) = rw over at is in absurd (cc)
    ]

pub deep-told : (line : ℕ) (found : Option Tree) → within found ≡ Err Miss.Deep → told line found ≡ Err (Fail.Refused (breach 12 line))
deep-told line None is = absurd (cc)
deep-told line (Some e) is =
    elim (cases_Bool (nat_le (depth e) 256)) [
      | inl flat ↦ let same : Missed (Ok e) (Err Miss.Deep) = rw flat at is in absurd (cc)
      | inr over ↦ rw over refl
    ]

pub ok-told : (line : ℕ) (found : Option Tree) (e : Tree) → within found ≡ Ok e → told line found ≡ Ok e
ok-told line None e is = absurd (cc)
ok-told line (Some t) e is =
    elim (cases_Bool (nat_le (depth t) 256)) [
      | inl flat ↦ let same : Missed (Ok t) (Ok e) = rw flat at is in let one : t ≡ e = cc in rw flat (ap Ok one)
      | inr over ↦ let same : Missed (Err Miss.Deep) (Ok e) = rw over at is in absurd (cc)
    ]

-- ---- what an outcome says of the trees

not-read : (tokens : List Token) → reading tokens ≡ None → IsNone tokens
not-read tokens none e spelled =
    let found : Some e ≡ None = sym (complete e spelled.0) ∙ ap reading spelled.1 ∙ none in
    cc

ok-answers : (line : ℕ) (tokens : List Token) (e : Expr) (found : Option Tree) → reading tokens ≡ found → told line found ≡ Ok (tree e) → Answers line tokens (Ok e)
ok-answers line tokens e None is ok = absurd (cc)
ok-answers line tokens e (Some t) is ok =
    elim (cases_Bool (nat_le (depth t) 256)) [
      | inl flat ↦
          let same : Ok t ≡ Ok (tree e) = rw flat at ok in
          let one : t ≡ tree e = cc in
          let fits : depth t ≤ 256 = leb-true (depth t) 256 flat in
          subst (λ (x : Tree). Spells x tokens × (depth x ≤ 256)) one (sound tokens t is, fits)
      | inr over ↦ let same : Err (Fail.Refused (breach 12 line)) ≡ Ok (tree e) = rw over at ok in absurd (cc)
    ]

refused-answers : (line : ℕ) (tokens : List Token) (refusal : Refusal) (found : Option Tree) → reading tokens ≡ found → told line found ≡ Err (Fail.Refused refusal)
    → Answers line tokens (Err (Fail.Refused refusal))
refused-answers line tokens refusal None is err = let same : refusal ≡ breach 11 line = cc in inl (same, not-read tokens is)
refused-answers line tokens refusal (Some t) is err =
    elim (cases_Bool (nat_le (depth t) 256)) [
      | inl flat ↦ let same : Ok t ≡ Err (Fail.Refused refusal) = rw flat at err in absurd (cc)
      | inr over ↦
          let same : Err (Fail.Refused (breach 12 line)) ≡ Err (Fail.Refused refusal) = rw over at err in
          let one : refusal ≡ breach 12 line = cc in
          inr (one, (t, sound tokens t is, leb-false (depth t) 256 over))
    ]

nothing-read : (tokens : List Token) (found : Option Tree) → reading tokens ≡ found → within found ≡ Err Miss.Nothing → IsNone tokens
nothing-read tokens None is none = not-read tokens is
nothing-read tokens (Some t) is none =
    elim (cases_Bool (nat_le (depth t) 256)) [
      | inl flat ↦ let same : Missed (Ok t) (Err Miss.Nothing) = rw flat at none in absurd (cc)
      | inr over ↦ let same : Missed (Err Miss.Deep) (Err Miss.Nothing) = rw over at none in absurd (cc)
    ]

deep-read : (tokens : List Token) (found : Option Tree) → reading tokens ≡ found → within found ≡ Err Miss.Deep → IsTooDeep tokens
deep-read tokens None is deep = absurd (cc)
deep-read tokens (Some t) is deep =
    elim (cases_Bool (nat_le (depth t) 256)) [
      | inl flat ↦ let same : Missed (Ok t) (Err Miss.Deep) = rw flat at deep in absurd (cc)
      | inr over ↦ (t, sound tokens t is, leb-false (depth t) 256 over)
    ]

-- A result that is the outcome answers the tokens.
pub gives-answers : (line : ℕ) (tokens : List Token) (result : Result Expr Fail) → Gives tree (outcome line tokens) result → Answers line tokens result
gives-answers line tokens (Ok e) gives = ok-answers line tokens e (reading tokens) refl gives
gives-answers line tokens (Err (Fail.Refused refusal)) gives = refused-answers line tokens refusal (reading tokens) refl gives
gives-answers line tokens (Err Fail.NoMemory) gives = tt

-- ---- where no line is known

-- A result that is what the reader finds is so. By the answer on any line.
pub reads-is_read : (tokens : List Token) (result : Result Expr Miss) → Reads tree (within (reading tokens)) result → IsRead tokens result
reads-is_read tokens (Ok e) reads = ok-answers 0 tokens e (reading tokens) refl (ok-told 0 (reading tokens) (tree e) reads)
reads-is_read tokens (Err Miss.Nothing) reads = nothing-read tokens (reading tokens) refl reads
reads-is_read tokens (Err Miss.Deep) reads = deep-read tokens (reading tokens) refl reads
reads-is_read tokens (Err Miss.NoMemory) reads = tt
