-- What is told of tokens is so.
use Rattle.std.proofs.Common.{◌≡◌, ◌≤◌, ◌<◌, ℕ, List, Some, None, Ok, Err, refl, sym, ap, subst, ◌∙◌, inl, inr}
use Rattle.std.specs.Prelude.{nat_le}
use Rattle.std.proofs.lemmas.Bool.{cases_Bool, leb-true, leb-false}
use Rattle.dc_tree.specs.declared.fail.Fail.{Fail}
use Rattle.dc_tree.specs.declared.stmt.Stmt.{Stmt}
use Rattle.dc_tree.specs.declared.token.Token.{Token}
use Rattle.dc_tree.specs.Statements.{Statement, statement}
use Rattle.dc_tree.specs.Spelling.{spell_statement}
use Rattle.dc_tree.specs.Ranking.{RankedStatement}
use Rattle.dc_expr.specs.Answers.{breach}
use Rattle.dc_slices.specs.declared.reading.Reading.{Reading}
use Rattle.dc_slices.specs.Finding.{Found}
use Rattle.dc_stmt.specs.Reading.{statement_reading}
use Rattle.dc_stmt.specs.Depth.{statement_depth}
use Rattle.dc_slices.specs.Judging.{judged}
use Rattle.dc_stmt.specs.Answers.{Spells, IsNone, IsSo, Answers}
use Rattle.dc_stmt.proofs.Found.{Holds, Spelled}
use Rattle.dc_stmt.proofs.StatementsComplete.{statement-is}
use Rattle.dc_stmt.proofs.StatementsSound.{statement-found}

not-some : {A : Type 0} (a : A) → Some a ≡ None → ⊥
not-some a is = cc

same-second : {A B : Type 0} (one other : A × B) → Some one ≡ Some other → one.1 ≡ other.1
same-second {A = A} {B = B} one other is = let same : one ≡ other = cc in ap (λ (p : A × B). p.1) same

not-read : (tokens : List Token) → statement_reading tokens ≡ None → IsNone tokens
not-read tokens none line spells =
    not-some (line, statement_depth line) (sym (statement-is line spells.0) ∙ ap (λ (t : List Token). statement_reading t) spells.1 ∙ none)

-- the depth that is found is that of the statement
depth-found : (tokens : List Token) (line : Statement) (n : ℕ) → statement_reading tokens ≡ Some (line, n) → Spells line tokens → statement_depth line ≡ n
depth-found tokens line n is spells =
    same-second (line, statement_depth line) (line, n) (sym (statement-is line spells.0) ∙ ap (λ (t : List Token). statement_reading t) spells.1 ∙ is)

found-so : (tokens : List Token) (found : Found Statement) → statement_reading tokens ≡ found → Holds (Spelled RankedStatement spell_statement tokens) found → IsSo tokens (judged found)
unfolding judged
found-so tokens None is holds = not-read tokens is
found-so tokens (Some found) is holds =
    let same : statement_depth found.0 ≡ found.1 = depth-found tokens found.0 found.1 is holds in
    elim (cases_Bool (nat_le found.1 256)) [
      | inl flat ↦ rw flat (holds, subst (λ (n : ℕ). n ≤ 256) (sym same) (leb-true found.1 256 flat))
      | inr deep ↦ rw deep (found.0, holds, subst (λ (n : ℕ). 256 < n) (sym same) (leb-false found.1 256 deep))
    ]

-- What is told of all tokens by their reading is so.
pub told-so : (tokens : List Token) → IsSo tokens (judged (statement_reading tokens))
told-so tokens = found-so tokens (statement_reading tokens) refl (statement-found tokens)

-- ---- the answers, by what is read

so-told : (tokens : List Token) (read : Reading Statement) → read ≡ judged (statement_reading tokens) → IsSo tokens read
so-told tokens read is = subst (λ (r : Reading Statement). IsSo tokens r) (sym is) (told-so tokens)

pub whole-answers : (line : ℕ) (tokens : List Token) (stmt : Stmt) → Reading.Whole (statement stmt) ≡ judged (statement_reading tokens) → Answers line tokens (Ok stmt)
whole-answers line tokens stmt is = so-told tokens (Reading.Whole (statement stmt)) is

pub deep-answers : (line : ℕ) (tokens : List Token) (fail : Fail) → Reading.Deep ≡ judged (statement_reading tokens) → fail ≡ Fail.Refused (breach 12 line) → Answers line tokens (Err fail)
deep-answers line tokens fail is same = subst (λ (f : Fail). Answers line tokens (Err f)) (sym same) (inr (refl, so-told tokens Reading.Deep is))

pub none-answers : (line : ℕ) (tokens : List Token) (fail : Fail) → Reading.Nothing ≡ judged (statement_reading tokens) → fail ≡ Fail.Refused (breach 11 line) → Answers line tokens (Err fail)
none-answers line tokens fail is same = subst (λ (f : Fail). Answers line tokens (Err f)) (sym same) (inl (refl, so-told tokens Reading.Nothing is))

pub ruleset answering = (whole-answers, deep-answers, none-answers)
