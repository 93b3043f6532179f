-- What the phases give is one.
use Rattle.std.proofs.Common.{◌≡◌, ℕ, ◌<◌, List, [], ◌∷◌, refl, sym, ap, subst, ◌∙◌, inl, inr, eqb}
use Rattle.std.specs.Prelude.{if◌then◌else◌}
use Rattle.std.proofs.lemmas.Bool.{cases_order}
use Rattle.dc_tree.specs.declared.fail.Refusal.{Refusal}
use Rattle.dc_tree.specs.declared.logical_lines.Logical.{Logical}
use Rattle.dc_tree.specs.declared.token.Token.{Token}
use Rattle.dc_tree.specs.Blocks.{Line}
use Rattle.dc_tree.specs.Statements.{Statement}
use Rattle.dc_tree.proofs.Findings.{first_is_one}
use Rattle.dc_nest.proofs.Unique.{one-source}
use Rattle.dc_phases.specs.declared.tokened.Tokened.{Tokened}
use Rattle.dc_tree.specs.Findings.{IsFirst}
use Rattle.dc_phases.specs.Lists.{Each}
use Rattle.dc_phases.specs.Phases.{Phase, size, lines, tokens, statements, nesting, place_of, logical_of, HasTokens, AreTokensOf, Says, AreStatementsOf, breaks_in}
use Rattle.dc_phases.specs.Answer.{IsFirstRefusal, IsOneProgram, IsOneAnswer, IsOneRefusal}
use Rattle.dc_phases.proofs.Items.{one-tokens, one-statement}

each-one : {A B : Type 0} (Gives : A → B → Type 0) → ((x : A) (y z : B) → Gives x y → Gives x z → y ≡ z) → (list : List A) (ys zs : List B) → Each Gives list ys → Each Gives list zs → ys ≡ zs
each-one Gives one [] [] [] each other = refl
each-one Gives one [] [] (z ∷ zs) each other = absurd other
each-one Gives one [] (y ∷ ys) zs each other = absurd each
each-one Gives one (x ∷ list) [] zs each other = absurd each
each-one Gives one (x ∷ list) (y ∷ ys) [] each other = absurd other
each-one {B = B} Gives one (x ∷ list) (y ∷ ys) (z ∷ zs) each other =
    let first : y ≡ z = one x y z each.0 other.0 in
    let rest : ys ≡ zs = each-one Gives one list ys zs each.1 other.1 in
    ap (λ (b : B). b ∷ ys) first ∙ ap (λ (bs : List B). z ∷ bs) rest

one-tokened : (statement : Logical) (a b : Tokened) → HasTokens statement a → HasTokens statement b → a ≡ b
one-tokened statement a b has other =
    let lines : a.line ≡ b.line = has.0 ∙ sym other.0 in
    let same : a.tokens ≡ b.tokens = one-tokens statement.text a.tokens b.tokens has.1 other.1 in
    let with_line : ℕ → Tokened = λ l. record { line = l; tokens = a.tokens } in
    let with_tokens : List Token → Tokened = λ t. record { line = b.line; tokens = t } in
    ap with_line lines ∙ ap with_tokens same

one-line : (tokened : Tokened) (a b : Line) → Says tokened a → Says tokened b → a ≡ b
one-line tokened a b says other =
    let lines : a.line ≡ b.line = says.0 ∙ sym other.0 in
    let same : a.says ≡ b.says = one-statement tokened.tokens a.says b.says says.1.0 other.1.0 in
    let with_line : ℕ → Line = λ l. record { line = l; says = a.says } in
    let with_statement : Statement → Line = λ s. record { line = b.line; says = s } in
    ap with_line lines ∙ ap with_statement same

-- The tokens of a text are one list.
pub one-tokens_of : (text : List ℕ) (a b : List Tokened) → AreTokensOf text a → AreTokensOf text b → a ≡ b
one-tokens_of text a b are other = each-one HasTokens one-tokened (logical_of text) a b are other

-- The statements of a text are one list.
pub one-list : (text : List ℕ) (a b : List Line) → AreStatementsOf text a → AreStatementsOf text b → a ≡ b
one-list text a b are other =
    let between : are.0 ≡ other.0 = one-tokens_of text are.0 other.0 are.1 other.1 in
    each-one Says one-line other.0 a b (subst (λ (l : List Tokened). Each Says l a) between are.2) other.2

pub one-program : IsOneProgram
one-program text a b spells other = one-source a b spells.nested other.nested (spells.in_order ∙ one-list text spells.list other.list spells.statements other.statements ∙ sym other.in_order)

pub one-answer : IsOneAnswer
one-answer text source refusal spells refused = spells.kept refused.phase refusal.rule refusal.line refused.first.broken

phase_at : ℕ → Phase
phase_at n = if eqb n 1 then size else (if eqb n 2 then lines else (if eqb n 3 then tokens else (if eqb n 4 then statements else nesting)))

there-and-back : (phase : Phase) → phase_at (place_of phase) ≡ phase
unfolding phase_at
there-and-back size = refl
there-and-back lines = refl
there-and-back tokens = refl
there-and-back statements = refl
there-and-back nesting = refl

not-later : (text : List ℕ) (a b : Refusal) (first : IsFirstRefusal text a) (other : IsFirstRefusal text b) → place_of first.phase < place_of other.phase → ⊥
not-later text a b first other less = other.none_before first.phase less a.rule a.line first.first.broken

pub one-refusal : IsOneRefusal
one-refusal text a b first other =
    let places : place_of first.phase ≡ place_of other.phase =
    elim (cases_order (place_of first.phase) (place_of other.phase)) [
      | inl same ↦ same
      | inr apart ↦ elim apart [ inl less ↦ absurd (not-later text a b first other less) | inr more ↦ absurd (not-later text b a other first more) ]
    ] in
    let phase : first.phase ≡ other.phase = sym (there-and-back first.phase) ∙ ap phase_at places ∙ there-and-back other.phase in
    first_is_one (breaks_in other.phase text) a b (subst (λ (p : Phase). IsFirst (breaks_in p text) a) phase first.first) other.first
