-- What is told of a source is one.
use Rattle.std.proofs.Common.{◌≡◌, ℕ, List, Ok, Err, sym, ap, subst, ◌∙◌, inl, inr}
use Rattle.std.specs.Prelude.{◌⊎◌}
use Rattle.std.specs.List.{Contains}
use Rattle.std.proofs.lemmas.Bool.{false≢true}
use Rattle.dc_tree.specs.declared.fail.Fail.{Fail}
use Rattle.dc_tree.specs.declared.fail.Refusal.{Refusal}
use Rattle.dc_tree.specs.declared.program.Program.{Program}
use Rattle.dc_tree.specs.declared.symbols.Symbol.{Symbol}
use Rattle.dc_tree.specs.Blocks.{Source, source_of}
use Rattle.dc_tree.proofs.BlocksBack.{program-told_apart}
use Rattle.dc_tree.specs.Findings.{IsFirst, found_in}
use Rattle.dc_tree.proofs.Findings.{first_is_one, none-in_nothing}
use Rattle.dc_form.specs.BuiltPrograms.{is_built}
use Rattle.dc_declare.specs.Declarations.{symbols_of}
use Rattle.dc_scope.specs.Answer as scope
use Rattle.dc_scope.specs.Answer.{scope_findings}
use Rattle.dc_types.specs.Types as types
use Rattle.dc_types.specs.Types.{type_findings}
use Rattle.dc_phases.specs.Answer as phases
use Rattle.dc_phases.proofs.Unique as unique
use Rattle.dc_front.specs.Form.{IsChecked, Spells, IsFirstOf, IsMisused, IsNotBuilt, Answers, IsOneAnswer, IsOneRefusal}

pub one-program : (text : List ℕ) (program other : Program) (symbols others : List Symbol) → Spells text program symbols → Spells text other others → (program ≡ other) × (symbols ≡ others)
one-program text program other symbols others first second =
    let sources : source_of program ≡ source_of other = unique.one-program text (source_of program) (source_of other) first.spelled second.spelled in
    (program-told_apart program other sources, first.runnable.symbols_are ∙ ap symbols_of sources ∙ sym second.runnable.symbols_are)

-- a program that is checked has no first broken rule of names or types
not-misused : (source : Source) (refusal : Refusal) → IsChecked source → IsFirstOf source refusal → ⊥
not-misused source refusal checked first =
    elim first [
      | inl names ↦ none-in_nothing refusal (subst (λ (l : List Refusal). Contains l refusal) checked.names names.broken)
      | inr types ↦ none-in_nothing refusal (subst (λ (l : List Refusal). Contains l refusal) checked.types types.1.broken)
    ]

pub one-answer : IsOneAnswer
one-answer text refusal program symbols refused spells =
    elim refused [
      | inl broken ↦ unique.one-answer text (source_of program) refusal spells.spelled broken
      | inr behind ↦
          elim behind [
            | inl misused ↦
                let same : misused.source ≡ source_of program = unique.one-program text misused.source (source_of program) misused.spelled spells.spelled in
                not-misused misused.source refusal (subst IsChecked (sym same) spells.runnable.checked) misused.first
            | inr unbuilt ↦
                let same : unbuilt.source ≡ source_of program = unique.one-program text unbuilt.source (source_of program) unbuilt.spelled spells.spelled in
                false≢true
                (sym unbuilt.unbuilt ∙ ap (λ (s : Source). is_built (symbols_of s) s) same ∙ ap (λ (l : List Symbol). is_built l (source_of program)) (sym spells.runnable.symbols_are) ∙ spells.runnable.built)
          ]
    ]

-- Of a program the first broken rule of names or types is one.
one-of : (source : Source) (a b : Refusal) → IsFirstOf source a → IsFirstOf source b → a ≡ b
one-of source a b first other =
    elim first [
      | inl names ↦
          elim other [
            | inl also ↦ first_is_one (found_in (scope_findings source)) a b names also
            | inr types ↦ absurd (none-in_nothing a (subst (λ (l : List Refusal). Contains l a) types.0 names.broken))
          ]
      | inr types ↦
          elim other [
            | inl names ↦ absurd (none-in_nothing b (subst (λ (l : List Refusal). Contains l b) types.0 names.broken))
            | inr also ↦ first_is_one (found_in (type_findings (symbols_of source) source)) a b types.1 also.1
          ]
    ]

-- What stands behind the phases of the text is one.
one-behind : (text : List ℕ) (a b : Refusal) → IsMisused text a ⊎ IsNotBuilt text a → IsMisused text b ⊎ IsNotBuilt text b → a ≡ b
one-behind text a b first other =
    elim first [
      | inl misused ↦
          elim other [
            | inl also ↦
                one-of also.source a b (subst (λ (s : Source). IsFirstOf s a) (unique.one-program text misused.source also.source misused.spelled also.spelled) misused.first) also.first
            | inr unbuilt ↦
                absurd (not-misused misused.source a (subst IsChecked (unique.one-program text unbuilt.source misused.source unbuilt.spelled misused.spelled) unbuilt.checked) misused.first)
          ]
      | inr unbuilt ↦
          elim other [
            | inl misused ↦
                absurd (not-misused misused.source b (subst IsChecked (unique.one-program text unbuilt.source misused.source unbuilt.spelled misused.spelled) unbuilt.checked) misused.first)
            | inr also ↦ unbuilt.is ∙ sym also.is
          ]
    ]

-- a text that is refused behind its phases spells a program by them
spelled-behind : (text : List ℕ) (a : Refusal) → IsMisused text a ⊎ IsNotBuilt text a → (source : Source) × phases.Spells text source
spelled-behind text a behind = elim behind [ inl misused ↦ (misused.source, misused.spelled) | inr unbuilt ↦ (unbuilt.source, unbuilt.spelled) ]

pub one-refusal : IsOneRefusal
one-refusal text a b first other =
    elim first [
      | inl broken ↦
          elim other [
            | inl also ↦ unique.one-refusal text a b broken also
            | inr behind ↦ let spelled = spelled-behind text b behind in absurd (unique.one-answer text spelled.0 a spelled.1 broken)
          ]
      | inr behind ↦
          elim other [
            | inl broken ↦ let spelled = spelled-behind text a behind in absurd (unique.one-answer text spelled.0 b spelled.1 broken)
            | inr also ↦ one-behind text a b behind also
          ]
    ]

-- What the phases refuse is refused, and what breaks a rule of names or of types.
pub refused-so : (text : List ℕ) (fail : Fail) → phases.Answers text (Err fail) → Answers text (Err fail)
refused-so text Fail.NoMemory is = tt
refused-so text (Fail.Refused refusal) is = inl is

pub refused-types : (text : List ℕ) (source : Source) (symbols : List Symbol) (fail : Fail) → phases.Spells text source → scope.Answers source (Ok symbols) → types.Answers symbols source (Err fail) → Answers text (Err fail)
refused-types text source symbols Fail.NoMemory spelled named is = tt
refused-types text source symbols (Fail.Refused refusal) spelled named is =
    inr (inl (record { source = source; spelled = spelled; first = inr (named.0, subst (λ (l : List Symbol). IsFirst (found_in (type_findings l source)) refusal) named.1 is) }))
