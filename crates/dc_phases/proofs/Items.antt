-- One statement: what the phases answer to it.
use Rattle.std.proofs.Common.{◌≡◌, ◌≤◌, ◌<◌, ℕ, List, Err, refl, sym, ap, subst, ◌∙◌, inl, inr, arith}
use Rattle.dc_tree.specs.declared.fail.Fail.{Fail}
use Rattle.dc_tree.specs.declared.fail.Refusal.{Refusal}
use Rattle.dc_tree.specs.declared.logical_lines.Logical.{Logical}
use Rattle.dc_tree.specs.declared.token.Token.{Token}
use Rattle.dc_tree.specs.Statements.{Statement}
use Rattle.dc_lexer.specs.Answers as lexing
use Rattle.dc_lexer.specs.Tokens as lexemes
use Rattle.dc_lexer.proofs.Answering.{kept}
use Rattle.dc_lexer.proofs.Determined.{one_list}
use Rattle.dc_stmt.specs.Answers as stating
use Rattle.dc_stmt.specs.Depth.{statement_depth}
use Rattle.dc_stmt.proofs.StatementsComplete.{spelled-once}
use Rattle.dc_tree.specs.Findings.{IsFirst, IsUnbroken, finding}
use Rattle.dc_phases.specs.Phases.{HasTokens, breaks_statement, IsStatement}
use Rattle.dc_phases.specs.Lists.{AnswersOne}
use Rattle.dc_phases.specs.declared.tokened.Tokened.{Tokened}

-- ---- tokens

pub tokens-kept : (statement : Logical) (tokens : List Token) → lexing.HasTokens statement.text tokens → IsUnbroken (lexing.broken_in statement)
tokens-kept statement tokens has rule line broken = kept statement.text tokens rule has broken.1

pub tokens-refused : (statement : Logical) (fail : Fail) → lexing.Answers statement (Err fail) → AnswersOne lexing.broken_in HasTokens statement (Err fail)
tokens-refused statement Fail.NoMemory is = tt
tokens-refused statement (Fail.Refused refusal) is = is

-- A statement has one list of tokens at most.
pub one-tokens : (text : List ℕ) (one other : List Token) → lexing.HasTokens text one → lexing.HasTokens text other → one ≡ other
one-tokens text one other has also = has.tokens_are ∙ ap lexemes.tokens_of (one_list text has.lexemes also.lexemes has.are also.are) ∙ sym also.tokens_are

-- ---- statements

-- Tokens are one statement at most.
pub one-statement : (tokens : List Token) (one other : Statement) → stating.Spells one tokens → stating.Spells other tokens → one ≡ other
one-statement tokens one other spells also = spelled-once one other spells.0 also.0 (spells.1 ∙ sym also.1)

pub statement-kept : (tokened : Tokened) (statement : Statement) → stating.IsShallow tokened.tokens statement → IsUnbroken (breaks_statement tokened)
statement-kept tokened statement shallow rule line broken =
    elim broken.1 [
      | inl none ↦ none.1 statement shallow.0
      | inr deep ↦
          let same : statement ≡ deep.1.0 = one-statement tokened.tokens statement deep.1.0 shallow.0 deep.1.1 in
          let depths : statement_depth statement ≡ statement_depth deep.1.0 = ap statement_depth same in
          let below : statement_depth statement ≤ 256 = shallow.1 in
          let above : 256 < statement_depth deep.1.0 = deep.1.2 in
          absurd (omega (arith, depths, below, above))
    ]

-- the refusal of a rule on the line of the tokens
at-line : (tokened : Tokened) (number : ℕ) (refusal : Refusal) → refusal ≡ finding number tokened.line → breaks_statement tokened number tokened.line → ((rule : ℕ) → rule < number → breaks_statement tokened rule tokened.line → ⊥)
    → IsFirst (breaks_statement tokened) refusal
at-line tokened number refusal is broken least =
    subst (λ (r : Refusal). IsFirst (breaks_statement tokened) r) (sym is)
    (record {
      broken = broken;
      no_earlier = λ rule line less other. let same : line ≡ tokened.line = other.0 in absurd (omega (arith, less, same));
      no_lesser = least;
    })

pub statement-refused : (tokened : Tokened) (fail : Fail) → stating.Answers tokened.line tokened.tokens (Err fail) → AnswersOne breaks_statement IsStatement tokened (Err fail)
statement-refused tokened Fail.NoMemory is = tt
statement-refused tokened (Fail.Refused refusal) is =
    elim is [
      | inl none ↦
          at-line tokened 11 refusal none.0 (refl, inl (refl, none.1))
          (λ rule less broken. elim broken.1 [ inl eleven ↦ let e : rule ≡ 11 = eleven.0 in absurd (omega (arith, less, e)) | inr twelve ↦ let e : rule ≡ 12 = twelve.0 in absurd (omega (arith, less, e)) ])
      | inr deep ↦
          at-line tokened 12 refusal deep.0 (refl, inr (refl, deep.1))
          (λ rule less broken. elim broken.1 [ inl none ↦ none.1 deep.1.0 deep.1.1 | inr twelve ↦ let e : rule ≡ 12 = twelve.0 in absurd (omega (arith, less, e)) ])
    ]
