-- From the answers of the phases to the answer of all.
use Rattle.std.proofs.Common.{◌≡◌, ℕ, ◌<◌, ◌≤◌, List, [], ◌∷◌, length, map, Result, Ok, Err, refl, sym, subst, arith}
use Rattle.dc_tree.specs.declared.fail.Fail.{Fail}
use Rattle.dc_tree.specs.declared.logical_lines.Logical.{Logical}
use Rattle.dc_tree.specs.declared.program.Lined.{Lined}
use Rattle.dc_tree.specs.declared.program.Program.{Program}
use Rattle.dc_tree.specs.Blocks.{Line, line_of}
use Rattle.dc_lexer.specs.Answers as lexing
use Rattle.dc_lines.specs.Answer as splitting
use Rattle.dc_nest.specs.Answer as nested
use Rattle.dc_phases.specs.declared.tokened.Tokened.{Tokened}
use Rattle.dc_tree.specs.Findings.{IsFirst, IsUnbroken, finding}
use Rattle.dc_phases.specs.Lists.{Each, some_breaks, AnswersEach}
use Rattle.dc_phases.specs.Phases.{Phase, size, lines, tokens, statements, nesting, place_of, HasTokens, AreTokensOf, Says, IsStatement, AreStatementsOf, breaks_statement, breaks_in}
use Rattle.dc_phases.specs.Answer.{IsFirstRefusal, IsKept, Answers}
use Rattle.dc_tree.proofs.Findings.{first-same}
use Rattle.dc_phases.proofs.Unique.{one-tokens_of, one-list}

-- ---- the phases so far

-- No rule is broken in the phases before one.
abbrev Before : ℕ → List ℕ → Type 0
Before place text = (earlier : Phase) → place_of earlier < place → IsUnbroken (breaks_in earlier text)

before-size : (text : List ℕ) → Before 1 text
before-size text size less = absurd (omega (arith, less))
before-size text lines less = absurd (omega (arith, less))
before-size text tokens less = absurd (omega (arith, less))
before-size text statements less = absurd (omega (arith, less))
before-size text nesting less = absurd (omega (arith, less))

before-lines : (text : List ℕ) → IsUnbroken (breaks_in size text) → Before 2 text
before-lines text none size less = none
before-lines text none lines less = absurd (omega (arith, less))
before-lines text none tokens less = absurd (omega (arith, less))
before-lines text none statements less = absurd (omega (arith, less))
before-lines text none nesting less = absurd (omega (arith, less))

before-tokens : (text : List ℕ) → Before 2 text → IsUnbroken (breaks_in lines text) → Before 3 text
before-tokens text before none size less = before size (omega arith)
before-tokens text before none lines less = none
before-tokens text before none tokens less = absurd (omega (arith, less))
before-tokens text before none statements less = absurd (omega (arith, less))
before-tokens text before none nesting less = absurd (omega (arith, less))

before-statements : (text : List ℕ) → Before 3 text → IsUnbroken (breaks_in tokens text) → Before 4 text
before-statements text before none size less = before size (omega arith)
before-statements text before none lines less = before lines (omega arith)
before-statements text before none tokens less = none
before-statements text before none statements less = absurd (omega (arith, less))
before-statements text before none nesting less = absurd (omega (arith, less))

before-nesting : (text : List ℕ) → Before 4 text → IsUnbroken (breaks_in statements text) → Before 5 text
before-nesting text before none size less = before size (omega arith)
before-nesting text before none lines less = before lines (omega arith)
before-nesting text before none tokens less = before tokens (omega arith)
before-nesting text before none statements less = none
before-nesting text before none nesting less = absurd (omega (arith, less))

kept : (text : List ℕ) → Before 5 text → IsUnbroken (breaks_in nesting text) → IsKept text
kept text before none size = before size (omega arith)
kept text before none lines = before lines (omega arith)
kept text before none tokens = before tokens (omega arith)
kept text before none statements = before statements (omega arith)
kept text before none nesting = none

-- ---- size

small : (text : List ℕ) → length text ≤ 1048576 → IsUnbroken (breaks_in size text)
small text few rule line broken = let many : 1048576 < length text = broken.2 in absurd (omega (arith, few, many))

large : (text : List ℕ) → 1048576 < length text → IsFirstRefusal text (finding 1 1)
large text many = record {
  phase = size;
  none_before = before-size text;
  first = record {
    broken = (refl, refl, many);
    no_earlier = λ rule line less broken. let one : line ≡ 1 = broken.1 in absurd (omega (arith, less, one));
    no_lesser = λ rule less broken. let one : rule ≡ 1 = broken.0 in absurd (omega (arith, less, one));
  };
}

pub size-refused : (text : List ℕ) (fail : Fail) → 1048576 < length text → fail ≡ Fail.Refused (finding 1 1) → Answers text (Err fail)
size-refused text fail many is = subst (λ (f : Fail). Answers text (Err f)) (sym is) (large text many)

-- ---- lines

behind-size : (text : List ℕ) → length text ≤ 1048576 → Before 2 text
behind-size text few = before-lines text (small text few)

pub lines-refused : (text : List ℕ) (fail : Fail) → length text ≤ 1048576 → splitting.Answers text (Err fail) → Answers text (Err fail)
lines-refused text Fail.NoMemory few is = tt
lines-refused text (Fail.Refused refusal) few is = record { phase = lines; none_before = behind-size text few; first = is }

behind-lines : (text : List ℕ) (list : List Logical) → length text ≤ 1048576 → splitting.Answers text (Ok list) → Before 3 text
behind-lines text list few is = before-tokens text (behind-size text few) (λ rule line broken. is.none_broken broken.0 line broken.2)

-- ---- tokens

pub tokens-refused : (text : List ℕ) (list : List Logical) (fail : Fail) → length text ≤ 1048576 → splitting.Answers text (Ok list) → AnswersEach lexing.broken_in HasTokens list (Err fail) → Answers text (Err fail)
tokens-refused text list Fail.NoMemory few split is = tt
tokens-refused text list (Fail.Refused refusal) few split is = record {
  phase = tokens;
  none_before = behind-lines text list few split;
  first = subst (λ (l : List Logical). IsFirst (some_breaks lexing.broken_in l) refusal) split.statements_are is;
}

-- What was read behind the tokens of the text.
record Tokenized (text : List ℕ) (list : List Tokened) : Type 0 where
  before : Before 4 text
  are : AreTokensOf text list

behind-tokens : (text : List ℕ) (list : List Logical) (tokened : List Tokened) → length text ≤ 1048576 → splitting.Answers text (Ok list) → AnswersEach lexing.broken_in HasTokens list (Ok tokened) → Tokenized text tokened
behind-tokens text list tokened few split is = record {
  before = before-statements text (behind-lines text list few split) (subst (λ (l : List Logical). IsUnbroken (some_breaks lexing.broken_in l)) split.statements_are is.1);
  are = subst (λ (l : List Logical). Each HasTokens l tokened) split.statements_are is.0;
}

-- ---- statements

-- Rules are broken by the tokens of the text just where they are broken by these.
there : (text : List ℕ) (list : List Tokened) → AreTokensOf text list → (rule line : ℕ) → some_breaks breaks_statement list rule line → breaks_in statements text rule line
there text list are rule line broken = (list, are, broken)

back : (text : List ℕ) (list : List Tokened) → AreTokensOf text list → (rule line : ℕ) → breaks_in statements text rule line → some_breaks breaks_statement list rule line
back text list are rule line broken = subst (λ (l : List Tokened). some_breaks breaks_statement l rule line) (one-tokens_of text broken.0 list broken.1 are) broken.2

pub statements-refused : (text : List ℕ) (list : List Logical) (tokened : List Tokened) (fail : Fail) → length text ≤ 1048576 → splitting.Answers text (Ok list) → AnswersEach lexing.broken_in HasTokens list (Ok tokened)
    → AnswersEach breaks_statement IsStatement tokened (Err fail) → Answers text (Err fail)
statements-refused text list tokened Fail.NoMemory few split has is = tt
statements-refused text list tokened (Fail.Refused refusal) few split has is =
    let tokenized = behind-tokens text list tokened few split has in
    record {
      phase = statements;
      none_before = tokenized.before;
      first = first-same (some_breaks breaks_statement tokened) (breaks_in statements text) refusal (there text tokened tokenized.are) (back text tokened tokenized.are) is;
    }

each-line : (tokened : List Tokened) (lined : List Lined) → Each IsStatement tokened lined → Each Says tokened (map line_of lined)
each-line [] [] each = tt
each-line [] (other ∷ lined) each = absurd each
each-line (first ∷ tokened) [] each = absurd each
each-line (first ∷ tokened) (other ∷ lined) each = (each.0, each-line tokened lined each.1)

-- What was read behind the statements of the text.
record Stated (text : List ℕ) (list : List Line) : Type 0 where
  before : Before 5 text
  are : AreStatementsOf text list

behind-statements : (text : List ℕ) (list : List Logical) (tokened : List Tokened) (lined : List Lined) → length text ≤ 1048576 → splitting.Answers text (Ok list) → AnswersEach lexing.broken_in HasTokens list (Ok tokened)
    → AnswersEach breaks_statement IsStatement tokened (Ok lined) → Stated text (map line_of lined)
behind-statements text list tokened lined few split has is =
    let tokenized = behind-tokens text list tokened few split has in
    record {
      before = before-nesting text tokenized.before (λ rule line broken. is.1 rule line (back text tokened tokenized.are rule line broken));
      are = (tokened, tokenized.are, each-line tokened lined is.0);
    }

-- ---- nesting

-- What is broken in nesting is broken by the statements that were read.
nested-back : (text : List ℕ) (list : List Line) → Stated text list → (rule line : ℕ) → breaks_in nesting text rule line → nested.broken_in list rule line
nested-back text list stated rule line broken =
    subst (λ (l : List Line). nested.broken_in l rule line) (one-list text broken.0 list broken.1 stated.are) broken.2

pub nested-so : (text : List ℕ) (list : List Logical) (tokened : List Tokened) (lined : List Lined) (result : Result Program Fail) → length text ≤ 1048576 → splitting.Answers text (Ok list) → AnswersEach lexing.broken_in HasTokens list (Ok tokened)
    → AnswersEach breaks_statement IsStatement tokened (Ok lined) → nested.Answers lined result → Answers text result
nested-so text list tokened lined (Err Fail.NoMemory) few split has says is = tt
nested-so text list tokened lined (Err (Fail.Refused refusal)) few split has says is =
    let stated = behind-statements text list tokened lined few split has says in
    record {
      phase = nesting;
      none_before = stated.before;
      first =
          first-same (nested.broken_in (map line_of lined)) (breaks_in nesting text) refusal (λ rule line broken. (map line_of lined, stated.are, broken)) (λ rule line broken. nested-back text (map line_of lined) stated rule line broken)
          is;
    }
nested-so text list tokened lined (Ok program) few split has says is =
    let stated = behind-statements text list tokened lined few split has says in
    record {
      kept = kept text stated.before (λ rule line broken. let here = nested-back text (map line_of lined) stated rule line broken in is.none_broken here.0 line here.2);
      list = map line_of lined;
      statements = stated.are;
      nested = is.is_nested;
      in_order = is.lists;
    }
