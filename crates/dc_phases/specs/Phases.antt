-- The phases in which a source is read, what each gives to the next, and which rules are broken in each. The phases, their
-- order, and the numbers of the rules are this project's own.
use Rattle.std.specs.Prelude.{◌≡◌, ◌<◌, ◌⊎◌, ℕ, List, length}
use Rattle.dc_tree.specs.declared.logical_lines.Logical.{Logical}
use Rattle.dc_tree.specs.declared.program.Lined.{Lined}
use Rattle.dc_tree.specs.Blocks.{Line, line_of}
use Rattle.dc_lines.specs.TextLines as text_lines
use Rattle.dc_lines.specs.Joined as joined
use Rattle.dc_lines.specs.Answer as splitting
use Rattle.dc_lexer.specs.Answers as lexing
use Rattle.dc_stmt.specs.Answers as statements_of_tokens
use Rattle.dc_nest.specs.Answer as nested
use Rattle.dc_phases.specs.declared.tokened.Tokened.{Tokened}
use Rattle.dc_phases.specs.Lists.{Each, some_breaks}

-- A source passes these phases, one after another.
pub data Phase : Type 0 where
  size : Phase
  lines : Phase
  tokens : Phase
  statements : Phase
  nesting : Phase

abbrev pub place_of : Phase → ℕ
place_of size = 1
place_of lines = 2
place_of tokens = 3
place_of statements = 4
place_of nesting = 5

-- ---- what the phases give

-- The statements of a text, each as the bytes of its lines.
abbrev pub logical_of : List ℕ → List Logical
logical_of text = joined.statements_of (text_lines.lines_of text)

-- The statement has these tokens, and its line.
abbrev pub HasTokens : Logical → Tokened → Type 0
HasTokens statement tokened = (tokened.line ≡ statement.line) × lexing.HasTokens statement.text tokened.tokens

-- The text has these tokens, statement by statement.
abbrev pub AreTokensOf : List ℕ → List Tokened → Type 0
AreTokensOf text list = Each HasTokens (logical_of text) list

-- The tokens are this statement, on the same line, and no expression in it is too deep.
abbrev pub Says : Tokened → Line → Type 0
Says tokened line = (line.line ≡ tokened.line) × statements_of_tokens.IsShallow tokened.tokens line.says

abbrev pub IsStatement : Tokened → Lined → Type 0
IsStatement tokened lined = Says tokened (line_of lined)

-- The text has these statements.
abbrev pub AreStatementsOf : List ℕ → List Line → Type 0
AreStatementsOf text list = (between : List Tokened) × AreTokensOf text between × Each Says between list

-- ---- the rules

-- K11: No statement spells the tokens. K12: An expression in it is too deep.
abbrev pub breaks_statement : Tokened → ℕ → ℕ → Type 0
breaks_statement tokened rule line =
    (line ≡ tokened.line) × (((rule ≡ 11) × statements_of_tokens.IsNone tokened.tokens) ⊎ ((rule ≡ 12) × statements_of_tokens.IsTooDeep tokened.tokens))

-- Whether a rule is broken on a line in a phase, over what the phases before it give.
abbrev pub breaks_in : Phase → List ℕ → ℕ → ℕ → Type 0
-- K1: The source has more than 1,048,576 bytes. It is line 1.
breaks_in size text rule line = (rule ≡ 1) × (line ≡ 1) × (1048576 < length text)
-- K2 to K7, by the lines of the text.
breaks_in lines text rule line = splitting.broken_in (text_lines.lines_of text) rule line
-- K8 to K10, by the statements of the text.
breaks_in tokens text rule line = some_breaks lexing.broken_in (logical_of text) rule line
-- K11 and K12, by the tokens of each statement.
breaks_in statements text rule line = (list : List Tokened) × AreTokensOf text list × some_breaks breaks_statement list rule line
-- K13 to K18, by the list of the statements.
breaks_in nesting text rule line = (list : List Line) × AreStatementsOf text list × nested.broken_in list rule line
