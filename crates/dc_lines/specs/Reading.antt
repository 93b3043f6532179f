-- How a text is read, a line at a time: the functions of the reader, as equations.
-- What they amount to is said by the laws in `proofs/`, and by the clause of `split`.
use Rattle.std.specs.Prelude.{◌≡◌, ℕ, ◌+◌, Bool, true, false, not, ◌&&◌, ◌==◌, nat_lt, List, [], ◌∷◌, ◌++◌, length, Option, Some, None, option_and_then, Result, Ok, Err, if◌then◌else◌}
use Rattle.dc_tree.specs.declared.fail.Fail.{Fail}
use Rattle.dc_tree.specs.declared.fail.Refusal.{Refusal}
use Rattle.dc_tree.specs.Findings.{finding}
use Rattle.dc_tree.specs.declared.logical_lines.Logical.{Logical}
use Rattle.dc_lines.specs.declared.draft.Draft.{Draft}
use Rattle.dc_lines.specs.declared.line.Joint.{Joint}
use Rattle.dc_lines.specs.declared.reading.Place.{Place}
use Rattle.dc_lines.specs.declared.draft.Stop.{Stop}
use Rattle.dc_lines.specs.declared.rule.Rule.{Rule}
use Rattle.dc_lines.specs.Line.{is_blank, is_comment_line, joint_behind}
use Rattle.dc_lines.specs.Joined.{Sign, written, ends, signs_of}
use Rattle.dc_lines.specs.Rules.{is_long, has_foreign, has_open_literal, is_lone, number_of}

-- the bytes in front of the first line feed
abbrev pub first_of : List ℕ → List ℕ
first_of [] = []
first_of (c ∷ text) = if c == 10 then [] else c ∷ first_of text

-- ---- the statement that is being joined

-- the line on which it begins, once this character is added
abbrev pub begun : Option ℕ → ℕ → ℕ → Option ℕ
begun (Some line) number c = Some line
begun None number c = if is_blank c then None else Some number

abbrev pub write : Draft → ℕ → ℕ → Option Draft
write draft number c =
    if nat_lt (length draft.text) 1000000
    then Some (record { statements = draft.statements; text = draft.text ++ c ∷ []; line = begun draft.line number c })
    else None

abbrev pub told : Option ℕ → List ℕ → List Logical
told None text = []
told (Some line) text = record { line = line; text = text } ∷ []

abbrev pub closed : Draft → Draft
closed draft = record { statements = draft.statements ++ told draft.line draft.text; text = []; line = None }

abbrev pub put_sign : Draft → Sign → Option Draft
put_sign draft (written c) = write draft c.line c.byte
put_sign draft ends = Some (closed draft)

abbrev pub put_signs : Draft → List Sign → Option Draft
put_signs draft [] = Some draft
put_signs draft (sign ∷ rest) = option_and_then (λ next. put_signs next rest) (put_sign draft sign)

abbrev pub put_gap : Draft → ℕ → Bool → Option Draft
put_gap draft number is_apart = if is_apart then write draft number 32 else Some draft

-- What is made of a draft, want of memory aside; `None` where the statement gets too long.
abbrev pub Puts : Option Draft → Draft → Result (Unit {0}) Stop → Type 0
Puts made next (Ok done) = made ≡ Some next
Puts made next (Err Stop.TooLong) = made ≡ None
Puts made next (Err Stop.NoMemory) = Unit {0}

-- ---- the lines

-- Where the reader stands: behind a line, or at the first rule that is broken.
pub data Reading : Type 0 where
  stands : Place → Reading
  stops : Refusal → Reading

abbrev pub place : ℕ → Joint → Draft → Place
place lines joint draft = record { lines = lines; joint = joint; draft = draft }

abbrev pub refusal_of : Rule → ℕ → Refusal
refusal_of rule line = finding (number_of rule) line

abbrev pub refused : Rule → ℕ → Reading
refused rule line = stops (refusal_of rule line)

-- behind a line whose characters were added
abbrev pub step_on : Bool → ℕ → Joint → List ℕ → Option Draft → Reading
step_on is_last number joint line None = refused Rule.LongStatement number
step_on is_last number joint line (Some draft) =
    if has_foreign joint line then refused Rule.ForeignByte number
    else (if has_open_literal joint line then refused Rule.OpenLiteral number
    else (if is_lone joint line && not is_last then refused Rule.LoneAmpersand number
    else stands (place number (joint_behind joint line) draft)))

abbrev pub signs_at : ℕ → Joint → List ℕ → List Sign
signs_at number joint line = signs_of (record { number = number; joint = joint; bytes = line })

abbrev pub step : Bool → Place → List ℕ → Reading
step is_last p line =
    if is_long line then refused Rule.LongLine (p.lines + 1)
    else (if is_comment_line line then stands (place (p.lines + 1) p.joint p.draft)
    else step_on is_last (p.lines + 1) p.joint line (put_signs p.draft (signs_at (p.lines + 1) p.joint line)))

abbrev pub is_none_left : List (List ℕ) → Bool
is_none_left [] = true
is_none_left (line ∷ lines) = false

abbrev pub read : Reading → List (List ℕ) → Reading
read reading [] = reading
read (stops refusal) (line ∷ lines) = stops refusal
read (stands p) (line ∷ lines) = read (step (is_none_left lines) p line) lines

abbrev pub start : Reading
start = stands (place 0 Joint.Begins (record { statements = []; text = []; line = None }))

abbrev pub ended : Joint → ℕ → List Logical → Result (List Logical) Refusal
ended Joint.Begins lines statements = Ok statements
ended (Joint.Continues context) lines statements = Err (refusal_of Rule.Unfinished lines)

abbrev pub outcome : Reading → Result (List Logical) Refusal
outcome (stops refusal) = Err refusal
outcome (stands p) = ended p.joint p.lines p.draft.statements

-- What was found is told, want of memory aside.
abbrev pub Told : Result (List Logical) Fail → Result (List Logical) Refusal → Type 0
Told (Ok statements) found = found ≡ Ok statements
Told (Err (Fail.Refused refusal)) found = found ≡ Err refusal
Told (Err Fail.NoMemory) found = Unit {0}

abbrev pub Steps : Reading → Place → Result (Unit {0}) Fail → Type 0
Steps reading next (Ok done) = reading ≡ stands next
Steps reading next (Err (Fail.Refused refusal)) = reading ≡ stops refusal
Steps reading next (Err Fail.NoMemory) = Unit {0}
