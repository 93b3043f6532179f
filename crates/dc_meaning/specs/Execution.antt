-- The execution of blocks: constructs, loops and their turns. After ISO/IEC 1539-1:2023, clauses 11.1.2,
-- 11.1.7, 11.1.8 and 11.1.9; the turns are this project's own.
use Rattle.std.specs.Prelude.{ℕ, zero, suc, ◌+◌, ◌+ℤ◌, Bool, true, false, ◌&&◌, min, [], bytes_eq, Option, Some, None, if◌then◌else◌, ℤ, pos, int_le}
use Rattle.std.specs.List.{list_any}
use Rattle.dc_int.specs.declared.fault.FaultKind.{FaultKind}
use Rattle.dc_int.specs.Reductions.{truth}
use Rattle.dc_int.specs.Sorts.{Sort, fitted}
use Rattle.dc_code.specs.declared.frame.Place.{Place}
use Rattle.dc_code.specs.Combinations.{Span, natural, value_count}
use Rattle.dc_code.specs.Computation.{give, pause}
use Rattle.dc_code.specs.Troubles.{enter_loop}
use Rattle.dc_tree.specs.Blocks.{Line, Item, Items, Arms, plain, branch, select, loop, none, and_then, no_arms, arm}
use Rattle.dc_tree.specs.Entities.{Entity, Scope, entity}
use Rattle.dc_tree.specs.Operating.{is_equal}
use Rattle.dc_tree.specs.Statements as statements
use Rattle.dc_tree.specs.Statements.{Name, Ranging, CaseRange, Statement}
use Rattle.dc_tree.specs.Syntax.{Tree}
use Rattle.dc_tree.specs.Typing.{sort_of, sort_of_entity, constant_value}
use Rattle.dc_meaning.specs.Acts.{Act, ◌>>=◌, just, wrong, spend, innermost, store, refer_to}
use Rattle.dc_meaning.specs.Actions.{Flow, on, returns, cycles, exits, ◌>>◌, act}
use Rattle.dc_meaning.specs.Places.{element_at}
use Rattle.dc_meaning.specs.Values.{Callee, value}

-- ---- limits

abbrev pub step_value : Scope → Callee → ℕ → Option Tree → Act ℤ
step_value scope call line None = just (pos 1)
step_value scope call line (Some tree) = value scope call line tree

abbrev pub checked_span : ℕ → Span → Act Span
checked_span line span = if is_equal span.step (pos 0) then wrong FaultKind.StepZero line else just span

-- The limits and the step of an index or a DO variable of this sort: evaluated in this order, wrapped to
-- its kind, and a step of zero is a fault, here before a further index is evaluated. dc_code finds the same
-- of any header that leaves one.
abbrev pub span_of : Scope → Callee → ℕ → Sort → Ranging → Act Span
span_of scope call line sort ranging = do
  first ← value scope call line ranging.first
  last ← value scope call line ranging.last
  step ← step_value scope call line ranging.step
  checked_span line (record { first = fitted sort first; last = fitted sort last; step = fitted sort step })

-- ---- rounds

-- A CYCLE or EXIT belongs to the innermost loop, or to the one that it names.
abbrev pub belongs : Option Name → Option Name → Bool
belongs label None = true
belongs (Some label) (Some given) = bytes_eq label given
belongs None (Some given) = false

-- What follows a round of a loop with this label.
abbrev pub behind_round : Option Name → Act Flow → Flow → Act Flow
behind_round label next on = next
behind_round label next returns = just returns
behind_round label next (cycles given) = if belongs label given then next else just (cycles given)
behind_round label next (exits given) = just (if belongs label given then on else exits given)

-- The DO variable is read and defined anew.
abbrev pub stepped : ℕ → Place → Sort → ℤ → Act Unit
stepped line place sort step = refer_to line place >>= (λ z. store line place (fitted sort (z +ℤ step)))

-- So many rounds of a counted DO.
abbrev pub counted_rounds : ℕ → Option Name → Act Unit → Act Flow → ℕ → Act Flow
counted_rounds line label step body zero = just on
counted_rounds line label step body (suc count) =
    spend line >> (body >>= behind_round label (step >> counted_rounds line label step body count))

abbrev pub counted_do : Scope → Callee → ℕ → Option Name → Ranging → Entity → Act Flow → Act Flow
counted_do scope call line label ranging variable body = do
  span ← span_of scope call line (sort_of_entity variable) ranging
  place ← element_at line variable []
  store line place span.first >> counted_rounds line label (stepped line place (sort_of_entity variable) span.step) body (value_count span)

-- Rounds while the test holds, at most so many; each spends a turn.
abbrev pub while_rounds : ℕ → ℕ → Option Name → Act ℤ → Act Flow → Act Flow
while_rounds zero line label test body = just on
while_rounds (suc most) line label test body =
    test >>= (λ z. if truth z then (spend line >> (body >>= behind_round label (while_rounds most line label test body))) else just on)

-- There are no more rounds than turns, and the test may be once more.
abbrev pub while_do : ℕ → Option Name → Act ℤ → Act Flow → Act Flow
while_do line label test body state = while_rounds (suc state.turns) line label test body state

-- ---- a DO CONCURRENT

-- The loop of this number is run elsewhere, and tells the turns that are left: no more than there were when it
-- was reached.
abbrev pub concurrent_do : ℕ → Act Flow
concurrent_do number state =
    pause (enter_loop number state.turns (innermost state).slots) (λ told. give (on, record { frames = state.frames; turns = min (natural told) state.turns }))

-- A loop by its head, its number among the DO CONCURRENT loops of the program, and what a round does.
abbrev pub loop_of : Scope → Callee → ℕ → Line → Act Flow → Act Flow
loop_of scope call number head body = by head.says
  where
    by : Statement → Act Flow
    by (statements.do_line label (Some ranging)) = counted_do scope call head.line label ranging (entity scope ranging.name) body
    by (statements.do_line label None) = while_do head.line label (just (pos 1)) body
    by (statements.do_while label test) = while_do head.line label (value scope call head.line test) body
    by (statements.concurrent label spec ranging mask locality) = concurrent_do number
    by other = just on

-- ---- arms

-- The selector lies in a range of constants.
abbrev pub is_from : Option ℤ → ℤ → Bool
is_from (Some low) z = int_le low z
is_from None z = false

abbrev pub is_up_to : Option ℤ → ℤ → Bool
is_up_to (Some high) z = int_le z high
is_up_to None z = false

abbrev pub is_in_range : Scope → ℤ → CaseRange → Bool
is_in_range scope z (statements.only tree) = is_from (constant_value scope tree) z && is_up_to (constant_value scope tree) z
is_in_range scope z (statements.from low) = is_from (constant_value scope low) z
is_in_range scope z (statements.up_to high) = is_up_to (constant_value scope high) z
is_in_range scope z (statements.between low high) = is_from (constant_value scope low) z && is_up_to (constant_value scope high) z

-- An arm of SELECT CASE, before further arms and what is done where none of them fits. A default is what
-- is done then, wherever it stands.
abbrev pub case_arm : Scope → ℤ → Statement → Act Flow → (Act Flow → Act Flow) → Act Flow → Act Flow
case_arm scope z (statements.case ranges) body further otherwise = if list_any (is_in_range scope z) ranges then body else further otherwise
case_arm scope z other body further otherwise = further body

-- An arm of IF, before the further arms.
abbrev pub if_arm : Scope → Callee → Line → Act Flow → Act Flow → Act Flow
if_arm scope call head body further = by head.says
  where
    tested : Tree → Act Flow
    tested test = value scope call head.line test >>= (λ z. if truth z then body else further)

    by : Statement → Act Flow
    by (statements.if_then test) = tested test
    by (statements.else_if test) = tested test
    by other = body

abbrev pub plain_line : Scope → Callee → Line → Act Flow
plain_line scope call line = by line.says
  where
    by : Statement → Act Flow
    by (statements.act deed) = act scope call line.line deed
    by (statements.if_action test deed) = value scope call line.line test >>= (λ z. if truth z then act scope call line.line deed else just on)
    by other = just on

-- The selector, in its sort.
abbrev pub selector_of : Scope → Callee → Line → Act ℤ
selector_of scope call head = by head.says
  where
    by : Statement → Act ℤ
    by (statements.select_case tree) = value scope call head.line tree >>= (λ z. just (fitted (sort_of scope tree) z))
    by other = just (pos 0)

-- What follows a statement.
abbrev pub behind_item : Act Flow → Flow → Act Flow
behind_item rest on = rest
behind_item rest flow = just flow

-- ---- how many DO CONCURRENT loops a block has, in the order of the text

abbrev pub is_concurrent : Statement → Bool
is_concurrent (statements.concurrent label spec ranging mask locality) = true
is_concurrent other = false

abbrev mutual
  pub loops_in : Item → ℕ
  loops_in (plain line) = 0
  loops_in (branch arms close) = loops_in_arms arms
  loops_in (select head arms close) = loops_in_arms arms
  loops_in (loop head body close) = (if is_concurrent head.says then 1 else 0) + loops_in_all body

  pub loops_in_all : Items → ℕ
  loops_in_all none = 0
  loops_in_all (and_then first rest) = loops_in first + loops_in_all rest

  pub loops_in_arms : Arms → ℕ
  loops_in_arms no_arms = 0
  loops_in_arms (arm head body rest) = loops_in_all body + loops_in_arms rest

-- ---- blocks

-- A statement or construct, before which the text has so many DO CONCURRENT loops.
abbrev mutual
  pub exec : Scope → Callee → ℕ → Item → Act Flow
  exec scope call number (plain line) = plain_line scope call line
  exec scope call number (branch arms close) = exec_arms scope call number arms
  exec scope call number (select head arms close) = selector_of scope call head >>= (λ z. exec_cases scope call number z arms (just on))
  exec scope call number (loop head body close) = loop_of scope call number head (exec_all scope call number body)

  pub exec_all : Scope → Callee → ℕ → Items → Act Flow
  exec_all scope call number none = just on
  exec_all scope call number (and_then first rest) = exec scope call number first >>= behind_item (exec_all scope call (number + loops_in first) rest)

  pub exec_arms : Scope → Callee → ℕ → Arms → Act Flow
  exec_arms scope call number no_arms = just on
  exec_arms scope call number (arm head body rest) =
      if_arm scope call head (exec_all scope call number body) (exec_arms scope call (number + loops_in_all body) rest)

  pub exec_cases : Scope → Callee → ℕ → ℤ → Arms → Act Flow → Act Flow
  exec_cases scope call number z no_arms otherwise = otherwise
  exec_cases scope call number z (arm head body rest) otherwise =
      case_arm scope z head.says (exec_all scope call number body) (λ other. exec_cases scope call (number + loops_in_all body) z rest other) otherwise
