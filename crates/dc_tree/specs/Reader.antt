-- A reader of expressions that takes one token at a time. It is a device for proofs and for the
-- code: `Ranked` and `spell` say which tokens are an expression, and the reader finds just those
-- trees. What it builds is given by a `Building`, so that one reader serves trees of every depth, and
-- trees whose depth has a limit. This project's own.
use Rattle.std.specs.Prelude.{ℕ, Bool, true, false, nat_le, if◌then◌else◌, List, [], ◌∷◌, ◌++◌, Option, Some, None, codes}
use Rattle.std.specs.Str.{bytes_eq}
use Rattle.dc_tree.specs.declared.token.Mark.{Mark}
use Rattle.dc_tree.specs.declared.token.Suffix.{Suffix}
use Rattle.dc_tree.specs.declared.token.Token.{Token}
use Rattle.dc_tree.specs.Names.{is_name}
use Rattle.dc_tree.specs.Syntax.{Tree, number, truth, name, refer, paren, unary, binary, args_from}
use Rattle.dc_tree.specs.Grammar.{is_binary, is_prefix, level, left_rank, right_rank}

-- How values, and the arguments of a reference, are built from the parts.
pub record Building (V A : Type 0) : Type 0 where
  pub number : List ℕ → Suffix → V
  pub truth : Bool → V
  pub name : List ℕ → V
  pub refer : List ℕ → A → V
  pub paren : V → V
  pub unary : Mark → V → V
  pub binary : Mark → V → V → V
  pub no_args : A
  pub with_arg : A → Bool → V → A

-- A part of the expression whose end was not read yet: a bracket, a reference with the arguments
-- before the one that is read, an operator in front of its operand, or behind its left operand.
pub data Frame (V A : Type 0) : Type 0 where
  in_bracket : Frame V A
  in_reference : List ℕ → A → Bool → Frame V A
  behind_sign : Mark → Frame V A
  behind_left : Mark → V → Frame V A

-- What the reader has found so far, with the innermost frame first. It has failed, or it stands where
-- an operand begins, behind a name and `(`, behind a name alone, or behind a whole operand.
pub data State (V A : Type 0) : Type 0 where
  failed : State V A
  start : List (Frame V A) → State V A
  called : List (Frame V A) → List ℕ → State V A
  named : List (Frame V A) → List ℕ → State V A
  whole : List (Frame V A) → V → State V A

-- The least rank of what may stand behind these frames.
abbrev pub need : {V A : Type 0} → List (Frame V A) → ℕ
need (behind_sign mark ∷ outer) = right_rank mark
need (behind_left mark left ∷ outer) = right_rank mark
need frames = 0

-- A value with the operators of at least this rank that wait for it, the innermost first.
abbrev pub join : {V A : Type 0} → Building V A → ℕ → List (Frame V A) → V → List (Frame V A) × V
join b least (behind_sign mark ∷ outer) value =
    if nat_le least (level mark) then join b least outer (b.unary mark value) else (behind_sign mark ∷ outer, value)
join b least (behind_left mark left ∷ outer) value =
    if nat_le least (level mark) then join b least outer (b.binary mark left value) else (behind_left mark left ∷ outer, value)
join b least frames value = (frames, value)

-- ---- where an operand begins

abbrev pub prefixed : {V A : Type 0} → Mark → List (Frame V A) → State V A
prefixed mark frames = if nat_le (need frames) (level mark) then start (behind_sign mark ∷ frames) else failed

abbrev pub opened : {V A : Type 0} → Building V A → Mark → List (Frame V A) → State V A
opened b Mark.True frames = whole frames (b.truth true)
opened b Mark.False frames = whole frames (b.truth false)
opened b Mark.Open frames = start (in_bracket ∷ frames)
opened b mark frames = failed

abbrev pub started_by_mark : {V A : Type 0} → Building V A → Mark → List (Frame V A) → State V A
started_by_mark b mark frames = if is_prefix mark then prefixed mark frames else opened b mark frames

abbrev pub started : {V A : Type 0} → Building V A → Token → List (Frame V A) → State V A
started b (Token.Word text) frames = if is_name text then named frames text else failed
started b (Token.Number digits suffix) frames = whole frames (b.number digits suffix)
started b (Token.Chars text) frames = failed
started b (Token.Mark mark) frames = started_by_mark b mark frames

-- ---- behind a value, with which the operators that wait were joined

abbrev pub operated : {V A : Type 0} → Mark → List (Frame V A) × V → State V A
operated mark joined = if nat_le (need joined.0) (level mark) then start (behind_left mark joined.1 ∷ joined.0) else failed

abbrev pub closed : {V A : Type 0} → Building V A → List (Frame V A) → V → State V A
closed b (in_bracket ∷ outer) value = whole outer (b.paren value)
closed b (in_reference text args keyed ∷ outer) value = whole outer (b.refer text (b.with_arg args keyed value))
closed b frames value = failed

abbrev pub separated : {V A : Type 0} → Building V A → List (Frame V A) → V → State V A
separated b (in_reference text args keyed ∷ outer) value = start (in_reference text (b.with_arg args keyed value) false ∷ outer)
separated b frames value = failed

abbrev pub ended : {V A : Type 0} → Building V A → Mark → List (Frame V A) × V → State V A
ended b Mark.Close joined = closed b joined.0 joined.1
ended b Mark.Comma joined = separated b joined.0 joined.1
ended b mark joined = failed

abbrev pub followed_by_mark : {V A : Type 0} → Building V A → Mark → List (Frame V A) → V → State V A
followed_by_mark b mark frames value =
    if is_binary mark then operated mark (join b (left_rank mark) frames value) else ended b mark (join b 0 frames value)

abbrev pub followed : {V A : Type 0} → Building V A → Token → List (Frame V A) → V → State V A
followed b (Token.Mark mark) frames value = followed_by_mark b mark frames value
followed b token frames value = failed

-- ---- behind a name

-- `kind =`, once in front of an argument
abbrev pub keyed_by : {V A : Type 0} → List ℕ → List (Frame V A) → State V A
keyed_by text (in_reference outer_text args false ∷ outer) =
    if bytes_eq text (codes "kind") then start (in_reference outer_text args true ∷ outer) else failed
keyed_by text frames = failed

abbrev pub after_name : {V A : Type 0} → Building V A → Token → List (Frame V A) → List ℕ → State V A
after_name b (Token.Mark Mark.Open) frames text = called frames text
after_name b (Token.Mark Mark.Equals) frames text = keyed_by text frames
after_name b token frames text = followed b token frames (b.name text)

-- a reference may have no argument
abbrev pub after_call : {V A : Type 0} → Building V A → Token → List (Frame V A) → List ℕ → State V A
after_call b (Token.Mark Mark.Close) frames text = whole frames (b.refer text b.no_args)
after_call b token frames text = started b token (in_reference text b.no_args false ∷ frames)

-- ---- the reader

abbrev pub step : {V A : Type 0} → Building V A → Token → State V A → State V A
step b token failed = failed
step b token (start frames) = started b token frames
step b token (called frames text) = after_call b token frames text
step b token (named frames text) = after_name b token frames text
step b token (whole frames value) = followed b token frames value

abbrev pub run : {V A : Type 0} → Building V A → List Token → State V A → State V A
run b [] state = state
run b (token ∷ tokens) state = run b tokens (step b token state)

abbrev pub alone : {V A : Type 0} → List (Frame V A) → V → Option V
alone [] value = Some value
alone frames value = None

abbrev pub settled : {V A : Type 0} → List (Frame V A) × V → Option V
settled joined = alone joined.0 joined.1

abbrev pub finish : {V A : Type 0} → Building V A → State V A → Option V
finish b (named frames text) = settled (join b 0 frames (b.name text))
finish b (whole frames value) = settled (join b 0 frames value)
finish b state = None

abbrev pub read_by : {V A : Type 0} → Building V A → List Token → Option V
read_by b tokens = finish b (run b tokens (start []))

-- The reader of trees.
abbrev pub Listed : Type 0
Listed = List (Bool × Tree)

abbrev pub trees : Building Tree Listed
trees = record {
  number = number;
  truth = truth;
  name = name;
  refer = λ text args. refer text (args_from args);
  paren = paren;
  unary = unary;
  binary = binary;
  no_args = [];
  with_arg = λ args keyed value. args ++ (keyed, value) ∷ [];
}

-- The tree that these tokens spell, if there is one.
abbrev pub reading : List Token → Option Tree
reading tokens = read_by trees tokens
