-- What the reader of dc_tree builds here: a tree with its depth, unless it is too deep. A part that
-- is too deep makes the whole too deep. It repeats the code; the answers don't speak of it.
use Rattle.std.specs.Prelude.{ℕ, ◌+◌, max, Bool, nat_lt, nat_le, if◌then◌else◌, false, List, [], ◌∷◌, ◌++◌, Option, Some, None, Result, Ok, Err}
use Rattle.dc_tree.specs.declared.token.Mark.{Mark}
use Rattle.dc_expr.specs.declared.reader.Miss.{Miss}
use Rattle.dc_tree.specs.Syntax.{Tree, number, truth, name, refer, paren, unary, binary, args_from}
use Rattle.dc_tree.specs.Grammar.{level}
use Rattle.dc_tree.specs.Reader.{Building, Frame, behind_sign, behind_left}

abbrev pub Kept : Type 0
Kept = Option (Tree × ℕ)

-- arguments with the greatest depth among them
abbrev pub KeptArgs : Type 0
KeptArgs = Option (List (Bool × Tree) × ℕ)

-- a tree over parts of this depth at most
abbrev pub deeper : Tree → ℕ → Kept
deeper e depth = if nat_lt depth 256 then Some (e, depth + 1) else None

abbrev pub kept_refer : List ℕ → KeptArgs → Kept
kept_refer text (Some args) = deeper (refer text (args_from args.0)) args.1
kept_refer text None = None

abbrev pub kept_paren : Kept → Kept
kept_paren (Some inside) = deeper (paren inside.0) inside.1
kept_paren None = None

abbrev pub kept_unary : Mark → Kept → Kept
kept_unary mark (Some right) = deeper (unary mark right.0) right.1
kept_unary mark None = None

abbrev pub kept_binary : Mark → Kept → Kept → Kept
kept_binary mark (Some left) (Some right) = deeper (binary mark left.0 right.0) (max left.1 right.1)
kept_binary mark left right = None

abbrev pub kept_with : KeptArgs → Bool → Kept → KeptArgs
kept_with (Some args) keyed (Some value) = Some (args.0 ++ (keyed, value.0) ∷ [], max args.1 value.1)
kept_with args keyed value = None

abbrev pub limited : Building Kept KeptArgs
limited = record {
  number = λ digits suffix. Some (number digits suffix, 1);
  truth = λ value. Some (truth value, 1);
  name = λ text. Some (name text, 1);
  refer = kept_refer;
  paren = kept_paren;
  unary = kept_unary;
  binary = kept_binary;
  no_args = Some ([], 0);
  with_arg = kept_with;
}

abbrev pub Frames : Type 0
Frames = List (Frame Kept KeptArgs)

-- whether the innermost frame is an operator of at least this rank
abbrev pub waits : ℕ → Frames → Bool
waits least (behind_sign mark ∷ outer) = nat_le least (level mark)
waits least (behind_left mark left ∷ outer) = nat_le least (level mark)
waits least frames = false

-- a value with the operator that waits for it
abbrev pub applied : Frame Kept KeptArgs → Kept → Kept
applied (behind_sign mark) value = kept_unary mark value
applied (behind_left mark left) value = kept_binary mark left value
applied frame value = value

-- what was found at the end: nothing, a tree that is too deep, or a tree
abbrev pub told_apart : Option Kept → Result Tree Miss
told_apart None = Err Miss.Nothing
told_apart (Some None) = Err Miss.Deep
told_apart (Some (Some value)) = Ok value.0
