-- How tokens are cut, at tokens outside of brackets. A device for reading: this project's own.
use Rattle.std.specs.Prelude.{◌≡◌, ◌<◌, length, ℕ, zero, suc, Bool, true, false, ◌&&◌, if◌then◌else◌, List, [], ◌∷◌, map, Option, None, Some}
use Rattle.dc_tree.specs.declared.token.Mark.{Mark}
use Rattle.dc_tree.specs.declared.token.Token.{Token}
use Rattle.dc_slices.specs.declared.cutting.Class.{Class}
use Rattle.dc_slices.specs.declared.cutting.Stop.{Stop}

abbrev pub mark_class : Mark → Class
mark_class Mark.Open = Class.Opens
mark_class Mark.OpenList = Class.Opens
mark_class Mark.Close = Class.Closes
mark_class Mark.CloseList = Class.Closes
mark_class Mark.Comma = Class.Comma
mark_class Mark.Colon = Class.Colon
mark_class Mark.Colons = Class.Colons
mark_class Mark.Equals = Class.Equals
mark_class mark = Class.Other

abbrev pub class : Token → Class
class (Token.Mark mark) = mark_class mark
class (Token.Word text) = Class.Word
class token = Class.Other

-- the classes at which a cut is made
abbrev pub stops : Stop → Class → Bool
stops Stop.Closing Class.Closes = true
stops Stop.Comma Class.Comma = true
stops Stop.Colon Class.Colon = true
stops Stop.Colons Class.Colons = true
stops Stop.Equals Class.Equals = true
stops Stop.Word Class.Word = true
stops Stop.Part Class.Comma = true
stops Stop.Part Class.Colons = true
stops Stop.Part Class.Word = true
stops stop class = false

-- outside of brackets
abbrev pub at_surface : ℕ → Bool
at_surface zero = true
at_surface (suc depth) = false

abbrev pub shallower : ℕ → ℕ
shallower zero = zero
shallower (suc depth) = depth

-- in how many brackets the next token stands
abbrev pub level : Class → ℕ → ℕ
level Class.Opens depth = suc depth
level Class.Closes depth = shallower depth
level class depth = depth

abbrev pub halts : Stop → ℕ → Class → Bool
halts stop depth class = at_surface depth && stops stop class

-- the tokens in front of the first stop, and those from it on
abbrev pub before : Stop → ℕ → List Token → List Token
before stop depth [] = []
before stop depth (token ∷ tokens) = if halts stop depth (class token) then [] else token ∷ before stop (level (class token) depth) tokens

abbrev pub from : Stop → ℕ → List Token → List Token
from stop depth [] = []
from stop depth (token ∷ tokens) = if halts stop depth (class token) then token ∷ tokens else from stop (level (class token) depth) tokens

-- the slices that begin at the stops, each up to the next stop
abbrev pub cuts : Stop → ℕ → List Token → List (List Token)
cuts stop depth [] = []
cuts stop depth (token ∷ tokens) =
    if halts stop depth (class token) then (token ∷ before stop 0 tokens) ∷ cuts stop 0 tokens else cuts stop (level (class token) depth) tokens

abbrev pub past_first : List Token → List Token
past_first [] = []
past_first (token ∷ tokens) = tokens

-- the first token with what stands behind it up to the next stop
abbrev pub led : Stop → List Token → List Token
led stop [] = []
led stop (token ∷ tokens) = token ∷ before stop 0 tokens

-- the slices behind the stops, and all slices between them
abbrev pub later : Stop → List Token → List (List Token)
later stop tokens = map past_first (cuts stop 0 tokens)

abbrev pub pieces : Stop → List Token → List (List Token)
pieces stop tokens = before stop 0 tokens ∷ later stop tokens

-- The tokens begin at a stop, or there are none.
abbrev pub Stopped : Stop → List Token → Type 0
Stopped stop [] = Unit {0}
Stopped stop (token ∷ tokens) = halts stop 0 (class token) ≡ true

-- The first slice of those that begin at stops, and what follows it.
pub record FirstCut (stop : Stop) (whole slice rest : List Token) : Type 0 where
  pub stopped : Stopped stop rest
  pub slices : cuts stop 0 whole ≡ slice ∷ cuts stop 0 rest
  pub shorter : length rest < length whole

-- ---- brackets

-- what stands between brackets, and what behind them
abbrev pub closed_round : List Token → List Token → Option (List Token × List Token)
closed_round inside (Token.Mark Mark.Close ∷ after) = Some (inside, after)
closed_round inside tokens = None

abbrev pub bracket : List Token → Option (List Token × List Token)
bracket (Token.Mark Mark.Open ∷ tokens) = closed_round (before Stop.Closing 0 tokens) (from Stop.Closing 0 tokens)
bracket tokens = None

-- brackets with nothing behind them
abbrev pub nothing_behind : Option (List Token × List Token) → Option (List Token)
nothing_behind (Some (inside, [])) = Some inside
nothing_behind other = None

abbrev pub in_brackets : List Token → Option (List Token)
in_brackets tokens = nothing_behind (bracket tokens)

-- square brackets with nothing behind them
abbrev pub closed_square : List Token → List Token → Option (List Token)
closed_square inside (Token.Mark Mark.CloseList ∷ []) = Some inside
closed_square inside tokens = None

abbrev pub in_list : List Token → Option (List Token)
in_list (Token.Mark Mark.OpenList ∷ tokens) = closed_square (before Stop.Closing 0 tokens) (from Stop.Closing 0 tokens)
in_list tokens = None
