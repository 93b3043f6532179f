-- The lines of a text, as bytes. That a text is cut at line feeds, and that a carriage return at the end
-- of a line is no part of it, is this project's own.
use Rattle.std.specs.Prelude.{ℕ, ◌==◌, List, [], ◌∷◌, map, if◌then◌else◌}

abbrev pub put : ℕ → List (List ℕ) → List (List ℕ)
put c [] = (c ∷ []) ∷ []
put c (line ∷ lines) = (c ∷ line) ∷ lines

-- what stands between line feeds; nothing behind the last one is no line
abbrev pub cut : List ℕ → List (List ℕ)
cut [] = []
cut (c ∷ text) = if c == 10 then [] ∷ cut text else put c (cut text)

-- a line without one carriage return at its end
abbrev pub without_return : List ℕ → List ℕ
without_return [] = []
without_return (c ∷ []) = if c == 13 then [] else c ∷ []
without_return (c ∷ d ∷ line) = c ∷ without_return (d ∷ line)

abbrev pub lines_of : List ℕ → List (List ℕ)
lines_of text = map without_return (cut text)
