-- The words that stand for themselves and never for a name. Fortran has none: this project's own.
use Rattle.std.specs.Prelude.{ℕ, Bool, not, ◌||◌, List, [], ◌∷◌, codes}
use Rattle.std.specs.List.{list_any}
use Rattle.std.specs.Str.{bytes_eq}

-- of headings, declarations and ends
abbrev pub outer_words : List (List ℕ)
outer_words =
    codes "program" ∷ codes "end" ∷ codes "integer" ∷ codes "logical" ∷ codes "contains" ∷ codes "function" ∷ codes "subroutine" ∷ codes "pure"
    ∷ codes "use" ∷ codes "implicit" ∷ codes "parameter" ∷ codes "real" ∷ codes "complex" ∷ codes "character" ∷ codes "module" ∷ codes "submodule" ∷ []

-- of constructs and actions
abbrev pub inner_words : List (List ℕ)
inner_words =
    codes "do" ∷ codes "if" ∷ codes "then" ∷ codes "else" ∷ codes "select" ∷ codes "case" ∷ codes "call" ∷ codes "print" ∷ codes "write" ∷ codes "read"
    ∷ codes "stop" ∷ codes "error" ∷ codes "exit" ∷ codes "cycle" ∷ codes "return" ∷ codes "continue" ∷ codes "allocate" ∷ codes "deallocate"
    ∷ codes "block" ∷ codes "forall" ∷ codes "where" ∷ codes "goto" ∷ []

-- two words written as one
abbrev pub joined_words : List (List ℕ)
joined_words =
    codes "enddo" ∷ codes "endif" ∷ codes "elseif" ∷ codes "endprogram" ∷ codes "endfunction" ∷ codes "endsubroutine" ∷ codes "selectcase"
    ∷ codes "endselect" ∷ []

abbrev pub is_among : List (List ℕ) → List ℕ → Bool
is_among words word = list_any (bytes_eq word) words

-- a word that may be a name
unfoldable pub is_name : List ℕ → Bool
is_name word = not (is_among outer_words word || is_among inner_words word || is_among joined_words word)
