-- What is found in tokens: a value with the greatest depth of the expressions in it, or nothing. This
-- project's own.
use Rattle.std.specs.Prelude.{ℕ, max, Bool, true, false, if◌then◌else◌, List, [], ◌∷◌, Option, None, Some}
use Rattle.dc_tree.specs.declared.token.Token.{Token}
use Rattle.dc_tree.specs.Names.{is_name}
use Rattle.dc_tree.specs.Syntax.{Tree}
use Rattle.dc_tree.specs.Grammar.{depth}
use Rattle.dc_tree.specs.Reader.{reading}
use Rattle.dc_tree.specs.Statements.{Name}
use Rattle.dc_tree.specs.Ranking.{is_empty}
use Rattle.dc_slices.specs.declared.cutting.Stop.{Stop}
use Rattle.dc_slices.specs.Cutting.{before, later, pieces, in_brackets}

abbrev pub Found : Type 0 → Type 0
Found A = Option (A × ℕ)

-- a value without expressions
abbrev pub plainly : {A : Type 0} → A → Found A
plainly value = Some (value, 0)

abbrev pub mapped : {A B : Type 0} → (A → B) → Found A → Found B
mapped f None = None
mapped f (Some found) = Some (f found.0, found.1)

abbrev pub both : {A B : Type 0} → Found A → Found B → Found (A × B)
both (Some one) (Some other) = Some ((one.0, other.0), max one.1 other.1)
both one other = None

-- what is found by a part, if there is that part
abbrev pub given : {A B : Type 0} → Option A → (A → Found B) → Found B
given None next = None
given (Some part) next = next part

-- ---- expressions and names

abbrev pub measured : Option Tree → Found Tree
measured None = None
measured (Some e) = Some (e, depth e)

unfoldable pub expr : List Token → Found Tree
expr tokens = measured (reading tokens)

abbrev pub name : List Token → Found Name
name (Token.Word text ∷ []) = if is_name text then plainly text else None
name tokens = None

-- a name that may be absent
abbrev pub label : List Token → Found (Option Name)
label [] = plainly None
label (token ∷ tokens) = mapped (λ text. Some text) (name (token ∷ tokens))

-- ---- lists

-- one item in each slice
abbrev pub items : {A : Type 0} → (List Token → Found A) → List (List Token) → Found (List A)
items read [] = plainly []
items read (piece ∷ rest) = mapped (λ parts. parts.0 ∷ parts.1) (both (read piece) (items read rest))

-- items with commas between them
abbrev pub list : {A : Type 0} → (List Token → Found A) → List Token → Found (List A)
list read tokens = items read (pieces Stop.Comma tokens)

-- the same, or nothing
abbrev pub any_list : {A : Type 0} → (List Token → Found A) → List Token → Found (List A)
any_list read [] = plainly []
any_list read (token ∷ tokens) = list read (token ∷ tokens)

-- items with a comma in front of each
abbrev pub followed_list : {A : Type 0} → (List Token → Found A) → List Token → Found (List A)
followed_list read tokens = if is_empty (before Stop.Comma 0 tokens) then items read (later Stop.Comma tokens) else None

-- brackets that may be absent, with any number of items in them
abbrev pub some_arguments : {A : Type 0} → (List Token → Found A) → List Token → Found (Bool × List A)
some_arguments read tokens = mapped (λ values. (true, values)) (any_list read tokens)

abbrev pub arguments : {A : Type 0} → (List Token → Found A) → List Token → Found (Bool × List A)
arguments read [] = plainly (false, [])
arguments read (token ∷ tokens) = mapped (λ values. (true, values)) (given (in_brackets (token ∷ tokens)) (any_list read))
