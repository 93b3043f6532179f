-- The words of the grammar. After ISO/IEC 1539-1:2023, clauses 8, 10.2, 11, 12.6, 14 and 15.
use Rattle.std.specs.Prelude.{ℕ, Bool, true, false, if◌then◌else◌, List, [], ◌∷◌, Option, None, Some, codes}
use Rattle.std.specs.Str.{bytes_eq}
use Rattle.dc_tree.specs.declared.token.Token.{Token}
use Rattle.dc_slices.specs.declared.keyword.Keyword.{Keyword}

abbrev pub letters : Keyword → List ℕ
letters Keyword.Program = codes "program"
letters Keyword.Use = codes "use"
letters Keyword.Implicit = codes "implicit"
letters Keyword.Integer = codes "integer"
letters Keyword.Logical = codes "logical"
letters Keyword.Contains = codes "contains"
letters Keyword.Function = codes "function"
letters Keyword.Subroutine = codes "subroutine"
letters Keyword.Pure = codes "pure"
letters Keyword.Recursive = codes "recursive"
letters Keyword.End = codes "end"
letters Keyword.If = codes "if"
letters Keyword.Then = codes "then"
letters Keyword.Else = codes "else"
letters Keyword.Select = codes "select"
letters Keyword.Case = codes "case"
letters Keyword.Do = codes "do"
letters Keyword.Call = codes "call"
letters Keyword.Cycle = codes "cycle"
letters Keyword.Exit = codes "exit"
letters Keyword.Return = codes "return"
letters Keyword.Continue = codes "continue"
letters Keyword.Stop = codes "stop"
letters Keyword.Error = codes "error"
letters Keyword.Print = codes "print"
letters Keyword.Write = codes "write"
letters Keyword.Read = codes "read"
letters Keyword.Intrinsic = codes "intrinsic"
letters Keyword.Only = codes "only"
letters Keyword.Nothing = codes "none"
letters Keyword.Parameter = codes "parameter"
letters Keyword.Dimension = codes "dimension"
letters Keyword.Intent = codes "intent"
letters Keyword.Into = codes "in"
letters Keyword.Out = codes "out"
letters Keyword.InOut = codes "inout"
letters Keyword.Kind = codes "kind"
letters Keyword.Result = codes "result"
letters Keyword.Default = codes "default"
letters Keyword.While = codes "while"
letters Keyword.Concurrent = codes "concurrent"
letters Keyword.Local = codes "local"
letters Keyword.LocalInit = codes "local_init"
letters Keyword.Shared = codes "shared"
letters Keyword.Reduce = codes "reduce"
letters Keyword.Max = codes "max"
letters Keyword.Min = codes "min"
letters Keyword.Iand = codes "iand"
letters Keyword.Ior = codes "ior"
letters Keyword.Ieor = codes "ieor"

abbrev pub keywords : List Keyword
keywords =
    Keyword.Program ∷ Keyword.Use ∷ Keyword.Implicit ∷ Keyword.Integer ∷ Keyword.Logical ∷ Keyword.Contains ∷ Keyword.Function
    ∷ Keyword.Subroutine ∷ Keyword.Pure ∷ Keyword.Recursive ∷ Keyword.End ∷ Keyword.If ∷ Keyword.Then ∷ Keyword.Else ∷ Keyword.Select
    ∷ Keyword.Case ∷ Keyword.Do ∷ Keyword.Call ∷ Keyword.Cycle ∷ Keyword.Exit ∷ Keyword.Return ∷ Keyword.Continue ∷ Keyword.Stop
    ∷ Keyword.Error ∷ Keyword.Print ∷ Keyword.Write ∷ Keyword.Read ∷ Keyword.Intrinsic ∷ Keyword.Only ∷ Keyword.Nothing
    ∷ Keyword.Parameter ∷ Keyword.Dimension ∷ Keyword.Intent ∷ Keyword.Into ∷ Keyword.Out ∷ Keyword.InOut ∷ Keyword.Kind
    ∷ Keyword.Result ∷ Keyword.Default ∷ Keyword.While ∷ Keyword.Concurrent ∷ Keyword.Local ∷ Keyword.LocalInit ∷ Keyword.Shared
    ∷ Keyword.Reduce ∷ Keyword.Max ∷ Keyword.Min ∷ Keyword.Iand ∷ Keyword.Ior ∷ Keyword.Ieor ∷ []

-- the first of these words that the text is
abbrev pub keyword_among : List Keyword → List ℕ → Option Keyword
keyword_among [] text = None
keyword_among (first ∷ rest) text = if bytes_eq text (letters first) then Some first else keyword_among rest text

-- the word that a text is, if it is one
unfoldable pub keyword : List ℕ → Option Keyword
keyword text = keyword_among keywords text

-- whether a token is this word
abbrev pub is : Keyword → Token → Bool
is word (Token.Word text) = bytes_eq text (letters word)
is word token = false

-- the words that are never names
abbrev pub is_reserved : Keyword → Bool
is_reserved Keyword.Recursive = false
is_reserved Keyword.Intrinsic = false
is_reserved Keyword.Only = false
is_reserved Keyword.Nothing = false
is_reserved Keyword.Dimension = false
is_reserved Keyword.Intent = false
is_reserved Keyword.Into = false
is_reserved Keyword.Out = false
is_reserved Keyword.InOut = false
is_reserved Keyword.Kind = false
is_reserved Keyword.Result = false
is_reserved Keyword.Default = false
is_reserved Keyword.While = false
is_reserved Keyword.Concurrent = false
is_reserved Keyword.Local = false
is_reserved Keyword.LocalInit = false
is_reserved Keyword.Shared = false
is_reserved Keyword.Reduce = false
is_reserved Keyword.Max = false
is_reserved Keyword.Min = false
is_reserved Keyword.Iand = false
is_reserved Keyword.Ior = false
is_reserved Keyword.Ieor = false
is_reserved word = true
