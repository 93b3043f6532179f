-- What is found as an action is ranked, and spells the tokens.
use Rattle.std.proofs.Common.{◌≡◌, Bool, true, false, List, [], ◌∷◌, ◌++◌, Option, Some, None, refl, sym, ap, ◌∙◌}
use Rattle.std.specs.Prelude.{IfSome, IsTrue, ◌||◌}
use Rattle.dc_tree.specs.declared.token.Mark.{Mark}
use Rattle.dc_tree.specs.declared.token.Token.{Token}
use Rattle.dc_tree.specs.Names.{is_name}
use Rattle.dc_tree.specs.Syntax.{Tree}
use Rattle.dc_tree.specs.Grammar.{Ranked, spell}
use Rattle.dc_tree.specs.Statements.{Name, Target, Deed, assign, fill, call, cycle, exit, error_stop, print, read}
use Rattle.dc_tree.specs.Spelling.{word, comma, equals, star, bracketed, enclosed, separated, followed, optional, named, trees, stars, spell_target, spell_deed}
use Rattle.dc_tree.specs.Spelling as spellings
use Rattle.dc_tree.specs.Ranking.{is_empty, Each, OneOrMore, IsName, RankedTarget, RankedItem, RankedDeed}
use Rattle.dc_slices.specs.declared.keyword.Keyword.{Keyword}
use Rattle.dc_slices.specs.declared.cutting.Stop.{Stop}
use Rattle.dc_slices.specs.Words.{is, letters}
use Rattle.dc_slices.specs.Cutting.{before, from, in_brackets, in_list}
use Rattle.dc_slices.specs.Finding.{Found, plainly, mapped, both, given, expr, label, list, any_list, followed_list, arguments}
use Rattle.dc_parts.specs.Parts.{target, item}
use Rattle.dc_parts.specs.Deeds.{called, errs, printed, past_stars, past_comma, past_closing, written, taken, filled, assigned_from, assigned, defined, deed_named, action}
use Rattle.dc_stmt.proofs.CutLaws.{equals-stops, split-at}
use Rattle.dc_stmt.proofs.WordLaws.{word-found}
use Rattle.dc_stmt.proofs.Found.{Holds, Spelled, IsSound, FitsLabel, mapped-holds, both-hold, given-holds, if-holds, holds-more, expr-found, label-found, any_list-found, followed_list-found}
use Rattle.dc_stmt.proofs.PartsSound.{by-keyword, in-brackets, in-square, trees-found, target-found, item-found}

abbrev DeedIn : List Token → Deed → Type 0
DeedIn tokens = Spelled RankedDeed spell_deed tokens

-- ---- CALL

abbrev pub ArgumentsSpelled : {A : Type 0} → (A → Type 0) → (A → List Token) → List Token → Bool × List A → Type 0
ArgumentsSpelled Fits spelling tokens args = IsTrue (args.0 || is_empty args.1) × Each Fits args.1 × (spellings.arguments spelling args.0 args.1 ≡ tokens)

pub arguments-found : {A : Type 0} (Fits : A → Type 0) (spelled : A → List Token) (part : List Token → Found A) → IsSound Fits spelled part → (tokens : List Token) → Holds (ArgumentsSpelled Fits spelled tokens) (arguments part tokens)
arguments-found Fits spelled part sound [] = (refl, tt, refl)
arguments-found {A = A} Fits spelled part sound (token ∷ tokens) =
    mapped-holds (Spelled (Each Fits) (λ (values : List A). bracketed (separated spelled values)) (token ∷ tokens)) (ArgumentsSpelled Fits spelled (token ∷ tokens)) (λ (values : List A). (true, values))
    (given (in_brackets (token ∷ tokens)) (any_list part)) (in-brackets (Each Fits) (separated spelled) (any_list part) (any_list-found Fits spelled part sound) (token ∷ tokens))
    (λ values holds. (refl, holds.0, holds.1))

called-found : (tokens : List Token) → Holds (DeedIn (word "call" ∷ tokens)) (called tokens)
called-found (Token.Word text ∷ tokens) =
    if-holds (DeedIn (word "call" ∷ Token.Word text ∷ tokens)) (is_name text) (mapped (λ args. call text args.0 args.1) (arguments expr tokens))
    (λ named.
    mapped-holds (ArgumentsSpelled Ranked spell tokens) (DeedIn (word "call" ∷ Token.Word text ∷ tokens)) (λ (args : Bool × List Tree). call text args.0 args.1) (arguments expr tokens) (arguments-found Ranked spell expr expr-found tokens)
    (λ args holds. ((named, holds.0, holds.1), ap (λ (more : List Token). word "call" ∷ Token.Word text ∷ more) holds.2)))
called-found tokens = tt

-- ---- CYCLE and EXIT

pub label-fits : (found : Option Name) → FitsLabel found → IfSome found IsName
label-fits None fits = tt
label-fits (Some text) fits = fits

abbrev pub LabelSpelled : List Token → Option Name → Type 0
LabelSpelled tokens found = IfSome found IsName × (optional named found ≡ tokens)

pub label-spelled : (tokens : List Token) → Holds (LabelSpelled tokens) (label tokens)
label-spelled tokens =
    holds-more (Spelled FitsLabel (λ (text : Option Name). optional named text) tokens) (LabelSpelled tokens) (label tokens) (label-found tokens) (λ found holds. (label-fits found holds.0, holds.1))

cycled-found : (tokens : List Token) → Holds (DeedIn (word "cycle" ∷ tokens)) (mapped (λ name. cycle name) (label tokens))
cycled-found tokens =
    mapped-holds (LabelSpelled tokens) (DeedIn (word "cycle" ∷ tokens)) (λ (found : Option Name). cycle found) (label tokens) (label-spelled tokens) (λ found holds. (holds.0, ap (λ (more : List Token). word "cycle" ∷ more) holds.1))

exited-found : (tokens : List Token) → Holds (DeedIn (word "exit" ∷ tokens)) (mapped (λ name. exit name) (label tokens))
exited-found tokens =
    mapped-holds (LabelSpelled tokens) (DeedIn (word "exit" ∷ tokens)) (λ (found : Option Name). exit found) (label tokens) (label-spelled tokens) (λ found holds. (holds.0, ap (λ (more : List Token). word "exit" ∷ more) holds.1))

errs-found : (tokens : List Token) → Holds (DeedIn (word "error" ∷ tokens)) (errs tokens)
errs-found (first ∷ []) =
    if-holds (DeedIn (word "error" ∷ first ∷ [])) (is Keyword.Stop first) (plainly error_stop) (λ same. (tt, ap (λ (t : Token). word "error" ∷ t ∷ []) (sym (word-found Keyword.Stop first same))))
errs-found tokens = tt

-- ---- PRINT, WRITE and READ

printed-found : (tokens : List Token) → Holds (DeedIn (word "print" ∷ tokens)) (printed tokens)
printed-found (Token.Mark Mark.Times ∷ tokens) =
    mapped-holds (Spelled (Each RankedItem) (followed spell) tokens) (DeedIn (word "print" ∷ star ∷ tokens)) (λ (values : List Tree). print false values) (followed_list item tokens) (followed_list-found RankedItem spell item item-found tokens)
    (λ values holds. (holds.0, ap (λ (more : List Token). word "print" ∷ star ∷ more) holds.1))
printed-found tokens = tt

closing-found : (tokens rest : List Token) → past_closing tokens ≡ Some rest → tokens ≡ Token.Mark Mark.Close ∷ rest
closing-found (Token.Mark Mark.Close ∷ tokens) rest found = let one : tokens ≡ rest = cc in ap (λ (more : List Token). Token.Mark Mark.Close ∷ more) one
closing-found tokens rest found = absurd (cc)

comma-found : (tokens rest : List Token) → past_comma tokens ≡ Some rest → tokens ≡ comma ∷ star ∷ Token.Mark Mark.Close ∷ rest
comma-found (Token.Mark Mark.Comma ∷ Token.Mark Mark.Times ∷ tokens) rest found = ap (λ (more : List Token). comma ∷ star ∷ more) (closing-found tokens rest found)
comma-found tokens rest found = absurd (cc)

stars-found : (tokens rest : List Token) → past_stars tokens ≡ Some rest → stars ++ rest ≡ tokens
stars-found (Token.Mark Mark.Open ∷ Token.Mark Mark.Times ∷ tokens) rest found = ap (λ (more : List Token). Token.Mark Mark.Open ∷ star ∷ more) (sym (comma-found tokens rest found))
stars-found tokens rest found = absurd (cc)

behind-stars : {A : Type 0} (Fits : A → Type 0) (spelled : A → List Token) (part : List Token → Found A) → IsSound Fits spelled part
    → IsSound (Each Fits) (λ (values : List A). stars ++ separated spelled values) (λ (tokens : List Token). given (past_stars tokens) (any_list part))
behind-stars {A = A} Fits spelled part sound tokens =
    given-holds (Spelled (Each Fits) (λ (values : List A). stars ++ separated spelled values) tokens) (past_stars tokens) (any_list part)
    (λ rest is.
    holds-more (Spelled (Each Fits) (separated spelled) rest) (Spelled (Each Fits) (λ (values : List A). stars ++ separated spelled values) tokens) (any_list part rest) (any_list-found Fits spelled part sound rest)
    (λ values holds. (holds.0, ap (λ (more : List Token). stars ++ more) holds.1 ∙ stars-found tokens rest is)))

written-found : (tokens : List Token) → Holds (DeedIn (word "write" ∷ tokens)) (written tokens)
written-found tokens =
    mapped-holds (Spelled (Each RankedItem) (λ (values : List Tree). stars ++ trees values) tokens) (DeedIn (word "write" ∷ tokens)) (λ (values : List Tree). print true values) (given (past_stars tokens) (any_list item))
    (behind-stars RankedItem spell item item-found tokens) (λ values holds. (holds.0, ap (λ (more : List Token). word "write" ∷ more) holds.1))

taken-bracketed : (tokens : List Token) → Holds (DeedIn (word "read" ∷ tokens)) (mapped (λ places. read true places) (given (past_stars tokens) (any_list target)))
taken-bracketed tokens =
    mapped-holds (Spelled (Each RankedTarget) (λ (places : List Target). stars ++ separated spell_target places) tokens) (DeedIn (word "read" ∷ tokens)) (λ (places : List Target). read true places) (given (past_stars tokens) (any_list target))
    (behind-stars RankedTarget spell_target target target-found tokens) (λ places holds. (holds.0, ap (λ (more : List Token). word "read" ∷ more) holds.1))

taken-found : (tokens : List Token) → Holds (DeedIn (word "read" ∷ tokens)) (taken tokens)
taken-found (Token.Mark Mark.Times ∷ tokens) =
    mapped-holds (Spelled (Each RankedTarget) (followed spell_target) tokens) (DeedIn (word "read" ∷ star ∷ tokens)) (λ (places : List Target). read false places) (followed_list target tokens)
    (followed_list-found RankedTarget spell_target target target-found tokens) (λ places holds. (holds.0, ap (λ (more : List Token). word "read" ∷ star ∷ more) holds.1))
taken-found tokens = taken-bracketed tokens

-- ---- assignments

assigned-parts : (tokens rest : List Token) → from Stop.Equals 0 tokens ≡ rest → Holds (DeedIn tokens) (assigned_from (before Stop.Equals 0 tokens) rest)
assigned-parts tokens [] is = tt
assigned-parts tokens (mark ∷ right) is =
    mapped-holds (λ (parts : Target × Tree). Spelled RankedTarget spell_target (before Stop.Equals 0 tokens) parts.0 × Spelled Ranked spell right parts.1) (DeedIn tokens) (λ (parts : Target × Tree). assign parts.0 parts.1)
    (both (target (before Stop.Equals 0 tokens)) (expr right))
    (both-hold (Spelled RankedTarget spell_target (before Stop.Equals 0 tokens)) (Spelled Ranked spell right) (target (before Stop.Equals 0 tokens)) (expr right) (target-found (before Stop.Equals 0 tokens)) (expr-found right))
    (λ parts holds. (
      (holds.0.0, holds.1.0),
      ap (λ (front : List Token). front ++ equals ∷ spell parts.1) holds.0.1 ∙ ap (λ (back : List Token). before Stop.Equals 0 tokens ++ equals ∷ back) holds.1.1
          ∙ split-at Stop.Equals Mark.Equals equals-stops tokens mark right is,
    ))

assigned-found : (tokens : List Token) → Holds (DeedIn tokens) (assigned tokens)
assigned-found tokens = assigned-parts tokens (from Stop.Equals 0 tokens) refl

defined-found : (text : Name) (tokens : List Token) → Holds (DeedIn (Token.Word text ∷ tokens)) (defined text tokens)
defined-found text (Token.Mark Mark.Equals ∷ Token.Mark Mark.OpenList ∷ tokens) =
    if-holds (DeedIn (Token.Word text ∷ equals ∷ Token.Mark Mark.OpenList ∷ tokens)) (is_name text) (filled text (Token.Mark Mark.OpenList ∷ tokens))
    (λ named.
    mapped-holds (Spelled (OneOrMore Ranked) (λ (values : List Tree). enclosed (trees values)) (Token.Mark Mark.OpenList ∷ tokens)) (DeedIn (Token.Word text ∷ equals ∷ Token.Mark Mark.OpenList ∷ tokens)) (λ (values : List Tree). fill text values)
    (given (in_list (Token.Mark Mark.OpenList ∷ tokens)) (list expr)) (in-square (OneOrMore Ranked) trees (list expr) trees-found (Token.Mark Mark.OpenList ∷ tokens))
    (λ values holds. ((named, holds.0), ap (λ (more : List Token). Token.Word text ∷ equals ∷ more) holds.1)))
defined-found text tokens = assigned-found (Token.Word text ∷ tokens)

-- ---- actions

deed-word : (first : Keyword) (tokens : List Token) → Holds (DeedIn (Token.Word (letters first) ∷ tokens)) (deed_named (Some first) (letters first) tokens)
deed-word Keyword.Call tokens = called-found tokens
deed-word Keyword.Cycle tokens = cycled-found tokens
deed-word Keyword.Exit tokens = exited-found tokens
deed-word Keyword.Return [] = (tt, refl)
deed-word Keyword.Return (token ∷ tokens) = tt
deed-word Keyword.Continue [] = (tt, refl)
deed-word Keyword.Continue (token ∷ tokens) = tt
deed-word Keyword.Stop [] = (tt, refl)
deed-word Keyword.Stop (token ∷ tokens) = tt
deed-word Keyword.Error tokens = errs-found tokens
deed-word Keyword.Print tokens = printed-found tokens
deed-word Keyword.Write tokens = written-found tokens
deed-word Keyword.Read tokens = taken-found tokens
deed-word first tokens = defined-found (letters first) tokens

pub action-found : IsSound RankedDeed spell_deed action
action-found (Token.Word text ∷ tokens) = by-keyword DeedIn (λ text found. deed_named found text tokens) text tokens (λ first. deed-word first tokens) (defined-found text tokens)
action-found tokens = tt
