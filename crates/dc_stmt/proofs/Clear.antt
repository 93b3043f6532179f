-- Which tokens a cut passes: those of a ranked tree, and brackets with what stands in them.
use Rattle.std.proofs.Common.{◌≡◌, ℕ, zero, suc, Bool, true, false, List, [], ◌∷◌, ◌++◌, Some, refl, sym, ap, ◌∙◌, append_assoc, append-nil}
use Rattle.std.proofs.lemmas.Bool.{false≢true}
use Rattle.dc_tree.specs.declared.token.Mark.{Mark}
use Rattle.dc_tree.specs.declared.token.Token.{Token}
use Rattle.dc_tree.specs.Syntax.{Tree, Args, number, truth, chars, name, refer, paren, unary, binary, no_args, arg}
use Rattle.dc_tree.specs.Grammar.{is_binary, is_prefix, Ranked, RankedArgs, key, spell, spell_args, spell_more}
use Rattle.dc_slices.specs.declared.cutting.Class.{Class}
use Rattle.dc_slices.specs.declared.cutting.Stop.{Stop}
use Rattle.dc_slices.specs.Cutting.{mark_class, class, stops, level, halts, before, from, cuts, pieces, bracket, in_brackets, in_list}

-- At this depth the cut passes these tokens, whatever follows them.
pub record Passes (stop : Stop) (depth : ℕ) (tokens : List Token) : Type 0 where
  pub before : (rest : List Token) → before stop depth (tokens ++ rest) ≡ tokens ++ before stop depth rest
  pub from : (rest : List Token) → from stop depth (tokens ++ rest) ≡ from stop depth rest
  pub cuts : (rest : List Token) → cuts stop depth (tokens ++ rest) ≡ cuts stop depth rest

pub nothing-passes : (stop : Stop) (depth : ℕ) → Passes stop depth []
nothing-passes stop depth = record { before = λ rest. refl; from = λ rest. refl; cuts = λ rest. refl }

pub append-passes : (stop : Stop) (depth : ℕ) (one other : List Token) → Passes stop depth one → Passes stop depth other → Passes stop depth (one ++ other)
append-passes stop depth one other first second = record {
  before = λ rest. rw append_assoc (first.before (other ++ rest) ∙ ap (λ (more : List Token). one ++ more) (second.before rest) ∙ sym (append_assoc one other (before stop depth rest)));
  from = λ rest. rw append_assoc (first.from (other ++ rest) ∙ second.from rest);
  cuts = λ rest. rw append_assoc (first.cuts (other ++ rest) ∙ second.cuts rest);
}

-- a token that is no stop and no bracket
pub token-passes : (stop : Stop) (depth : ℕ) (token : Token) → halts stop depth (class token) ≡ false → level (class token) depth ≡ depth → Passes stop depth (token ∷ [])
token-passes stop depth token on same = record {
  before = λ rest. rw on (rw same refl);
  from = λ rest. rw on (rw same refl);
  cuts = λ rest. rw on (rw same refl);
}

pub cons-passes : (stop : Stop) (depth : ℕ) (token : Token) (tokens : List Token) → halts stop depth (class token) ≡ false → level (class token) depth ≡ depth
    → Passes stop depth tokens → Passes stop depth (token ∷ tokens)
cons-passes stop depth token tokens on same more = append-passes stop depth (token ∷ []) tokens (token-passes stop depth token on same) more

never-opens : (stop : Stop) (depth : ℕ) → halts stop depth Class.Opens ≡ false
never-opens stop zero = closes-none stop
  where
    closes-none : (stop : Stop) → stops stop Class.Opens ≡ false
    closes-none Stop.Closing = refl
    closes-none stop = refl
never-opens stop (suc depth) = refl

pub never-other : (stop : Stop) (depth : ℕ) → halts stop depth Class.Other ≡ false
never-other stop zero = none stop
  where
    none : (stop : Stop) → stops stop Class.Other ≡ false
    none Stop.Closing = refl
    none stop = refl
never-other stop (suc depth) = refl

open-before : (stop : Stop) (depth : ℕ) (opening : Token) (tokens : List Token) → class opening ≡ Class.Opens → before stop depth (opening ∷ tokens) ≡ opening ∷ before stop (suc depth) tokens
open-before stop depth opening tokens opens = rw opens (rw (never-opens stop depth) refl)

open-from : (stop : Stop) (depth : ℕ) (opening : Token) (tokens : List Token) → class opening ≡ Class.Opens → from stop depth (opening ∷ tokens) ≡ from stop (suc depth) tokens
open-from stop depth opening tokens opens = rw opens (rw (never-opens stop depth) refl)

open-cuts : (stop : Stop) (depth : ℕ) (opening : Token) (tokens : List Token) → class opening ≡ Class.Opens → cuts stop depth (opening ∷ tokens) ≡ cuts stop (suc depth) tokens
open-cuts stop depth opening tokens opens = rw opens (rw (never-opens stop depth) refl)

close-before : (stop : Stop) (depth : ℕ) (closing : Token) (tokens : List Token) → class closing ≡ Class.Closes → before stop (suc depth) (closing ∷ tokens) ≡ closing ∷ before stop depth tokens
close-before stop depth closing tokens closes = rw closes refl

close-from : (stop : Stop) (depth : ℕ) (closing : Token) (tokens : List Token) → class closing ≡ Class.Closes → from stop (suc depth) (closing ∷ tokens) ≡ from stop depth tokens
close-from stop depth closing tokens closes = rw closes refl

close-cuts : (stop : Stop) (depth : ℕ) (closing : Token) (tokens : List Token) → class closing ≡ Class.Closes → cuts stop (suc depth) (closing ∷ tokens) ≡ cuts stop depth tokens
close-cuts stop depth closing tokens closes = rw closes refl

-- tokens between brackets
pub enclosed-passes : (stop : Stop) (depth : ℕ) (opening closing : Token) (tokens : List Token) → class opening ≡ Class.Opens → class closing ≡ Class.Closes
    → Passes stop (suc depth) tokens → Passes stop depth (opening ∷ (tokens ++ closing ∷ []))
enclosed-passes stop depth opening closing tokens opens closes inside = record {
  before = λ rest.
      open-before stop depth opening ((tokens ++ closing ∷ []) ++ rest) opens
      ∙ ap (λ (more : List Token). opening ∷ more)
      (ap (before stop (suc depth)) (append_assoc tokens (closing ∷ []) rest) ∙ inside.before (closing ∷ rest)
      ∙ ap (λ (more : List Token). tokens ++ more) (close-before stop depth closing rest closes)
      ∙ sym (append_assoc tokens (closing ∷ []) (before stop depth rest)));
  from = λ rest.
      open-from stop depth opening ((tokens ++ closing ∷ []) ++ rest) opens
      ∙ ap (from stop (suc depth)) (append_assoc tokens (closing ∷ []) rest) ∙ inside.from (closing ∷ rest) ∙ close-from stop depth closing rest closes;
  cuts = λ rest.
      open-cuts stop depth opening ((tokens ++ closing ∷ []) ++ rest) opens
      ∙ ap (cuts stop (suc depth)) (append_assoc tokens (closing ∷ []) rest) ∙ inside.cuts (closing ∷ rest) ∙ close-cuts stop depth closing rest closes;
}

pub bracket-passes : (stop : Stop) (depth : ℕ) (tokens : List Token) → Passes stop (suc depth) tokens → Passes stop depth (Token.Mark Mark.Open ∷ (tokens ++ Token.Mark Mark.Close ∷ []))
bracket-passes stop depth tokens inside = enclosed-passes stop depth (Token.Mark Mark.Open) (Token.Mark Mark.Close) tokens refl refl inside

-- ---- trees

-- words at this depth are no stops
abbrev pub Quiet : Stop → ℕ → Type 0
Quiet stop depth = halts stop depth Class.Word ≡ false

operator-other : (mark : Mark) → is_binary mark ≡ true → mark_class mark ≡ Class.Other
operator-other Mark.Open is = absurd (false≢true is)
operator-other Mark.Close is = absurd (false≢true is)
operator-other Mark.OpenList is = absurd (false≢true is)
operator-other Mark.CloseList is = absurd (false≢true is)
operator-other Mark.Comma is = absurd (false≢true is)
operator-other Mark.Colon is = absurd (false≢true is)
operator-other Mark.Colons is = absurd (false≢true is)
operator-other Mark.Equals is = absurd (false≢true is)
operator-other mark is = refl

prefix-other : (mark : Mark) → is_prefix mark ≡ true → mark_class mark ≡ Class.Other
prefix-other Mark.Not is = refl
prefix-other Mark.Plus is = refl
prefix-other Mark.Minus is = refl
prefix-other mark is = absurd (false≢true is)

other-passes : (stop : Stop) (depth : ℕ) (token : Token) → class token ≡ Class.Other → Passes stop depth (token ∷ [])
other-passes stop depth token is = token-passes stop depth token (rw is (never-other stop depth)) (rw is refl)

-- in brackets no token is a stop
inner-passes : (stop : Stop) (depth : ℕ) (token : Token) → level (class token) (suc depth) ≡ suc depth → Passes stop (suc depth) (token ∷ [])
inner-passes stop depth token same = token-passes stop (suc depth) token refl same

key-passes : (stop : Stop) (depth : ℕ) (keyed : Bool) → Passes stop (suc depth) (key keyed)
key-passes stop depth true =
    append-passes stop (suc depth) _ _ (inner-passes stop depth (Token.Word _) refl) (inner-passes stop depth (Token.Mark Mark.Equals) refl)
key-passes stop depth false = nothing-passes stop (suc depth)

mutual
  pub tree-passes : (e : Tree) (stop : Stop) (depth : ℕ) → Ranked e → Quiet stop depth → Passes stop depth (spell e)
  tree-passes (number digits suffix) stop depth ranked quiet = other-passes stop depth (Token.Number digits suffix) refl
  tree-passes (truth true) stop depth ranked quiet = other-passes stop depth (Token.Mark Mark.True) refl
  tree-passes (truth false) stop depth ranked quiet = other-passes stop depth (Token.Mark Mark.False) refl
  tree-passes (chars text) stop depth ranked quiet = absurd ranked
  tree-passes (name text) stop depth ranked quiet = token-passes stop depth (Token.Word text) quiet refl
  tree-passes (refer text args) stop depth ranked quiet =
      cons-passes stop depth (Token.Word text) _ quiet refl (bracket-passes stop depth (spell_args args) (args-pass args stop depth ranked.1))
  tree-passes (paren inside) stop depth ranked quiet = bracket-passes stop depth (spell inside) (tree-passes inside stop (suc depth) ranked refl)
  tree-passes (unary mark right) stop depth ranked quiet =
      append-passes stop depth (Token.Mark mark ∷ []) (spell right) (other-passes stop depth (Token.Mark mark) (prefix-other mark ranked.0)) (tree-passes right stop depth ranked.2 quiet)
  tree-passes (binary mark left right) stop depth ranked quiet =
      append-passes stop depth (spell left) (Token.Mark mark ∷ spell right) (tree-passes left stop depth ranked.3 quiet)
      (append-passes stop depth (Token.Mark mark ∷ []) (spell right) (other-passes stop depth (Token.Mark mark) (operator-other mark ranked.0)) (tree-passes right stop depth ranked.4 quiet))

  pub args-pass : (args : Args) (stop : Stop) (depth : ℕ) → RankedArgs args → Passes stop (suc depth) (spell_args args)
  args-pass no_args stop depth ranked = nothing-passes stop (suc depth)
  args-pass (arg keyed value rest) stop depth ranked =
      append-passes stop (suc depth) (key keyed) (spell value ++ spell_more rest) (key-passes stop depth keyed)
      (append-passes stop (suc depth) (spell value) (spell_more rest) (tree-passes value stop (suc depth) ranked.0 refl) (more-pass rest stop depth ranked.1))

  pub more-pass : (args : Args) (stop : Stop) (depth : ℕ) → RankedArgs args → Passes stop (suc depth) (spell_more args)
  more-pass no_args stop depth ranked = nothing-passes stop (suc depth)
  more-pass (arg keyed value rest) stop depth ranked =
      append-passes stop (suc depth) (Token.Mark Mark.Comma ∷ []) (key keyed ++ (spell value ++ spell_more rest)) (inner-passes stop depth (Token.Mark Mark.Comma) refl)
      (append-passes stop (suc depth) (key keyed) (spell value ++ spell_more rest) (key-passes stop depth keyed)
      (append-passes stop (suc depth) (spell value) (spell_more rest) (tree-passes value stop (suc depth) ranked.0 refl) (more-pass rest stop depth ranked.1)))

-- ---- what a cut leaves of parts that it passes

pub before-stop : (stop : Stop) (tokens : List Token) (token : Token) (rest : List Token) → Passes stop 0 tokens → stops stop (class token) ≡ true
    → before stop 0 (tokens ++ token ∷ rest) ≡ tokens
before-stop stop tokens token rest pass halt = pass.before (token ∷ rest) ∙ rw halt (append-nil tokens)

pub from-stop : (stop : Stop) (tokens : List Token) (token : Token) (rest : List Token) → Passes stop 0 tokens → stops stop (class token) ≡ true
    → from stop 0 (tokens ++ token ∷ rest) ≡ token ∷ rest
from-stop stop tokens token rest pass halt = pass.from (token ∷ rest) ∙ rw halt refl

pub before-end : (stop : Stop) (tokens : List Token) → Passes stop 0 tokens → before stop 0 tokens ≡ tokens
before-end stop tokens pass = ap (before stop 0) (sym (append-nil tokens)) ∙ pass.before [] ∙ append-nil tokens

pub from-end : (stop : Stop) (tokens : List Token) → Passes stop 0 tokens → from stop 0 tokens ≡ []
from-end stop tokens pass = ap (from stop 0) (sym (append-nil tokens)) ∙ pass.from []

pub cuts-end : (stop : Stop) (tokens : List Token) → Passes stop 0 tokens → cuts stop 0 tokens ≡ []
cuts-end stop tokens pass = ap (cuts stop 0) (sym (append-nil tokens)) ∙ pass.cuts []

pub one-piece : (stop : Stop) (tokens : List Token) → Passes stop 0 tokens → pieces stop tokens ≡ tokens ∷ []
one-piece stop tokens pass = rw (before-end stop tokens pass) (rw (cuts-end stop tokens pass) refl)

pub next-piece : (stop : Stop) (tokens : List Token) (token : Token) (rest : List Token) → Passes stop 0 tokens → stops stop (class token) ≡ true
    → pieces stop (tokens ++ token ∷ rest) ≡ tokens ∷ pieces stop rest
next-piece stop tokens token rest pass halt =
    rw (before-stop stop tokens token rest pass halt) (rw (pass.cuts (token ∷ rest)) (rw halt refl))

pub bracket-is : (inside after : List Token) → Passes Stop.Closing 0 inside → bracket (Token.Mark Mark.Open ∷ (inside ++ Token.Mark Mark.Close ∷ after)) ≡ Some (inside, after)
bracket-is inside after pass =
    rw (before-stop Stop.Closing inside (Token.Mark Mark.Close) after pass refl) (rw (from-stop Stop.Closing inside (Token.Mark Mark.Close) after pass refl) refl)

pub in_brackets-is : (inside : List Token) → Passes Stop.Closing 0 inside → in_brackets (Token.Mark Mark.Open ∷ (inside ++ Token.Mark Mark.Close ∷ [])) ≡ Some inside
in_brackets-is inside pass = rw (bracket-is inside [] pass) refl

pub in_list-is : (inside : List Token) → Passes Stop.Closing 0 inside → in_list (Token.Mark Mark.OpenList ∷ (inside ++ Token.Mark Mark.CloseList ∷ [])) ≡ Some inside
in_list-is inside pass =
    rw (before-stop Stop.Closing inside (Token.Mark Mark.CloseList) [] pass refl) (rw (from-stop Stop.Closing inside (Token.Mark Mark.CloseList) [] pass refl) refl)
