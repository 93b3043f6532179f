-- The reader finds each tree that the tokens spell.
use Rattle.std.proofs.Common.{◌≡◌, ◌≤◌, ℕ, Bool, true, false, List, [], ◌∷◌, ◌++◌, Some, refl, sym, ap, ◌∙◌, arith, append_assoc, append-nil}
use Rattle.std.specs.Prelude.{codes}
use Rattle.std.proofs.lemmas.Bool.{le-leb, lt-leb, false≢true}
use Rattle.dc_tree.specs.declared.token.Mark.{Mark}
use Rattle.dc_tree.specs.declared.token.Token.{Token}
use Rattle.dc_tree.specs.Names.{is_name}
use Rattle.dc_tree.specs.Syntax.{Tree, Args, number, truth, chars, name, refer, paren, unary, binary, no_args, arg, args_from}
use Rattle.dc_tree.specs.Grammar.{is_binary, is_prefix, level, left_rank, rank, Ranked, RankedArgs, key, spell, spell_args, spell_more}
use Rattle.dc_tree.specs.Reader.{Frame, State, in_bracket, in_reference, behind_sign, behind_left, start, called, named, whole, need, join, operated, followed_by_mark, ended, after_name, step, run, finish, settled, Listed, trees, reading}
use Rattle.dc_tree.proofs.Ranks.{level-left, level-right, crosses}

abbrev Frames : Type 0
Frames = List (Frame Tree Listed)

-- ---- the state behind the tokens of a tree: its right side is still open

abbrev inner_frames : Frames → Tree → Frames
inner_frames frames (unary mark right) = inner_frames (behind_sign mark ∷ frames) right
inner_frames frames (binary mark left right) = inner_frames (behind_left mark left ∷ frames) right
inner_frames frames e = frames

abbrev last_of : Tree → Tree
last_of (unary mark right) = last_of right
last_of (binary mark left right) = last_of right
last_of e = e

abbrev behind : Frames → Tree → State Tree Listed
behind frames (name text) = named frames text
behind frames e = whole frames e

abbrev behind_all : Frames → Tree → State Tree Listed
behind_all frames e = behind (inner_frames frames e) (last_of e)

-- the open operators of a tree join to it
joins : (e : Tree) (least : ℕ) (frames : Frames) → Ranked e → least ≤ rank e → join trees least (inner_frames frames e) (last_of e) ≡ join trees least frames e
joins (unary mark right) least frames ranked fits =
    let within : least ≤ rank right = omega (arith, level-right mark, ranked.1) in
    joins right least (behind_sign mark ∷ frames) ranked.2 within ∙ rw (le-leb least (level mark) fits) refl
joins (binary mark left right) least frames ranked fits =
    let within : least ≤ rank right = omega (arith, level-right mark, ranked.2) in
    joins right least (behind_left mark left ∷ frames) ranked.4 within ∙ rw (le-leb least (level mark) fits) refl
joins e least frames ranked fits = refl

-- no operator in front of a place takes what stands in it
stays : (frames : Frames) (mark : Mark) (e : Tree) → need frames ≤ level mark → join trees (left_rank mark) frames e ≡ (frames, e)
stays (behind_sign waiting ∷ outer) mark e fits = rw (lt-leb (left_rank mark) (level waiting) (crosses waiting mark fits)) refl
stays (behind_left waiting left ∷ outer) mark e fits = rw (lt-leb (left_rank mark) (level waiting) (crosses waiting mark fits)) refl
stays frames mark e fits = refl

-- ---- a mark behind a tree

-- the marks behind which a name is a whole operand
abbrev ends_name : Mark → Bool
ends_name Mark.Open = false
ends_name Mark.Equals = false
ends_name mark = true

operators-end : (mark : Mark) → is_binary mark ≡ true → ends_name mark ≡ true
operators-end Mark.Open is = is
operators-end Mark.Equals is = is
operators-end mark is = refl

name-passes : (mark : Mark) (frames : Frames) (text : List ℕ) → ends_name mark ≡ true
    → after_name trees (Token.Mark mark) frames text ≡ followed_by_mark trees mark frames (name text)
name-passes Mark.Open frames text is = absurd (false≢true is)
name-passes Mark.Equals frames text is = absurd (false≢true is)
name-passes mark frames text is = refl

passes : (mark : Mark) (frames : Frames) (e : Tree) → ends_name mark ≡ true
    → step trees (Token.Mark mark) (behind frames e) ≡ followed_by_mark trees mark frames e
passes mark frames (name text) is = name-passes mark frames text is
passes mark frames e is = refl

operator-step : (mark : Mark) (left : Tree) (frames : Frames) → is_binary mark ≡ true → Ranked left → left_rank mark ≤ rank left → need frames ≤ level mark
    → step trees (Token.Mark mark) (behind_all frames left) ≡ start (behind_left mark left ∷ frames)
operator-step mark left frames is ranked fits room =
    let found : followed_by_mark trees mark (inner_frames frames left) (last_of left) ≡ operated mark (join trees (left_rank mark) (inner_frames frames left) (last_of left))
    = rw is refl in
    let taken : operated mark (frames, left) ≡ start (behind_left mark left ∷ frames) = rw (le-leb (need frames) (level mark) room) refl in
    passes mark (inner_frames frames left) (last_of left) (operators-end mark is) ∙ found
    ∙ ap (λ (joined : Frames × Tree). operated mark joined) (joins left (left_rank mark) frames ranked fits ∙ stays frames mark left room)
    ∙ taken

close-step : (e : Tree) (frames : Frames) → Ranked e
    → step trees (Token.Mark Mark.Close) (behind_all frames e) ≡ ended trees Mark.Close (join trees 0 frames e)
close-step e frames ranked =
    passes Mark.Close (inner_frames frames e) (last_of e) refl
    ∙ ap (λ (joined : Frames × Tree). ended trees Mark.Close joined) (joins e 0 frames ranked (omega arith))

comma-step : (e : Tree) (frames : Frames) → Ranked e
    → step trees (Token.Mark Mark.Comma) (behind_all frames e) ≡ ended trees Mark.Comma (join trees 0 frames e)
comma-step e frames ranked =
    passes Mark.Comma (inner_frames frames e) (last_of e) refl
    ∙ ap (λ (joined : Frames × Tree). ended trees Mark.Comma joined) (joins e 0 frames ranked (omega arith))

-- ---- the tokens of a tree

kind-is_name : is_name (codes "kind") ≡ true
unfolding is_name
kind-is_name = refl

key-read : (keyed : Bool) (text : List ℕ) (listed : Listed) (frames : Frames) (rest : List Token)
    → run trees (key keyed ++ rest) (start (in_reference text listed false ∷ frames)) ≡ run trees rest (start (in_reference text listed keyed ∷ frames))
key-read true text listed frames rest = rw kind-is_name refl
key-read false text listed frames rest = refl

-- behind `NAME (`, an argument begins as an operand does
abbrev BeginsArg : List Token → Type 0
BeginsArg tokens = (frames : Frames) (text : List ℕ) → run trees tokens (called frames text) ≡ run trees tokens (start (in_reference text [] false ∷ frames))

prefix-begins : (mark : Mark) (rest : List Token) → is_prefix mark ≡ true → BeginsArg (Token.Mark mark ∷ rest)
prefix-begins Mark.Close rest is frames text = absurd (false≢true is)
prefix-begins mark rest is frames text = refl

tree-begins : (e : Tree) (rest : List Token) → Ranked e → BeginsArg (spell e ++ rest)
tree-begins (truth true) rest ranked frames text = refl
tree-begins (truth false) rest ranked frames text = refl
tree-begins (unary mark right) rest ranked frames text = prefix-begins mark (spell right ++ rest) ranked.0 frames text
tree-begins (binary mark left right) rest ranked frames text = rw append_assoc (tree-begins left (Token.Mark mark ∷ spell right ++ rest) ranked.3 frames text)
tree-begins e rest ranked frames text = refl

arg-begins : (keyed : Bool) (e : Tree) (rest : List Token) → Ranked e → BeginsArg (key keyed ++ (spell e ++ rest))
arg-begins true e rest ranked frames text = refl
arg-begins false e rest ranked frames text = tree-begins e rest ranked frames text

abbrev listed_of : Args → Listed
listed_of no_args = []
listed_of (arg keyed value rest) = (keyed, value) ∷ listed_of rest

from-listed : (args : Args) → args_from (listed_of args) ≡ args
from-listed no_args = refl
from-listed (arg keyed value rest) = ap (λ (more : Args). arg keyed value more) (from-listed rest)

mutual
  reads : (e : Tree) (frames : Frames) (rest : List Token) → Ranked e → need frames ≤ rank e
      → run trees (spell e ++ rest) (start frames) ≡ run trees rest (behind_all frames e)
  reads (number digits suffix) frames rest ranked room = refl
  reads (truth true) frames rest ranked room = refl
  reads (truth false) frames rest ranked room = refl
  reads (chars text) frames rest ranked room = absurd ranked
  reads (name text) frames rest ranked room = rw ranked refl
  reads (refer text args) frames rest ranked room =
      let taken : step trees (Token.Word text) (start frames) ≡ named frames text = rw ranked.0 refl in
      ap (run trees (Token.Mark Mark.Open ∷ ((spell_args args ++ Token.Mark Mark.Close ∷ []) ++ rest))) taken
      ∙ rw append_assoc (args-read args text frames rest ranked.1)
  reads (paren inside) frames rest ranked room =
      rw append_assoc (reads inside (in_bracket ∷ frames) (Token.Mark Mark.Close ∷ rest) ranked (omega arith))
      ∙ ap (run trees rest) (close-step inside (in_bracket ∷ frames) ranked)
  reads (unary mark right) frames rest ranked room =
      let taken : step trees (Token.Mark mark) (start frames) ≡ start (behind_sign mark ∷ frames) = rw ranked.0 (rw (le-leb (need frames) (level mark) room) refl) in
      ap (run trees (spell right ++ rest)) taken ∙ reads right (behind_sign mark ∷ frames) rest ranked.2 ranked.1
  reads (binary mark left right) frames rest ranked room =
      let outer : need frames ≤ rank left = omega (arith, level-left mark, ranked.1) in
      rw append_assoc (reads left frames (Token.Mark mark ∷ spell right ++ rest) ranked.3 outer)
      ∙ ap (run trees (spell right ++ rest)) (operator-step mark left frames ranked.0 ranked.3 ranked.1 room)
      ∙ reads right (behind_left mark left ∷ frames) rest ranked.4 ranked.2

  args-read : (args : Args) (text : List ℕ) (frames : Frames) (rest : List Token) → RankedArgs args
      → run trees (spell_args args ++ Token.Mark Mark.Close ∷ rest) (called frames text) ≡ run trees rest (whole frames (refer text args))
  args-read no_args text frames rest ranked = refl
  args-read (arg keyed value more) text frames rest ranked =
      let tail : List Token = spell_more more ++ Token.Mark Mark.Close ∷ rest in
      rw append_assoc (rw append_assoc (arg-begins keyed value tail ranked.0 frames text))
      ∙ key-read keyed text [] frames (spell value ++ tail)
      ∙ reads value (in_reference text [] keyed ∷ frames) tail ranked.0 (omega arith)
      ∙ more-read more text frames rest [] keyed value ranked.0 ranked.1
      ∙ ap (λ (after : Args). run trees rest (whole frames (refer text (arg keyed value after)))) (from-listed more)

  more-read : (args : Args) (text : List ℕ) (frames : Frames) (rest : List Token) (listed : Listed) (keyed : Bool) (value : Tree) → Ranked value → RankedArgs args
      → run trees (spell_more args ++ Token.Mark Mark.Close ∷ rest) (behind_all (in_reference text listed keyed ∷ frames) value)
      ≡ run trees rest (whole frames (refer text (args_from (listed ++ (keyed, value) ∷ listed_of args))))
  more-read no_args text frames rest listed keyed value ranked more_ranked =
      ap (run trees rest) (close-step value (in_reference text listed keyed ∷ frames) ranked)
  more-read (arg next_keyed next more) text frames rest listed keyed value ranked more_ranked =
      let tail : List Token = spell_more more ++ Token.Mark Mark.Close ∷ rest in
      let longer : Listed = listed ++ (keyed, value) ∷ [] in
      rw append_assoc (rw append_assoc (ap (run trees (key next_keyed ++ (spell next ++ tail))) (comma-step value (in_reference text listed keyed ∷ frames) ranked)))
      ∙ key-read next_keyed text longer frames (spell next ++ tail)
      ∙ reads next (in_reference text longer next_keyed ∷ frames) tail more_ranked.0 (omega arith)
      ∙ more-read more text frames rest longer next_keyed next more_ranked.0 more_ranked.1
      ∙ ap (λ (all : Listed). run trees rest (whole frames (refer text (args_from all)))) (append_assoc listed ((keyed, value) ∷ []) ((next_keyed, next) ∷ listed_of more))

ended-alone : (e : Tree) (frames : Frames) → finish trees (behind frames e) ≡ settled (join trees 0 frames e)
ended-alone (name text) frames = refl
ended-alone e frames = refl

-- Each ranked tree is the reading of its tokens.
pub complete : (e : Tree) → Ranked e → reading (spell e) ≡ Some e
complete e ranked =
    ap (λ (tokens : List Token). reading tokens) (sym (append-nil (spell e)))
    ∙ ap (finish trees) (reads e [] [] ranked (omega arith))
    ∙ ended-alone (last_of e) (inner_frames [] e)
    ∙ ap (λ (joined : Frames × Tree). settled joined) (joins e 0 [] ranked (omega arith))

-- So two ranked trees with one spelling are one.
pub spelled-once : (one other : Tree) → Ranked one → Ranked other → spell one ≡ spell other → one ≡ other
spelled-once one other ranked other_ranked same =
    let read : Some one ≡ Some other = sym (complete one ranked) ∙ ap reading same ∙ complete other other_ranked in
    cc
