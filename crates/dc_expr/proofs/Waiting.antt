-- What the innermost part asks, by the operator that waits there.
use Rattle.std.proofs.Common.{◌≡◌, ℕ, Bool, false, List, [], ◌∷◌, Option, Some, None, refl, sym, ap, ◌∙◌}
use Rattle.std.specs.Prelude.{nat_le}
use Rattle.dc_tree.specs.declared.token.Mark.{Mark}
use Rattle.dc_tree.specs.Grammar.{level, right_rank}
use Rattle.dc_tree.specs.Reader.{need}
use Rattle.dc_expr.specs.declared.stack.Pending.{Pending}
use Rattle.dc_expr.specs.Limited.{waits}
use Rattle.dc_expr.specs.Views.{frames_of, waiting}

abbrev pub need_behind : Option Mark → ℕ
need_behind None = 0
need_behind (Some mark) = right_rank mark

abbrev pub waits_behind : ℕ → Option Mark → Bool
waits_behind least None = false
waits_behind least (Some mark) = nat_le least (level mark)

need-waiting : (stack : List Pending) → need_behind (waiting stack) ≡ need (frames_of stack)
need-waiting [] = refl
need-waiting (Pending.Bracket ∷ rest) = refl
need-waiting (Pending.Reference name args keyed ∷ rest) = refl
need-waiting (Pending.Sign mark ∷ rest) = refl
need-waiting (Pending.Left mark left ∷ rest) = refl

waits-waiting : (least : ℕ) (stack : List Pending) → waits_behind least (waiting stack) ≡ waits least (frames_of stack)
waits-waiting least [] = refl
waits-waiting least (Pending.Bracket ∷ rest) = refl
waits-waiting least (Pending.Reference name args keyed ∷ rest) = refl
waits-waiting least (Pending.Sign mark ∷ rest) = refl
waits-waiting least (Pending.Left mark left ∷ rest) = refl

-- by what is found waiting
pub need-found : (stack : List Pending) (found shown : Option Mark) → found ≡ waiting stack → found ≡ shown → need_behind shown ≡ need (frames_of stack)
need-found stack found shown is shows = ap need_behind (sym shows ∙ is) ∙ need-waiting stack

pub waits-found : (least : ℕ) (stack : List Pending) (found shown : Option Mark) → found ≡ waiting stack → found ≡ shown → waits_behind least shown ≡ waits least (frames_of stack)
waits-found least stack found shown is shows = ap (waits_behind least) (sym shows ∙ is) ∙ waits-waiting least stack
