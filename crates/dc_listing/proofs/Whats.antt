-- An instruction is read back from its name and operands.
use Rattle.std.proofs.Common.{◌≡◌, ℕ, true, ◌&&◌, List, [], ◌∷◌, refl, ap, ap₂, ◌∙◌}
use Rattle.std.specs.Prelude.{Option, Some, None, if◌then◌else◌, option_map, codes}
use Rattle.std.specs.Str.{bytes_eq}
use Rattle.dc_int.specs.declared.kind.Kind.{Kind}
use Rattle.dc_int.specs.declared.operation.Op.{Op}
use Rattle.dc_code.specs.declared.instr.What.{What}
use Rattle.dc_listing.specs.Instructions.{name, operands}
use Rattle.dc_listing.specs.Words.{Word, number, signed, truth_word, kind_word, operation_word, reduction_word, relation_word, folding_word}
use Rattle.dc_listing.proofs.NamesBack.{IsTold, truth_in, kind_in, operation_in, reduction_in, relation_in, folding_in, truth-told, kind-told, operation-told, reduction-told, relation-told, folding-told}
use Rattle.dc_listing.proofs.Plain.{is_plain, are_plain, number_in, number-back, number-plain, signed_in, signed-back, signed-plain}

-- what reads the operands behind a name
abbrev Reader : Type 0
Reader = List Word → Option What

abbrev alone : What → Reader
alone what [] = Some what
alone what (first ∷ rest) = None

abbrev with_number : (ℕ → What) → Reader
with_number made [] = None
with_number made (first ∷ rest) = Some (made (number_in first))

abbrev with_one : {A : Type 0} → (Word → Option A) → (A → What) → Reader
with_one read made [] = None
with_one read made (first ∷ rest) = option_map made (read first)

abbrev with_two : {A : Type 0} → (Word → Option A) → (A → Word → What) → Reader
with_two read made [] = None
with_two read made (first ∷ []) = None
with_two read made (first ∷ second ∷ rest) = option_map (λ x. made x second) (read first)

abbrev some_number : Word → Option ℕ
some_number word = Some (number_in word)

abbrev both : Option Op → Option Kind → Option What
both None kind = None
both (Some op) None = None
both (Some op) (Some kind) = Some (What.Arith op kind)

abbrev arithmetic : Reader
arithmetic [] = None
arithmetic (first ∷ []) = None
arithmetic (first ∷ second ∷ rest) = both (operation_in first) (kind_in second)

abbrev readers : List (Word × Reader)
readers =
    (codes "Const", with_two kind_in (λ k word. What.Const k (signed_in word)))
    ∷ (codes "Truth", with_one truth_in (λ n. What.Truth n))
    ∷ (codes "Drop", alone What.Drop)
    ∷ (codes "Arith", arithmetic)
    ∷ (codes "Wrap", with_one kind_in (λ k. What.Wrap k))
    ∷ (codes "Compare", with_one relation_in (λ r. What.Compare r))
    ∷ (codes "And", alone What.And)
    ∷ (codes "Or", alone What.Or)
    ∷ (codes "Eqv", alone What.Eqv)
    ∷ (codes "Neqv", alone What.Neqv)
    ∷ (codes "Not", alone What.Not)
    ∷ (codes "Merge", alone What.Merge)
    ∷ (codes "Subscript", with_number (λ v. What.Subscript v))
    ∷ (codes "SubscriptSlot", with_number (λ s. What.SubscriptSlot s))
    ∷ (codes "Load", with_number (λ v. What.Load v))
    ∷ (codes "LoadSlot", with_number (λ s. What.LoadSlot s))
    ∷ (codes "Store", with_number (λ v. What.Store v))
    ∷ (codes "StoreSlot", with_number (λ s. What.StoreSlot s))
    ∷ (codes "Forget", with_number (λ v. What.Forget v))
    ∷ (codes "ForgetSlot", with_number (λ s. What.ForgetSlot s))
    ∷ (codes "PlaceOf", with_number (λ v. What.PlaceOf v))
    ∷ (codes "PlaceOfSlot", with_number (λ s. What.PlaceOfSlot s))
    ∷ (codes "PlaceOfDummy", with_number (λ d. What.PlaceOfDummy d))
    ∷ (codes "LoadDummy", with_number (λ d. What.LoadDummy d))
    ∷ (codes "StoreDummy", with_number (λ d. What.StoreDummy d))
    ∷ (codes "Fill", with_number (λ v. What.Fill v))
    ∷ (codes "FillSlot", with_number (λ s. What.FillSlot s))
    ∷ (codes "Fold", with_two folding_in (λ f word. What.Fold f (number_in word)))
    ∷ (codes "FoldSlot", with_two folding_in (λ f word. What.FoldSlot f (number_in word)))
    ∷ (codes "Contribute", with_two reduction_in (λ op word. What.Contribute op (number_in word)))
    ∷ (codes "Jump", with_number (λ t. What.Jump t))
    ∷ (codes "JumpFalse", with_number (λ t. What.JumpFalse t))
    ∷ (codes "Turn", alone What.Turn)
    ∷ (codes "Back", with_number (λ t. What.Back t))
    ∷ (codes "Count", with_one kind_in (λ k. What.Count k))
    ∷ (codes "Call", with_two some_number (λ p word. What.Call p (number_in word)))
    ∷ (codes "Return", alone What.Return)
    ∷ (codes "LoadResult", alone What.LoadResult)
    ∷ (codes "PutNumber", alone What.PutNumber)
    ∷ (codes "PutTruth", alone What.PutTruth)
    ∷ (codes "PutChars", with_number (λ x. What.PutChars x))
    ∷ (codes "PutAll", with_number (λ v. What.PutAll v))
    ∷ (codes "PutEnd", alone What.PutEnd)
    ∷ (codes "TakeNumber", with_one kind_in (λ k. What.TakeNumber k))
    ∷ (codes "TakeTruth", alone What.TakeTruth)
    ∷ (codes "TakeAll", with_number (λ v. What.TakeAll v))
    ∷ (codes "TakeEnd", with_number (λ n. What.TakeEnd n))
    ∷ (codes "Enter", with_number (λ c. What.Enter c))
    ∷ (codes "End", alone What.End)
    ∷ (codes "Stop", alone What.Stop)
    ∷ (codes "ErrorStop", alone What.ErrorStop)
    ∷ []

-- the reader that goes with a name, at these operands
abbrev reader_at : List (Word × Reader) → Word → Reader
reader_at [] word words = None
reader_at ((first, reader) ∷ rest) word words = if bytes_eq word first then reader words else reader_at rest word words

abbrev pub what_in : Word → List Word → Option What
what_in word words = reader_at readers word words

-- Its words are plain, and it is read back from them.
pub record IsWhat (what : What) : Type 0 where
  pub back : what_in (name what) (operands what) ≡ Some what
  pub name_plain : is_plain (name what) ≡ true
  pub plain : are_plain (operands what) ≡ true

-- ---- each form of operands

one-plain : (word : Word) → is_plain word ≡ true → are_plain (word ∷ []) ≡ true
one-plain word plain = λ i. plain i && true

two-plain : (word other : Word) → is_plain word ≡ true → is_plain other ≡ true → are_plain (word ∷ other ∷ []) ≡ true
two-plain word other plain also = λ i. plain i && (also i && true)

number-there : (made : ℕ → What) (n : ℕ) → with_number made (number n ∷ []) ≡ Some (made n)
number-there made n = ap (λ m. Some (made m)) (number-back n)

one-there : {A : Type 0} (word : A → Word) (read : Word → Option A) (made : A → What) (x : A) → IsTold word read x → with_one read made (word x ∷ []) ≡ Some (made x)
one-there word read made x told = ap (option_map made) told.back

two-there
    : {A : Type 0} (word : A → Word) (read : Word → Option A) (made : A → Word → What) (x : A) (other : Word) (what : What) → read (word x) ≡ Some x
    → made x other ≡ what → with_two read made (word x ∷ other ∷ []) ≡ Some what
two-there word read made x other what back is = ap (option_map (λ x. made x other)) back ∙ ap (λ w. Some w) is

arithmetic-there : (op : Op) (kind : Kind) → arithmetic (operation_word op ∷ kind_word kind ∷ []) ≡ Some (What.Arith op kind)
arithmetic-there op kind = ap₂ both (operation-told op).back (kind-told kind).back

pub what-told : (what : What) → IsWhat what
what-told (What.Const k n) =
    record {
      back = two-there kind_word kind_in (λ k word. What.Const k (signed_in word)) k (signed n) (What.Const k n) (kind-told k).back (ap (λ m. What.Const k m) (signed-back n));
      name_plain = refl;
      plain = two-plain (kind_word k) (signed n) (kind-told k).plain (signed-plain n);
    }
what-told (What.Truth n) = record { back = one-there truth_word truth_in (λ n. What.Truth n) n (truth-told n); name_plain = refl; plain = one-plain (truth_word n) (truth-told n).plain }
what-told What.Drop = record { back = refl; name_plain = refl; plain = refl }
what-told (What.Arith op k) =
    record {
      back = arithmetic-there op k;
      name_plain = refl;
      plain = two-plain (operation_word op) (kind_word k) (operation-told op).plain (kind-told k).plain;
    }
what-told (What.Wrap k) = record { back = one-there kind_word kind_in (λ k. What.Wrap k) k (kind-told k); name_plain = refl; plain = one-plain (kind_word k) (kind-told k).plain }
what-told (What.Compare r) = record { back = one-there relation_word relation_in (λ r. What.Compare r) r (relation-told r); name_plain = refl; plain = one-plain (relation_word r) (relation-told r).plain }
what-told What.And = record { back = refl; name_plain = refl; plain = refl }
what-told What.Or = record { back = refl; name_plain = refl; plain = refl }
what-told What.Eqv = record { back = refl; name_plain = refl; plain = refl }
what-told What.Neqv = record { back = refl; name_plain = refl; plain = refl }
what-told What.Not = record { back = refl; name_plain = refl; plain = refl }
what-told What.Merge = record { back = refl; name_plain = refl; plain = refl }
what-told (What.Subscript v) = record { back = number-there (λ v. What.Subscript v) v; name_plain = refl; plain = one-plain (number v) (number-plain v) }
what-told (What.SubscriptSlot s) = record { back = number-there (λ s. What.SubscriptSlot s) s; name_plain = refl; plain = one-plain (number s) (number-plain s) }
what-told (What.Load v) = record { back = number-there (λ v. What.Load v) v; name_plain = refl; plain = one-plain (number v) (number-plain v) }
what-told (What.LoadSlot s) = record { back = number-there (λ s. What.LoadSlot s) s; name_plain = refl; plain = one-plain (number s) (number-plain s) }
what-told (What.Store v) = record { back = number-there (λ v. What.Store v) v; name_plain = refl; plain = one-plain (number v) (number-plain v) }
what-told (What.StoreSlot s) = record { back = number-there (λ s. What.StoreSlot s) s; name_plain = refl; plain = one-plain (number s) (number-plain s) }
what-told (What.Forget v) = record { back = number-there (λ v. What.Forget v) v; name_plain = refl; plain = one-plain (number v) (number-plain v) }
what-told (What.ForgetSlot s) = record { back = number-there (λ s. What.ForgetSlot s) s; name_plain = refl; plain = one-plain (number s) (number-plain s) }
what-told (What.PlaceOf v) = record { back = number-there (λ v. What.PlaceOf v) v; name_plain = refl; plain = one-plain (number v) (number-plain v) }
what-told (What.PlaceOfSlot s) = record { back = number-there (λ s. What.PlaceOfSlot s) s; name_plain = refl; plain = one-plain (number s) (number-plain s) }
what-told (What.PlaceOfDummy d) = record { back = number-there (λ d. What.PlaceOfDummy d) d; name_plain = refl; plain = one-plain (number d) (number-plain d) }
what-told (What.LoadDummy d) = record { back = number-there (λ d. What.LoadDummy d) d; name_plain = refl; plain = one-plain (number d) (number-plain d) }
what-told (What.StoreDummy d) = record { back = number-there (λ d. What.StoreDummy d) d; name_plain = refl; plain = one-plain (number d) (number-plain d) }
what-told (What.Fill v) = record { back = number-there (λ v. What.Fill v) v; name_plain = refl; plain = one-plain (number v) (number-plain v) }
what-told (What.FillSlot s) = record { back = number-there (λ s. What.FillSlot s) s; name_plain = refl; plain = one-plain (number s) (number-plain s) }
what-told (What.Fold f v) =
    record {
      back = two-there folding_word folding_in (λ f word. What.Fold f (number_in word)) f (number v) (What.Fold f v) (folding-told f).back (ap (λ m. What.Fold f m) (number-back v));
      name_plain = refl;
      plain = two-plain (folding_word f) (number v) (folding-told f).plain (number-plain v);
    }
what-told (What.FoldSlot f s) =
    record {
      back = two-there folding_word folding_in (λ f word. What.FoldSlot f (number_in word)) f (number s) (What.FoldSlot f s) (folding-told f).back (ap (λ m. What.FoldSlot f m) (number-back s));
      name_plain = refl;
      plain = two-plain (folding_word f) (number s) (folding-told f).plain (number-plain s);
    }
what-told (What.Contribute op v) =
    record {
      back = two-there reduction_word reduction_in (λ op word. What.Contribute op (number_in word)) op (number v) (What.Contribute op v) (reduction-told op).back (ap (λ m. What.Contribute op m) (number-back v));
      name_plain = refl;
      plain = two-plain (reduction_word op) (number v) (reduction-told op).plain (number-plain v);
    }
what-told (What.Jump t) = record { back = number-there (λ t. What.Jump t) t; name_plain = refl; plain = one-plain (number t) (number-plain t) }
what-told (What.JumpFalse t) = record { back = number-there (λ t. What.JumpFalse t) t; name_plain = refl; plain = one-plain (number t) (number-plain t) }
what-told What.Turn = record { back = refl; name_plain = refl; plain = refl }
what-told (What.Back t) = record { back = number-there (λ t. What.Back t) t; name_plain = refl; plain = one-plain (number t) (number-plain t) }
what-told (What.Count k) = record { back = one-there kind_word kind_in (λ k. What.Count k) k (kind-told k); name_plain = refl; plain = one-plain (kind_word k) (kind-told k).plain }
what-told (What.Call p n) =
    record {
      back = two-there number some_number (λ p word. What.Call p (number_in word)) p (number n) (What.Call p n) (ap (λ m. Some m) (number-back p)) (ap (λ m. What.Call p m) (number-back n));
      name_plain = refl;
      plain = two-plain (number p) (number n) (number-plain p) (number-plain n);
    }
what-told What.Return = record { back = refl; name_plain = refl; plain = refl }
what-told What.LoadResult = record { back = refl; name_plain = refl; plain = refl }
what-told What.PutNumber = record { back = refl; name_plain = refl; plain = refl }
what-told What.PutTruth = record { back = refl; name_plain = refl; plain = refl }
what-told (What.PutChars x) = record { back = number-there (λ x. What.PutChars x) x; name_plain = refl; plain = one-plain (number x) (number-plain x) }
what-told (What.PutAll v) = record { back = number-there (λ v. What.PutAll v) v; name_plain = refl; plain = one-plain (number v) (number-plain v) }
what-told What.PutEnd = record { back = refl; name_plain = refl; plain = refl }
what-told (What.TakeNumber k) = record { back = one-there kind_word kind_in (λ k. What.TakeNumber k) k (kind-told k); name_plain = refl; plain = one-plain (kind_word k) (kind-told k).plain }
what-told What.TakeTruth = record { back = refl; name_plain = refl; plain = refl }
what-told (What.TakeAll v) = record { back = number-there (λ v. What.TakeAll v) v; name_plain = refl; plain = one-plain (number v) (number-plain v) }
what-told (What.TakeEnd n) = record { back = number-there (λ n. What.TakeEnd n) n; name_plain = refl; plain = one-plain (number n) (number-plain n) }
what-told (What.Enter c) = record { back = number-there (λ c. What.Enter c) c; name_plain = refl; plain = one-plain (number c) (number-plain c) }
what-told What.End = record { back = refl; name_plain = refl; plain = refl }
what-told What.Stop = record { back = refl; name_plain = refl; plain = refl }
what-told What.ErrorStop = record { back = refl; name_plain = refl; plain = refl }
