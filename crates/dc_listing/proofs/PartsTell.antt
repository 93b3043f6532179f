-- The words of each part of a code are plain, and tell the part.
use Rattle.std.proofs.Common.{◌≡◌, ℕ, Bool, true, ◌&&◌, List, [], ◌∷◌, ◌++◌, flat_map, length, Option, Some, None, refl, sym, ap, ◌∙◌, append_assoc, arith}
use Rattle.std.specs.Prelude.{ℤ, codes, if◌then◌else◌, option_map}
use Rattle.std.specs.Str.{bytes_eq}
use Rattle.std.proofs.lemmas.Option.{same_Some}
use Rattle.dc_int.specs.declared.kind.Kind.{Kind}
use Rattle.dc_int.specs.declared.variable.Locality.{Locality}
use Rattle.dc_int.specs.declared.variable.Shape.{Shape}
use Rattle.dc_code.specs.declared.instr.Instr.{Instr}
use Rattle.dc_code.specs.declared.plan.ConstructCode.{ConstructCode}
use Rattle.dc_code.specs.declared.plan.DummyPlan.{DummyPlan}
use Rattle.dc_code.specs.declared.plan.Group.{Group}
use Rattle.dc_code.specs.declared.plan.Plan.{Plan}
use Rattle.dc_listing.specs.Instructions.{name, operands}
use Rattle.dc_listing.specs.Listing.{instruction_words, byte_words, text_words, shape_words, dimension_words, bounds_words, dummy_words, group_words, plan_words, entry_words, index_words, header_words, parts_words, construct_words}
use Rattle.dc_listing.specs.Words.{Word, number, signed, number_or_none, list_words, truth_word, kind_word, passing_word, locality_words}
use Rattle.dc_listing.proofs.NamesBack.{tells-one, truth_in, kind_in, reduction_in, passing_in, truth-told, kind-told, reduction-told, passing-told}
use Rattle.dc_listing.proofs.Plain.{is_plain, are_plain, is_digit, opens, number-opens, number_in, signed_in, number-back, signed-back, number-plain, signed-plain, both-plain, list-plain}
use Rattle.dc_listing.proofs.Whats.{what_in, what-told}

-- Whatever words stand behind, the words of a thing tell it.
pub record Tells {A : Type 0} (words : A → List Word) : Type 0 where
  pub plain : (x : A) → are_plain (words x) ≡ true
  pub tell : (x y : A) (r s : List Word) → words x ++ r ≡ words y ++ s → (x ≡ y) × (r ≡ s)

-- the words alone
pub tells-whole : {A : Type 0} (words : A → List Word) → Tells words → (x y : A) → words x ≡ words y → x ≡ y
tells-whole words told x y same = (told.tell x y [] [] (ap (λ (all : List Word). all ++ []) same)).0

-- ---- single words

number-same : (m n : ℕ) → number m ≡ number n → m ≡ n
number-same m n same = sym (number-back m) ∙ ap number_in same ∙ number-back n

signed-same : (y z : ℤ) → signed y ≡ signed z → y ≡ z
signed-same y z same = sym (signed-back y) ∙ ap signed_in same ∙ signed-back z

truth-same : (x y : Bool) → truth_word x ≡ truth_word y → x ≡ y
truth-same = tells-one truth_word truth_in truth-told

kind-same : (x y : Kind) → kind_word x ≡ kind_word y → x ≡ y
kind-same = tells-one kind_word kind_in kind-told

-- ---- lists

items-tell
    : {A : Type 0} (words : A → List Word) → Tells words → (xs ys : List A) (r s : List Word) → length xs ≡ length ys
    → flat_map words xs ++ r ≡ flat_map words ys ++ s → (xs ≡ ys) × (r ≡ s)
items-tell words told [] [] r s count same = (refl, same)
items-tell words told [] (y ∷ ys) r s count same = absurd (omega (arith, count))
items-tell words told (x ∷ xs) [] r s count same = absurd (omega (arith, count))
items-tell words told (x ∷ xs) (y ∷ ys) r s count same =
    let one =
    told.tell x y (flat_map words xs ++ r) (flat_map words ys ++ s)
    (sym (append_assoc (words x) (flat_map words xs) r) ∙ same ∙ append_assoc (words y) (flat_map words ys) s) in
    let rest = items-tell words told xs ys r s (omega (arith, count)) one.1 in
    ((λ i. one.0 i ∷ rest.0 i), rest.1)

pub list-tells : {A : Type 0} (words : A → List Word) → Tells words → Tells (list_words words)
list-tells {A} words told = record { plain = list-plain words told.plain; tell = tell }
  where
    tell : (xs ys : List A) (r s : List Word) → list_words words xs ++ r ≡ list_words words ys ++ s → (xs ≡ ys) × (r ≡ s)
    tell xs ys r s same =
        let first : number (length xs) ≡ number (length ys) = cc in
        let left : flat_map words xs ++ r ≡ flat_map words ys ++ s = cc in
        items-tell words told xs ys r s (number-same (length xs) (length ys) first) left

-- ---- the parts

pub entry-tells : Tells entry_words
entry-tells = record { plain = λ n. (λ i. number-plain n i && true); tell = tell }
  where
    tell : (m n : ℕ) (r s : List Word) → entry_words m ++ r ≡ entry_words n ++ s → (m ≡ n) × (r ≡ s)
    tell m n r s same = let one : number m ≡ number n = cc in (number-same m n one, cc)

-- a byte is a number, as an entry is
pub text-tells : Tells text_words
text-tells = list-tells byte_words entry-tells

pub index-tells : Tells index_words
index-tells = record { plain = λ kind. (λ i. (kind-told kind).plain i && true); tell = tell }
  where
    tell : (x y : Kind) (r s : List Word) → index_words x ++ r ≡ index_words y ++ s → (x ≡ y) × (r ≡ s)
    tell x y r s same = let one : kind_word x ≡ kind_word y = cc in (kind-same x y one, cc)

pub shape-tells : Tells shape_words
shape-tells = record { plain = λ x. (λ i. (kind-told x.kind).plain i && ((truth-told x.logical).plain i && (number-plain x.elements i && true))); tell = tell }
  where
    tell : (x y : Shape) (r s : List Word) → shape_words x ++ r ≡ shape_words y ++ s → (x ≡ y) × (r ≡ s)
    tell x y r s same =
        let one : kind_word x.kind ≡ kind_word y.kind = cc in
        let two : truth_word x.logical ≡ truth_word y.logical = cc in
        let three : number x.elements ≡ number y.elements = cc in
        let kind = kind-same x.kind y.kind one in
        let logical = truth-same x.logical y.logical two in
        let elements = number-same x.elements y.elements three in
        ((λ i. record { kind = kind i; logical = logical i; elements = elements i }), cc)

pub dimension-tells : Tells dimension_words
dimension-tells = record { plain = plain; tell = tell }
  where
    plain : (x : ℤ × ℤ) → are_plain (dimension_words x) ≡ true
    plain (low, high) = λ i. signed-plain low i && (signed-plain high i && true)

    tell : (x y : ℤ × ℤ) (r s : List Word) → dimension_words x ++ r ≡ dimension_words y ++ s → (x ≡ y) × (r ≡ s)
    tell (low, high) (other_low, other_high) r s same =
        let one : signed low ≡ signed other_low = cc in
        let two : signed high ≡ signed other_high = cc in
        let least = signed-same low other_low one in
        let greatest = signed-same high other_high two in
        ((λ i. (least i, greatest i)), cc)

pub bounds-tell : Tells bounds_words
bounds-tell = list-tells dimension_words dimension-tells

pub dummy-tells : Tells dummy_words
dummy-tells = record { plain = λ x. (λ i. (kind-told x.kind).plain i && ((truth-told x.logical).plain i && ((passing-told x.passing).plain i && true))); tell = tell }
  where
    tell : (x y : DummyPlan) (r s : List Word) → dummy_words x ++ r ≡ dummy_words y ++ s → (x ≡ y) × (r ≡ s)
    tell x y r s same =
        let one : kind_word x.kind ≡ kind_word y.kind = cc in
        let two : truth_word x.logical ≡ truth_word y.logical = cc in
        let three : passing_word x.passing ≡ passing_word y.passing = cc in
        let kind = kind-same x.kind y.kind one in
        let logical = truth-same x.logical y.logical two in
        let passing = tells-one passing_word passing_in passing-told x.passing y.passing three in
        ((λ i. record { kind = kind i; logical = logical i; passing = passing i }), cc)

pub group-tells : Tells group_words
group-tells = record { plain = λ x. (λ i. (kind-told x.kind).plain i && ((truth-told x.logical).plain i && bounds-tell.plain x.bounds i)); tell = tell }
  where
    tell : (x y : Group) (r s : List Word) → group_words x ++ r ≡ group_words y ++ s → (x ≡ y) × (r ≡ s)
    tell x y r s same =
        let one : kind_word x.kind ≡ kind_word y.kind = cc in
        let two : truth_word x.logical ≡ truth_word y.logical = cc in
        let left : bounds_words x.bounds ++ r ≡ bounds_words y.bounds ++ s = cc in
        let kind = kind-same x.kind y.kind one in
        let logical = truth-same x.logical y.logical two in
        let bounds = bounds-tell.tell x.bounds y.bounds r s left in
        ((λ i. record { kind = kind i; logical = logical i; bounds = bounds.0 i }), bounds.1)

pub plan-tells : Tells plan_words
plan-tells = record { plain = λ x. both-plain (list_words dummy_words x.dummies) (list_words group_words x.groups) (dummies.plain x.dummies) (groups.plain x.groups); tell = tell }
  where
    dummies : Tells (list_words dummy_words)
    dummies = list-tells dummy_words dummy-tells

    groups : Tells (list_words group_words)
    groups = list-tells group_words group-tells

    tell : (x y : Plan) (r s : List Word) → plan_words x ++ r ≡ plan_words y ++ s → (x ≡ y) × (r ≡ s)
    tell x y r s same =
        let one =
        dummies.tell x.dummies y.dummies (list_words group_words x.groups ++ r) (list_words group_words y.groups ++ s)
        (sym (append_assoc (list_words dummy_words x.dummies) (list_words group_words x.groups) r) ∙ same ∙ append_assoc (list_words dummy_words y.dummies) (list_words group_words y.groups) s) in
        let two = groups.tell x.groups y.groups r s one.1 in
        ((λ i. record { dummies = one.0 i; groups = two.0 i }), two.1)

-- ---- localities: the first word, and what stands behind it

abbrev first_word : Locality → Word
first_word locality = by (locality_words locality)
  where
    by : List Word → Word
    by [] = []
    by (word ∷ words) = word

abbrev with_operation : List Word → Option (Locality × List Word)
with_operation [] = None
with_operation (word ∷ rest) = option_map (λ op. (Locality.Reduce op, rest)) (reduction_in word)

abbrev plainly : List Locality → List Word → Option (Locality × List Word)
plainly [] words = None
plainly (locality ∷ others) [] = None
plainly (locality ∷ others) (word ∷ rest) = if bytes_eq word (first_word locality) then Some (locality, rest) else plainly others (word ∷ rest)

abbrev locality_in : List Word → Option (Locality × List Word)
locality_in [] = None
locality_in (word ∷ rest) =
    if bytes_eq word (codes "Reduce") then with_operation rest
    else plainly (Locality.Plain ∷ Locality.Shared ∷ Locality.Local ∷ Locality.LocalInit ∷ []) (word ∷ rest)

locality-back : (x : Locality) (r : List Word) → locality_in (locality_words x ++ r) ≡ Some (x, r)
locality-back Locality.Plain r = refl
locality-back Locality.Shared r = refl
locality-back Locality.Local r = refl
locality-back Locality.LocalInit r = refl
locality-back (Locality.Reduce op) r = ap (option_map (λ op. (Locality.Reduce op, r))) (reduction-told op).back

locality-plain : (x : Locality) → are_plain (locality_words x) ≡ true
locality-plain Locality.Plain = refl
locality-plain Locality.Shared = refl
locality-plain Locality.Local = refl
locality-plain Locality.LocalInit = refl
locality-plain (Locality.Reduce op) = λ i. (reduction-told op).plain i && true

pub locality-tells : Tells locality_words
locality-tells = record { plain = locality-plain; tell = tell }
  where
    tell : (x y : Locality) (r s : List Word) → locality_words x ++ r ≡ locality_words y ++ s → (x ≡ y) × (r ≡ s)
    tell x y r s same =
        let both : Some (x, r) ≡ Some (y, s) = sym (locality-back x r) ∙ ap locality_in same ∙ locality-back y s in
        let parts : (x, r) ≡ (y, s) = same_Some (x, r) (y, s) both in
        (ap (λ p. p.0) parts, ap (λ p. p.1) parts)

-- ---- loops

mask-plain : (mask : Option ℕ) → is_plain (number_or_none mask) ≡ true
mask-plain None = refl
mask-plain (Some n) = number-plain n

minus-no_digit : {A : Type 0} → opens is_digit (codes "-" ++ []) ≡ true → A
minus-no_digit digit = absurd (cc)

-- a number begins with no `-`
minus-no_number : {A : Type 0} (n : ℕ) → codes "-" ≡ number n → A
minus-no_number n same =
    absurd (let digit : opens is_digit (codes "-" ++ []) ≡ true = ap (λ (word : Word). opens is_digit (word ++ [])) same ∙ number-opens n [] in
    minus-no_digit digit)

mask-same : (x y : Option ℕ) → number_or_none x ≡ number_or_none y → x ≡ y
mask-same None None same = refl
mask-same None (Some n) same = minus-no_number n same
mask-same (Some n) None same = minus-no_number n (sym same)
mask-same (Some m) (Some n) same = ap (λ k. Some k) (number-same m n same)

kinds-tell : Tells (list_words index_words)
kinds-tell = list-tells index_words index-tells

localities-tell : Tells (list_words locality_words)
localities-tell = list-tells locality_words locality-tells

header-plain : (x : ConstructCode) → are_plain (header_words x) ≡ true
header-plain x = λ i. number-plain x.line i && (number-plain x.width i && kinds-tell.plain x.kinds i)

parts-plain : (x : ConstructCode) → are_plain (parts_words x) ≡ true
parts-plain x = λ i. number-plain x.header i && (mask-plain x.mask i && (number-plain x.body i && localities-tell.plain x.localities i))

pub construct-tells : Tells construct_words
construct-tells = record { plain = λ x. both-plain (header_words x) (parts_words x) (header-plain x) (parts-plain x); tell = tell }
  where
    tell : (x y : ConstructCode) (r s : List Word) → construct_words x ++ r ≡ construct_words y ++ s → (x ≡ y) × (r ≡ s)
    tell x y r s same =
        let whole : header_words x ++ (parts_words x ++ r) ≡ header_words y ++ (parts_words y ++ s) =
        sym (append_assoc (header_words x) (parts_words x) r) ∙ same ∙ append_assoc (header_words y) (parts_words y) s in
        let one : number x.line ≡ number y.line = cc in
        let two : number x.width ≡ number y.width = cc in
        let left : list_words index_words x.kinds ++ (parts_words x ++ r) ≡ list_words index_words y.kinds ++ (parts_words y ++ s) = cc in
        let kinds = kinds-tell.tell x.kinds y.kinds (parts_words x ++ r) (parts_words y ++ s) left in
        let behind : parts_words x ++ r ≡ parts_words y ++ s = kinds.1 in
        let three : number x.header ≡ number y.header = cc in
        let four : number_or_none x.mask ≡ number_or_none y.mask = cc in
        let five : number x.body ≡ number y.body = cc in
        let last : list_words locality_words x.localities ++ r ≡ list_words locality_words y.localities ++ s = cc in
        let localities = localities-tell.tell x.localities y.localities r s last in
        let line = number-same x.line y.line one in
        let width = number-same x.width y.width two in
        let header = number-same x.header y.header three in
        let mask = mask-same x.mask y.mask four in
        let body = number-same x.body y.body five in (
          (λ i. record { line = line i; width = width i; kinds = kinds.0 i; header = header i; mask = mask i; body = body i; localities = localities.0 i }),
          localities.1,
        )

-- ---- instructions

pub instruction-plain : (x : Instr) → are_plain (instruction_words x) ≡ true
instruction-plain x = let what = what-told x.what in λ i. number-plain x.line i && (what.name_plain i && what.plain i)

pub instruction-same : (x y : Instr) → instruction_words x ≡ instruction_words y → x ≡ y
instruction-same x y same =
    let one : number x.line ≡ number y.line = cc in
    let two : name x.what ≡ name y.what = cc in
    let three : operands x.what ≡ operands y.what = cc in
    let line = number-same x.line y.line one in
    let both : Some x.what ≡ Some y.what = sym (what-told x.what).back ∙ (λ i. what_in (two i) (three i)) ∙ (what-told y.what).back in
    let what : x.what ≡ y.what = cc in
    λ i. record { line = line i; what = what i }
