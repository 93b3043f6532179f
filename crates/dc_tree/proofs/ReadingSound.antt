-- What the reader finds is a ranked tree that spells the tokens.
use Rattle.std.proofs.Common.{◌≡◌, ◌≤◌, ℕ, Bool, true, false, List, [], ◌∷◌, ◌++◌, Some, refl, sym, ap, subst, ◌∙◌, arith, inl, inr, append_assoc, append-nil}
use Rattle.std.specs.Prelude.{codes, nat_le, IsTrue}
use Rattle.std.specs.Str.{bytes_eq}
use Rattle.std.proofs.lemmas.Bool.{cases_Bool, leb-true}
use Rattle.std.proofs.lemmas.Slice.Eq.{bytes_eq-Decides}
use Rattle.dc_tree.specs.declared.token.Mark.{Mark}
use Rattle.dc_tree.specs.declared.token.Token.{Token}
use Rattle.dc_tree.specs.Names.{is_name}
use Rattle.dc_tree.specs.Syntax.{Tree, name, unary, binary, args_from}
use Rattle.dc_tree.specs.Grammar.{is_binary, is_prefix, level, left_rank, rank, Ranked, RankedArgs, key, spell, spell_args, spell_more}
use Rattle.dc_tree.specs.Reader.{Frame, State, in_bracket, in_reference, behind_sign, behind_left, failed, start, called, named, whole, need, join, prefixed, opened, started, operated, closed, separated, ended, followed, keyed_by, after_name, after_call, step, run, alone, finish, Listed, trees, reading}
use Rattle.dc_tree.proofs.Ranks.{left-primary, right-primary}

abbrev Frames : Type 0
Frames = List (Frame Tree Listed)

-- ---- what the tokens so far are, by what was found

-- arguments, each with the comma behind it
abbrev spell_given : Listed → List Token
spell_given [] = []
spell_given (first ∷ rest) = key first.0 ++ (spell first.1 ++ (Token.Mark Mark.Comma ∷ spell_given rest))

abbrev spell_frames : Frames → List Token
spell_frames [] = []
spell_frames (in_bracket ∷ outer) = spell_frames outer ++ Token.Mark Mark.Open ∷ []
spell_frames (in_reference text args keyed ∷ outer) = spell_frames outer ++ Token.Word text ∷ Token.Mark Mark.Open ∷ (spell_given args ++ key keyed)
spell_frames (behind_sign mark ∷ outer) = spell_frames outer ++ Token.Mark mark ∷ []
spell_frames (behind_left mark left ∷ outer) = spell_frames outer ++ (spell left ++ Token.Mark mark ∷ [])

abbrev AllRanked : Listed → Type 0
AllRanked [] = Unit {0}
AllRanked (first ∷ rest) = Ranked first.1 × AllRanked rest

-- each frame stands where its rank may
abbrev Placed : Frames → Type 0
Placed [] = Unit {0}
Placed (in_bracket ∷ outer) = Placed outer
Placed (in_reference text args keyed ∷ outer) = IsTrue (is_name text) × AllRanked args × Placed outer
Placed (behind_sign mark ∷ outer) = IsTrue (is_prefix mark) × (need outer ≤ level mark) × Placed outer
Placed (behind_left mark left ∷ outer) = IsTrue (is_binary mark) × (need outer ≤ level mark) × (left_rank mark ≤ rank left) × Ranked left × Placed outer

abbrev Sound : List Token → State Tree Listed → Type 0
Sound tokens failed = Unit {0}
Sound tokens (start frames) = Placed frames × (tokens ≡ spell_frames frames)
Sound tokens (called frames text) = IsTrue (is_name text) × Placed frames × (tokens ≡ spell_frames frames ++ Token.Word text ∷ Token.Mark Mark.Open ∷ [])
Sound tokens (named frames text) = IsTrue (is_name text) × Placed frames × (tokens ≡ spell_frames frames ++ Token.Word text ∷ [])
Sound tokens (whole frames e) = (rank e ≡ 8) × Ranked e × Placed frames × (tokens ≡ spell_frames frames ++ spell e)

-- ---- arguments

more-spelled : (args : Listed) (keyed : Bool) (e : Tree)
    → spell_more (args_from (args ++ (keyed, e) ∷ [])) ≡ Token.Mark Mark.Comma ∷ (spell_given args ++ (key keyed ++ spell e))
more-spelled [] keyed e = rw append-nil refl
more-spelled (first ∷ rest) keyed e = rw (more-spelled rest keyed e) (simp append_assoc)

args-spelled : (args : Listed) (keyed : Bool) (e : Tree) → spell_args (args_from (args ++ (keyed, e) ∷ [])) ≡ spell_given args ++ (key keyed ++ spell e)
args-spelled [] keyed e = rw append-nil refl
args-spelled (first ∷ rest) keyed e = rw (more-spelled rest keyed e) (simp append_assoc)

given-spelled : (args : Listed) (keyed : Bool) (e : Tree) → spell_given (args ++ (keyed, e) ∷ []) ≡ spell_given args ++ (key keyed ++ (spell e ++ Token.Mark Mark.Comma ∷ []))
given-spelled [] keyed e = refl
given-spelled (first ∷ rest) keyed e = rw (given-spelled rest keyed e) (simp append_assoc)

given-ranked : (args : Listed) (keyed : Bool) (e : Tree) → AllRanked args → Ranked e → AllRanked (args ++ (keyed, e) ∷ [])
given-ranked [] keyed e all ranked = (ranked, tt)
given-ranked (first ∷ rest) keyed e all ranked = (all.0, given-ranked rest keyed e all.1 ranked)

args-ranked : (args : Listed) → AllRanked args → RankedArgs (args_from args)
args-ranked [] all = tt
args-ranked (first ∷ rest) all = (all.0, args-ranked rest all.1)

-- ---- operators that wait are joined

record Joined (least : ℕ) (tokens : List Token) (joined : Frames × Tree) : Type 0 where
  placed : Placed joined.0
  ranked : Ranked joined.1
  fits : need joined.0 ≤ rank joined.1
  high : least ≤ rank joined.1
  same : tokens ≡ spell_frames joined.0 ++ spell joined.1

join-sound : (frames : Frames) (least : ℕ) (e : Tree) (tokens : List Token) → Placed frames → Ranked e → need frames ≤ rank e → least ≤ rank e
    → tokens ≡ spell_frames frames ++ spell e → Joined least tokens (join trees least frames e)
join-sound (behind_sign mark ∷ outer) least e tokens placed ranked fits high same =
    elim (cases_Bool (nat_le least (level mark))) [
      | inl is ↦ rw is (join-sound outer least (unary mark e) tokens placed.2 (placed.0, fits, ranked) placed.1 (leb-true least (level mark) is)
          (same ∙ append_assoc (spell_frames outer) (Token.Mark mark ∷ []) (spell e)))
      | inr is ↦ rw is (record { placed = placed; ranked = ranked; fits = fits; high = high; same = same })
    ]
join-sound (behind_left mark left ∷ outer) least e tokens placed ranked fits high same =
    elim (cases_Bool (nat_le least (level mark))) [
      | inl is ↦ rw is (join-sound outer least (binary mark left e) tokens placed.4 (placed.0, placed.2, fits, placed.3, ranked) placed.1 (leb-true least (level mark) is)
          (same ∙ simp append_assoc))
      | inr is ↦ rw is (record { placed = placed; ranked = ranked; fits = fits; high = high; same = same })
    ]
join-sound [] least e tokens placed ranked fits high same = record { placed = placed; ranked = ranked; fits = fits; high = high; same = same }
join-sound (in_bracket ∷ outer) least e tokens placed ranked fits high same = record { placed = placed; ranked = ranked; fits = fits; high = high; same = same }
join-sound (in_reference text args keyed ∷ outer) least e tokens placed ranked fits high same = record { placed = placed; ranked = ranked; fits = fits; high = high; same = same }

need-primary : (frames : Frames) → need frames ≤ 8
need-primary (behind_sign mark ∷ outer) = right-primary mark
need-primary (behind_left mark left ∷ outer) = right-primary mark
need-primary frames = omega arith

-- a primary behind its frames
primary-joins : (frames : Frames) (least : ℕ) (e : Tree) (tokens : List Token) → least ≤ 8 → Sound tokens (whole frames e) → Joined least tokens (join trees least frames e)
primary-joins frames least e tokens low sound =
    join-sound frames least e tokens sound.2 sound.1 (omega (arith, sound.0, need-primary frames)) (omega (arith, sound.0)) sound.3

-- ---- where an operand begins

-- one more token
further : {tokens before : List Token} → (token : Token) → tokens ≡ before → tokens ++ token ∷ [] ≡ before ++ token ∷ []
further token same = ap (λ (l : List Token). l ++ token ∷ []) same

opened-sound : (mark : Mark) (frames : Frames) (tokens : List Token) → Sound tokens (start frames) → Sound (tokens ++ Token.Mark mark ∷ []) (opened trees mark frames)
opened-sound Mark.True frames tokens sound = (refl, tt, sound.0, further (Token.Mark Mark.True) sound.1)
opened-sound Mark.False frames tokens sound = (refl, tt, sound.0, further (Token.Mark Mark.False) sound.1)
opened-sound Mark.Open frames tokens sound = (sound.0, further (Token.Mark Mark.Open) sound.1)
opened-sound mark frames tokens sound = tt

prefixed-sound : (mark : Mark) (frames : Frames) (tokens : List Token) → IsTrue (is_prefix mark) → Sound tokens (start frames)
    → Sound (tokens ++ Token.Mark mark ∷ []) (prefixed mark frames)
prefixed-sound mark frames tokens prefix sound =
    elim (cases_Bool (nat_le (need frames) (level mark))) [
      | inl is ↦ rw is ((prefix, leb-true (need frames) (level mark) is, sound.0), further (Token.Mark mark) sound.1)
      | inr is ↦ rw is tt
    ]

started-sound : (token : Token) (frames : Frames) (tokens : List Token) → Sound tokens (start frames) → Sound (tokens ++ token ∷ []) (started trees token frames)
started-sound (Token.Word text) frames tokens sound =
    elim (cases_Bool (is_name text)) [
      | inl is ↦ rw is (is, sound.0, further (Token.Word text) sound.1)
      | inr is ↦ rw is tt
    ]
started-sound (Token.Number digits suffix) frames tokens sound = (refl, tt, sound.0, further (Token.Number digits suffix) sound.1)
started-sound (Token.Chars text) frames tokens sound = tt
started-sound (Token.Mark mark) frames tokens sound =
    elim (cases_Bool (is_prefix mark)) [
      | inl is ↦ rw is (prefixed-sound mark frames tokens is sound)
      | inr is ↦ rw is (opened-sound mark frames tokens sound)
    ]

-- ---- behind a value

operated-sound : (mark : Mark) (joined : Frames × Tree) (tokens : List Token) → IsTrue (is_binary mark) → Joined (left_rank mark) tokens joined
    → Sound (tokens ++ Token.Mark mark ∷ []) (operated mark joined)
operated-sound mark joined tokens operator j =
    elim (cases_Bool (nat_le (need joined.0) (level mark))) [
      | inl is ↦ rw is (
        (operator, leb-true (need joined.0) (level mark) is, j.high, j.ranked, j.placed),
        further (Token.Mark mark) j.same ∙ append_assoc (spell_frames joined.0) (spell joined.1) (Token.Mark mark ∷ []),
      )
      | inr is ↦ rw is tt
    ]

closed-sound : (frames : Frames) (e : Tree) (tokens : List Token) → Placed frames → Ranked e → tokens ≡ spell_frames frames ++ spell e
    → Sound (tokens ++ Token.Mark Mark.Close ∷ []) (closed trees frames e)
closed-sound (in_bracket ∷ outer) e tokens placed ranked same = (refl, ranked, placed, further (Token.Mark Mark.Close) same ∙ simp append_assoc)
closed-sound (in_reference text args keyed ∷ outer) e tokens placed ranked same = (
  refl,
  (placed.0, args-ranked (args ++ (keyed, e) ∷ []) (given-ranked args keyed e placed.1 ranked)),
  placed.2,
  further (Token.Mark Mark.Close) same ∙ rw (args-spelled args keyed e) (simp append_assoc),
)
closed-sound [] e tokens placed ranked same = tt
closed-sound (behind_sign mark ∷ outer) e tokens placed ranked same = tt
closed-sound (behind_left mark left ∷ outer) e tokens placed ranked same = tt

separated-sound : (frames : Frames) (e : Tree) (tokens : List Token) → Placed frames → Ranked e → tokens ≡ spell_frames frames ++ spell e
    → Sound (tokens ++ Token.Mark Mark.Comma ∷ []) (separated trees frames e)
separated-sound (in_reference text args keyed ∷ outer) e tokens placed ranked same = (
  (placed.0, given-ranked args keyed e placed.1 ranked, placed.2),
  further (Token.Mark Mark.Comma) same ∙ rw (given-spelled args keyed e) (simp (append_assoc, append-nil)),
)
separated-sound [] e tokens placed ranked same = tt
separated-sound (in_bracket ∷ outer) e tokens placed ranked same = tt
separated-sound (behind_sign mark ∷ outer) e tokens placed ranked same = tt
separated-sound (behind_left mark left ∷ outer) e tokens placed ranked same = tt

ended-sound : (mark : Mark) (joined : Frames × Tree) (tokens : List Token) → Joined 0 tokens joined → Sound (tokens ++ Token.Mark mark ∷ []) (ended trees mark joined)
ended-sound Mark.Close joined tokens j = closed-sound joined.0 joined.1 tokens j.placed j.ranked j.same
ended-sound Mark.Comma joined tokens j = separated-sound joined.0 joined.1 tokens j.placed j.ranked j.same
ended-sound mark joined tokens j = tt

followed-sound : (token : Token) (frames : Frames) (e : Tree) (tokens : List Token) → Sound tokens (whole frames e) → Sound (tokens ++ token ∷ []) (followed trees token frames e)
followed-sound (Token.Mark mark) frames e tokens sound =
    elim (cases_Bool (is_binary mark)) [
      | inl is ↦ rw is (operated-sound mark (join trees (left_rank mark) frames e) tokens is (primary-joins frames (left_rank mark) e tokens (left-primary mark) sound))
      | inr is ↦ rw is (ended-sound mark (join trees 0 frames e) tokens (primary-joins frames 0 e tokens (omega arith) sound))
    ]
followed-sound token frames e tokens sound = tt

-- ---- behind a name

keyed-sound : (text : List ℕ) (frames : Frames) (tokens : List Token) → Placed frames → tokens ≡ spell_frames frames ++ Token.Word text ∷ []
    → Sound (tokens ++ Token.Mark Mark.Equals ∷ []) (keyed_by text frames)
keyed-sound text (in_reference outer_text args false ∷ outer) tokens placed same =
    elim (cases_Bool (bytes_eq text (codes "kind"))) [
      | inl is ↦ rw is (placed, further (Token.Mark Mark.Equals) (same ∙ ap (λ (t : List ℕ). spell_frames (in_reference outer_text args false ∷ outer) ++ Token.Word t ∷ []) ((bytes_eq-Decides text (codes "kind")).0 is)) ∙ simp (append_assoc, append-nil))
      | inr is ↦ rw is tt
    ]
keyed-sound text (in_reference outer_text args true ∷ outer) tokens placed same = tt
keyed-sound text [] tokens placed same = tt
keyed-sound text (in_bracket ∷ outer) tokens placed same = tt
keyed-sound text (behind_sign mark ∷ outer) tokens placed same = tt
keyed-sound text (behind_left mark left ∷ outer) tokens placed same = tt

named-whole : (frames : Frames) (text : List ℕ) (tokens : List Token) → Sound tokens (named frames text) → Sound tokens (whole frames (name text))
named-whole frames text tokens sound = (refl, sound.0, sound.1, sound.2)

name-sound : (token : Token) (frames : Frames) (text : List ℕ) (tokens : List Token) → Sound tokens (named frames text) → Sound (tokens ++ token ∷ []) (after_name trees token frames text)
name-sound (Token.Mark Mark.Open) frames text tokens sound =
    (sound.0, sound.1, further (Token.Mark Mark.Open) sound.2 ∙ append_assoc (spell_frames frames) (Token.Word text ∷ []) (Token.Mark Mark.Open ∷ []))
name-sound (Token.Mark Mark.Equals) frames text tokens sound = keyed-sound text frames tokens sound.1 sound.2
name-sound token frames text tokens sound = followed-sound token frames (name text) tokens (named-whole frames text tokens sound)

call-begins : (frames : Frames) (text : List ℕ) (tokens : List Token) → Sound tokens (called frames text) → Sound tokens (start (in_reference text [] false ∷ frames))
call-begins frames text tokens sound = ((sound.0, tt, sound.1), sound.2)

call-sound : (token : Token) (frames : Frames) (text : List ℕ) (tokens : List Token) → Sound tokens (called frames text) → Sound (tokens ++ token ∷ []) (after_call trees token frames text)
call-sound (Token.Mark Mark.Close) frames text tokens sound = (
  refl,
  (sound.0, tt),
  sound.1,
  further (Token.Mark Mark.Close) sound.2 ∙ append_assoc (spell_frames frames) (Token.Word text ∷ Token.Mark Mark.Open ∷ []) (Token.Mark Mark.Close ∷ []),
)
call-sound token frames text tokens sound = started-sound token (in_reference text [] false ∷ frames) tokens (call-begins frames text tokens sound)

-- ---- the reader

step-sound : (token : Token) (state : State Tree Listed) (tokens : List Token) → Sound tokens state → Sound (tokens ++ token ∷ []) (step trees token state)
step-sound token failed tokens sound = tt
step-sound token (start frames) tokens sound = started-sound token frames tokens sound
step-sound token (called frames text) tokens sound = call-sound token frames text tokens sound
step-sound token (named frames text) tokens sound = name-sound token frames text tokens sound
step-sound token (whole frames e) tokens sound = followed-sound token frames e tokens sound

run-sound : (tokens : List Token) (state : State Tree Listed) (before : List Token) → Sound before state → Sound (before ++ tokens) (run trees tokens state)
run-sound [] state before sound = rw append-nil sound
run-sound (token ∷ rest) state before sound =
    subst (λ (all : List Token). Sound all (run trees rest (step trees token state))) (append_assoc before (token ∷ []) rest)
    (run-sound rest (step trees token state) (before ++ token ∷ []) (step-sound token state before sound))

alone-sound : (frames : Frames) (e found : Tree) (tokens : List Token) → Ranked e → tokens ≡ spell_frames frames ++ spell e → alone frames e ≡ Some found
    → Ranked found × (spell found ≡ tokens)
alone-sound [] e found tokens ranked same is = let one : e ≡ found = cc in (subst Ranked one ranked, sym (same ∙ ap spell one))
alone-sound (frame ∷ outer) e found tokens ranked same is = absurd (cc)

finish-sound : (state : State Tree Listed) (found : Tree) (tokens : List Token) → Sound tokens state → finish trees state ≡ Some found → Ranked found × (spell found ≡ tokens)
finish-sound (named frames text) found tokens sound is =
    let j = primary-joins frames 0 (name text) tokens (omega arith) (named-whole frames text tokens sound) in
    let joined = join trees 0 frames (name text) in alone-sound joined.0 joined.1 found tokens j.ranked j.same is
finish-sound (whole frames e) found tokens sound is =
    let j = primary-joins frames 0 e tokens (omega arith) sound in
    let joined = join trees 0 frames e in alone-sound joined.0 joined.1 found tokens j.ranked j.same is
finish-sound state found tokens sound is = absurd (cc)

-- The reading of tokens is ranked and spells them.
pub sound : (tokens : List Token) (e : Tree) → reading tokens ≡ Some e → Ranked e × (spell e ≡ tokens)
sound tokens e is = finish-sound (run trees tokens (start [])) e tokens (run-sound tokens (start []) [] (tt, refl)) is
