-- The reader of limited trees finds what the reader of trees does, as long as that isn't too deep.
use Rattle.std.proofs.Common.{◌≡◌, ◌<◌, ◌≤◌, ◌+◌, ℕ, max, Bool, true, false, List, [], ◌∷◌, ◌++◌, Some, None, refl, sym, ap, ◌∙◌, arith, inl, inr, add-one, map}
use Rattle.std.specs.Prelude.{nat_le, if◌then◌else◌, option_map, codes}
use Rattle.std.specs.Str.{bytes_eq}
use Rattle.std.proofs.lemmas.Bool.{cases_Bool, leb-true, leb-false, le-leb, lt-leb}
use Rattle.dc_tree.specs.declared.token.Mark.{Mark}
use Rattle.dc_tree.specs.declared.token.Token.{Token}
use Rattle.dc_tree.specs.Names.{is_name}
use Rattle.dc_tree.specs.Syntax.{Tree, name, refer, paren, unary, binary, args_from}
use Rattle.dc_tree.specs.Grammar.{is_binary, is_prefix, level, left_rank, depth, deepest}
use Rattle.dc_tree.specs.Reader.{Frame, State, in_bracket, in_reference, behind_sign, behind_left, failed, start, called, named, whole, need, join, prefixed, opened, started, operated, closed, separated, ended, followed, keyed_by, after_name, after_call, step, run, alone, settled, finish, read_by, Listed, trees, reading}
use Rattle.dc_expr.specs.Limited.{Kept, KeptArgs, Frames, deeper, kept_refer, kept_paren, kept_unary, kept_binary, kept_with, limited}

abbrev pub cut : Tree → Kept
cut e = if nat_le (depth e) 256 then Some (e, depth e) else None

abbrev cut_args : Listed → KeptArgs
cut_args args = if nat_le (deepest (args_from args)) 256 then Some (args, deepest (args_from args)) else None

-- ---- each form

cut-over : (e : Tree) → 256 < depth e → cut e ≡ None
cut-over e over = rw (lt-leb (depth e) 256 over) refl

cut-deeper : (e : Tree) (parts : ℕ) → depth e ≡ parts + 1 → cut e ≡ deeper e parts
cut-deeper e parts is = rw is (rw add-one refl)

cut-paren : (inside : Tree) → cut (paren inside) ≡ kept_paren (cut inside)
cut-paren inside =
    elim (cases_Bool (nat_le (depth inside) 256)) [
      | inl is ↦ cut-deeper (paren inside) (depth inside) refl ∙ sym (rw is refl)
      | inr is ↦ let over : 256 < depth inside = leb-false (depth inside) 256 is in cut-over (paren inside) (omega arith) ∙ sym (rw is refl)
    ]

cut-unary : (mark : Mark) (right : Tree) → cut (unary mark right) ≡ kept_unary mark (cut right)
cut-unary mark right =
    elim (cases_Bool (nat_le (depth right) 256)) [
      | inl is ↦ cut-deeper (unary mark right) (depth right) refl ∙ sym (rw is refl)
      | inr is ↦ let over : 256 < depth right = leb-false (depth right) 256 is in cut-over (unary mark right) (omega arith) ∙ sym (rw is refl)
    ]

kept_binary-none : (mark : Mark) (left : Kept) → kept_binary mark left None ≡ None
kept_binary-none mark (Some left) = refl
kept_binary-none mark None = refl

cut-binary : (mark : Mark) (left right : Tree) → cut (binary mark left right) ≡ kept_binary mark (cut left) (cut right)
cut-binary mark left right =
    elim (cases_Bool (nat_le (depth left) 256)) [
      | inr is ↦ let over : 256 < depth left = leb-false (depth left) 256 is in cut-over (binary mark left right) (omega arith) ∙ sym (rw is refl)
      | inl is ↦ elim (cases_Bool (nat_le (depth right) 256)) [
        | inr more ↦ let over : 256 < depth right = leb-false (depth right) 256 more in
            cut-over (binary mark left right) (omega arith) ∙ sym (ap (kept_binary mark (cut left)) (cut-over right over) ∙ kept_binary-none mark (cut left))
        | inl more ↦ cut-deeper (binary mark left right) (max (depth left) (depth right)) refl ∙ sym (rw is (rw more refl))
      ]
    ]

cut-refer : (text : List ℕ) (args : Listed) → cut (refer text (args_from args)) ≡ kept_refer text (cut_args args)
cut-refer text args =
    elim (cases_Bool (nat_le (deepest (args_from args)) 256)) [
      | inl is ↦ cut-deeper (refer text (args_from args)) (deepest (args_from args)) refl ∙ sym (rw is refl)
      | inr is ↦ let over : 256 < deepest (args_from args) = leb-false (deepest (args_from args)) 256 is in
          cut-over (refer text (args_from args)) (omega arith) ∙ sym (rw is refl)
    ]

deepest-more : (args : Listed) (keyed : Bool) (e : Tree) → deepest (args_from (args ++ (keyed, e) ∷ [])) ≡ max (deepest (args_from args)) (depth e)
deepest-more [] keyed e = omega arith
deepest-more (first ∷ rest) keyed e = omega (arith, deepest-more rest keyed e)

kept_with-none : (args : KeptArgs) (keyed : Bool) → kept_with args keyed None ≡ None
kept_with-none (Some args) keyed = refl
kept_with-none None keyed = refl

cut_args-over : (args : Listed) → 256 < deepest (args_from args) → cut_args args ≡ None
cut_args-over args over = rw (lt-leb (deepest (args_from args)) 256 over) refl

cut-with : (args : Listed) (keyed : Bool) (e : Tree) → cut_args (args ++ (keyed, e) ∷ []) ≡ kept_with (cut_args args) keyed (cut e)
cut-with args keyed e =
    let longer : Listed = args ++ (keyed, e) ∷ [] in
    let most = deepest-more args keyed e in
    elim (cases_Bool (nat_le (deepest (args_from args)) 256)) [
      | inr is ↦ let over : 256 < deepest (args_from args) = leb-false (deepest (args_from args)) 256 is in
          cut_args-over longer (omega (arith, most)) ∙ sym (rw is refl)
      | inl is ↦ elim (cases_Bool (nat_le (depth e) 256)) [
        | inr more ↦ let over : 256 < depth e = leb-false (depth e) 256 more in
            cut_args-over longer (omega (arith, most)) ∙ sym (ap (kept_with (cut_args args) keyed) (cut-over e over) ∙ kept_with-none (cut_args args) keyed)
        | inl more ↦
            let few : deepest (args_from args) ≤ 256 = leb-true (deepest (args_from args)) 256 is in
            let flat : depth e ≤ 256 = leb-true (depth e) 256 more in
            let within : max (deepest (args_from args)) (depth e) ≤ 256 = omega arith in
            let made : cut_args longer ≡ Some (longer, max (deepest (args_from args)) (depth e)) =
            rw most (rw (le-leb (max (deepest (args_from args)) (depth e)) 256 within) refl) in
            let joined : kept_with (cut_args args) keyed (cut e) ≡ Some (longer, max (deepest (args_from args)) (depth e)) = rw is (rw more refl) in
            made ∙ sym joined
      ]
    ]

-- ---- what is open

abbrev Open : Type 0
Open = List (Frame Tree Listed)

abbrev cut_frame : Frame Tree Listed → Frame Kept KeptArgs
cut_frame in_bracket = in_bracket
cut_frame (in_reference text args keyed) = in_reference text (cut_args args) keyed
cut_frame (behind_sign mark) = behind_sign mark
cut_frame (behind_left mark left) = behind_left mark (cut left)

abbrev cut_frames : Open → Frames
cut_frames frames = map cut_frame frames

abbrev cut_joined : Open × Tree → Frames × Kept
cut_joined joined = (cut_frames joined.0, cut joined.1)

abbrev cut_state : State Tree Listed → State Kept KeptArgs
cut_state failed = failed
cut_state (start frames) = start (cut_frames frames)
cut_state (called frames text) = called (cut_frames frames) text
cut_state (named frames text) = named (cut_frames frames) text
cut_state (whole frames e) = whole (cut_frames frames) (cut e)

cut-need : (frames : Open) → need (cut_frames frames) ≡ need frames
cut-need [] = refl
cut-need (in_bracket ∷ outer) = refl
cut-need (in_reference text args keyed ∷ outer) = refl
cut-need (behind_sign mark ∷ outer) = refl
cut-need (behind_left mark left ∷ outer) = refl

cut-join : (least : ℕ) (frames : Open) (e : Tree) → cut_joined (join trees least frames e) ≡ join limited least (cut_frames frames) (cut e)
cut-join least [] e = refl
cut-join least (in_bracket ∷ outer) e = refl
cut-join least (in_reference text args keyed ∷ outer) e = refl
cut-join least (behind_sign mark ∷ outer) e =
    elim (cases_Bool (nat_le least (level mark))) [
      | inl is ↦ rw is (cut-join least outer (unary mark e) ∙ ap (join limited least (cut_frames outer)) (cut-unary mark e))
      | inr is ↦ rw is refl
    ]
cut-join least (behind_left mark left ∷ outer) e =
    elim (cases_Bool (nat_le least (level mark))) [
      | inl is ↦ rw is (cut-join least outer (binary mark left e) ∙ ap (join limited least (cut_frames outer)) (cut-binary mark left e))
      | inr is ↦ rw is refl
    ]

-- ---- one token

cut-prefixed : (mark : Mark) (frames : Open) → cut_state (prefixed mark frames) ≡ prefixed mark (cut_frames frames)
cut-prefixed mark frames =
    rw (cut-need frames) (elim (cases_Bool (nat_le (need frames) (level mark))) [ inl is ↦ rw is refl | inr is ↦ rw is refl ])

cut-opened : (mark : Mark) (frames : Open) → cut_state (opened trees mark frames) ≡ opened limited mark (cut_frames frames)
cut-opened Mark.True frames = refl
cut-opened Mark.False frames = refl
cut-opened Mark.Open frames = refl
cut-opened mark frames = refl

cut-started : (token : Token) (frames : Open) → cut_state (started trees token frames) ≡ started limited token (cut_frames frames)
cut-started (Token.Word text) frames = elim (cases_Bool (is_name text)) [ inl is ↦ rw is refl | inr is ↦ rw is refl ]
cut-started (Token.Number digits suffix) frames = refl
cut-started (Token.Chars text) frames = refl
cut-started (Token.Mark mark) frames =
    elim (cases_Bool (is_prefix mark)) [ inl is ↦ rw is (cut-prefixed mark frames) | inr is ↦ rw is (cut-opened mark frames) ]

cut-operated : (mark : Mark) (joined : Open × Tree) → cut_state (operated mark joined) ≡ operated mark (cut_joined joined)
cut-operated mark joined =
    rw (cut-need joined.0) (elim (cases_Bool (nat_le (need joined.0) (level mark))) [ inl is ↦ rw is refl | inr is ↦ rw is refl ])

cut-closed : (frames : Open) (e : Tree) → cut_state (closed trees frames e) ≡ closed limited (cut_frames frames) (cut e)
cut-closed [] e = refl
cut-closed (in_bracket ∷ outer) e = ap (whole (cut_frames outer)) (cut-paren e)
cut-closed (in_reference text args keyed ∷ outer) e =
    ap (whole (cut_frames outer)) (cut-refer text (args ++ (keyed, e) ∷ []) ∙ ap (kept_refer text) (cut-with args keyed e))
cut-closed (behind_sign mark ∷ outer) e = refl
cut-closed (behind_left mark left ∷ outer) e = refl

cut-separated : (frames : Open) (e : Tree) → cut_state (separated trees frames e) ≡ separated limited (cut_frames frames) (cut e)
cut-separated [] e = refl
cut-separated (in_bracket ∷ outer) e = refl
cut-separated (in_reference text args keyed ∷ outer) e = ap (λ (a : KeptArgs). start (in_reference text a false ∷ cut_frames outer)) (cut-with args keyed e)
cut-separated (behind_sign mark ∷ outer) e = refl
cut-separated (behind_left mark left ∷ outer) e = refl

cut-ended : (mark : Mark) (joined : Open × Tree) → cut_state (ended trees mark joined) ≡ ended limited mark (cut_joined joined)
cut-ended Mark.Close joined = cut-closed joined.0 joined.1
cut-ended Mark.Comma joined = cut-separated joined.0 joined.1
cut-ended mark joined = refl

cut-followed : (token : Token) (frames : Open) (e : Tree) → cut_state (followed trees token frames e) ≡ followed limited token (cut_frames frames) (cut e)
cut-followed (Token.Mark mark) frames e =
    elim (cases_Bool (is_binary mark)) [
      | inl is ↦ rw is (cut-operated mark (join trees (left_rank mark) frames e) ∙ ap (λ (j : Frames × Kept). operated mark j) (cut-join (left_rank mark) frames e))
      | inr is ↦ rw is (cut-ended mark (join trees 0 frames e) ∙ ap (λ (j : Frames × Kept). ended limited mark j) (cut-join 0 frames e))
    ]
cut-followed token frames e = refl

cut-keyed : (text : List ℕ) (frames : Open) → cut_state (keyed_by text frames) ≡ keyed_by text (cut_frames frames)
cut-keyed text (in_reference outer_text args false ∷ outer) =
    elim (cases_Bool (bytes_eq text (codes "kind"))) [ inl is ↦ rw is refl | inr is ↦ rw is refl ]
cut-keyed text (in_reference outer_text args true ∷ outer) = refl
cut-keyed text [] = refl
cut-keyed text (in_bracket ∷ outer) = refl
cut-keyed text (behind_sign mark ∷ outer) = refl
cut-keyed text (behind_left mark left ∷ outer) = refl

cut-name : (token : Token) (frames : Open) (text : List ℕ) → cut_state (after_name trees token frames text) ≡ after_name limited token (cut_frames frames) text
cut-name (Token.Mark Mark.Open) frames text = refl
cut-name (Token.Mark Mark.Equals) frames text = cut-keyed text frames
cut-name token frames text = cut-followed token frames (name text)

cut-call : (token : Token) (frames : Open) (text : List ℕ) → cut_state (after_call trees token frames text) ≡ after_call limited token (cut_frames frames) text
cut-call (Token.Mark Mark.Close) frames text = refl
cut-call token frames text = cut-started token (in_reference text [] false ∷ frames)

cut-step : (token : Token) (state : State Tree Listed) → cut_state (step trees token state) ≡ step limited token (cut_state state)
cut-step token failed = refl
cut-step token (start frames) = cut-started token frames
cut-step token (called frames text) = cut-call token frames text
cut-step token (named frames text) = cut-name token frames text
cut-step token (whole frames e) = cut-followed token frames e

-- ---- all tokens

cut-run : (tokens : List Token) (state : State Tree Listed) → cut_state (run trees tokens state) ≡ run limited tokens (cut_state state)
cut-run [] state = refl
cut-run (token ∷ rest) state = cut-run rest (step trees token state) ∙ ap (run limited rest) (cut-step token state)

cut-alone : (frames : Open) (e : Tree) → option_map cut (alone frames e) ≡ alone (cut_frames frames) (cut e)
cut-alone [] e = refl
cut-alone (frame ∷ outer) e = refl

cut-settled : (frames : Open) (e : Tree) → option_map cut (settled (join trees 0 frames e)) ≡ settled (join limited 0 (cut_frames frames) (cut e))
cut-settled frames e =
    let joined = join trees 0 frames e in
    cut-alone joined.0 joined.1 ∙ ap (λ (j : Frames × Kept). settled j) (cut-join 0 frames e)

cut-finish : (state : State Tree Listed) → option_map cut (finish trees state) ≡ finish limited (cut_state state)
cut-finish failed = refl
cut-finish (start frames) = refl
cut-finish (called frames text) = refl
cut-finish (named frames text) = cut-settled frames (name text)
cut-finish (whole frames e) = cut-settled frames e

pub cut-reading : (tokens : List Token) → option_map cut (reading tokens) ≡ read_by limited tokens
cut-reading tokens = cut-finish (run trees tokens (start [])) ∙ ap (finish limited) (cut-run tokens (start []))
