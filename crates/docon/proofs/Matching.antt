-- From what clap answers to what the words ask for.
use Rattle.std.proofs.Common.{◌≡◌, ◌⊎◌, ◌&&◌, ℕ, Bool, true, false, List, [], ◌∷◌, Option, Some, None, Result, Ok, Err, Bor, refl, sym, ap, inl, inr, ◌∙◌}
use Rattle.std.specs.Prelude.{MatchResult, codes}
use Rattle.std.specs.Result.{result_ok}
use Rattle.std.specs.Str.{IsUtf8, is_utf8}
use Rattle.std.proofs.lemmas.Str.{IsUtf8-from_is_utf8, is_utf8-from_IsUtf8}
use Rattle.std.proofs.lemmas.Bool.{cases_Bool}
use Rattle.clap.specs.Words.{App, IsAmong, Kinds, fault_of, first_of, found_of, is_simple, is_simple_and_free, rows_of}
use Rattle.clap.specs.declared.error.kind.ErrorKind.{ErrorKind}
use Rattle.clap.specs.declared.parser.matches.ArgMatches.{ArgMatches}
use Rattle.docon.specs.declared.request.BadWords.{BadWords}
use Rattle.docon.specs.declared.request.WordsFail.{WordsFail}
use Rattle.docon.specs.declared.request.Task.{Task}
use Rattle.docon.specs.Words.{run_app, plain_app, is_taken, value_of, file_in, turns_in, asks, run_request, plain_request}
use Rattle.docon.specs.Matches.{IsText, GivesMatches, IsUnlessMemory, is_memory, failed}

pub text-told : {E : Type 0} (Q : E → Type 0) (r : Result (Bor (List ℕ)) E) (bs : List ℕ) → MatchResult r (λ s. (s.now ≡ bs) × IsUtf8 bs) (λ e. ¬ (IsUtf8 bs) × Q e)
    → IsText bs (result_ok r)
text-told Q (Ok s) bs told = (told.0, is_utf8-from_IsUtf8 bs told.1)
text-told Q (Err e) bs told = elim (cases_Bool (is_utf8 bs)) [ inl text ↦ absurd (told.0 (IsUtf8-from_is_utf8 bs text)) | inr other ↦ other ]

pub taken : (app : App) (words : List (List ℕ)) → fault_of app words ≡ [] → is_taken app words ≡ true
unfolding is_taken
taken app words none = rw none refl

and_left : (a b : Bool) → (a && b) ≡ true → a ≡ true
and_left true b e = refl
and_left false b e = e

pub is_simple_too : (app : App) → is_simple_and_free app ≡ true → is_simple app ≡ true
is_simple_too app both = and_left (is_simple app) _ both

pub refused : (app : App) (words : List (List ℕ)) (kind : ErrorKind) (kinds : Kinds) → fault_of app words ≡ kinds → IsAmong kind kinds → is_taken app words ≡ false
unfolding is_taken
refused app words kind [] is among = absurd among
refused app words kind (first ∷ rest) is among = rw is refl

pub err-gives : (app : App) (words : List (List ℕ)) (kind : ErrorKind) → (kind ≡ ErrorKind.OutOfMemory) ⊎ IsAmong kind (fault_of app words) → GivesMatches app words (Err (failed kind))
err-gives app words kind why = by (is_memory kind) refl why
  where
    by : (memory : Bool) → is_memory kind ≡ memory → (kind ≡ ErrorKind.OutOfMemory) ⊎ IsAmong kind (fault_of app words) → GivesMatches app words (Err (failed kind))
    by true is why = rw is tt
    by false is (inl wanting) = absurd (let no : true ≡ false = sym (ap is_memory wanting) ∙ is in cc)
    by false is (inr among) = rw is (refused app words kind (fault_of app words) refl among, refl)

-- what is found for FILE is the file that the words name
pub found-file : (app : App) (words : List (List ℕ)) (matches : ArgMatches) (file : Option (List ℕ)) → GivesMatches app words (Ok matches) → file ≡ first_of (codes "file") (rows_of (found_of matches))
    → file_in app words ≡ file
unfolding value_of
found-file app words matches file gives is = rw gives.0 (ap (first_of (codes "file")) (sym gives.1) ∙ sym is)

pub found-value : (app : App) (words : List (List ℕ)) (name : List ℕ) (matches : ArgMatches) (value : Option (List ℕ)) → GivesMatches app words (Ok matches) → value ≡ first_of name (rows_of (found_of matches))
    → value_of app name words ≡ value
unfolding value_of
found-value app words name matches value gives is = ap (first_of name) (sym gives.1) ∙ sym is

pub no-file : (app : App) (words : List (List ℕ)) → is_taken app words ≡ false → file_in app words ≡ None
no-file app words not = rw not refl

module _ (words : List (List ℕ)) where
  pub run-refused : file_in run_app words ≡ None → run_request words ≡ Err BadWords.Command
  unfolding run_request
  run-refused file = rw file refl

  pub run-no-turns : (file : List ℕ) → file_in run_app words ≡ Some file → turns_in (value_of run_app (codes "turns") words) ≡ None → run_request words ≡ Err BadWords.Turns
  unfolding run_request
  run-no-turns file named turns = rw (named, turns) refl

  pub run-asks : (file : List ℕ) (turns : ℕ) → file_in run_app words ≡ Some file → turns_in (value_of run_app (codes "turns") words) ≡ Some turns → run_request words ≡ asks (Task.Run turns) file
  unfolding run_request
  run-asks file turns named told = rw (named, told) refl

  pub plain-refused : (task : Task) (name : List ℕ) → file_in (plain_app name) words ≡ None → plain_request task name words ≡ Err BadWords.Command
  unfolding plain_request
  plain-refused task name file = rw file refl

  pub plain-asks : (task : Task) (name file : List ℕ) → file_in (plain_app name) words ≡ Some file → plain_request task name words ≡ asks task file
  unfolding plain_request
  plain-asks task name file named = rw named refl

-- where clap gives no matches
pub run-fails : (words : List (List ℕ)) (fail : WordsFail) → GivesMatches run_app words (Err fail) → IsUnlessMemory (run_request words) (Err fail)
run-fails words (WordsFail.Refused bad) h = run-refused words (no-file run_app words h.0) ∙ ap Err (sym h.1)
run-fails words WordsFail.NoMemory h = tt

pub plain-fails : (task : Task) (name : List ℕ) (words : List (List ℕ)) (fail : WordsFail) → GivesMatches (plain_app name) words (Err fail) → IsUnlessMemory (plain_request task name words) (Err fail)
plain-fails task name words (WordsFail.Refused bad) h = plain-refused words task name (no-file (plain_app name) words h.0) ∙ ap Err (sym h.1)
plain-fails task name words WordsFail.NoMemory h = tt
