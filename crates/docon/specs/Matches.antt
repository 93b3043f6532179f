-- The steps from words to what they ask for.
use Rattle.std.specs.Prelude.{◌≡◌, ◌≤◌, ℕ, Bool, true, false, List, map, Option, Vec, Result, Ok, Err, MatchOption, if◌then◌else◌}
use Rattle.std.specs.List.{list_all}
use Rattle.std.specs.Borrow.{Bor}
use Rattle.std.specs.Str.{is_utf8}
use Rattle.clap.specs.Words.{App, found_of, matches_of, rows_of}
use Rattle.clap.specs.declared.parser.matches.ArgMatches.{ArgMatches}
use Rattle.clap.specs.declared.error.kind.ErrorKind.{ErrorKind}
use Rattle.docon.specs.declared.request.Task.{Task}
use Rattle.docon.specs.declared.request.Request.{Request}
use Rattle.docon.specs.declared.request.BadWords.{BadWords}
use Rattle.docon.specs.declared.request.WordsFail.{WordsFail}
use Rattle.docon.specs.Words.{is_taken}

-- this is the word as a text, or it isn't UTF-8
abbrev pub IsText : List ℕ → Option (Bor (List ℕ)) → Type 0
IsText word text = MatchOption text (is_utf8 word ≡ false) (λ same. (same.now ≡ word) × (is_utf8 word ≡ true))

module _ {A : Type 0} where
  -- these are the words as texts, or one of them isn't UTF-8
  abbrev pub IsTexts : List (List ℕ) → Option (Vec (Bor (List ℕ)) A) → Type 0
  IsTexts words texts = MatchOption texts (list_all is_utf8 words ≡ false) (λ all. (map (λ text. text.now) all.items ≡ words) × (list_all is_utf8 words ≡ true))

abbrev pub is_memory : ErrorKind → Bool
is_memory ErrorKind.OutOfMemory = true
is_memory other = false

-- memory was wanting, or the words are no command
abbrev pub failed : ErrorKind → WordsFail
failed kind = if is_memory kind then WordsFail.NoMemory else WordsFail.Refused BadWords.Command

-- What clap's command finds in the words: where it takes them, what its definition gives.
abbrev pub GivesMatches : App → List (List ℕ) → Result ArgMatches WordsFail → Type 0
GivesMatches app words (Ok matches) = (is_taken app words ≡ true) × (rows_of (found_of matches) ≡ matches_of app words)
GivesMatches app words (Err (WordsFail.Refused bad)) = (is_taken app words ≡ false) × (bad ≡ BadWords.Command)
GivesMatches app words (Err WordsFail.NoMemory) = Unit {0}

-- the turns of a run are in range
abbrev pub HasTurns : Task → Type 0
HasTurns (Task.Run turns) = (1 ≤ turns) × (turns ≤ 1000000000)
HasTurns other = Unit {0}

-- the answer is this one, or memory was wanting
abbrev pub IsUnlessMemory : Result Request BadWords → Result Request WordsFail → Type 0
IsUnlessMemory wanted (Ok request) = wanted ≡ Ok request
IsUnlessMemory wanted (Err (WordsFail.Refused bad)) = wanted ≡ Err bad
IsUnlessMemory wanted (Err WordsFail.NoMemory) = Unit {0}
