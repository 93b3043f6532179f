-- What the words of a command line ask for, by clap's definition of a simple command. This project's own.
use Rattle.std.specs.Prelude.{◌≡◌, ℕ, Bool, true, false, ◌&&◌, List, [], ◌∷◌, length, codes, nat_le, Option, Some, None, Result, Ok, Err, option_and_then, option_map, if◌then◌else◌}
use Rattle.std.specs.List.{list_all}
use Rattle.std.specs.Option.{option_map_or}
use Rattle.std.specs.Result.{result_ok}
use Rattle.std.specs.Str.{bytes_eq, is_utf8}
use Rattle.dc_tree.specs.Literals.{number_of}
use Rattle.clap.specs.Words.{App, Rule, new_app, new_rule, with_rule, Kinds, first_of, matches_of, fault_of}
use Rattle.docon.specs.declared.request.Task.{Task}
use Rattle.docon.specs.declared.request.Request.{Request}
use Rattle.docon.specs.declared.request.BadWords.{BadWords}

-- ---- the commands, as clap knows them

-- the positional FILE, which is required
abbrev pub file_rule : Rule
file_rule = record (new_rule (codes "file")) { required = true }

-- the option `--turns`, which has one value
abbrev pub turns_rule : Rule
turns_rule = record (new_rule (codes "turns")) { long = Some (codes "turns") }

-- `run [--turns=T] FILE`
abbrev pub run_app : App
run_app = with_rule (with_rule (new_app (codes "run")) turns_rule) file_rule

-- `NAME FILE`
abbrev pub plain_app : List ℕ → App
plain_app name = with_rule (new_app name) file_rule

abbrev pub is_no_kind : Kinds → Bool
is_no_kind [] = true
is_no_kind (kind ∷ rest) = false

-- By clap's definition of the command nothing is wrong with the words, of which the first is the command.
unfoldable pub is_taken : App → List (List ℕ) → Bool
is_taken app words = is_no_kind (fault_of app words)

-- the value that the words give an argument, by clap's definition of the command
unfoldable pub value_of : App → List ℕ → List (List ℕ) → Option (List ℕ)
value_of app name words = first_of name (matches_of app words)

-- the file that the words of a command name, where they are taken
abbrev pub file_in : App → List (List ℕ) → Option (List ℕ)
file_in app words = if is_taken app words then value_of app (codes "file") words else None

-- ---- numbers

abbrev pub is_digit : ℕ → Bool
is_digit byte = nat_le 48 byte && nat_le byte 57

-- one to ten decimal digits
abbrev pub is_number : List ℕ → Bool
is_number word = nat_le 1 (length word) && nat_le (length word) 10 && list_all is_digit word

abbrev pub number_in : List ℕ → Option ℕ
number_in word = if is_number word then Some (number_of word) else None

-- the turns, where they are 1 to 1,000,000,000
abbrev pub in_range : ℕ → Option ℕ
in_range turns = if nat_le 1 turns && nat_le turns 1000000000 then Some turns else None

-- The turns that the value of `--turns` names: 1,000,000 without it.
abbrev pub turns_in : Option (List ℕ) → Option ℕ
turns_in None = Some 1000000
turns_in (Some word) = option_and_then in_range (number_in word)

-- ---- requests

-- this is done with this file
abbrev pub asks : Task → List ℕ → Result Request BadWords
asks task file = Ok (record { task = task; file = file })

-- What `run` and the words behind it ask for: a run with the turns that they name.
unfoldable pub run_request : List (List ℕ) → Result Request BadWords
run_request words = option_map_or (λ file.
    option_map_or (λ turns. asks (Task.Run turns) file) (turns_in (value_of run_app (codes "turns") words)) (Err BadWords.Turns))
    (file_in run_app words) (Err BadWords.Command)

-- What a command that takes a file alone and the words behind it ask for.
unfoldable pub plain_request : Task → List ℕ → List (List ℕ) → Result Request BadWords
plain_request task name words = option_map_or (asks task) (file_in (plain_app name) words) (Err BadWords.Command)

abbrev pub request_by : List ℕ → List (List ℕ) → Result Request BadWords
request_by command words =
    if bytes_eq command (codes "run") then run_request words
    else (if bytes_eq command (codes "check") then plain_request Task.Check (codes "check") words
    else (if bytes_eq command (codes "code") then plain_request Task.Code (codes "code") words
    else Err BadWords.Command))

abbrev pub request_in : List (List ℕ) → Result Request BadWords
request_in [] = Err BadWords.Command
request_in (command ∷ rest) = request_by command (command ∷ rest)

-- What words ask for: a task and a file, or nothing, where they are refused. The first word is the command.
unfoldable pub request_of : List (List ℕ) → Result Request BadWords
request_of words = if list_all is_utf8 words then request_in words else Err BadWords.Command

-- the words ask for this task, with this file
abbrev pub AsksFor : List (List ℕ) → Task → List ℕ → Type 0
AsksFor words task file = request_of words ≡ asks task file

-- the file that the words name, where they ask for something
abbrev pub file_of : List (List ℕ) → Option (List ℕ)
file_of words = option_map (λ (request : Request). request.file) (result_ok (request_of words))

-- why words are refused, as the line of the log says it
abbrev pub why_bad : BadWords → List ℕ
why_bad BadWords.Command = codes "words: command"
why_bad BadWords.Turns = codes "words: turns"
