-- Small examples of the words and of the statuses, which compute.
use Rattle.std.proofs.Common.{◌≡◌, [], ◌∷◌, Err, refl}
use Rattle.std.specs.Prelude.{⊤, codes}
use Rattle.std.specs.Str.{is_utf8}
use Rattle.clap.proofs.OnLiterals.{clap_on_literals}
use Rattle.dc_int.specs.declared.access.Action.{Action}
use Rattle.dc_int.specs.declared.fault.FaultKind.{FaultKind}
use Rattle.dc_int.specs.declared.fault.Why.{Why}
use Rattle.dc_code.specs.declared.verdict.Race.{Race}
use Rattle.dc_code.specs.Troubles.{ended}
use Rattle.dc_code.specs.Verdicts.{in_iteration, race}
use Rattle.dc_run.specs.ReportLine.{done, bad, stopped}
use Rattle.docon.specs.declared.request.BadWords.{BadWords}
use Rattle.docon.specs.declared.request.Task.{Task}
use Rattle.docon.specs.Report.{status_of}
use Rattle.docon.specs.Words.{asks, request_of, run_request, plain_request, is_taken, value_of}

-- ---- words

unfoldable on_words : ⊤
unfolding clap_on_literals request_of run_request plain_request is_taken value_of is_utf8
on_words = tt

-- turns with and without `=`
turns_with_sign : request_of (codes "run" ∷ codes "--turns=10" ∷ codes "f" ∷ []) ≡ asks (Task.Run 10) (codes "f")
unfolding on_words
turns_with_sign = refl

turns_apart : request_of (codes "run" ∷ codes "f" ∷ codes "--turns" ∷ codes "0000000010" ∷ []) ≡ asks (Task.Run 10) (codes "f")
unfolding on_words
turns_apart = refl

-- 1,000,000 without them
no_turns : request_of (codes "run" ∷ codes "check" ∷ []) ≡ asks (Task.Run 1000000) (codes "check")
unfolding on_words
no_turns = refl

most : request_of (codes "run" ∷ codes "--turns=1000000000" ∷ codes "f" ∷ []) ≡ asks (Task.Run 1000000000) (codes "f")
unfolding on_words
most = refl

-- no turns, one too many, no digit, no number, too long a number
zero_turns : request_of (codes "run" ∷ codes "--turns=0" ∷ codes "f" ∷ []) ≡ Err BadWords.Turns
unfolding on_words
zero_turns = refl

too_many : request_of (codes "run" ∷ codes "--turns=1000000001" ∷ codes "f" ∷ []) ≡ Err BadWords.Turns
unfolding on_words
too_many = refl

empty_turns : request_of (codes "run" ∷ codes "--turns=" ∷ codes "f" ∷ []) ≡ Err BadWords.Turns
unfolding on_words
empty_turns = refl

no_number : request_of (codes "run" ∷ codes "--turns=+5" ∷ codes "f" ∷ []) ≡ Err BadWords.Turns
unfolding on_words
no_number = refl

too_long : request_of (codes "run" ∷ codes "--turns=00000000010" ∷ codes "f" ∷ []) ≡ Err BadWords.Turns
unfolding on_words
too_long = refl

-- twice, unknown, no file, two files, help, a command in capitals
twice : request_of (codes "run" ∷ codes "--turns=1" ∷ codes "--turns=2" ∷ codes "f" ∷ []) ≡ Err BadWords.Command
unfolding on_words
twice = refl

unknown : request_of (codes "run" ∷ codes "--nothing=1" ∷ codes "f" ∷ []) ≡ Err BadWords.Command
unfolding on_words
unknown = refl

no_file : request_of (codes "run" ∷ []) ≡ Err BadWords.Command
unfolding on_words
no_file = refl

two_files : request_of (codes "run" ∷ codes "f" ∷ codes "g" ∷ []) ≡ Err BadWords.Command
unfolding on_words
two_files = refl

help : request_of (codes "run" ∷ codes "--help" ∷ []) ≡ Err BadWords.Command
unfolding on_words
help = refl

no_words : request_of [] ≡ Err BadWords.Command
unfolding on_words
no_words = refl

other_command : request_of (codes "Run" ∷ codes "f" ∷ []) ≡ Err BadWords.Command
unfolding on_words
other_command = refl

not_text : request_of (codes "run" ∷ (255 ∷ []) ∷ []) ≡ Err BadWords.Command
unfolding on_words
not_text = refl

-- no command comes before no turns
both_bad : request_of (codes "run" ∷ codes "--turns=0" ∷ []) ≡ Err BadWords.Command
unfolding on_words
both_bad = refl

-- a check and a listing have no turns
checks : request_of (codes "check" ∷ codes "f" ∷ []) ≡ asks Task.Check (codes "f")
unfolding on_words
checks = refl

lists : request_of (codes "code" ∷ codes "f" ∷ []) ≡ asks Task.Code (codes "f")
unfolding on_words
lists = refl

turns_of_check : request_of (codes "check" ∷ codes "--turns=10" ∷ codes "f" ∷ []) ≡ Err BadWords.Command
unfolding on_words
turns_of_check = refl

-- `-` is a name, and behind `--` each word is
dash : request_of (codes "run" ∷ codes "-" ∷ []) ≡ asks (Task.Run 1000000) (codes "-")
unfolding on_words
dash = refl

behind_dashes : request_of (codes "run" ∷ codes "--" ∷ codes "-f" ∷ []) ≡ asks (Task.Run 1000000) (codes "-f")
unfolding on_words
behind_dashes = refl

-- ---- statuses

-- a run that comes to its end
end_well : status_of done ≡ 0
end_well = refl

-- a fault in a statement, and one in an iteration
fault : status_of (bad (record { why = Why.Fault FaultKind.Undefined; line = 8 })) ≡ 3
fault = refl

fault_in_iteration : status_of (stopped (in_iteration (ended (Why.Fault FaultKind.Subscript) 4 []) []) []) ≡ 3
fault_in_iteration = refl

-- a spent limit
spent : status_of (bad (record { why = Why.Spent; line = 3 })) ≡ 4
spent = refl

abbrev found : Race
found = record {
  element = record { variable = 0; position = 1 };
  first = record { iteration = 0; action = Action.Defines; line = 5 };
  second = record { iteration = 1; action = Action.Reads; line = 5 };
}

raced : status_of (stopped (race found [] []) []) ≡ 2
raced = refl
