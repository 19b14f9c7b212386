-- What the words of the command line ask for. The first word is the job's; the others mean what `clap` says of the
-- job's command. Where that command takes them, what it finds has to name all that the job needs.
use Rattle.std.specs.Prelude.{◌≡◌, ◌==◌, ℕ, Bool, true, false, not, List, [], ◌∷◌, Option, Some, None, Result, Ok, Err, codes, if◌then◌else◌, option_and_then, option_map, ⊤}
use Rattle.std.specs.Str.{bytes_eq}
use Rattle.clap.specs.Words.{App, Kinds, Row, Rule, Shape, fault_of, first_of, matches_of, new_app, new_rule, with_rule}
use Rattle.clap.specs.Simple.{on_top}
use Rattle.clap.specs.declared.error.kind.ErrorKind.{ErrorKind}
use Rattle.clap.specs.declared.error.kind.ErrorKind.TheVariants.{OutOfMemory}
use Rattle.pe_words.specs.declared.job.Job.{Job}
use Rattle.pe_words.specs.declared.job.Job.TheVariants.{Run}
use Rattle.pe_words.specs.declared.job.WordsFault.{WordsFault}
use Rattle.pe_words.specs.declared.job.WordsFault.TheVariants.{NoJob, Memory}

-- # The commands

-- no program's name stands among the words, and there is no flag for help or for a version
abbrev bare : Shape → Shape
bare shape = record shape { no_binary_name = true; disable_help_flag = true; disable_version_flag = true }

-- a command with no argument yet
abbrev command : List ℕ → App
command name = on_top bare (new_app name)

abbrev required : List ℕ → Rule
required id = record (new_rule id) { required = true }

-- `run`: one word, which has to be there
abbrev pub run_app : App
run_app = with_rule (command (codes "run")) (required (codes "scenario"))

-- what is found where no step fails
abbrev pub where_none : Kinds → List Row → Option (List Row)
where_none [] rows = Some rows
where_none (kind ∷ kinds) rows = None

-- what a command finds in the words that it takes
abbrev pub found_by : App → List (List ℕ) → Option (List Row)
found_by app words = where_none (fault_of app words) (matches_of app words)

-- # The jobs

-- a name is not empty, and does not begin with a hyphen (45)
abbrev pub is_name : List ℕ → Bool
is_name [] = false
is_name (c ∷ cs) = not (c == 45)

abbrev pub name_of : List ℕ → Option (List ℕ)
name_of word = if is_name word then Some word else None

-- the name that was found for an argument
abbrev pub name_in : List ℕ → List Row → Option (List ℕ)
name_in id rows = option_and_then name_of (first_of id rows)

abbrev pub run_in : List Row → Option Job
run_in rows = option_map Run (name_in (codes "scenario") rows)

abbrev pub run_of : List (List ℕ) → Option Job
run_of words = option_and_then run_in (found_by run_app words)

-- the job that the words name
unfoldable pub job_of : List (List ℕ) → Option Job
job_of [] = None
job_of (job ∷ words) = if bytes_eq job (codes "run") then run_of words else None

-- # What is read

-- what is read of the words is what they name, and NoJob where they name nothing; want of memory says nothing of them
abbrev pub IsRead : {D : Type 0} → Option D → Result D WordsFault → Type 0
IsRead named (Ok given) = named ≡ Some given
IsRead named (Err NoJob) = named ≡ None
IsRead named (Err Memory) = ⊤

-- the fault for a command's error
abbrev pub refusal : ErrorKind → WordsFault
refusal OutOfMemory = Memory
refusal _ = NoJob
