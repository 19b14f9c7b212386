-- The run of the program: what it writes and answers, for every job alike.
--
--     words  -  the job  -  what it reads from the shelf, stage after stage  -  its text  -  the last line
use Rattle.std.specs.Prelude.{◌≡◌, ℕ, ◌⊎◌, Bool, ◌||◌, ◌==◌, MatchBool, List, Option, Some, None, Result, Ok, Err}
use Rattle.pe_io.specs.declared.shelf.ShelfCall.TheVariants.{Get}
use Rattle.pe_base.specs.Calls.Told.{Told, Adds, AddsPart}
use Rattle.pe_io.specs.Shelf.{Contents, FailedCall, FailedAt}
use Rattle.pe_stacks.specs.Holdings.{Holdings}
use Rattle.pe_run.specs.declared.refusal.Stage.{Stage}
use Rattle.pe_run.specs.declared.refusal.Refusal.{Refusal}
use Rattle.pe_run.specs.Endings.{Ran, whole_text}
use Rattle.pe_run.specs.Traffic.{HasTraffic}
use Rattle.pe_run.specs.Reads.{read, MayGive, MayLack}
use Rattle.pe_run.specs.Tasks.{Ended, ended, Task}

-- The run of a job over what the shelf holds, where the call of one stage failed, or none.
abbrev pub run_job : Task → Contents → Option Stage → Ran
run_job task held failed = ended (read task.reads held failed)

-- The clauses of the top call. `told` is what the shelf tells of its contents; `before` and `after` are its
-- counts of faults; `last` is its last failed call; `old` and `new` are what the sink tells.

-- a stage's call on this name may count as failed: the count of faults rose, the last failed call is this one, and the status
-- is 6 or 7
abbrev pub MayFail : ℕ → ℕ → Option FailedCall → ℕ → List ℕ → Type 0
MayFail before after last status name = FailedAt Get name before after last × ((status ≡ 6) ⊎ (status ≡ 7))

-- a status that comes only from outside: a failed sink, or want of memory
abbrev pub is_interruption : ℕ → Bool
is_interruption status = status == 7 || status == 9

-- the whole text of the run is written, or a part of it where the run was interrupted, each line as one piece
abbrev pub Writes : ℕ → Told → List ℕ → Told → Type 0
Writes status old text new = MatchBool (is_interruption status) (AddsPart old text new) (Adds old text new)

-- the status is the run's, or an interruption
abbrev pub Answers : ℕ → ℕ → Type 0
Answers status ran = (status ≡ ran) ⊎ (status ≡ 7) ⊎ (status ≡ 9)

-- the depots have counted the traversals of a job, and nothing where it made none
abbrev pub CountsTraversals : {V C : Type 0} → Result Ended Refusal → Holdings V → Holdings C → Type 0
CountsTraversals (Err refusal) vertices cells = Unit {0}
CountsTraversals (Ok end) vertices cells = HasTraffic end.walked.axes end.walked.start_level end.walked.made vertices cells

-- Text and status are those of what the job's reading may have given. On status 0 so is what the depots have counted.
pub record IsRun {V C : Type 0} (task : Task) (told : Option Contents) (before after : ℕ) (last : Option FailedCall) (old new : Told) (vertices : Holdings V) (cells : Holdings C) (status : ℕ) : Type 0 where
  pub given : Result Ended Refusal
  pub gave : MayGive told (MayFail before after last status) task.reads given
  pub text : Writes status old (whole_text (ended given)) new
  pub answer : Answers status (ended given).status
  pub traffic : status ≡ 0 → CountsTraversals given vertices cells

-- why the shelf ended the run: a stage's call failed, or the told contents do not hold its name
abbrev pub IsShelfCause : Task → Option Contents → ℕ → ℕ → Option FailedCall → Type 0
IsShelfCause task told before after last = MayLack told before after last task.reads

-- where nothing failed, only want of memory keeps the run from its end
abbrev pub IsComplete : Task → Option Contents → Told → Told → ℕ → Type 0
IsComplete task told old new status = (held : Contents) → told ≡ Some held
    → (status ≡ 9) ⊎ ((status ≡ (run_job task held None).status) × Adds old (whole_text (run_job task held None)) new)
