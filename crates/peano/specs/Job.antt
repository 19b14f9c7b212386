-- What the run of a job answers and writes.
use Rattle.std.specs.Prelude.{◌≡◌, ◌≢◌, ℕ, Option}
use Rattle.std.specs.declared.io.Error.{Error}
use Rattle.std.specs.declared.io.ErrorKind.TheVariants.{InvalidData}
use Rattle.std.specs.IoError.{error_kind}
use Rattle.pe_base.specs.Calls.Counters.{Rises}
use Rattle.pe_base.specs.Calls.Told.{Told, SinkFailed}
use Rattle.pe_io.specs.Shelf.{Contents, FailedCall}
use Rattle.pe_run.specs.Tasks.{Task}
use Rattle.pe_run.specs.Run.{IsShelfCause, IsComplete}

-- Of the run of a job, once: why the shelf or the sink ended it, and what it is where nothing failed. `before` and
-- `after` are the shelf's counts of faults, and `old` and `new` what the sink tells.
pub record IsJob (task : Task) (told : Option Contents) (before after : ℕ) (last : Option FailedCall) (old new : Told) (status : ℕ) : Type 0 where
  pub shelf_cause : status ≡ 6 → IsShelfCause task told before after last
  pub sink_cause : status ≡ 7 → SinkFailed old new
  pub completeness : ¬ Rises before after → ¬ SinkFailed old new → IsComplete task told old new status

-- The status where the words cannot be had: 2 where one is no text, and else want of memory.
pub record Refuses (fault : Error) (status : ℕ) : Type 0 where
  pub no_text : error_kind fault ≡ InvalidData → status ≡ 2
  pub no_memory : error_kind fault ≢ InvalidData → status ≡ 9
