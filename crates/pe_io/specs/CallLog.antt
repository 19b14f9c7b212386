-- What a shelf remembers of its calls.
use Rattle.std.specs.Prelude.{ℕ, ◌+◌, List, Option, Some, None, min}
use Rattle.pe_io.specs.declared.shelf.ShelfCall.{ShelfCall}
use Rattle.pe_base.specs.Calls.Counters.{last_count}
use Rattle.pe_io.specs.Shelf.{FailedCall, failed_call}

-- how many calls were made, how many of them failed, and the last that failed
pub record Calls : Type 0 where
  pub made : ℕ
  pub faults : ℕ
  pub last_failed : Option FailedCall

-- no call was made
abbrev pub no_calls : Calls
no_calls = record { made = 0; faults = 0; last_failed = None }

-- one more call
abbrev pub counted : Calls → Calls
counted calls = record calls { made = min (calls.made + 1) last_count }

-- the call that was counted last has failed
abbrev pub failed : ShelfCall → List ℕ → Calls → Calls
failed call name calls = record calls { faults = min (calls.faults + 1) last_count; last_failed = Some (failed_call call name) }
