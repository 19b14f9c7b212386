-- Numbers of calls that are to fail.
use Rattle.std.specs.Prelude.{ℕ, ◌+◌, ◌<◌, List, Contains}
use Rattle.pe_base.specs.Calls.Counters.{last_count}

-- after so many calls, the next one's number is listed; there is no number behind the last of 64 bits
abbrev pub IsNextListed : List ℕ → ℕ → Type 0
IsNextListed numbers count = (count < last_count) × Contains numbers (count + 1)
