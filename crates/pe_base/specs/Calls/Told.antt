-- Where text goes, and how it grows: line by line, each line as one piece.
use Rattle.std.specs.Prelude.{◌≡◌, ◌⊎◌, ℕ, zero, suc, ◌+◌, ◌≤◌, ◌==◌, min, if◌then◌else◌, List, ◌++◌, Option, Some, None, Result, Ok, Err}
use Rattle.std.specs.List.{sum_by}
use Rattle.pe_base.specs.Calls.Counters.{last_count, Rises}

-- where text goes: the text, if it is told, how many pieces were given, and how often the sink failed
pub record Told : Type 0 where
  pub text : Option (List ℕ)
  pub writes : ℕ
  pub faults : ℕ

-- the text, where it is told, gets these bytes at its end
abbrev pub Appends : Option (List ℕ) → List ℕ → Option (List ℕ) → Type 0
Appends None bytes new = new ≡ None
Appends (Some text) bytes new = new ≡ Some (text ++ bytes)

-- how many line feeds are among bytes
abbrev pub feeds_of : ℕ → ℕ
feeds_of byte = if byte == 10 then 1 else 0

abbrev pub line_feeds : List ℕ → ℕ
line_feeds = sum_by feeds_of

-- what a count is after so many more: each is counted, unless it stands at its last value
abbrev pub counted : ℕ → ℕ → ℕ
counted zero count = count
counted (suc n) count = min (counted n count + 1) last_count

-- these bytes were written, each line as one piece, and no fault was forgotten
pub record Adds (old : Told) (bytes : List ℕ) (new : Told) : Type 0 where
  pub text : Appends old.text bytes new.text
  pub writes : new.writes ≡ counted (line_feeds bytes) old.writes
  pub faults : old.faults ≤ new.faults

-- a part of these bytes was written: each line of it as one piece, and perhaps a last piece, of which the part has what was
-- taken
pub record AddsPart (old : Told) (bytes : List ℕ) (new : Told) : Type 0 where
  pub part : List ℕ
  pub rest : List ℕ
  pub whole : bytes ≡ part ++ rest
  pub text : Appends old.text part new.text
  pub writes : (new.writes ≡ counted (line_feeds part) old.writes) ⊎ (new.writes ≡ counted (line_feeds part + 1) old.writes)
  pub faults : old.faults ≤ new.faults

-- the sink failed: the count of its faults rose, or stands at its last value
abbrev pub SinkFailed : Told → Told → Type 0
SinkFailed old new = Rises old.faults new.faults

-- the sink failed when a part of these bytes was written
pub record FailsToTell (bytes : List ℕ) (old new : Told) : Type 0 where
  pub failed : SinkFailed old new
  pub told : AddsPart old bytes new

-- how a call that only writes these bytes is answered
abbrev pub Tells : {A E : Type 0} → List ℕ → Told → Told → Result A E → Type 0
Tells bytes old new (Ok all) = Adds old bytes new
Tells bytes old new (Err failed) = FailsToTell bytes old new
