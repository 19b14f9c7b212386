-- How many records a call leaves out, and the room on stacks.
use Rattle.std.specs.Prelude.{◌≡◌, ℕ, ◌+◌, Bool, if◌then◌else◌}
use Rattle.pe_stacks.specs.Holdings.{Holdings, KeepsRoom, stack_count, len_at}

-- how many records a stack holds without asking for memory
abbrev pub held_by : {X : Type 0} → Holdings X → (ℕ → ℕ) → ℕ → ℕ
held_by held room s = len_at held s + room s

-- After a call that takes some records for its own, and keeps some out where it comes through: no stack came or went or
-- lost room, and no other record is out or in.
pub record RecordsOut {X : Type 0} (taken kept : ℕ) (old : Holdings X) (room : ℕ → ℕ) (new : Holdings X) (room' : ℕ → ℕ) (failed : Bool) : Type 0 where
  pub count : stack_count new ≡ stack_count old
  pub keeps : KeepsRoom old room new room'
  pub out : new.out + taken ≡ old.out + (if failed then 0 else kept)
