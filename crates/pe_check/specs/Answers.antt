-- What the check of a body answers.
use Rattle.std.specs.Prelude.{◌≡◌, ℕ, Result, Ok, Err}
use Rattle.pe_check.specs.declared.cause.Cause.{Cause}
use Rattle.pe_check.specs.declared.cause.Cause.TheVariants as cause
use Rattle.pe_check.specs.declared.cause.CheckFault.{CheckFault}
use Rattle.pe_check.specs.declared.cause.CheckFault.TheVariants.{UnknownName, NotHere, Corner, ReadOnly, Memory}

abbrev pub fault_at : Cause → ℕ → CheckFault
fault_at cause.UnknownName at = UnknownName at
fault_at cause.NotHere at = NotHere at
fault_at cause.Corner at = Corner at
fault_at cause.ReadOnly at = ReadOnly at

-- an error is want of memory, or the refusal
abbrev pub Refuses : {Y : Type 0} → CheckFault → Result Y CheckFault → Type 0
Refuses Memory checked = Unit {0}
Refuses (UnknownName at) checked = checked ≡ Err (UnknownName at)
Refuses (NotHere at) checked = checked ≡ Err (NotHere at)
Refuses (Corner at) checked = checked ≡ Err (Corner at)
Refuses (ReadOnly at) checked = checked ≡ Err (ReadOnly at)

-- what a call answers is what the check of the definitions gives, unless memory ran out
abbrev pub Gives : {X Y : Type 0} → (X → Y) → Result X CheckFault → Result Y CheckFault → Type 0
Gives view (Ok x) checked = checked ≡ Ok (view x)
Gives view (Err fault) checked = Refuses fault checked
