-- What a shelf holds, and what it may answer.
use Rattle.std.specs.Prelude.{◌≡◌, ℕ, ◌<◌, ◌≤◌, List, length, take, Option, Some, None, MatchOption}
use Rattle.pe_io.specs.declared.shelf.Got.{Got}
use Rattle.pe_io.specs.declared.shelf.Got.TheVariants.{Whole, Longer, Absent, Failed, Memory}
use Rattle.pe_io.specs.declared.shelf.ShelfCall.{ShelfCall}
use Rattle.pe_base.specs.Calls.Counters.{Rises}

-- the bytes under each name, or none
abbrev pub Contents : Type 0
Contents = List ℕ → Option (List ℕ)

-- a fact of what is told, where it is told
abbrev pub WhereTold : {X : Type 0} → Option X → (X → Type 0) → Type 0
WhereTold None P = Unit {0}
WhereTold (Some x) P = P x

-- there are bytes, and they are longer than the limit
abbrev pub IsLonger : Option (List ℕ) → ℕ → Type 0
IsLonger under limit = MatchOption under ⊥ (λ bytes. limit < length bytes)

-- the answer, by what is under the name
abbrev pub IsGot : Option (List ℕ) → ℕ → Got → Type 0
IsGot under limit (Whole bytes) = (under ≡ Some bytes.items) × (length bytes.items ≤ limit)
IsGot under limit Longer = IsLonger under limit
IsGot under limit Absent = under ≡ None
IsGot under limit Failed = Unit {0}
IsGot under limit Memory = Unit {0}

-- whole bytes are no longer than the limit
abbrev pub IsWithinLimit : ℕ → Got → Type 0
IsWithinLimit limit (Whole bytes) = length bytes.items ≤ limit
IsWithinLimit limit Longer = Unit {0}
IsWithinLimit limit Absent = Unit {0}
IsWithinLimit limit Failed = Unit {0}
IsWithinLimit limit Memory = Unit {0}

-- the answer of a call that has read: it is neither absent nor a failure
abbrev pub IsRead : Got → Type 0
IsRead (Whole bytes) = Unit {0}
IsRead Longer = Unit {0}
IsRead Absent = ⊥
IsRead Failed = ⊥
IsRead Memory = Unit {0}

-- a call that failed: which, and the first 4,096 bytes of its name
pub record FailedCall : Type 0 where
  pub call : ShelfCall
  pub name : List ℕ

abbrev pub failed_call : ShelfCall → List ℕ → FailedCall
failed_call call name = record { call = call; name = take 4096 name }

-- the count of faults rose, and this call is the last that failed
pub record FailedAt (call : ShelfCall) (name : List ℕ) (old new : ℕ) (last : Option FailedCall) : Type 0 where
  pub rises : Rises old new
  pub last_is : last ≡ Some (failed_call call name)
