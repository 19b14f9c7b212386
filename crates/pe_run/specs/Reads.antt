-- What a job reads from the shelf: stage after stage, each by what the one before gave.
--
--     ready x                          all was read, and this is what it makes
--     refused fault                    what was read is refused
--     asks stage name limit next       the stage asks for the bytes under a name; what follows is told by them
use Rattle.std.specs.Prelude.{◌≡◌, ℕ, ◌⊎◌, Bool, false, ◌==◌, nat_lt, List, length, Option, Some, None, Result, Ok, Err, if◌then◌else◌}
use Rattle.pe_io.specs.declared.shelf.ShelfCall.TheVariants.{Get}
use Rattle.pe_io.specs.Shelf.{Contents, FailedCall, FailedAt}
use Rattle.pe_run.specs.declared.refusal.Stage.{Stage}
use Rattle.pe_run.specs.declared.refusal.Fault.{Fault}
use Rattle.pe_run.specs.declared.refusal.Refusal.{Refusal}
use Rattle.pe_run.specs.declared.refusal.Refusal.TheVariants as refused_for
use Rattle.pe_run.specs.Endings.{stage_number}

pub data Reads (X : Type 0) : Type 0 where
  ready : X → Reads X
  refused : Fault → Reads X
  asks : Stage → List ℕ → ℕ → (Option (List ℕ) → Reads X) → Reads X

-- what a stage gets of the bytes under its name: none where they are longer than its limit
abbrev pub within : ℕ → List ℕ → Option (List ℕ)
within limit bytes = if nat_lt limit (length bytes) then None else Some bytes

-- what is read next, unless this is refused
abbrev pub on : {A E X : Type 0} → (E → Fault) → Result A E → (A → Reads X) → Reads X
on fault_of (Ok x) next = next x
on fault_of (Err fault) next = refused (fault_of fault)

-- whether this is the stage whose call failed
abbrev pub is_failed : Option Stage → Stage → Bool
is_failed None stage = false
is_failed (Some failed) stage = stage_number failed == stage_number stage

-- What comes of the reading: by what each name holds, and by the stage whose shelf call failed, if one did.
abbrev pub read : {X : Type 0} → Reads X → Contents → Option Stage → Result X Refusal
read (ready x) held failed = Ok x
read (refused fault) held failed = Err (refused_for.Fault fault)
read {X} (asks stage name limit next) held failed =
    if is_failed failed stage then Err (refused_for.NoShelf stage)
    else (elim (held name) as (λ under. Result X Refusal) [
      | None ↦ Err (refused_for.NoShelf stage)
      | Some bytes ↦ read (next (within limit bytes)) held failed
    ])

-- The same over a shelf of which this is told. Where nothing is told each call may give any bytes, also two calls of one name:
-- so it is a relation, and no function of the names.
abbrev pub LacksAt : Option Contents → List ℕ → Type 0
LacksAt None name = ⊥
LacksAt (Some held) name = held name ≡ None

abbrev pub HoldsAt : Option Contents → List ℕ → List ℕ → Type 0
HoldsAt None name bytes = Unit {0}
HoldsAt (Some held) name bytes = held name ≡ Some bytes

-- what may come of a reading, where these calls may fail
abbrev pub MayGive : {X : Type 0} → Option Contents → (List ℕ → Type 0) → Reads X → Result X Refusal → Type 0
MayGive told fails (ready x) given = given ≡ Ok x
MayGive told fails (refused fault) given = given ≡ Err (refused_for.Fault fault)
MayGive told fails (asks stage name limit next) given =
    ((fails name ⊎ LacksAt told name) × (given ≡ Err (refused_for.NoShelf stage)))
    ⊎ ((bytes : List ℕ) × HoldsAt told name bytes × MayGive told fails (next (within limit bytes)) given)

-- a call of the reading may have had no answer: it failed, as the shelf's counts and its last failed call say, or told contents
-- do not hold its name
abbrev pub MayLack : {X : Type 0} → Option Contents → ℕ → ℕ → Option FailedCall → Reads X → Type 0
MayLack told before after last (ready x) = ⊥
MayLack told before after last (refused fault) = ⊥
MayLack told before after last (asks stage name limit next) =
    FailedAt Get name before after last
    ⊎ LacksAt told name
    ⊎ ((bytes : List ℕ) × HoldsAt told name bytes × MayLack told before after last (next (within limit bytes)))

-- the call that failed is that of this stage, on the name that the reading asks it for
abbrev pub FailsAt : {X : Type 0} → Contents → (List ℕ → Type 0) → Reads X → Stage → Type 0
FailsAt held fails (ready x) stage = ⊥
FailsAt held fails (refused fault) stage = ⊥
FailsAt held fails (asks asking name limit next) stage =
    (fails name × (asking ≡ stage))
    ⊎ ((bytes : List ℕ) × (held name ≡ Some bytes) × FailsAt held fails (next (within limit bytes)) stage)
