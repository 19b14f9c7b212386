-- How the answer of a call follows a course of moves.
--
--     Ok           the course is done with what the call leaves, and all its text was added
--     halted       it halts by this very cause, and all its text was added
--     unwritten    a part of its text was added, and the sink failed
--     wanting      a part of its text was added; of a mapping that is sure, some push of the course had no room
use Rattle.std.specs.Prelude.{◌≡◌, ℕ, ◌≤◌, ◌<◌, Bool, true, false, List, Contains, if◌then◌else◌, Result, Ok, Err}
use Rattle.pe_base.specs.declared.place.Place.{Place}
use Rattle.pe_base.specs.declared.event.Event.{Event}
use Rattle.pe_base.specs.declared.stop.Stop.{Stop}
use Rattle.pe_base.specs.declared.stop.Stop.TheVariants.{Overflow, Division, Sink, Memory}
use Rattle.pe_base.specs.Acts.Effects.{Overflow as overflows, Division as divides}
use Rattle.pe_base.specs.Walk.Course.{Cause, fault_at, Ending, done, halts, stuck, Push, Course, behind}
use Rattle.pe_base.specs.Calls.Told.{Told, Adds, AddsPart, FailsToTell}

-- a course does not get stuck
abbrev pub is_fit : {X : Type 0} → Ending X → Bool
is_fit (done x) = true
is_fit (halts cause) = true
is_fit stuck = false

abbrev pub Fits : {X : Type 0} → Course X → Type 0
Fits course = is_fit course.ending ≡ true

-- what a call finds: the text that is told, whether the mapping is sure, and how many records each stack of vertices and
-- of cells holds without asking for memory
pub record BeforeCall : Type 0 where
  pub told : Told
  pub sure : Bool
  pub vertices : ℕ → ℕ
  pub cells : ℕ → ℕ

-- there is no room for a push
abbrev pub IsOverfull : BeforeCall → Push → Type 0
IsOverfull found push = (if push.of_cell then found.cells push.stack else found.vertices push.stack) < push.length

abbrev pub HasOverfull : BeforeCall → List Push → Type 0
HasOverfull found log = (push : Push) × Contains log push × IsOverfull found push

-- why a call failed; unheard of is what no call answers
pub data Failure : Type 0 where
  halted : Cause → Failure
  unwritten : Failure
  wanting : Failure
  unheard_of : Failure

-- the failure of an event at a place
abbrev pub failure_at : Event → Place → Stop → Failure
failure_at event place Overflow = halted (fault_at overflows event place)
failure_at event place Division = halted (fault_at divides event place)
failure_at event place Sink = unwritten
failure_at event place Memory = wanting

-- an answer, with what its error means
abbrev pub read_by : {A E : Type 0} → (E → Failure) → Result A E → Result A Failure
read_by means (Ok a) = Ok a
read_by means (Err e) = Err (means e)

pub record Does {X : Type 0} (course : Course X) (ending : Ending X) (old new : Told) : Type 0 where
  pub ends : course.ending ≡ ending
  pub told : Adds old course.text new

pub record Wants {X : Type 0} (course : Course X) (old : BeforeCall) (new : Told) : Type 0 where
  pub told : AddsPart old.told course.text new
  pub room : old.sure ≡ true → HasOverfull old course.log

abbrev pub Follows : {X A : Type 0} → Course X → (A → X) → Result A Failure → BeforeCall → Told → Type 0
Follows course after (Ok a) old new = Does course (done (after a)) old.told new
Follows course after (Err (halted cause)) old new = Does course (halts cause) old.told new
Follows course after (Err unwritten) old new = FailsToTell course.text old.told new
Follows course after (Err wanting) old new = Wants course old new
Follows course after (Err unheard_of) old new = ⊥

-- what a call finds where another has left off: as much room on each stack, or more
pub record IsRoomier (old now : BeforeCall) : Type 0 where
  pub sure : now.sure ≡ old.sure
  pub vertices : (s : ℕ) → old.vertices s ≤ now.vertices s
  pub cells : (s : ℕ) → old.cells s ≤ now.cells s

-- Within a body: a part of the whole course was done, and the rest is left. Text was added, and no stack lost room.
pub record Leads {X : Type 0} (whole : Course X) (old now : BeforeCall) (rest : Course X) : Type 0 where
  pub text : List ℕ
  pub log : List Push
  pub splits : whole ≡ behind text log rest
  pub told : Adds old.told text now.told
  pub room : IsRoomier old now
