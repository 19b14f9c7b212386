-- What a call of a walk does of a course.
use Rattle.std.specs.Prelude.{◌≡◌, Result, Ok, Err}
use Rattle.pe_base.specs.Calls.Courses.{Courses}

-- where a walk stands: what it goes by, which stays, and what its calls find
pub record Here (Plan Found : Type 0) : Type 0 where
  pub plan : Plan
  pub found : Found

-- an answer, with what its error means
abbrev pub answer_by : {A E Failure : Type 0} → (E → Failure) → Result A E → Result A Failure
answer_by means (Ok a) = Ok a
answer_by means (Err e) = Err (means e)

module _ {Plan Found Failure : Type 0} (kind : Courses Found Failure) where
  -- a call makes the moves of a course
  pub record Goes {X A : Type 0} (course : Plan → kind.Course X) (after : A → X) (answer : Result A Failure) (old new : Here Plan Found) : Type 0 where
    pub plan : new.plan ≡ old.plan
    pub does : kind.Does (course old.plan) after answer old.found new.found

  -- a call makes none
  pub record Rests (old new : Here Plan Found) : Type 0 where
    pub plan : new.plan ≡ old.plan
    pub idle : kind.Idle old.found new.found

  -- some moves of a course were made, and the others are to come: who makes these has made all
  pub record Leads {X : Type 0} (whole rest : Plan → kind.Course X) (old now : Here Plan Found) : Type 0 where
    pub plan : now.plan ≡ old.plan
    pub goes : (after : Unit {0} → X) (answer : Result (Unit {0}) Failure) (new : Here Plan Found) → Goes rest after answer now new → Goes whole after answer old new
    pub fits : kind.Fits (whole old.plan) → kind.Fits (rest now.plan)

  -- a call makes some of the moves that are left, or fails, and then all fails
  abbrev pub GoesOn : {X : Type 0} → (Plan → kind.Course X) → (Plan → kind.Course X) → Result (Unit {0}) Failure → Here Plan Found → Here Plan Found → Type 0
  GoesOn {X} whole rest (Ok done) old new = Leads whole rest old new
  GoesOn {X} whole rest (Err failure) old new = (after : Unit {0} → X) → Goes whole after (Err failure) old new
