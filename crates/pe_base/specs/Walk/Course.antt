-- Moves one after another: what they add, and how they end.
--
-- A move adds text, and may log pushes on stacks. It is done with a result, or halts the walk, or is stuck, which no
-- walk ever is.
use Rattle.std.specs.Prelude.{ℕ, Bool, true, false, List, [], ◌∷◌, ◌++◌}
use Rattle.pe_base.specs.declared.place.Place.{Place}
use Rattle.pe_base.specs.declared.event.Event.{Event}
use Rattle.pe_base.specs.Acts.Effects.{Fault}

-- what halts a walk: the fault of an event at a place, or one cell too many, at its place
pub data Cause : Type 0 where
  fault_at : Fault → Event → Place → Cause
  limit_at : Place → Cause

pub data Ending (X : Type 0) : Type 0 where
  done : X → Ending X
  halts : Cause → Ending X
  stuck : Ending X

-- a push: whether it was on a stack of cells, the stack, and its length afterwards
pub record Push : Type 0 where
  pub of_cell : Bool
  pub stack : ℕ
  pub length : ℕ

pub record Course (X : Type 0) : Type 0 where
  pub text : List ℕ
  pub log : List Push
  pub ending : Ending X

module _ {X : Type 0} where
  -- a course that adds nothing
  abbrev pub ends : Ending X → Course X
  ends ending = record { text = []; log = []; ending = ending }

  abbrev pub at_once : X → Course X
  at_once x = ends (done x)

  -- a course behind what was added before
  abbrev pub behind : List ℕ → List Push → Course X → Course X
  behind text log course = record { text = text ++ course.text; log = log ++ course.log; ending = course.ending }

module _ {X Y : Type 0} where
  -- what goes on from an ending
  abbrev pub from : Ending X → (X → Course Y) → Course Y
  from (done x) next = next x
  from (halts cause) next = ends (halts cause)
  from stuck next = ends stuck

  -- one course, and from its result the next
  abbrev pub and_then : Course X → (X → Course Y) → Course Y
  and_then course next = behind course.text course.log (from course.ending next)

  -- a course with its result turned
  abbrev pub course_map : (X → Y) → Course X → Course Y
  course_map f course = and_then course (λ x. at_once (f x))

-- one move for each item
abbrev pub each : {A X : Type 0} → (A → X → Course X) → List A → X → Course X
each step [] x = at_once x
each step (a ∷ as') x = and_then (step a x) (each step as')

-- a move that may be made only where a test passes
abbrev pub allowed : {X : Type 0} → Bool → Course X → Course X
allowed true course = course
allowed false course = ends stuck
