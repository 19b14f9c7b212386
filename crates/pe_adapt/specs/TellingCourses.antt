-- The courses of a walk that tells: its calls add text, log pushes, and fail by the causes of a walk. A call that makes moves
-- leaves as much room on each stack as it found, or more.
use Rattle.std.specs.Prelude.{◌≡◌, true, false, Result, Ok, Err}
use Rattle.std.proofs.Common.{sym, subst}
use Rattle.pe_base.specs.Walk.Course.{Course, ends, stuck, at_once, and_then}
use Rattle.pe_base.specs.Calls.Courses.{Courses}
use Rattle.pe_base.specs.Calls.Follows.{BeforeCall, Failure, Follows, Fits, IsRoomier}
use Rattle.pe_base.proofs.Calls.Leading.{roomier-same, roomier-then, and_then-fits, leads_start, leads_next, leads_err, leads_last, leads_end, leads_rest}

-- a call makes the moves of a course
pub record Tells {X A : Type 0} (course : Course X) (after : A → X) (answer : Result A Failure) (old new : BeforeCall) : Type 0 where
  pub follows : Follows course after answer old new.told
  pub room : IsRoomier old new

-- a call makes none, and tells nothing
pub record TellsNothing (old new : BeforeCall) : Type 0 where
  pub told : new.told ≡ old.told
  pub room : IsRoomier old new

-- # Their laws
pub tells-ends : {X A : Type 0} (after : A → X) (a : A) (found : BeforeCall) → Tells (at_once (after a)) after (Ok a) found found
tells-ends after a found = record { follows = leads_end after a (leads_start (at_once (after a)) found); room = roomier-same found }

pub tells-then : {X Y A B : Type 0} (course : Course X) (next : X → Course Y) (mid : A → X) (a : A) (after : B → Y) (answer : Result B Failure) (old now new : BeforeCall)
    → Tells course mid (Ok a) old now → Tells (next (mid a)) after answer now new → Tells (and_then course next) after answer old new
tells-then course next mid a after answer old now new one two = record {
  follows = leads_last (next (mid a)) after answer new.told (leads_next course next mid a now (leads_start (and_then course next) old) one.follows one.room) two.follows;
  room = roomier-then old now new one.room two.room;
}

pub tells-fails : {X Y A B : Type 0} (course : Course X) (next : X → Course Y) (mid : A → X) (after : B → Y) (failure : Failure) (old new : BeforeCall)
    → Tells course mid (Err failure) old new → Tells (and_then course next) after (Err failure) old new
tells-fails course next mid after failure old new one = record {
  follows = leads_err course next mid after failure new.told (leads_start (and_then course next) old) one.follows;
  room = one.room;
}

pub tells-idles : {X A : Type 0} (course : Course X) (after : A → X) (failure : Failure) (old now new : BeforeCall)
    → Tells course after (Err failure) old now → TellsNothing now new → Tells course after (Err failure) old new
tells-idles course after failure old now new one nothing = record {
  follows = subst (λ told. Follows course after (Err failure) old told) (sym nothing.told) one.follows;
  room = roomier-then old now new one.room nothing.room;
}

-- what is stuck does not fit
pub tells-unfit : false ≡ true → ⊥
tells-unfit fits = absurd cc

pub tells-fits_next : {X Y A : Type 0} (course : Course X) (next : X → Course Y) (mid : A → X) (a : A) (old now : BeforeCall)
    → Fits (and_then course next) → Tells course mid (Ok a) old now → Fits (next (mid a))
tells-fits_next course next mid a old now fits one =
    leads_rest (next (mid a)) (leads_next course next mid a now (leads_start (and_then course next) old) one.follows one.room) fits

abbrev pub telling : Courses BeforeCall Failure
telling = record {
  Course = Course;
  at_once = at_once;
  and_then = and_then;
  stuck = ends stuck;
  Fits = Fits;
  Does = Tells;
  Idle = TellsNothing;
  ends = tells-ends;
  goes_on = tells-then;
  fails = tells-fails;
  idles = tells-idles;
  unfit = λ fits. tells-unfit fits;
  fits_first = and_then-fits;
  fits_next = tells-fits_next;
}
