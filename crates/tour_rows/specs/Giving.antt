-- Courses that give a value, or are stuck. A call that makes one cannot fail.
use Rattle.std.specs.Prelude.{◌≡◌, Option, Some, None, Result, Ok, Err}
use Rattle.std.proofs.Common.{refl, sym, subst}
use Rattle.pe_base.specs.Calls.Courses.{Courses}

abbrev pub and_then : {X Y : Type 0} → Option X → (X → Option Y) → Option Y
and_then (Some x) next = next x
and_then None next = None

-- a course gives a value that is such
abbrev pub Gives : {X : Type 0} → (X → Type 0) → Option X → Type 0
Gives Such (Some x) = Such x
Gives Such None = ⊥

-- it is not stuck
abbrev pub Fits : {X : Type 0} → Option X → Type 0
Fits course = Gives (λ x. Unit {0}) course

abbrev pub Does : {X A Failure : Type 0} → Option X → (A → X) → Result A Failure → Type 0
Does course after (Ok a) = course ≡ Some (after a)
Does course after (Err failure) = ⊥

-- # Their laws
pub goes_on : {X Y A B Failure : Type 0} (course : Option X) (next : X → Option Y) (mid : A → X) (a : A) (after : B → Y) (answer : Result B Failure)
    → course ≡ Some (mid a) → Does (next (mid a)) after answer → Does (and_then course next) after answer
goes_on course next mid a after answer gives does = subst (λ c. Does (and_then c next) after answer) (sym gives) does

pub fits_first : {X Y : Type 0} (course : Option X) (next : X → Option Y) → Fits (and_then course next) → Fits course
fits_first (Some x) next fits = tt
fits_first None next fits = fits

pub fits_next : {X Y A : Type 0} (course : Option X) (next : X → Option Y) (mid : A → X) (a : A)
    → Fits (and_then course next) → course ≡ Some (mid a) → Fits (next (mid a))
fits_next course next mid a fits gives = subst (λ c. Fits (and_then c next)) gives fits

abbrev pub giving : (Failure : Type 0) → Courses (Unit {0}) Failure
giving Failure = record {
  Course = λ X. Option X;
  at_once = λ x. Some x;
  and_then = and_then;
  stuck = None;
  Fits = Fits;
  Does = λ course after answer old new. Does course after answer;
  Idle = λ old new. Unit {0};
  ends = λ after a found. refl;
  goes_on = λ course next mid a after answer old now new first rest. goes_on course next mid a after answer first rest;
  fails = λ course next mid after failure old new does. does;
  idles = λ course after failure old now new does idle. does;
  unfit = λ fits. fits;
  fits_first = fits_first;
  fits_next = λ course next mid a old now fits does. fits_next course next mid a fits does;
}
