-- Kinds of courses: what a call does that makes one move after another, and what its answer says of them.
--
-- What a call finds, and finds again when it ends, is of a type; so is why a call fails. A kind of courses says which moves
-- there are, what it is that a call does them, and owes the laws by which what calls do is put together.
use Rattle.std.specs.Prelude.{Result, Ok, Err}

pub record Courses (Found Failure : Type 0) : Type 1 where
  -- moves that end with a result
  pub Course : Type 0 → Type 0
  pub at_once : {X : Type 0} → X → Course X
  pub and_then : {X Y : Type 0} → Course X → (X → Course Y) → Course Y
  -- moves that are not made, and moves that never come to that
  pub stuck : {X : Type 0} → Course X
  pub Fits : {X : Type 0} → Course X → Type 0
  -- a call makes the moves, with this result where it comes through, or fails on the way
  pub Does : {X A : Type 0} → Course X → (A → X) → Result A Failure → Found → Found → Type 0
  -- a call that makes no move
  pub Idle : Found → Found → Type 0
  pub ends : {X A : Type 0} (after : A → X) (a : A) (found : Found) → Does (at_once (after a)) after (Ok a) found found
  pub goes_on : {X Y A B : Type 0} (course : Course X) (next : X → Course Y) (mid : A → X) (a : A) (after : B → Y) (answer : Result B Failure) (old now new : Found)
      → Does course mid (Ok a) old now → Does (next (mid a)) after answer now new → Does (and_then course next) after answer old new
  pub fails : {X Y A B : Type 0} (course : Course X) (next : X → Course Y) (mid : A → X) (after : B → Y) (failure : Failure) (old new : Found)
      → Does course mid (Err failure) old new → Does (and_then course next) after (Err failure) old new
  pub idles : {X A : Type 0} (course : Course X) (after : A → X) (failure : Failure) (old now new : Found)
      → Does course after (Err failure) old now → Idle now new → Does course after (Err failure) old new
  pub unfit : {X : Type 0} → Fits (stuck {X = X}) → ⊥
  pub fits_first : {X Y : Type 0} (course : Course X) (next : X → Course Y) → Fits (and_then course next) → Fits course
  pub fits_next : {X Y A : Type 0} (course : Course X) (next : X → Course Y) (mid : A → X) (a : A) (old now : Found)
      → Fits (and_then course next) → Does course mid (Ok a) old now → Fits (next (mid a))
