-- Within a body: from the start of a course to its end.
use Rattle.std.proofs.Common.{◌≡◌, Result, Ok, Err, refl, sym, subst, ◌∙◌}
use Rattle.pe_base.specs.Calls.Courses.{Courses}
use Rattle.pe_tour.specs.Going.{Here, Goes, Rests, Leads, GoesOn}

module _ {Plan Found Failure : Type 0} (kind : Courses Found Failure) where
  -- # One call
  -- a course that is written otherwise
  pub goes-as : {X A : Type 0} (course course' : Plan → kind.Course X) (after : A → X) (answer : Result A Failure) (old new : Here Plan Found)
      → course old.plan ≡ course' old.plan → Goes kind course after answer old new → Goes kind course' after answer old new
  goes-as course course' after answer old new same goes = record {
    plan = goes.plan;
    does = subst (λ c. kind.Does c after answer old.found new.found) same goes.does;
  }

  -- nothing is left to do
  pub goes-ends : {X A : Type 0} (after : A → X) (a : A) (here : Here Plan Found) → Goes kind (λ plan. kind.at_once (after a)) after (Ok a) here here
  goes-ends after a here = record { plan = refl; does = kind.ends after a here.found }

  -- a step, and then the rest
  pub goes-then : {X Y A B : Type 0} (first : Plan → kind.Course X) (next : Plan → X → kind.Course Y) (mid : A → X) (a : A) (after : B → Y) (answer : Result B Failure) (old now new : Here Plan Found)
      → Goes kind first mid (Ok a) old now → Goes kind (λ plan. next plan (mid a)) after answer now new → Goes kind (λ plan. kind.and_then (first plan) (next plan)) after answer old new
  goes-then first next mid a after answer old now new one two = record {
    plan = two.plan ∙ one.plan;
    does = kind.goes_on (first old.plan) (next old.plan) mid a after answer old.found now.found new.found one.does
        (subst (λ plan. kind.Does (next plan (mid a)) after answer now.found new.found) one.plan two.does);
  }

  -- a step that fails
  pub goes-fails : {X Y A B : Type 0} (first : Plan → kind.Course X) (next : Plan → X → kind.Course Y) (mid : A → X) (after : B → Y) (failure : Failure) (old new : Here Plan Found)
      → Goes kind first mid (Err failure) old new → Goes kind (λ plan. kind.and_then (first plan) (next plan)) after (Err failure) old new
  goes-fails first next mid after failure old new one = record {
    plan = one.plan;
    does = kind.fails (first old.plan) (next old.plan) mid after failure old.found new.found one.does;
  }

  -- what is given up when a call has failed
  pub goes-rests : {X A : Type 0} (course : Plan → kind.Course X) (after : A → X) (failure : Failure) (old now new : Here Plan Found)
      → Goes kind course after (Err failure) old now → Rests kind now new → Goes kind course after (Err failure) old new
  goes-rests course after failure old now new goes rests = record {
    plan = rests.plan ∙ goes.plan;
    does = kind.idles (course old.plan) after failure old.found now.found new.found goes.does rests.idle;
  }

  -- what comes next may be done
  pub fits-first : {X Y : Type 0} (first : Plan → kind.Course X) (next : Plan → X → kind.Course Y) (plan : Plan) → kind.Fits (kind.and_then (first plan) (next plan)) → kind.Fits (first plan)
  fits-first first next plan fits = kind.fits_first (first plan) (next plan) fits

  pub fits-then : {X Y A : Type 0} (first : Plan → kind.Course X) (next : Plan → X → kind.Course Y) (mid : A → X) (a : A) (old now : Here Plan Found)
      → kind.Fits (kind.and_then (first old.plan) (next old.plan)) → Goes kind first mid (Ok a) old now → kind.Fits (next now.plan (mid a))
  fits-then first next mid a old now fits one =
      subst (λ plan. kind.Fits (next plan (mid a))) (sym one.plan) (kind.fits_next (first old.plan) (next old.plan) mid a old.found now.found fits one.does)

  -- # Some of a course
  pub leads-start : {X : Type 0} (whole : Plan → kind.Course X) (here : Here Plan Found) → Leads kind whole whole here here
  leads-start whole here = record { plan = refl; goes = λ after answer new goes. goes; fits = λ fits. fits }

  pub leads-then : {X : Type 0} (whole rest last : Plan → kind.Course X) (old mid now : Here Plan Found) → Leads kind whole rest old mid → Leads kind rest last mid now → Leads kind whole last old now
  leads-then whole rest last old mid now one two = record {
    plan = two.plan ∙ one.plan;
    goes = λ after answer new goes. one.goes after answer new (two.goes after answer new goes);
    fits = λ fits. two.fits (one.fits fits);
  }

  pub leads-step : {X Y : Type 0} (first : Plan → kind.Course X) (next : Plan → X → kind.Course Y) (x : X) (old now : Here Plan Found)
      → (done : Unit {0}) → Goes kind first (λ (done : Unit {0}). x) (Ok done) old now → Leads kind (λ plan. kind.and_then (first plan) (next plan)) (λ plan. next plan x) old now
  leads-step first next x old now done one = record {
    plan = one.plan;
    goes = λ after answer new two. goes-then first next (λ (done : Unit {0}). x) done after answer old now new one two;
    fits = λ fits. fits-then first next (λ (done : Unit {0}). x) done old now fits one;
  }

  -- a step, whatever its answer
  pub step-on : {X Y : Type 0} (first : Plan → kind.Course X) (next : Plan → X → kind.Course Y) (x : X) (answer : Result (Unit {0}) Failure) (old now : Here Plan Found)
      → Goes kind first (λ (done : Unit {0}). x) answer old now → GoesOn kind (λ plan. kind.and_then (first plan) (next plan)) (λ plan. next plan x) answer old now
  step-on first next x (Ok done) old now one = leads-step first next x old now done one
  step-on first next x (Err failure) old now one = λ after. goes-fails first next (λ (done : Unit {0}). x) after failure old now one

  -- some, and then more
  pub goes_on-then : {X : Type 0} (whole rest last : Plan → kind.Course X) (answer : Result (Unit {0}) Failure) (old mid now : Here Plan Found)
      → Leads kind whole rest old mid → GoesOn kind rest last answer mid now → GoesOn kind whole last answer old now
  goes_on-then whole rest last (Ok done) old mid now one two = leads-then whole rest last old mid now one two
  goes_on-then whole rest last (Err failure) old mid now one two = λ after. one.goes after (Err failure) now (two after)

  -- some, and then the rest
  pub leads-all : {X : Type 0} (whole : Plan → kind.Course X) (x : X) (answer : Result (Unit {0}) Failure) (old now : Here Plan Found)
      → GoesOn kind whole (λ plan. kind.at_once x) answer old now → Goes kind whole (λ (done : Unit {0}). x) answer old now
  leads-all whole x (Ok done) old now on = on.goes (λ (done : Unit {0}). x) (Ok done) now (goes-ends (λ (done : Unit {0}). x) done now)
  leads-all whole x (Err failure) old now on = on (λ (done : Unit {0}). x)
