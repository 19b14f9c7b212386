-- While a cell's record is in hand: the cell is entered, its children are walked, and it is left.
use Rattle.std.proofs.Common.{◌≡◌, ℕ, Result, Ok, Err, sym, ap, subst, ◌∙◌}
use Rattle.std.specs.Prelude.{false, true}
use Rattle.pe_base.specs.declared.place.Place.{Place}
use Rattle.pe_base.specs.Walk.Steps.{walk, walks_below, walks_children, if_on, visits_open}
use Rattle.pe_tour.specs.declared.cell.CellAt.{CellAt}
use Rattle.pe_tour.specs.Going.{answer_by}
use Rattle.pe_tour.specs.Sights.{Between, Open, around_open, below_open, above_again}
use Rattle.pe_tour.specs.Walker.{Walker, IsLawful}
use Rattle.pe_tour.specs.Moves.{plan_of, MayMove, Moves, Walks}
use Rattle.pe_tour.proofs.Leading.{goes-as, goes-ends, goes-then, goes-fails}
use Rattle.pe_tour.proofs.Underway.{Underway, under-starts, under-first, under-next, under-fails}

module _ {S H R E : Type 0} (w : Walker S H R E) (lawful : IsLawful w) (cell : CellAt) (levels : ℕ) where
  abbrev walks : w.Plan → Place → w.Rested → w.courses.Course w.Rested
  walks plan = walk (w.steps plan) levels

  abbrev to_enter : w.Plan → w.Opened → w.courses.Course w.Opened
  to_enter plan = (w.steps plan).enter cell.place

  abbrev to_below : w.Plan → w.Opened → w.courses.Course w.Opened
  to_below plan = walks_below (w.steps plan) (walks plan) cell.place

  abbrev to_leave : w.Plan → w.Opened → w.courses.Course w.Opened
  to_leave plan = (w.steps plan).leave cell.place

  abbrev after_enter : w.Plan → w.Opened → w.courses.Course w.Opened
  after_enter plan v = w.courses.and_then (to_below plan v) (to_leave plan)

  abbrev to_open : w.Plan → w.Opened → w.courses.Course w.Opened
  to_open plan = visits_open (w.steps plan) (walks plan) cell.place

  abbrev OpenAt : Open S H R → (w.Plan → w.Opened → w.courses.Course w.Opened) → Open S H R → Type 0
  OpenAt old rest now = Underway w cell (λ plan. to_open plan (w.opened old)) (λ plan. rest plan (w.opened now))
      (λ from. w.Entered false from old) (λ from. w.Entered false from now) (around_open old) (around_open now)

  pub open-starts : {old : Open S H R} → MayMove w cell to_open old → OpenAt old to_open old
  open-starts {old} may = under-starts w cell (λ plan. to_open plan (w.opened old)) (λ from. w.Entered false from old) (around_open old) may

  pub may-enter : {old : Open S H R} → MayMove w cell to_open old → MayMove w cell to_enter old
  may-enter {old} may = under-first (λ plan. to_enter plan (w.opened old)) after_enter (open-starts may)

  -- a step that comes through
  pub open-entered : {old new : Open S H R} {done : Unit {0}} → MayMove w cell to_open old → Moves w to_enter (Ok done) old new → OpenAt old after_enter new
  open-entered {old} {new} {done} may moves =
      under-next (λ plan. to_enter plan (w.opened old)) after_enter (open-starts may) (λ (done : Unit {0}). w.opened new) done (λ from. w.Entered false from new) (around_open new)
      moves.goes moves.entered (λ from ages holds were. lawful.ages_entered from new ages holds were)

  pub may-below : {old now : Open S H R} → OpenAt old after_enter now → MayMove w cell to_below now
  may-below {old} {now} under = under-first (λ plan. to_below plan (w.opened now)) to_leave under

  pub open-walked : {old now new : Open S H R} {done : Unit {0}} → OpenAt old after_enter now → Moves w to_below (Ok done) now new → OpenAt old to_leave new
  open-walked {old} {now} {new} {done} under moves =
      under-next (λ plan. to_below plan (w.opened now)) to_leave under (λ (done : Unit {0}). w.opened new) done (λ from. w.Entered false from new) (around_open new)
      moves.goes moves.entered (λ from ages holds were. lawful.ages_entered from new ages holds were)

  pub open-left : {old now new : Open S H R} {result : Result (Unit {0}) E} → OpenAt old to_leave now → Moves w to_leave result now new → Moves w to_open result old new
  open-left {old} {now} {new} {result} under moves = record {
    goes = under.leads.goes (λ (done : Unit {0}). w.opened new) (answer_by (w.failure new.tour) result) (w.here new.tour) moves.goes;
    entered = λ from holds. moves.entered from (under.since from holds);
  }

  -- one that fails
  pub open-unentered : {old new : Open S H R} {stop : E} → MayMove w cell to_open old → Moves w to_enter (Err stop) old new → Moves w to_open (Err stop) old new
  open-unentered {old} {new} {stop} may moves =
      let after = λ (done : Unit {0}). w.opened new in
      record { goes = under-fails (λ plan. to_enter plan (w.opened old)) after_enter (open-starts may) after after (w.failure new.tour stop) (w.here new.tour) moves.goes; entered = moves.entered }

  pub open-unwalked : {old now new : Open S H R} {stop : E} → OpenAt old after_enter now → Moves w to_below (Err stop) now new → Moves w to_open (Err stop) old new
  open-unwalked {old} {now} {new} {stop} under moves =
      let after = λ (done : Unit {0}). w.opened new in
      record { goes = under-fails (λ plan. to_below plan (w.opened now)) to_leave under after after (w.failure new.tour stop) (w.here new.tour) moves.goes; entered = λ from holds. moves.entered from (under.since from holds) }

  -- # The children, if there are any
  abbrev to_walk : w.Plan → w.Rested → w.courses.Course w.Rested
  to_walk plan = walks_children (w.steps plan) (walks plan) cell.place

  -- there are none
  pub below-none : {old : Open S H R} {done : Unit {0}} → (w.steps (plan_of w old.tour)).goes_on (w.opened old) ≡ false → Moves w to_below (Ok done) old old
  below-none {old} {done} none = record {
    goes = goes-as w.courses (λ plan. w.courses.at_once (w.opened old)) (λ plan. to_below plan (w.opened old)) (λ (done : Unit {0}). w.opened old) (Ok done) (w.here old.tour) (w.here old.tour)
        (ap (λ on. if_on (w.steps (plan_of w old.tour)) on (to_walk (plan_of w old.tour)) (w.opened old)) (sym none))
        (goes-ends w.courses (λ (done : Unit {0}). w.opened old) done (w.here old.tour));
    entered = λ from holds. holds;
  }

  -- there are some
  below-is : (old : Open S H R) → (w.steps (plan_of w old.tour)).goes_on (w.opened old) ≡ true
      → to_below (plan_of w old.tour) (w.opened old) ≡ w.courses.and_then (to_walk (plan_of w old.tour) (w.rested (below_open old))) (λ b. w.courses.at_once ((w.steps (plan_of w old.tour)).up (w.opened old) b))
  below-is old some =
      ap (λ on. if_on (w.steps (plan_of w old.tour)) on (to_walk (plan_of w old.tour)) (w.opened old)) some
      ∙ ap (λ b. w.courses.and_then (to_walk (plan_of w old.tour) b) (λ b. w.courses.at_once ((w.steps (plan_of w old.tour)).up (w.opened old) b))) (lawful.downs (plan_of w old.tour) old)

  pub below-fits : {old : Open S H R} → MayMove w cell to_below old → (w.steps (plan_of w old.tour)).goes_on (w.opened old) ≡ true
      → w.courses.Fits (to_walk (plan_of w old.tour) (w.rested (below_open old)))
  below-fits {old} may some =
      w.courses.fits_first (to_walk (plan_of w old.tour) (w.rested (below_open old))) (λ b. w.courses.at_once ((w.steps (plan_of w old.tour)).up (w.opened old) b))
      (subst w.courses.Fits (below-is old some) may.fits)

  pub below-some : {old : Open S H R} {after : Between S H R} (result : Result (Unit {0}) E) → (w.steps (plan_of w old.tour)).goes_on (w.opened old) ≡ true
      → Walks w to_walk result (below_open old) after → Moves w to_below result old (above_again old after)
  below-some {old} {after} (Ok done) some walks = record {
    goes = goes-as w.courses (λ plan. w.courses.and_then (to_walk plan (w.rested (below_open old))) (λ b. w.courses.at_once ((w.steps plan).up (w.opened old) b))) (λ plan. to_below plan (w.opened old))
        (λ (done : Unit {0}). w.opened (above_again old after)) (Ok done) (w.here old.tour) (w.here after.tour) (sym (below-is old some))
        (goes-then w.courses (λ plan. to_walk plan (w.rested (below_open old))) (λ plan b. w.courses.at_once ((w.steps plan).up (w.opened old) b)) (λ (done : Unit {0}). w.rested after) done
        (λ (done : Unit {0}). w.opened (above_again old after)) (Ok done) (w.here old.tour) (w.here after.tour) (w.here after.tour) walks.goes
        (goes-as w.courses (λ plan. w.courses.at_once (w.opened (above_again old after))) (λ plan. w.courses.at_once ((w.steps plan).up (w.opened old) (w.rested after))) (λ (done : Unit {0}). w.opened (above_again old after)) (Ok done)
        (w.here after.tour) (w.here after.tour) (ap w.courses.at_once (sym (lawful.ups (plan_of w after.tour) old after))) (goes-ends w.courses (λ (done : Unit {0}). w.opened (above_again old after)) done (w.here after.tour))));
    entered = λ from holds. lawful.raises from after old false holds (walks.ready (below_open old) (lawful.lowers from old holds));
  }
  below-some {old} {after} (Err stop) some walks = record {
    goes = goes-as w.courses (λ plan. w.courses.and_then (to_walk plan (w.rested (below_open old))) (λ b. w.courses.at_once ((w.steps plan).up (w.opened old) b))) (λ plan. to_below plan (w.opened old))
        (λ (done : Unit {0}). w.opened (above_again old after)) (Err (w.failure after.tour stop)) (w.here old.tour) (w.here after.tour) (sym (below-is old some))
        (goes-fails w.courses (λ plan. to_walk plan (w.rested (below_open old))) (λ plan b. w.courses.at_once ((w.steps plan).up (w.opened old) b)) (λ (done : Unit {0}). w.rested after)
        (λ (done : Unit {0}). w.opened (above_again old after)) (w.failure after.tour stop) (w.here old.tour) (w.here after.tour) walks.goes);
    entered = λ from holds. lawful.raises from after old true holds (walks.ready (below_open old) (lawful.lowers from old holds));
  }
