-- Within a cell: its corners are loaded, its record comes, it is visited, the record goes, and the corners are stored.
use Rattle.std.proofs.Common.{◌≡◌, ℕ, ◌^◌, Result, Ok, Err, sym, ap, subst}
use Rattle.std.specs.Prelude.{false, true}
use Rattle.pe_base.specs.declared.place.Place.{Place}
use Rattle.pe_base.specs.Walk.Steps.{loads, stores, walk, visits, visits_open}
use Rattle.pe_tour.specs.declared.cell.CellAt.{CellAt}
use Rattle.pe_tour.specs.Going.{Goes, answer_by}
use Rattle.pe_tour.specs.Sights.{Between, Amid, Open, Stage, loading, storing, failed, stage_after, around_amid, around_open}
use Rattle.pe_tour.specs.Walker.{Walker, IsLawful}
use Rattle.pe_tour.specs.Moves.{plan_of, settings_of, MayTouch, MayMove, Touches, Moves, Comes, GoesOff, GivesUp, loads_of, stores_of, with_record, without}
use Rattle.pe_tour.proofs.Leading.{goes-as, goes-rests}
use Rattle.pe_tour.proofs.Moving.{may-with}
use Rattle.pe_tour.proofs.Underway.{Underway, under-starts, under-first, under-next, under-fails}

module _ {S H R E : Type 0} (w : Walker S H R E) (lawful : IsLawful w) (cell : CellAt) (levels : ℕ) where
  abbrev pub walks : w.Plan → Place → w.Rested → w.courses.Course w.Rested
  walks plan = walk (w.steps plan) levels

  abbrev pub to_load : w.Plan → w.Inner → w.courses.Course w.Inner
  to_load plan = loads (w.steps plan) cell.place (2 ^ (w.steps plan).axes)

  abbrev pub to_come : w.Plan → w.Inner → w.courses.Course w.Opened
  to_come plan = (w.steps plan).comes cell.place

  abbrev pub to_open : w.Plan → w.Opened → w.courses.Course w.Opened
  to_open plan = visits_open (w.steps plan) (walks plan) cell.place

  abbrev pub to_go : w.Plan → w.Opened → w.courses.Course w.Inner
  to_go plan = (w.steps plan).goes cell.place

  abbrev pub to_store : w.Plan → w.Inner → w.courses.Course w.Inner
  to_store plan v = stores (w.steps plan) cell.place 0 ((w.steps plan).held v) v

  abbrev pub after_open : w.Plan → w.Opened → w.courses.Course w.Inner
  after_open plan v = w.courses.and_then (to_go plan v) (to_store plan)

  abbrev pub after_come : w.Plan → w.Opened → w.courses.Course w.Inner
  after_come plan v = w.courses.and_then (to_open plan v) (after_open plan)

  abbrev pub after_load : w.Plan → w.Inner → w.courses.Course w.Inner
  after_load plan v = w.courses.and_then (to_come plan v) (after_come plan)

  abbrev pub to_visit : w.Plan → w.Inner → w.courses.Course w.Inner
  to_visit plan = visits (w.steps plan) (walks plan) cell.place

  -- a visit under way: within the cell, and while its record is in hand
  abbrev pub VisitAt : Amid S H R → Stage → (w.Plan → w.Inner → w.courses.Course w.Inner) → Amid S H R → Type 0
  VisitAt old stage rest now = Underway w cell (λ plan. to_visit plan (w.inner old)) (λ plan. rest plan (w.inner now))
      (λ from. w.Within (loading (2 ^ (settings_of w old.tour).dim)) from old) (λ from. w.Within stage from now) (around_amid old) (around_amid now)

  abbrev pub VisitIn : Amid S H R → (w.Plan → w.Opened → w.courses.Course w.Inner) → Open S H R → Type 0
  VisitIn old rest now = Underway w cell (λ plan. to_visit plan (w.inner old)) (λ plan. rest plan (w.opened now))
      (λ from. w.Within (loading (2 ^ (settings_of w old.tour).dim)) from old) (λ from. w.Entered false from now) (around_amid old) (around_open now)

  -- the corners are loaded
  pub may-load : (old : Amid S H R) → MayTouch w cell (loading (2 ^ (settings_of w old.tour).dim)) to_visit old
      → MayTouch w cell (loading (2 ^ (settings_of w old.tour).dim)) (loads_of w cell.place (2 ^ (settings_of w old.tour).dim)) old
  may-load old may =
      let n = 2 ^ (settings_of w old.tour).dim in
      let start = under-starts w cell (λ plan. to_visit plan (w.inner old)) (λ from. w.Within (loading n) from old) (around_amid old) may in
      let first = under-first (λ plan. to_load plan (w.inner old)) after_load start in
      may-with w cell (λ from. w.Within (loading n) from old) (around_amid old) (λ plan. to_load plan (w.inner old)) (λ plan. loads_of w cell.place n plan (w.inner old)) first
      (subst (λ k. w.courses.Fits (loads (w.steps (plan_of w old.tour)) cell.place (2 ^ k) (w.inner old))) (lawful.axes (plan_of w old.tour)) first.fits)

  goes-load : (old new : Amid S H R) {A : Type 0} (after : A → w.Inner) (answer : Result A w.Failure)
      → Goes w.courses (λ plan. loads_of w cell.place (2 ^ (settings_of w old.tour).dim) plan (w.inner old)) after answer (w.here old.tour) (w.here new.tour)
      → Goes w.courses (λ plan. to_load plan (w.inner old)) after answer (w.here old.tour) (w.here new.tour)
  goes-load old new after answer goes =
      goes-as w.courses (λ plan. loads_of w cell.place (2 ^ (settings_of w old.tour).dim) plan (w.inner old)) (λ plan. to_load plan (w.inner old)) after answer (w.here old.tour) (w.here new.tour)
      (ap (λ k. loads (w.steps (plan_of w old.tour)) cell.place (2 ^ k) (w.inner old)) (sym (lawful.axes (plan_of w old.tour)))) goes

  pub visit-loaded : (old new : Amid S H R) (done : Unit {0}) → MayTouch w cell (loading (2 ^ (settings_of w old.tour).dim)) to_visit old
      → Touches w (loads_of w cell.place (2 ^ (settings_of w old.tour).dim)) (loading (2 ^ (settings_of w old.tour).dim)) (loading 0) (Ok done) old new
      → VisitAt old (loading 0) after_load new
  visit-loaded old new done may touches =
      let n = 2 ^ (settings_of w old.tour).dim in
      let start = under-starts w cell (λ plan. to_visit plan (w.inner old)) (λ from. w.Within (loading n) from old) (around_amid old) may in
      under-next (λ plan. to_load plan (w.inner old)) after_load start (λ (done : Unit {0}). w.inner new) done (λ from. w.Within (loading 0) from new) (around_amid new)
      (goes-load old new (λ (done : Unit {0}). w.inner new) (Ok done) touches.goes) touches.within (λ from ages holds were. lawful.ages_within (loading 0) from new ages holds were)

  -- a load fails
  pub visit-unloaded : (old new : Amid S H R) (stop : E) → MayTouch w cell (loading (2 ^ (settings_of w old.tour).dim)) to_visit old
      → Touches w (loads_of w cell.place (2 ^ (settings_of w old.tour).dim)) (loading (2 ^ (settings_of w old.tour).dim)) (loading 0) (Err stop) old new
      → Touches w to_visit (loading (2 ^ (settings_of w old.tour).dim)) (storing (2 ^ (settings_of w old.tour).dim)) (Err stop) old new
  visit-unloaded old new stop may touches =
      let n = 2 ^ (settings_of w old.tour).dim in
      let start = under-starts w cell (λ plan. to_visit plan (w.inner old)) (λ from. w.Within (loading n) from old) (around_amid old) may in
      let after = λ (done : Unit {0}). w.inner new in
      record {
        goes = under-fails (λ plan. to_load plan (w.inner old)) after_load start after after (w.failure new.tour stop) (w.here new.tour)
            (goes-load old new after (Err (w.failure new.tour stop)) touches.goes);
        within = touches.within;
      }

  -- the record comes
  pub may-come : {old now : Amid S H R} → VisitAt old (loading 0) after_load now → MayTouch w cell (loading 0) to_come now
  may-come {old} {now} under = under-first (λ plan. to_come plan (w.inner now)) after_come under

  pub visit-come : {old now : Amid S H R} (tour : S) (its : R) → VisitAt old (loading 0) after_load now → Comes w to_come (Ok its) now tour → VisitIn old after_come (with_record w now tour its)
  visit-come {old} {now} tour its under comes =
      under-next (λ plan. to_come plan (w.inner now)) after_come under (λ its. w.opened (with_record w now tour its)) its (λ from. w.Entered false from (with_record w now tour its)) (around_open (with_record w now tour its))
      comes.goes comes.entered (λ from ages holds were. lawful.ages_entered from (with_record w now tour its) ages holds were)

  -- where it came from is told by equations
  pub visit-came : {old now : Amid S H R} {tour tour' : S} {its its' : R} → tour ≡ tour' → its ≡ its' → VisitAt old (loading 0) after_load now → Comes w to_come (Ok its') now tour' → VisitIn old after_come (with_record w now tour its)
  visit-came {old} {now} {tour} {tour'} {its} {its'} same same-its under comes =
      subst (λ t. VisitIn old after_come (with_record w now t its)) (sym same)
      (subst (λ r. VisitIn old after_come (with_record w now tour' r)) (sym same-its) (visit-come tour' its' under comes))

  pub visit-unmade : {old now : Amid S H R} (tour : S) (stop : E) → VisitAt old (loading 0) after_load now → Comes w to_come (Err stop) now tour
      → Touches w to_visit (loading (2 ^ (settings_of w old.tour).dim)) (storing (2 ^ (settings_of w old.tour).dim)) (Err stop) old (record now { tour = tour })
  visit-unmade {old} {now} tour stop under comes = record {
    goes = under-fails (λ plan. to_come plan (w.inner now)) after_come under (λ its. w.opened (with_record w now tour its)) (λ (done : Unit {0}). w.inner (record now { tour = tour })) (w.failure tour stop) (w.here tour) comes.goes;
    within = λ from holds. comes.entered from (under.since from holds);
  }

  -- the cell is visited
  pub may-open : {old : Amid S H R} {now : Open S H R} → VisitIn old after_come now → MayMove w cell to_open now
  may-open {old} {now} under = under-first (λ plan. to_open plan (w.opened now)) after_open under

  pub visit-opened : {old : Amid S H R} {now new : Open S H R} {done : Unit {0}} → VisitIn old after_come now → Moves w to_open (Ok done) now new → VisitIn old after_open new
  visit-opened {old} {now} {new} {done} under moves =
      under-next (λ plan. to_open plan (w.opened now)) after_open under (λ (done : Unit {0}). w.opened new) done (λ from. w.Entered false from new) (around_open new)
      moves.goes moves.entered (λ from ages holds were. lawful.ages_entered from new ages holds were)

  pub visit-unopened : {old : Amid S H R} {now new : Open S H R} {stop : E} (tour : S) → VisitIn old after_come now → Moves w to_open (Err stop) now new
      → GivesUp w new.tour tour → ((from : Between S H R) → w.Entered true from new → w.Within failed from (without w new tour))
      → Touches w to_visit (loading (2 ^ (settings_of w old.tour).dim)) (storing (2 ^ (settings_of w old.tour).dim)) (Err stop) old (without w new tour)
  visit-unopened {old} {now} {new} {stop} tour under moves given within =
      let after = λ (done : Unit {0}). w.inner (without w new tour) in
      record {
        goes = subst (λ failure. Goes w.courses (λ plan. to_visit plan (w.inner old)) after (Err failure) (w.here old.tour) (w.here tour)) (sym (given.failure stop))
            (goes-rests w.courses (λ plan. to_visit plan (w.inner old)) after (w.failure new.tour stop) (w.here old.tour) (w.here new.tour) (w.here tour)
            (under-fails (λ plan. to_open plan (w.opened now)) after_open under (λ (done : Unit {0}). w.opened new) after (w.failure new.tour stop) (w.here new.tour) moves.goes) given.rests);
        within = λ from holds. within from (moves.entered from (under.since from holds));
      }

  -- the record goes
  pub may-go : {old : Amid S H R} {now : Open S H R} → VisitIn old after_open now → MayMove w cell to_go now
  may-go {old} {now} under = under-first (λ plan. to_go plan (w.opened now)) to_store under

  pub visit-gone : {old : Amid S H R} {now : Open S H R} {done : Unit {0}} (tour : S) → VisitIn old after_open now → GoesOff w to_go (Ok done) now tour → VisitAt old (storing 0) to_store (without w now tour)
  visit-gone {old} {now} {done} tour under goes =
      under-next (λ plan. to_go plan (w.opened now)) to_store under (λ (done : Unit {0}). w.inner (without w now tour)) done (λ from. w.Within (storing 0) from (without w now tour)) (around_amid (without w now tour))
      goes.goes goes.within (λ from ages holds were. lawful.ages_within (storing 0) from (without w now tour) ages holds were)

  pub visit-unput : {old : Amid S H R} {now : Open S H R} {stop : E} (tour : S) → VisitIn old after_open now → GoesOff w to_go (Err stop) now tour
      → Touches w to_visit (loading (2 ^ (settings_of w old.tour).dim)) (storing (2 ^ (settings_of w old.tour).dim)) (Err stop) old (without w now tour)
  visit-unput {old} {now} {stop} tour under goes =
      let after = λ (done : Unit {0}). w.inner (without w now tour) in
      record {
        goes = under-fails (λ plan. to_go plan (w.opened now)) to_store under after after (w.failure tour stop) (w.here tour) goes.goes;
        within = λ from holds. goes.within from (under.since from holds);
      }

  -- the corners are stored
  stored-as : {old : Amid S H R} {now : Amid S H R} → VisitAt old (storing 0) to_store now
      → to_store (plan_of w now.tour) (w.inner now) ≡ stores (w.steps (plan_of w now.tour)) cell.place 0 (2 ^ (settings_of w now.tour).dim) (w.inner now)
  stored-as {old} {now} under =
      ap (λ n. stores (w.steps (plan_of w now.tour)) cell.place 0 n (w.inner now)) (lawful.holds under.may.from now under.may.since)

  pub may-store : {old : Amid S H R} {now : Amid S H R} → VisitAt old (storing 0) to_store now → MayTouch w cell (storing 0) (stores_of w cell.place 0 (2 ^ (settings_of w now.tour).dim)) now
  may-store {old} {now} under =
      may-with w cell (λ from. w.Within (storing 0) from now) (around_amid now) (λ plan. to_store plan (w.inner now)) (λ plan. stores_of w cell.place 0 (2 ^ (settings_of w now.tour).dim) plan (w.inner now)) under.may
      (subst w.courses.Fits (stored-as under) under.may.fits)

  pub visit-stored : {old now new : Amid S H R} (result : Result (Unit {0}) E) → VisitAt old (storing 0) to_store now
      → Touches w (stores_of w cell.place 0 (2 ^ (settings_of w now.tour).dim)) (storing 0) (storing (2 ^ (settings_of w now.tour).dim)) result now new
      → Touches w to_visit (loading (2 ^ (settings_of w old.tour).dim)) (storing (2 ^ (settings_of w old.tour).dim)) result old new
  visit-stored {old} {now} {new} result under touches =
      let after = λ (done : Unit {0}). w.inner new in
      let answer = answer_by (w.failure new.tour) result in
      let same : 2 ^ (settings_of w now.tour).dim ≡ 2 ^ (settings_of w old.tour).dim = ap (λ plan. 2 ^ (w.settings plan).dim) under.leads.plan in
      record {
        goes = under.leads.goes after answer (w.here new.tour)
            (goes-as w.courses (λ plan. stores_of w cell.place 0 (2 ^ (settings_of w now.tour).dim) plan (w.inner now)) (λ plan. to_store plan (w.inner now)) after answer (w.here now.tour) (w.here new.tour) (sym (stored-as under)) touches.goes);
        within = λ from holds. subst (λ n. w.Within (stage_after result (storing n)) from new) same (touches.within from (under.since from holds));
      }
