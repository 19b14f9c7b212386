-- What the calls of a walk ask, and what they do.
use Rattle.std.specs.Prelude.{◌≡◌, ℕ, suc, ◌-◌, ◌^◌, true, false, Result, Ok, Err, is_err}
use Rattle.pe_base.specs.declared.place.Place.{Place}
use Rattle.pe_base.specs.Walk.Steps.{loads, stores}
use Rattle.pe_tour.specs.declared.settings.TourSettings.{TourSettings}
use Rattle.pe_tour.specs.declared.cell.CellAt.{CellAt}
use Rattle.pe_tour.specs.Cells.{IsAt, IsAgedBy}
use Rattle.pe_tour.specs.Going.{Goes, GoesOn, Rests, answer_by}
use Rattle.pe_tour.specs.Sights.{Between, Amid, Open, Stage, loading, storing, failed, stage_after, around_amid, around_open}
use Rattle.pe_tour.specs.Walker.{Walker}

-- the number four behind a corner's
abbrev pub four_on : ℕ → ℕ
four_on k = suc (suc (suc (suc k)))

module _ {S H R E : Type 0} (w : Walker S H R E) where
  -- what a walk goes by
  abbrev pub plan_of : S → w.Plan
  plan_of tour = (w.here tour).plan

  abbrev pub settings_of : S → TourSettings
  settings_of tour = w.settings (plan_of tour)

  -- A call may make the moves of a course for a cell. Something holds since a moment between cells, when the corners of the
  -- cell above had ages that tell what the cell is, and have them still.
  pub record May {X : Type 0} (cell : CellAt) (Holds : Between S H R → Type 0) (around : Between S H R) (course : w.Plan → w.courses.Course X) : Type 0 where
    pub at : IsAt (settings_of around.tour) cell
    pub from : Between S H R
    pub since : Holds from
    pub ages : ℕ
    pub were : w.AreAges from ages
    pub are : w.AreAges around ages
    pub by : IsAgedBy (settings_of around.tour) ages cell
    pub fits : w.courses.Fits (course (plan_of around.tour))

  -- # Between cells
  abbrev pub MayWalk : {X : Type 0} → CellAt → (w.Plan → w.Rested → w.courses.Course X) → Between S H R → Type 0
  MayWalk cell course at = May cell (λ from. w.Ready false from at) at (λ plan. course plan (w.rested at))

  pub record Walks (course : w.Plan → w.Rested → w.courses.Course w.Rested) (result : Result (Unit {0}) E) (old new : Between S H R) : Type 0 where
    pub goes : Goes w.courses (λ plan. course plan (w.rested old)) (λ (done : Unit {0}). w.rested new) (answer_by (w.failure new.tour) result) (w.here old.tour) (w.here new.tour)
    pub ready : (from : Between S H R) → w.Ready false from old → w.Ready (is_err result) from new

  -- # Within a cell
  abbrev pub MayTouch : {X : Type 0} → CellAt → Stage → (w.Plan → w.Inner → w.courses.Course X) → Amid S H R → Type 0
  MayTouch cell stage course amid = May cell (λ from. w.Within stage from amid) (around_amid amid) (λ plan. course plan (w.inner amid))

  -- a call makes all moves of a course
  pub record Touches (course : w.Plan → w.Inner → w.courses.Course w.Inner) (before after : Stage) (result : Result (Unit {0}) E) (old new : Amid S H R) : Type 0 where
    pub goes : Goes w.courses (λ plan. course plan (w.inner old)) (λ (done : Unit {0}). w.inner new) (answer_by (w.failure new.tour) result) (w.here old.tour) (w.here new.tour)
    pub within : (from : Between S H R) → w.Within before from old → w.Within (stage_after result after) from new

  -- or some of them
  pub record TouchesOn (whole rest : w.Plan → w.Inner → w.courses.Course w.Inner) (before after : Stage) (result : Result (Unit {0}) E) (old new : Amid S H R) : Type 0 where
    pub goes : GoesOn w.courses (λ plan. whole plan (w.inner old)) (λ plan. rest plan (w.inner new)) (answer_by (w.failure new.tour) result) (w.here old.tour) (w.here new.tour)
    pub within : (from : Between S H R) → w.Within before from old → w.Within (stage_after result after) from new

  -- the loads of all corners below a number, and the stores of so many from a number on
  abbrev pub loads_of : Place → ℕ → w.Plan → w.Inner → w.courses.Course w.Inner
  loads_of place k plan = loads (w.steps plan) place k

  abbrev pub stores_of : Place → ℕ → ℕ → w.Plan → w.Inner → w.courses.Course w.Inner
  stores_of place k n plan = stores (w.steps plan) place k n

  -- the stores of all corners from a number on
  abbrev pub stores_from : Place → ℕ → S → w.Plan → w.Inner → w.courses.Course w.Inner
  stores_from place k tour = stores_of place k (2 ^ (settings_of tour).dim - k)

  -- # While its record is in hand
  abbrev pub MayMove : {X : Type 0} → CellAt → (w.Plan → w.Opened → w.courses.Course X) → Open S H R → Type 0
  MayMove cell course inside = May cell (λ from. w.Entered false from inside) (around_open inside) (λ plan. course plan (w.opened inside))

  pub record Moves (course : w.Plan → w.Opened → w.courses.Course w.Opened) (result : Result (Unit {0}) E) (old new : Open S H R) : Type 0 where
    pub goes : Goes w.courses (λ plan. course plan (w.opened old)) (λ (done : Unit {0}). w.opened new) (answer_by (w.failure new.tour) result) (w.here old.tour) (w.here new.tour)
    pub entered : (from : Between S H R) → w.Entered false from old → w.Entered (is_err result) from new

  -- # From one to the other
  -- a cell is counted
  abbrev pub counted_to : {A : Type 0} → Result A E → Between S H R → Amid S H R → Type 0
  counted_to (Ok done) from new = w.Within (loading (2 ^ (settings_of new.tour).dim)) from new
  counted_to (Err stop) from new = w.Ready true from (around_amid new)

  pub record Counts (course : w.Plan → w.Rested → w.courses.Course w.Inner) (result : Result (Unit {0}) E) (old : Between S H R) (new : Amid S H R) : Type 0 where
    pub goes : Goes w.courses (λ plan. course plan (w.rested old)) (λ (done : Unit {0}). w.inner new) (answer_by (w.failure new.tour) result) (w.here old.tour) (w.here new.tour)
    pub ready : (from : Between S H R) → w.Ready false from old → counted_to result from new

  -- a cell's record comes to hand
  abbrev pub with_record : Amid S H R → S → R → Open S H R
  with_record amid tour its = record { tour = tour; own = amid.own; its = its; above = amid.above; parent = amid.parent }

  abbrev pub without : Open S H R → S → Amid S H R
  without inside tour = record { tour = tour; own = inside.own; above = inside.above; parent = inside.parent }

  abbrev pub come_to : Result R E → Between S H R → Amid S H R → S → Type 0
  come_to (Ok its) from old tour = w.Entered false from (with_record old tour its)
  come_to (Err stop) from old tour = w.Within failed from (record old { tour = tour })

  pub record Comes (course : w.Plan → w.Inner → w.courses.Course w.Opened) (result : Result R E) (old : Amid S H R) (tour : S) : Type 0 where
    pub goes : Goes w.courses (λ plan. course plan (w.inner old)) (λ its. w.opened (with_record old tour its)) (answer_by (w.failure tour) result) (w.here old.tour) (w.here tour)
    pub entered : (from : Between S H R) → w.Within (loading 0) from old → come_to result from old tour

  -- and goes
  pub record GoesOff (course : w.Plan → w.Opened → w.courses.Course w.Inner) (result : Result (Unit {0}) E) (old : Open S H R) (tour : S) : Type 0 where
    pub goes : Goes w.courses (λ plan. course plan (w.opened old)) (λ (done : Unit {0}). w.inner (without old tour)) (answer_by (w.failure tour) result) (w.here old.tour) (w.here tour)
    pub within : (from : Between S H R) → w.Entered false from old → w.Within (stage_after result (storing 0)) from (without old tour)

  -- a call has failed: what it left is given up
  pub record GivesUp (old new : S) : Type 0 where
    pub rests : Rests w.courses (w.here old) (w.here new)
    pub failure : (stop : E) → w.failure new stop ≡ w.failure old stop
