-- A walk as its calls see it: what it goes by, its states, its steps, and what it owes besides.
use Rattle.std.specs.Prelude.{◌≡◌, ℕ, ◌^◌, Bool, false}
use Rattle.pe_base.specs.Calls.Courses.{Courses}
use Rattle.pe_base.specs.Walk.Steps.{Steps}
use Rattle.pe_tour.specs.declared.settings.TourSettings.{TourSettings}
use Rattle.pe_tour.specs.Going.{Here}
use Rattle.pe_tour.specs.Sights.{Between, Amid, Open, Stage, storing, around_amid, around_open, below_open, above_again}

-- S is the walk itself, H has a cell's corners, R is a cell's record, and E tells why a call fails.
pub record Walker (S H R E : Type 0) : Type 1 where
  -- what the walk goes by, which stays; what a call finds; and why a walk fails
  pub Plan : Type 0
  pub Found : Type 0
  pub Failure : Type 0
  pub courses : Courses Found Failure
  pub settings : Plan → TourSettings
  -- the states that the steps see
  pub Rested : Type 0
  pub Inner : Type 0
  pub Opened : Type 0
  pub steps : Plan → Steps courses Rested Inner Opened
  -- where the walk stands, and the states that are its own
  pub here : S → Here Plan Found
  pub rested : Between S H R → Rested
  pub inner : Amid S H R → Inner
  pub opened : Open S H R → Opened
  -- what a stop means
  pub failure : S → E → Failure
  -- the ages of the corners of the cell above; and no corner is in hand
  pub AreAges : Between S H R → ℕ → Type 0
  pub IsEmpty : Plan → H → Type 0
  -- what the walk owes besides since a moment between cells: between cells, within one, and while its record is in hand; and
  -- whether a call has failed
  pub Ready : Bool → Between S H R → Between S H R → Type 0
  pub Within : Stage → Between S H R → Amid S H R → Type 0
  pub Entered : Bool → Between S H R → Open S H R → Type 0

-- how these hang together
pub record IsLawful {S H R E : Type 0} (w : Walker S H R E) : Type 0 where
  pub axes : (plan : w.Plan) → (w.steps plan).axes ≡ (w.settings plan).dim
  pub ways : (plan : w.Plan) → (w.steps plan).way ≡ (w.settings plan).way
  -- what holds between cells holds from each moment on, and from one to the next
  pub starts : (from at : Between S H R) → w.Ready false from at → w.Ready false at at
  pub joins : (from mid at : Between S H R) (failed : Bool) → w.Ready false from mid → w.Ready failed mid at → w.Ready failed from at
  -- within a cell at last, when all its corners are stored
  pub holds : (from : Between S H R) (amid : Amid S H R)
      → w.Within (storing 0) from amid → (w.steps (w.here amid.tour).plan).held (w.inner amid) ≡ 2 ^ (w.settings (w.here amid.tour).plan).dim
  pub ends : (from : Between S H R) (amid : Amid S H R)
      → w.Within (storing (2 ^ (w.settings (w.here amid.tour).plan).dim)) from amid → w.Ready false from (around_amid amid) × w.IsEmpty (w.here amid.tour).plan amid.own
  -- from within a cell to between its children, and back
  pub lowers : (from : Between S H R) (inside : Open S H R) → w.Entered false from inside → w.Ready false (below_open inside) (below_open inside)
  pub raises : (from after : Between S H R) (inside : Open S H R) (failed : Bool)
      → w.Entered false from inside → w.Ready failed (below_open inside) after → w.Entered failed from (above_again inside after)
  -- the ages of the corners of the cell above stay
  pub ages_stay : (from at : Between S H R) (ages : ℕ) → w.Ready false from at → w.AreAges from ages → w.AreAges at ages
  pub ages_within : (stage : Stage) (from : Between S H R) (amid : Amid S H R) (ages : ℕ) → w.Within stage from amid → w.AreAges from ages → w.AreAges (around_amid amid) ages
  pub ages_entered : (from : Between S H R) (inside : Open S H R) (ages : ℕ) → w.Entered false from inside → w.AreAges from ages → w.AreAges (around_open inside) ages
  -- the states that are the walk's own are those of its steps
  pub downs : (plan : w.Plan) (inside : Open S H R) → (w.steps plan).down (w.opened inside) ≡ w.rested (below_open inside)
  pub ups : (plan : w.Plan) (inside : Open S H R) (after : Between S H R) → (w.steps plan).up (w.opened inside) (w.rested after) ≡ w.opened (above_again inside after)
  pub closes : (plan : w.Plan) (amid : Amid S H R) → (w.steps plan).close (w.inner amid) ≡ w.rested (around_amid amid)
