-- Two tours that count, beside each other: what a tour counts does not depend on its trail.
use Rattle.std.specs.Prelude.{◌≡◌, ℕ, Option, Some, None}
use Rattle.pe_base.specs.declared.place.Place.{Place}
use Rattle.pe_base.specs.Walk.Steps.{walk, walks_children}
use Rattle.pe_tour.specs.declared.settings.TourSettings.{TourSettings}
use Rattle.pe_tour.specs.Sights.{Between}
use Rattle.tour_rows.specs.declared.counting.Counting.{Counting}
use Rattle.tour_rows.specs.Counting.{counting_steps}

-- two tours have counted alike
pub record CountAlike (a b : Counting) : Type 0 where
  pub cells : b.cells ≡ a.cells
  pub loads : b.loads ≡ a.loads
  pub stores : b.stores ≡ a.stores

abbrev pub Rest : Type 0
Rest = Between Counting (Unit {0}) ℕ

-- and walk as many levels
pub record RestAlike (a b : Rest) : Type 0 where
  pub counts : CountAlike a.tour b.tour
  pub parent : b.parent ≡ a.parent

-- two courses give values that are in a relation, or both are stuck
abbrev pub GiveAlike : {X Y : Type 0} → (X → Y → Type 0) → Option X → Option Y → Type 0
GiveAlike R (Some x) (Some y) = R x y
GiveAlike R (Some x) None = ⊥
GiveAlike R None (Some y) = ⊥
GiveAlike R None None = Unit {0}

-- a tour of all below a cell
abbrev pub tours_below : TourSettings → ℕ → Place → Rest → Option Rest
tours_below settings levels = walks_children (counting_steps settings) (walk (counting_steps settings) levels)

-- tours that have counted alike do so again, whatever their trails
abbrev pub TrailsAreNotRead : Type 0
TrailsAreNotRead = (settings : TourSettings) (levels : ℕ) (cell : Place) (a b : Rest)
    → RestAlike a b → GiveAlike RestAlike (tours_below settings levels cell a) (tours_below settings levels cell b)
