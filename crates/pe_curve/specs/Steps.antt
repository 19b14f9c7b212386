-- Steps along the curve, from a child to the next one. At each child an axis is walked upwards or downwards, by the way, by
-- the flip of the axis, and by the digits on the axes before it. In the plane, of a cell with no flip:
--
--     2 3 8     at 0, 1, 6, 7 both axes are walked upwards, and at 3 and 4 axis 1 is walked downwards.
--     1 4 7     From 1 to 2 axis 1 moves. At 2 it cannot go on, so that axis 0 moves, and axis 1 turns over.
--     0 5 6
use Rattle.std.specs.Prelude.{◌≡◌, ℕ, ◌+◌, ◌-◌, ◌%◌, ◌<◌, ◌≤◌, Bool, false, not, ◌==◌, nat_lt, if◌then◌else◌, IsTrue, List, take, sum, slice_get, slice_index, slice_index_or, slice_set, Some}
use Rattle.pe_base.specs.declared.way.Way.{Way}
use Rattle.pe_base.specs.Tree.Places.{IsDigits}
use Rattle.pe_base.specs.Tree.Curve.{child_digits}
use Rattle.pe_base.specs.Steps.Routes.{way_turns}
use Rattle.pe_curve.specs.declared.step.Step.{Step}

-- the turns of an axis at a child: those of the way, its flip, and the digits before it
abbrev pub turns_to : ℕ → List ℕ → List ℕ → ℕ → ℕ
turns_to turns es ks axis = turns + slice_index es axis + sum (take axis ks)

-- whether a step walks an axis upwards
abbrev pub goes_up : Step → ℕ → Bool
goes_up step axis = slice_index_or step.ups axis false

-- the step stands at the n-th child of a cell with these flips
pub record IsStep (axes : ℕ) (way : Way) (es : List ℕ) (n : ℕ) (step : Step) : Type 0 where
  pub digits : IsDigits axes step.digits
  pub nth : slice_get (child_digits axes way es) n ≡ Some step.digits
  pub ups : (axis : ℕ) → axis < axes → goes_up step axis ≡ (turns_to (way_turns way) es step.digits.k axis % 2 == 0)

-- a digit can go on in its direction, and where it goes
abbrev pub can_move : Bool → ℕ → Bool
can_move up k = if up then nat_lt k 2 else nat_lt 0 k

abbrev pub moved_digit : Bool → ℕ → ℕ
moved_digit up k = if up then k + 1 else k - 1

-- an axis of a step can move
abbrev pub moves_along : Step → ℕ → Bool
moves_along step axis = can_move (goes_up step axis) (slice_index step.digits.k axis)

-- some axis before one can move
abbrev pub CanAdvance : ℕ → Step → Type 0
CanAdvance axes step = (axis : ℕ) × (axis < axes) × IsTrue (moves_along step axis)

-- Of the axes before one, the last that can move does: those before it are as they were, and those behind it turn over.
pub record IsAdvanced (axes : ℕ) (old : Step) (axis : ℕ) (new : Step) : Type 0 where
  pub within : axis < axes
  pub can : IsTrue (moves_along old axis)
  pub digits : new.digits.k ≡ slice_set old.digits.k axis (moved_digit (goes_up old axis) (slice_index old.digits.k axis))
  pub before : (other : ℕ) → other ≤ axis → goes_up new other ≡ goes_up old other
  pub behind : (other : ℕ) → axis < other → other < axes → goes_up new other ≡ not (goes_up old other)
  pub still : (other : ℕ) → axis < other → other < axes → moves_along old other ≡ false
  pub rest : (other : ℕ) → axes ≤ other → goes_up new other ≡ goes_up old other
