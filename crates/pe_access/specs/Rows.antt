-- The numbers of the corners of a cell: along all axes but the last, as they are for its row, and along the last one.
use Rattle.std.specs.Prelude.{◌≡◌, ℕ, ◌-◌, ◌/◌, ◌%◌, ◌^◌, ◌<◌, ◌==◌, max, length, take, if◌then◌else◌, List, [], ◌∷◌, slice_get, slice_index, Some}
use Rattle.pe_base.specs.Tree.Places.{bits}
use Rattle.pe_access.specs.declared.numbers.Numbers.{Numbers}
use Rattle.pe_access.specs.declared.numbers.Axis.{Axis}
use Rattle.pe_access.specs.declared.row.Row.{Row}
use Rattle.pe_access.specs.declared.state.CellState.{CellState}

abbrev pub came : Numbers → ℕ
came face = face.coming

abbrev pub went : Numbers → ℕ
went face = face.going

-- the greatest number along some axes, with a side for each
abbrev pub greatest_along : (Numbers → ℕ) → List ℕ → List Axis → ℕ
greatest_along number [] along = 0
greatest_along number (side ∷ sides) [] = 0
greatest_along number (side ∷ sides) (axis ∷ along) = max (number (if side == 0 then axis.near else axis.far)) (greatest_along number sides along)

-- of two numbers that of a side
abbrev pub side_of : ℕ × ℕ → ℕ → ℕ
side_of both side = if side == 0 then both.0 else both.1

-- a state along all axes but the last
abbrev pub front_of : CellState → List Axis
front_of state = take (state.axes - 1) state.along

-- the face along an axis at a side
abbrev pub end_at : Axis → ℕ → Numbers
end_at axis side = if side == 0 then axis.near else axis.far

-- the numbers of a state's corners
pub record IsRow (state : CellState) (row : Row) : Type 0 where
  pub four : length state.along ≡ 4
  pub coming : (corner : ℕ) → corner < 2 ^ state.axes → slice_index row.coming (corner % 8) ≡ greatest_along came (bits (state.axes - 1) corner) (front_of state)
  pub going : (corner : ℕ) → corner < 2 ^ state.axes → slice_index row.going (corner % 8) ≡ greatest_along went (bits (state.axes - 1) corner) (front_of state)
  pub ends : (last : Axis) (pair : ℕ) → slice_get state.along (state.axes - 1) ≡ Some last → pair < 2 ^ (state.axes - 1) → slice_get row.ends pair ≡ Some (end_at last (pair / 2 ^ (state.axes - 2)))
