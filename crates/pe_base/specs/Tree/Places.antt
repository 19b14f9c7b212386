-- Places of cells and vertices.
--
--     level 0     the root           one cell
--     level l     3^l cells along each axis, 3^l + 1 vertices along each axis
--
-- A position has four numbers, one for each axis. Axes from the dimension on hold 0.
use Rattle.std.specs.Prelude.{◌≡◌, ℕ, ◌+◌, ◌-◌, ◌*◌, ◌/◌, ◌%◌, ◌^◌, ◌<◌, ◌≤◌, Bool, ◌&&◌, ◌==◌, nat_eq, List, [], ◌∷◌, ◌++◌, map, length, replicate, slice_index}
use Rattle.std.specs.List.{range_with_len}
use Rattle.std.specs.Cmp.Lexicographic.{pointwise}
use Rattle.pe_base.specs.declared.place.Place.{Place}
use Rattle.pe_base.specs.declared.place.Digits.{Digits}
use Rattle.pe_base.specs.Limits.{most_levels}

-- four numbers, of which those on the grid's axes are below the bound and the others are 0
pub record IsPosition (axes bound : ℕ) (pos : List ℕ) : Type 0 where
  pub four : length pos ≡ 4
  pub inside : (axis : ℕ) → axis < axes → slice_index pos axis < bound
  pub rest : (axis : ℕ) → axes ≤ axis → slice_index pos axis ≡ 0

-- a cell's place
pub record IsCellPlace (axes : ℕ) (place : Place) : Type 0 where
  pub level : place.level ≤ most_levels
  pub pos : IsPosition axes (3 ^ place.level) place.pos

-- a child's digits
abbrev pub IsDigits : ℕ → Digits → Type 0
IsDigits axes digits = IsPosition axes 3 digits.k

-- four numbers: these, and 0 behind them
abbrev pub padded : List ℕ → List ℕ
padded xs = xs ++ replicate (4 - length xs) 0

-- the place on a level with this position on the grid's axes
abbrev pub at : ℕ → List ℕ → Place
at level pos = record { level = level; pos = padded pos }

-- two positions are one, and two places are one
abbrev pub is_same_pos : List ℕ → List ℕ → Bool
is_same_pos xs ys = pointwise nat_eq xs ys

abbrev pub is_same : Place → Place → Bool
is_same a b = a.level == b.level && is_same_pos a.pos b.pos

-- the only cell of level 0
abbrev pub root : Place
root = at 0 []

-- a position three times finer, and a digit further on each axis
abbrev pub finer : List ℕ → List ℕ → List ℕ
finer [] ks = []
finer (x ∷ xs) [] = []
finer (x ∷ xs) (k ∷ ks) = (3 * x + k) ∷ finer xs ks

-- the child of a cell that lies at these digits
abbrev pub child_at : Place → Digits → Place
child_at parent digits = record { level = parent.level + 1; pos = finer parent.pos digits.k }

-- the lowest bits of a number, one for each axis, axis 0 first
abbrev pub bits : ℕ → ℕ → List ℕ
bits axes n = map (λ axis. n / 2 ^ axis % 2) (range_with_len 0 axes)

-- the number with these bits, the lowest first
abbrev pub number_of : List ℕ → ℕ
number_of [] = 0
number_of (b ∷ bs) = b + 2 * number_of bs

-- a position moved on each axis
abbrev pub moved : List ℕ → List ℕ → List ℕ
moved [] ds = []
moved (x ∷ xs) [] = x ∷ xs
moved (x ∷ xs) (d ∷ ds) = (x + d) ∷ moved xs ds

-- Corner k of a cell: bit i of k says that the corner lies at the far end of axis i.
--
--     2 3
--     0 1
abbrev pub corner : ℕ → Place → ℕ → Place
corner axes cell k = record { level = cell.level; pos = moved cell.pos (bits axes k) }

-- all corners of a cell, in ascending number
abbrev pub corners : ℕ → Place → List Place
corners axes cell = map (corner axes cell) (range_with_len 0 (2 ^ axes))

-- the cell of which a cell is a child
abbrev pub parent_of : Place → Place
parent_of cell = record { level = cell.level - 1; pos = map (λ x. x / 3) cell.pos }

-- a vertex's place strictly inside the root cube
pub record IsInside (axes : ℕ) (place : Place) : Type 0 where
  pub level : place.level ≤ most_levels
  pub pos : IsPosition axes (3 ^ place.level) place.pos
  pub above : (axis : ℕ) → axis < axes → 0 < slice_index place.pos axis
