-- The carriers of a cell's corners, by the numbers of the parent's corners.
--
-- On each axis a corner lies at the cell's digit, or one further: at 0 to 3, in thirds of the parent's width.
--
--     0          its carriers lie at the parent's near side
--     1 or 2     at both sides
--     3          at the far side
use Rattle.std.specs.Prelude.{ℕ, List, map, take}
use Rattle.pe_base.specs.declared.place.Digits.{Digits}
use Rattle.pe_base.specs.Tree.Places.{bits, number_of, moved}
use Rattle.pe_base.specs.Life.Carriers.{carrier_positions}

-- where corner k of the child at these digits lies in its parent, on each axis of the grid
abbrev pub place_in_parent : ℕ → Digits → ℕ → List ℕ
place_in_parent axes digits k = moved (take axes digits.k) (bits axes k)

-- the numbers of the parent's corners that are carriers of corner k of the child at these digits
abbrev pub carrier_numbers : ℕ → Digits → ℕ → List ℕ
carrier_numbers axes digits k = map number_of (carrier_positions (place_in_parent axes digits k))
