-- The order of cells along the Peano curve, axis 0 slowest. In the plane, with axis 0 going right and
-- axis 1 going up, the nine children of a cell with no flip are visited as numbered:
--
--     2 3 8
--     1 4 7
--     0 5 6
use Rattle.std.specs.Prelude.{ℕ, zero, suc, ◌+◌, ◌-◌, ◌%◌, List, [], ◌∷◌, map, reverse, if◌then◌else◌, ◌==◌, sum}
use Rattle.std.specs.List.{flat_map, remove, range_with_len}
use Rattle.pe_base.specs.declared.place.Place.{Place}
use Rattle.pe_base.specs.declared.place.Digits.{Digits}
use Rattle.pe_base.specs.declared.way.Way.{Way}
use Rattle.pe_base.specs.declared.way.Way.TheVariants.{Forward, Inverted}
use Rattle.pe_base.specs.Tree.Places.{root, child_at, padded}

-- the flip of an axis at a position: the parity of the sum over the other axes
abbrev pub flip : List ℕ → ℕ → ℕ
flip pos axis = sum (remove pos axis) % 2

-- the flips of all axes
abbrev pub flips : ℕ → List ℕ → List ℕ
flips axes pos = map (flip pos) (range_with_len 0 axes)

-- the lists of base 3 digits of a length, in ascending order with the first digit leading
abbrev pub digit_lists : ℕ → List (List ℕ)
digit_lists zero = [] ∷ []
digit_lists (suc n) = flat_map (λ t. map (λ ts. t ∷ ts) (digit_lists n)) (0 ∷ 1 ∷ 2 ∷ [])

-- a digit, mirrored where the number of turns is odd
abbrev pub mirrored : ℕ → ℕ → ℕ
mirrored turns t = if turns % 2 == 0 then t else (2 - t)

-- The digits along the curve, turned into those of the place: each is mirrored by its axis's flip and
-- by the sum of the digits before it, here of those before the list and of those in it.
abbrev pub turned : List ℕ → ℕ → List ℕ → List ℕ
turned [] before ts = []
turned (e ∷ es) before [] = []
turned (e ∷ es) before (t ∷ ts) = mirrored (e + before) t ∷ turned es (before + t) ts

-- digits on the grid's axes, and 0 on the others
abbrev pub digits_of : List ℕ → Digits
digits_of ks = record { k = padded ks }

-- a list in the given way
abbrev pub along : {X : Type 0} → Way → List X → List X
along Forward xs = xs
along Inverted xs = reverse xs

-- the digits of a cell's children in the order of the curve, by the flips of the cell
abbrev pub child_digits : ℕ → Way → List ℕ → List Digits
child_digits axes way es = along way (map (λ ts. digits_of (turned es 0 ts)) (digit_lists axes))

-- the children of a cell in the order of the curve
abbrev pub children : ℕ → Way → Place → List Place
children axes way cell = map (child_at cell) (child_digits axes way (flips axes cell.pos))

-- all cells of a level in the order of the curve
abbrev pub order : ℕ → Way → ℕ → List Place
order axes way zero = root ∷ []
order axes way (suc level) = flat_map (children axes way) (order axes way level)
