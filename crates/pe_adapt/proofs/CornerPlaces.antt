-- Corners of cells, by the bits of their numbers.
use Rattle.std.proofs.Common.{◌≡◌, ℕ, zero, suc, ◌+◌, ◌/◌, ◌%◌, ◌^◌, ◌<◌, ◌≤◌, List, [], ◌∷◌, length, get_or, ap, arith}
use Rattle.std.specs.Prelude.{All, slice_index}
use Rattle.std.proofs.Math.Nat.{pow-le-pow_right}
use Rattle.std.proofs.lemmas.List.Elements.{All-nil, All-cons}
use Rattle.pe_base.specs.declared.place.Place.{Place}
use Rattle.pe_base.specs.Tree.Dim.{IsDim}
use Rattle.pe_base.specs.Tree.Places.{IsCellPlace, bits, moved, corner}
use Rattle.pe_base.proofs.Tree.CurveLaws.{power_positive}
use Rattle.pe_base.proofs.Tree.PlaceLaws.{IsPosition-below}

same_four : (a b c d a' b' c' d' : ℕ) → a ≡ a' → b ≡ b' → c ≡ c' → d ≡ d' → a ∷ b ∷ c ∷ d ∷ [] ≡ a' ∷ b' ∷ c' ∷ d' ∷ []
same_four a b c d a' b' c' d' e f g h = cc

-- the position of a corner, axis by axis
corner_pos : (axes x y z w k : ℕ) → 2 ≤ axes → axes ≤ 4 → k < 2 ^ axes
    → (x + k % 2) ∷ (y + k / 2 % 2) ∷ (z + k / 4 % 2) ∷ (w + k / 8 % 2) ∷ [] ≡ moved (x ∷ y ∷ z ∷ w ∷ []) (bits axes k)
corner_pos zero x y z w k low high below = absurd (omega arith)
corner_pos (suc zero) x y z w k low high below = absurd (omega arith)
corner_pos (suc (suc zero)) x y z w k low high below = same_four _ _ _ _ _ _ _ _ (omega arith) (omega arith) (omega arith) (omega arith)
corner_pos (suc (suc (suc zero))) x y z w k low high below = same_four _ _ _ _ _ _ _ _ (omega arith) (omega arith) (omega arith) (omega arith)
corner_pos (suc (suc (suc (suc zero)))) x y z w k low high below = same_four _ _ _ _ _ _ _ _ (omega arith) (omega arith) (omega arith) (omega arith)
corner_pos (suc (suc (suc (suc (suc n))))) x y z w k low high below = absurd (omega arith)

four_pos : (axes k : ℕ) (pos : List ℕ) → 2 ≤ axes → axes ≤ 4 → k < 2 ^ axes → length pos ≡ 4
    → (get_or pos 0 0 + k % 2) ∷ (get_or pos 1 0 + k / 2 % 2) ∷ (get_or pos 2 0 + k / 4 % 2) ∷ (get_or pos 3 0 + k / 8 % 2) ∷ [] ≡ moved pos (bits axes k)
four_pos axes k [] low high below four = absurd (omega arith)
four_pos axes k (x ∷ []) low high below four = absurd (omega arith)
four_pos axes k (x ∷ y ∷ []) low high below four = absurd (omega arith)
four_pos axes k (x ∷ y ∷ z ∷ []) low high below four = absurd (omega arith)
four_pos axes k (x ∷ y ∷ z ∷ w ∷ []) low high below four = corner_pos axes x y z w k low high below
four_pos axes k (x ∷ y ∷ z ∷ w ∷ v ∷ pos) low high below four = absurd (omega arith)

-- a corner, axis by axis
pub corner_is : (axes k : ℕ) (cell : Place) → IsDim axes → k < 2 ^ axes → length cell.pos ≡ 4
    → (let place : Place = record { level = cell.level; pos = (get_or cell.pos 0 0 + k % 2) ∷ (get_or cell.pos 1 0 + k / 2 % 2) ∷ (get_or cell.pos 2 0 + k / 4 % 2) ∷ (get_or cell.pos 3 0 + k / 8 % 2) ∷ [] } in place) ≡ corner axes cell k
corner_is axes k cell within below four =
    ap (λ pos. let place : Place = record { level = cell.level; pos = pos } in place) (four_pos axes k cell.pos within.0 within.1 below four)

-- a position of a cell is below the greatest
pub cell_below : (axes : ℕ) (cell : Place) → IsCellPlace axes cell → (axis : ℕ) → slice_index cell.pos axis < 3 ^ cell.level
cell_below axes cell is axis = IsPosition-below axes (3 ^ cell.level) cell.pos (power_positive cell.level) is.pos axis

-- and far below the greatest number
pub level_below : (level : ℕ) → level ≤ 20 → 3 ^ level ≤ 3 ^ 20
level_below level few = pow-le-pow_right (let positive : 0 < 3 = omega arith in positive) few

-- a corner's position is at most the greatest
corner_below : (x bit bound : ℕ) → x < bound → bit < 2 → x + bit ≤ bound
corner_below x bit bound below small = omega arith

pub corners_below : (bound k x y z w : ℕ) → x < bound → y < bound → z < bound → w < bound
    → All (λ n. n ≤ bound) ((x + k % 2) ∷ (y + k / 2 % 2) ∷ (z + k / 4 % 2) ∷ (w + k / 8 % 2) ∷ [])
corners_below bound k x y z w a b c d =
    let below : ℕ → Type 0 = λ n. n ≤ bound in
    All-cons below (x + k % 2) ((y + k / 2 % 2) ∷ (z + k / 4 % 2) ∷ (w + k / 8 % 2) ∷ []) (corner_below x (k % 2) bound a (omega arith))
    (All-cons below (y + k / 2 % 2) ((z + k / 4 % 2) ∷ (w + k / 8 % 2) ∷ []) (corner_below y (k / 2 % 2) bound b (omega arith))
    (All-cons below (z + k / 4 % 2) ((w + k / 8 % 2) ∷ []) (corner_below z (k / 4 % 2) bound c (omega arith))
    (All-cons below (w + k / 8 % 2) [] (corner_below w (k / 8 % 2) bound d (omega arith)) (All-nil below))))
