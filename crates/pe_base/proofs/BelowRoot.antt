-- Cells and their corners lie below the root.
use Rattle.std.proofs.Common.{ℕ, ◌+◌, ◌/◌, ◌%◌, ◌^◌, ◌<◌, ◌≤◌, List, [], ◌∷◌, length, get_or, All, inl, inr, suc, arith}
use Rattle.std.specs.List.{range_with_len}
use Rattle.std.proofs.lemmas.Bool.{cases_lt}
use Rattle.std.proofs.lemmas.List.Elements.{All-cons, All-from_get_or}
use Rattle.std.proofs.lemmas.List.{get_or-map, length-map}
use Rattle.std.proofs.lemmas.List.FromFn.{length-map-range_with_len}
use Rattle.std.proofs.Math.Nat.{mod-lt}
use Rattle.pe_base.specs.declared.place.Place.{Place}
use Rattle.pe_base.specs.Tree.Places.{IsPosition, IsCellPlace, moved, bits, corner}
use Rattle.pe_base.specs.Acts.Moments.{IsBelowRoot}

position_within : (axes bound : ℕ) (pos : List ℕ) (axis : ℕ) → IsPosition axes bound pos → get_or pos axis 0 ≤ bound
position_within axes bound pos axis is = elim (cases_lt axis axes) [ inl inside ↦ omega (arith, is.inside axis inside) | inr behind ↦ omega (arith, is.rest axis behind) ]

all_moved : (bound : ℕ) (pos ds : List ℕ) → All (λ d. d ≤ 1) ds → ((i : ℕ) → i < length ds → get_or pos i 0 < bound) → ((i : ℕ) → get_or pos i 0 ≤ bound) → All (λ x. x ≤ bound) (moved pos ds)
all_moved bound [] ds small inside whole = λ k d below. absurd (omega arith)
all_moved bound (x ∷ pos) [] small inside whole = All-from_get_or (λ y. y ≤ bound) (x ∷ pos) 0 (λ i below. whole i)
all_moved bound (x ∷ pos) (d ∷ ds) small inside whole =
    All-cons (λ y. y ≤ bound) (x + d) (moved pos ds) (omega (arith, small 0 0 (omega arith), inside 0 (omega arith)))
    (all_moved bound pos ds (λ k e below. small (suc k) e (omega arith)) (λ i below. inside (suc i) (omega arith)) (λ i. whole (suc i)))

small_bits : (axes k : ℕ) → All (λ d. d ≤ 1) (bits axes k)
small_bits axes k = All-from_get_or (λ d. d ≤ 1) (bits axes k) 0 (λ i below.
    let axis = λ (j : ℕ). k / 2 ^ j % 2 in
    let here = get_or-map axis (range_with_len 0 axes) i 0 0 (omega (arith, below, length-map (range_with_len 0 axes) axis)) in
    omega (arith, here, mod-lt (k / 2 ^ get_or (range_with_len 0 axes) i 0) {m = 2} (omega arith)))

-- a cell of level 1 or more
pub cell_below_root : (axes : ℕ) (cell : Place) → IsCellPlace axes cell → 1 ≤ cell.level → IsBelowRoot cell
cell_below_root axes cell is deep = record {
  deep = deep;
  level = is.level;
  pos = All-from_get_or (λ x. x ≤ 3 ^ cell.level) cell.pos 0 (λ axis below. position_within axes (3 ^ cell.level) cell.pos axis is.pos);
}

-- and each of its corners
pub corner_below_root : (axes : ℕ) (cell : Place) (k : ℕ) → IsCellPlace axes cell → 1 ≤ cell.level → IsBelowRoot (corner axes cell k)
corner_below_root axes cell k is deep = record {
  deep = deep;
  level = is.level;
  pos = all_moved (3 ^ cell.level) cell.pos (bits axes k) (small_bits axes k)
      (λ axis below. is.pos.inside axis (omega (arith, below, length-map-range_with_len (λ j. k / 2 ^ j % 2) 0 axes)))
      (λ axis. position_within axes (3 ^ cell.level) cell.pos axis is.pos);
}
