-- The ages of a cell's corners.
--
--     bit k          corner k is old
--     bit 16 + k     corner k is new
use Rattle.std.specs.Prelude.{ℕ, ◌+◌, Bool, ◌==◌, not, ◌&&◌}
use Rattle.std.specs.Int.{bit_at}
use Rattle.std.specs.List.{list_any}
use Rattle.pe_base.specs.declared.place.Digits.{Digits}
use Rattle.pe_base.specs.Tree.Places.{root, child_at, corner}
use Rattle.pe_base.specs.Life.Kinds.{is_inside}
use Rattle.pe_states.specs.Carriers.{carrier_numbers}

-- bit k is set
abbrev pub has_bit : ℕ → ℕ → Bool
has_bit ages k = bit_at ages k == 1

abbrev pub is_old_at : ℕ → ℕ → Bool
is_old_at ages k = has_bit ages k

abbrev pub is_new_at : ℕ → ℕ → Bool
is_new_at ages k = has_bit ages (16 + k)

-- corner k of the child at these digits has a carrier that passes a test
abbrev pub some_carrier : ℕ → Digits → ℕ → (ℕ → Bool) → Bool
some_carrier axes digits k test = list_any test (carrier_numbers axes digits k)

-- corner k of the cell of level 1 at these digits is old, and is new
abbrev pub is_first_old : ℕ → Digits → ℕ → ℕ → Bool
is_first_old axes digits traversal k = is_inside axes (corner axes (child_at root digits) k) && not (traversal == 1)

abbrev pub is_first_new : ℕ → Digits → ℕ → Bool
is_first_new axes digits k = is_inside axes (corner axes (child_at root digits) k)
