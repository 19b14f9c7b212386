-- Ages along one axis, along which corners stand in runs of a width, near side and far side in turn.
use Rattle.std.specs.Prelude.{◌≡◌, ℕ, ◌+◌, ◌-◌, ◌*◌, ◌/◌, ◌%◌, ◌<◌, Bool, ◌&&◌, ◌||◌, ◌==◌, nat_lt, nat_le, List, [], ◌∷◌, take, if◌then◌else◌}
use Rattle.std.specs.Int.{bit_at}
use Rattle.std.specs.List.{list_any, list_all, range_with_len}
use Rattle.pe_base.specs.declared.place.Digits.{Digits}
use Rattle.pe_base.specs.Life.Carriers.{thirds}
use Rattle.pe_states.specs.Ages.{has_bit}

-- bit n of a number that has the bits of the near side only, and its bit a width before
abbrev pub is_near_at : ℕ → ℕ → ℕ → Bool
is_near_at width near n =
    if n / width % 2 == 0
    then bit_at near n == 1 && (nat_lt n width || bit_at near (n - width) == 0)
    else bit_at near n == 0 && nat_le width n && bit_at near (n - width) == 1

-- a number has the bits of the near side and no others, for a width of runs that fill 32 bits
abbrev pub are_near : ℕ → ℕ → Bool
are_near width near = nat_lt 0 width && nat_lt width 16 && 32 % (2 * width) == 0 && list_all (is_near_at width near) (range_with_len 0 32)

-- the corner of a side, with `low` for the axes before and `high` for those behind
abbrev pub on_side : ℕ → ℕ → ℕ → ℕ → ℕ
on_side width low high side = low + width * side + 2 * width * high

-- ages of a child's corners along an axis, by those of its parent's
abbrev pub IsSpread : ℕ → ℕ → ℕ → ℕ → Type 0
IsSpread width digit ages ages' =
    (low high side : ℕ) → low < width → side < 2
    → has_bit ages' (on_side width low high side) ≡ list_any (λ s. has_bit ages (on_side width low high s)) (thirds (digit + side))

-- ages along several axes in turn, the first of which has runs of this width
abbrev pub AreSpread : ℕ → List ℕ → ℕ → ℕ → Type 0
AreSpread width [] ages ages' = ages' ≡ ages
AreSpread width (k ∷ ks) ages ages' = (between : ℕ) × IsSpread width k ages between × AreSpread (2 * width) ks between ages'

-- the ages of a row of three children, along all axes but the last
abbrev pub IsRow : ℕ → Digits → ℕ → ℕ → Type 0
IsRow axes digits ages row = AreSpread 1 (take (axes - 1) digits.k) ages row

-- strictly between the parent's sides
abbrev pub is_between : ℕ → Bool
is_between x = nat_lt 0 x && nat_lt x 3

-- ages that stay where a corner is strictly between the parent's sides
abbrev pub IsTrimmed : ℕ → ℕ → ℕ → ℕ → Type 0
IsTrimmed width digit ages ages' =
    (low high side : ℕ) → low < width → side < 2 → on_side width low high side < 32
    → has_bit ages' (on_side width low high side) ≡ (has_bit ages (on_side width low high side) && is_between (digit + side))
