-- Laws of positions and bits.
use Rattle.std.proofs.Common.{◌≡◌, ℕ, pow-suc, add-one, subst, zero, suc, div-one, ◌+◌, ◌-◌, ◌*◌, ◌/◌, ◌%◌, ◌^◌, ◌<◌, ◌≤◌, List, [], ◌∷◌, map, length, get_or, sym, ap, ◌∙◌, refl, inl, inr, arith}
use Rattle.std.proofs.Math.Nat.{one-le-pow, pow-le-pow_right}
use Rattle.std.specs.Prelude.{All, replicate, slice_index}
use Rattle.std.specs.List.{range_with_len}
use Rattle.std.proofs.lemmas.List.{length-append, length-replicate, get_or_append_left, get_or-append_right, get_or-replicate, get_or_past}
use Rattle.std.proofs.lemmas.List.FromFn.{length-map-range_with_len, get_or-map-range_with_len}
use Rattle.std.proofs.lemmas.Bool.{cases_lt}
use Rattle.std.proofs.lemmas.Nat.{shr-shr}
use Rattle.pe_base.specs.declared.place.Place.{Place}
use Rattle.pe_base.specs.declared.place.Digits.{Digits}
use Rattle.pe_base.specs.Limits.{most_levels}
use Rattle.pe_base.specs.Tree.Places.{IsPosition, IsCellPlace, IsDigits, padded, finer, child_at, bits, moved}

-- the padding is 0 everywhere
pub zeros : (n i : ℕ) → slice_index (replicate n 0) i ≡ 0
zeros n i = elim (cases_lt i n) [ inl h ↦ get_or-replicate n i 0 0 h | inr h ↦ get_or_past (replicate n 0) i 0 (omega (arith, length-replicate {A = ℕ} n 0)) ]

-- padding makes a position of numbers below a bound
pub IsPosition-padded : (axes bound : ℕ) (xs : List ℕ) → length xs ≡ axes → axes ≤ 4 → All (λ x. x < bound) xs → IsPosition axes bound (padded xs)
IsPosition-padded axes bound xs len within below = record {
  four = length-append xs (replicate (4 - length xs) 0) ∙ omega (arith, length-replicate {A = ℕ} (4 - length xs) 0);
  inside = λ axis h.
      let inside : axis < length xs = omega arith in
      rw (get_or_append_left xs (replicate (4 - length xs) 0) 0 axis inside) (below axis 0 inside);
  rest = λ axis h.
      let past : length xs ≤ axis = omega arith in
      get_or-append_right xs (replicate (4 - length xs) 0) (length xs) axis 0 refl past ∙ zeros (4 - length xs) (axis - length xs);
}

pub length-bits : (axes n : ℕ) → length (bits axes n) ≡ axes
length-bits axes n = length-map-range_with_len (λ axis. n / 2 ^ axis % 2) 0 axes

pub get_or-bits : (axes n axis d : ℕ) → axis < axes → get_or (bits axes n) axis d ≡ n / 2 ^ axis % 2
get_or-bits axes n axis d h = get_or-map-range_with_len (λ i. n / 2 ^ i % 2) 0 axes axis axis d h (omega arith)

bits-shift : (f n a b : ℕ) → b ≡ a + 1 → map (λ axis. f / 2 ^ axis % 2) (range_with_len b n) ≡ map (λ axis. f / 2 / 2 ^ axis % 2) (range_with_len a n)
bits-shift f zero a b e = refl
bits-shift f (suc n) a b e =
    let head : f / 2 ^ b % 2 ≡ f / 2 / 2 ^ a % 2 = ap (λ (q : ℕ). q % 2) (ap (λ (i : ℕ). f / 2 ^ i) (omega arith) ∙ sym (shr-shr f 1 a)) in
    let tail : map (λ axis. f / 2 ^ axis % 2) (range_with_len (b + 1) n) ≡ map (λ axis. f / 2 / 2 ^ axis % 2) (range_with_len (a + 1) n) = bits-shift f n (a + 1) (b + 1) (omega arith) in
    cc

-- the lowest bit, and the bits of the half
pub bits-suc : (axes n : ℕ) → bits (suc axes) n ≡ (n % 2) ∷ bits axes (n / 2)
bits-suc axes n =
    let head : n / 2 ^ 0 % 2 ≡ n % 2 = ap (λ (q : ℕ). q % 2) (div-one n) in
    let tail : map (λ axis. n / 2 ^ axis % 2) (range_with_len 1 axes) ≡ bits axes (n / 2) = bits-shift n axes 0 1 (omega arith) in
    cc

-- a position is its four numbers
pub four : (xs : List ℕ) → length xs ≡ 4 → xs ≡ slice_index xs 0 ∷ slice_index xs 1 ∷ slice_index xs 2 ∷ slice_index xs 3 ∷ []
four [] e = absurd (omega arith)
four (x ∷ []) e = absurd (omega arith)
four (x ∷ y ∷ []) e = absurd (omega arith)
four (x ∷ y ∷ z ∷ []) e = absurd (omega arith)
four (x ∷ y ∷ z ∷ w ∷ []) e = refl
four (x ∷ y ∷ z ∷ w ∷ v ∷ rest) e = absurd (omega arith)

-- on the grid's axes and off them
pub IsPosition-below : (axes bound : ℕ) (pos : List ℕ) → 0 < bound → IsPosition axes bound pos → (axis : ℕ) → slice_index pos axis < bound
IsPosition-below axes bound pos positive h axis =
    elim (cases_lt axis axes) [ inl within ↦ h.inside axis within | inr past ↦ omega (arith, h.rest axis past) ]

-- no coordinate of a cell is above those of level 20
pub cell_coordinate_below : (axes : ℕ) (place : Place) → IsCellPlace axes place → (axis : ℕ) → slice_index place.pos axis < 3 ^ 20
cell_coordinate_below axes place h axis =
    omega (arith, IsPosition-below axes (3 ^ place.level) place.pos (one-le-pow place.level 3 (omega arith)) h.pos axis, pow-le-pow_right {n = 3} (omega arith) {i = place.level} {j = 20} h.level)

pub digit_below : (axes : ℕ) (digits : Digits) → IsDigits axes digits → (axis : ℕ) → slice_index digits.k axis < 3
digit_below axes digits h axis = IsPosition-below axes 3 digits.k (omega arith) h axis

-- a cell has at most sixteen corners
pub few_corners : (axes : ℕ) → axes ≤ 4 → 2 ^ axes ≤ 16
few_corners axes high = pow-le-pow_right (omega arith) high

-- moved nowhere
pub moved-none : (pos : List ℕ) → moved pos [] ≡ pos
moved-none [] = refl
moved-none (x ∷ pos) = refl

pub length-finer : (xs ks : List ℕ) → length xs ≡ length ks → length (finer xs ks) ≡ length xs
length-finer [] ks e = refl
length-finer (x ∷ xs) [] e = absurd (omega arith)
length-finer (x ∷ xs) (k ∷ ks) e = ap suc (length-finer xs ks (omega arith))

pub finer-zeros : (n : ℕ) → finer (replicate n 0) (replicate n 0) ≡ replicate n 0
finer-zeros zero = refl
finer-zeros (suc n) = ap (λ ys. 0 ∷ ys) (finer-zeros n)

pub slice_index-finer : (xs ks : List ℕ) (axis : ℕ) → length xs ≡ length ks → slice_index (finer xs ks) axis ≡ 3 * slice_index xs axis + slice_index ks axis
slice_index-finer [] [] axis e = refl
slice_index-finer [] (k ∷ ks) axis e = absurd (omega arith)
slice_index-finer (x ∷ xs) [] axis e = absurd (omega arith)
slice_index-finer (x ∷ xs) (k ∷ ks) zero e = refl
slice_index-finer (x ∷ xs) (k ∷ ks) (suc axis) e = slice_index-finer xs ks axis (omega arith)

pub IsPosition-finer : (axes bound : ℕ) (pos ks : List ℕ) → IsPosition axes bound pos → IsPosition axes 3 ks → IsPosition axes (3 * bound) (finer pos ks)
IsPosition-finer axes bound pos ks h d =
    let same : length pos ≡ length ks = omega (arith, h.four, d.four) in record {
      four = length-finer pos ks same ∙ h.four;
      inside = λ axis within. omega (arith, slice_index-finer pos ks axis same, h.inside axis within, d.inside axis within);
      rest = λ axis past. omega (arith, slice_index-finer pos ks axis same, h.rest axis past, d.rest axis past);
    }

-- a child's place is a cell's place
pub IsCellPlace-child_at : (axes : ℕ) (parent : Place) (digits : Digits) → IsCellPlace axes parent → parent.level < most_levels → IsDigits axes digits → IsCellPlace axes (child_at parent digits)
IsCellPlace-child_at axes parent digits h level d = record {
  level = omega arith;
  pos =
      let bound : 3 * 3 ^ parent.level ≡ 3 ^ (parent.level + 1) = omega (arith, pow-suc 3 parent.level, ap (λ (l : ℕ). 3 ^ l) (add-one parent.level)) in
      let P : ℕ → Type 0 = λ bound. IsPosition axes bound (finer parent.pos digits.k) in
      subst P bound (IsPosition-finer axes (3 ^ parent.level) parent.pos digits.k h.pos d);
}
