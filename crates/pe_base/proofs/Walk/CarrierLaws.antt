-- The carriers of a corner of a cell are corners of the cell's parent.
use Rattle.std.specs.List.{AllByRecursion as Each}
use Rattle.std.proofs.Common.{◌≡◌, ℕ, zero, suc, ◌+◌, ◌*◌, ◌/◌, ◌%◌, ◌-◌, ◌^◌, ◌<◌, ◌≤◌, Bool, true, false, ◌==◌, List, [], ◌∷◌, map, length, slice_index, refl, sym, ap, subst, ◌∙◌, inl, inr, arith, if◌then◌else◌}
use Rattle.std.proofs.lemmas.Bool.{eqb-true, eqb-false, cases_lt}
use Rattle.pe_base.specs.declared.place.Place.{Place}
use Rattle.pe_base.specs.Tree.Places.{corner, bits, moved, parent_of, number_of}
use Rattle.pe_base.specs.Life.Carriers.{thirds, carrier_positions, carriers}
use Rattle.pe_base.specs.Walk.Laws.{IsCornerOf, CarriersAreParents}
use Rattle.pe_base.proofs.Lists.{Each-weaker, Each-map, Each-flat_map}
use Rattle.pe_base.proofs.Tree.PlaceLaws.{bits-suc, moved-none}
use Rattle.pe_base.proofs.Tree.Corners.{IsBits, bits_in}

-- the thirds of a corner's coordinate are the third of the cell's, or one more
abbrev AtThird : ℕ → ℕ → Type 0
AtThird x y = (e : ℕ) × (e < 2) × (y ≡ x / 3 + e)

thirds_if : (x b : ℕ) (t : Bool) → b < 2 → ((x + b) % 3 == 0) ≡ t → Each (AtThird x) (if t then ((x + b) / 3) ∷ [] else ((x + b) / 3) ∷ ((x + b) / 3 + 1) ∷ [])
thirds_if x b true h e = let even : (x + b) % 3 ≡ 0 = eqb-true ((x + b) % 3) 0 e in (((x + b) / 3 - x / 3, omega arith, omega arith), tt)
thirds_if x b false h e =
    let odd = eqb-false ((x + b) % 3) 0 e in
    let same : (x + b) / 3 ≡ x / 3 = elim (cases_lt ((x + b) / 3) (x / 3 + 1)) [ inl near ↦ omega arith | inr far ↦ absurd (odd (omega arith)) ] in
    ((0, omega arith, omega arith), ((1, omega arith, omega arith), tt))

Each-thirds : (x b : ℕ) → b < 2 → Each (AtThird x) (thirds (x + b))
Each-thirds x b h = thirds_if x b ((x + b) % 3 == 0) h refl

-- from some axis on all coordinates are 0
abbrev pub IsZeroFrom : ℕ → List ℕ → Type 0
IsZeroFrom zero xs = Each (λ x. x ≡ 0) xs
IsZeroFrom (suc n) [] = Unit {0}
IsZeroFrom (suc n) (x ∷ xs) = IsZeroFrom n xs

-- a position at the corner of another
abbrev IsMoved : ℕ → List ℕ → List ℕ → Type 0
IsMoved n xs pos = (cs : List ℕ) × IsBits n cs × (pos ≡ moved (map (λ x. x / 3) xs) cs)

carriers_off : (xs : List ℕ) → Each (λ x. x ≡ 0) xs → Each (IsMoved 0 xs) (carrier_positions xs)
carriers_off [] zeros = (([], tt, refl), tt)
carriers_off (x ∷ xs) zeros =
    subst (λ z. Each (IsMoved 0 (z ∷ xs)) (carrier_positions (z ∷ xs))) (sym zeros.0)
    (Each-flat_map (IsMoved 0 (0 ∷ xs)) (λ y. map (λ ys. y ∷ ys) (carrier_positions xs)) (thirds 0) (
      Each-map (IsMoved 0 (0 ∷ xs)) (λ ys. 0 ∷ ys) (carrier_positions xs)
          (Each-weaker (IsMoved 0 xs) (λ ys. IsMoved 0 (0 ∷ xs) (0 ∷ ys)) (behind_zero xs) (carrier_positions xs) (carriers_off xs zeros.1)),
      tt,
    ))
  where
    no_bits : (cs : List ℕ) → IsBits 0 cs → cs ≡ []
    no_bits [] h = refl
    no_bits (c ∷ cs) h = absurd (omega arith)

    behind_zero : (xs ys : List ℕ) → IsMoved 0 xs ys → IsMoved 0 (0 ∷ xs) (0 ∷ ys)
    behind_zero xs ys at = ([], tt, ap (λ zs. 0 ∷ zs) (at.2 ∙ ap (moved (map (λ x. x / 3) xs)) (no_bits at.0 at.1) ∙ moved-none (map (λ x. x / 3) xs)))

carriers_at : (n : ℕ) (xs bs : List ℕ) → n ≤ length xs → IsBits n bs → IsZeroFrom n xs → Each (IsMoved n xs) (carrier_positions (moved xs bs))
carriers_at zero [] [] h bits zeros = carriers_off [] zeros
carriers_at zero (x ∷ xs) [] h bits zeros = carriers_off (x ∷ xs) zeros
carriers_at zero xs (b ∷ bs) h bits zeros = absurd (omega arith)
carriers_at (suc n) [] bs h bits zeros = absurd (omega arith)
carriers_at (suc n) (x ∷ xs) [] h bits zeros = absurd (omega arith)
carriers_at (suc n) (x ∷ xs) (b ∷ bs) h bits zeros =
    Each-flat_map (IsMoved (suc n) (x ∷ xs)) (λ y. map (λ ys. y ∷ ys) (carrier_positions (moved xs bs))) (thirds (x + b))
    (Each-weaker (AtThird x) (λ y. Each (IsMoved (suc n) (x ∷ xs)) (map (λ ys. y ∷ ys) (carrier_positions (moved xs bs))))
    (λ y near. Each-map (IsMoved (suc n) (x ∷ xs)) (λ ys. y ∷ ys) (carrier_positions (moved xs bs))
    (Each-weaker (IsMoved n xs) (λ ys. IsMoved (suc n) (x ∷ xs) (y ∷ ys)) (λ ys at. joined y ys near at) (carrier_positions (moved xs bs))
    (carriers_at n xs bs (omega arith) bits.1 zeros)))
    (thirds (x + b)) (Each-thirds x b bits.0))
  where
    joined : (y : ℕ) (ys : List ℕ) → AtThird x y → IsMoved n xs ys → IsMoved (suc n) (x ∷ xs) (y ∷ ys)
    joined y ys near at = (near.0 ∷ at.0, (near.1, at.1), ap (λ z. z ∷ ys) near.2 ∙ ap (λ zs. (x / 3 + near.0) ∷ zs) at.2)

pub number_of-below : (n : ℕ) (bs : List ℕ) → IsBits n bs → number_of bs < 2 ^ n
number_of-below zero [] h = omega arith
number_of-below zero (b ∷ bs) h = absurd (omega arith)
number_of-below (suc n) [] h = absurd (omega arith)
number_of-below (suc n) (b ∷ bs) h = let rest = number_of-below n bs h.1 in omega (arith, h.0, rest)

pub bits-number_of : (n : ℕ) (bs : List ℕ) → IsBits n bs → bits n (number_of bs) ≡ bs
bits-number_of zero [] h = refl
bits-number_of zero (b ∷ bs) h = absurd (omega arith)
bits-number_of (suc n) [] h = absurd (omega arith)
bits-number_of (suc n) (b ∷ bs) h =
    let low : (b + 2 * number_of bs) % 2 ≡ b = omega (arith, h.0) in
    let high : (b + 2 * number_of bs) / 2 ≡ number_of bs = omega (arith, h.0) in
    bits-suc n (b + 2 * number_of bs) ∙ ap (λ z. z ∷ bits n ((b + 2 * number_of bs) / 2)) low ∙ ap (λ z. b ∷ bits n z) high
    ∙ ap (λ zs. b ∷ zs) (bits-number_of n bs h.1)

-- The carriers of a corner of a cell are corners of its parent.
pub carriers-corner : (axes : ℕ) (cell : Place) (k : ℕ) → axes ≤ 4 → k < 2 ^ axes → axes ≤ length cell.pos → IsZeroFrom axes cell.pos
    → Each (IsCornerOf axes (parent_of cell)) (carriers (corner axes cell k))
carriers-corner axes cell k four h long zeros =
    Each-map (IsCornerOf axes (parent_of cell)) (λ pos. record { level = cell.level - 1; pos = pos }) (carrier_positions (moved cell.pos (bits axes k)))
    (Each-weaker (IsMoved axes cell.pos) (λ pos. IsCornerOf axes (parent_of cell) (record { level = cell.level - 1; pos = pos })) found
    (carrier_positions (moved cell.pos (bits axes k))) (carriers_at axes cell.pos (bits axes k) long (bits_in axes k four h) zeros))
  where
    found : (pos : List ℕ) → IsMoved axes cell.pos pos → IsCornerOf axes (parent_of cell) (record { level = cell.level - 1; pos = pos })
    found pos at = (
      number_of at.0,
      number_of-below axes at.0 at.1,
      ap (λ zs. let v : Place = record { level = cell.level - 1; pos = zs } in v)
          (at.2 ∙ ap (moved (map (λ x. x / 3) cell.pos)) (sym (bits-number_of axes at.0 at.1))),
    )

zero_from : (n : ℕ) (xs : List ℕ) → ((i : ℕ) → n ≤ i → slice_index xs i ≡ 0) → IsZeroFrom n xs
zero_from zero [] h = tt
zero_from zero (x ∷ xs) h = (h 0 (omega arith), zero_from zero xs (λ i from. h (suc i) (omega arith)))
zero_from (suc n) [] h = tt
zero_from (suc n) (x ∷ xs) h = zero_from n xs (λ i from. h (suc i) (omega arith))

pub carriers_are_parents : CarriersAreParents
carriers_are_parents axes cell k dim h at =
    carriers-corner axes cell k dim.1 h (omega (arith, dim.1, at.four)) (zero_from axes cell.pos at.rest)
