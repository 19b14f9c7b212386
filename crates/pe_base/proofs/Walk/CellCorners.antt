-- The corners of a cell are different places, and its slots different slots.
use Rattle.std.proofs.Common.{◌≡◌, ℕ, zero, suc, ◌+◌, ◌/◌, ◌%◌, ◌^◌, ◌<◌, ◌≤◌, ◌≢◌, false, List, [], ◌∷◌, length, refl, sym, ◌∙◌, inl, inr, arith}
use Rattle.std.proofs.lemmas.Bool.{cases_Bool}
use Rattle.pe_base.specs.declared.place.Place.{Place}
use Rattle.pe_base.specs.Tree.Places.{corner, bits, moved, is_same}
use Rattle.pe_base.proofs.Tree.PlaceLaws.{bits-suc, length-bits}
use Rattle.pe_base.proofs.Tree.Ranks.{is_same-true}

halves : (n axes : ℕ) → n < 2 ^ suc axes → n / 2 < 2 ^ axes
halves n axes h = omega (arith, h)

-- a number below 2^n is known by n bits
pub same_bits : (axes k j : ℕ) → k < 2 ^ axes → j < 2 ^ axes → bits axes k ≡ bits axes j → k ≡ j
same_bits zero k j hk hj e = omega (arith, hk, hj)
same_bits (suc axes) k j hk hj e =
    let split : k % 2 ∷ bits axes (k / 2) ≡ j % 2 ∷ bits axes (j / 2) = sym (bits-suc axes k) ∙ e ∙ bits-suc axes j in
    let low : k % 2 ≡ j % 2 = cc in
    let tail : bits axes (k / 2) ≡ bits axes (j / 2) = cc in
    let high : k / 2 ≡ j / 2 = same_bits axes (k / 2) (j / 2) (halves k axes hk) (halves j axes hj) tail in
    omega arith

-- a position is moved to different places by different steps
moved_apart : (xs bs cs : List ℕ) → length bs ≤ length xs → length bs ≡ length cs → moved xs bs ≡ moved xs cs → bs ≡ cs
moved_apart [] [] [] h k e = refl
moved_apart [] (b ∷ bs) cs h k e = absurd (omega arith)
moved_apart [] [] (c ∷ cs) h k e = absurd (omega arith)
moved_apart (x ∷ xs) [] [] h k e = refl
moved_apart (x ∷ xs) [] (c ∷ cs) h k e = absurd (omega arith)
moved_apart (x ∷ xs) (b ∷ bs) [] h k e = absurd (omega arith)
moved_apart (x ∷ xs) (b ∷ bs) (c ∷ cs) h k e =
    let first : x + b ≡ x + c = cc in
    let same : b ≡ c = omega arith in
    let rest : moved xs bs ≡ moved xs cs = cc in
    let others : bs ≡ cs = moved_apart xs bs cs (omega arith) (omega arith) rest in
    cc

-- two corners of a cell are two places
pub corners_apart : (axes : ℕ) (cell : Place) (k j : ℕ) → axes ≤ length cell.pos → k < 2 ^ axes → j < 2 ^ axes → k ≢ j → is_same (corner axes cell k) (corner axes cell j) ≡ false
corners_apart axes cell k j four hk hj other =
    elim (cases_Bool (is_same (corner axes cell k) (corner axes cell j))) [
      | inl t ↦ absurd (other (same_bits axes k j hk hj (moved_apart cell.pos (bits axes k) (bits axes j) (omega (arith, four, length-bits axes k)) (length-bits axes k ∙ sym (length-bits axes j)) (is_same-true (corner axes cell k) (corner axes cell j) t).1)))
      | inr f ↦ f
    ]
