-- One turn of the loops that compute the definitions.
use Rattle.std.proofs.Common.{◌≡◌, ℕ, zero, suc, ◌+◌, ◌-◌, ◌^◌, ◌<◌, ◌≤◌, Bool, false, ◌||◌, List, [], ◌∷◌, ◌++◌, length, take, drop, get_or, reverse, refl, ap, ◌∙◌, arith}
use Rattle.std.specs.Prelude.{slice_get, Some}
use Rattle.std.specs.List.{flat_map, list_any}
use Rattle.std.proofs.Math.Nat.{pow-le-pow_right}
use Rattle.std.proofs.lemmas.List.{take_more, take_all}
use Rattle.std.proofs.lemmas.Option.{slice_get_within, get_or_from_slice_get}
use Rattle.pe_base.specs.declared.place.Place.{Place}
use Rattle.pe_base.specs.declared.way.Way.{Way}
use Rattle.pe_base.specs.Tree.Curve.{children}
use Rattle.pe_base.specs.Steps.Around.{steps}
use Rattle.pe_base.specs.Steps.Faces.{corner_touches, loads, stores}
use Rattle.pe_base.proofs.Tree.CurveLaws.{length-children}

-- the steps from an item on begin with the step to the next
any_from : {X : Type 0} (test : X × X → Bool) (xs : List X) (i : ℕ) (d : X) → suc i < length xs
    → list_any test (steps (drop i xs)) ≡ (test (get_or xs i d, get_or xs (suc i) d) || list_any test (steps (drop (suc i) xs)))
any_from test [] i d h = absurd (omega arith)
any_from test (x ∷ []) i d h = absurd (omega arith)
any_from test (x ∷ y ∷ xs) zero d h = refl
any_from test (x ∷ y ∷ xs) (suc i) d h = any_from test (y ∷ xs) i d (omega arith)

pub any_step : {X : Type 0} (test : X × X → Bool) (xs : List X) (i j : ℕ) (d : X) → j ≡ suc i → j < length xs
    → list_any test (steps (drop i xs)) ≡ (test (get_or xs i d, get_or xs j d) || list_any test (steps (drop j xs)))
any_step test xs i j d e h = rw e (any_from test xs i d (omega arith))

-- the last item begins no step
pub any_last : {X : Type 0} (test : X × X → Bool) (xs : List X) (i : ℕ) → length xs ≤ suc i → list_any test (steps (drop i xs)) ≡ false
any_last test [] zero h = refl
any_last test [] (suc i) h = refl
any_last test (x ∷ []) zero h = refl
any_last test (x ∷ []) (suc zero) h = refl
any_last test (x ∷ []) (suc (suc i)) h = refl
any_last test (x ∷ y ∷ xs) zero h = absurd (omega arith)
any_last test (x ∷ y ∷ xs) (suc i) h = any_last test (y ∷ xs) i (omega arith)

-- the width of a level fits
pub width_fits : (level : ℕ) → level ≤ 20 → 3 ^ level < 18446744073709551616
width_fits level h = omega (arith, pow-le-pow_right {n = 3} (omega arith) {i = level} {j = 20} h)

-- one more child
pub child_more : (axes : ℕ) (way : Way) (cell child : Place) (n : ℕ) → slice_get (children axes way cell) n ≡ Some child → take (n + 1) (children axes way cell) ≡ take n (children axes way cell) ++ child ∷ []
child_more axes way cell child n e =
    take_more (children axes way cell) n child (slice_get_within (children axes way cell) n child e)
    ∙ ap (λ c. take n (children axes way cell) ++ c ∷ []) (get_or_from_slice_get (children axes way cell) n child child e)

pub child_all : (axes : ℕ) (way : Way) (cell : Place) (n : ℕ) → 3 ^ axes ≤ n → take n (children axes way cell) ≡ children axes way cell
child_all axes way cell n h = take_all n (children axes way cell) (omega (arith, length-children axes way cell))

-- the loads and stores of a cell with levels below it
pub loads_more : (axes : ℕ) (way : Way) (levels : ℕ) (cell : Place) → 0 < levels → loads axes way levels cell ≡ reverse (corner_touches axes cell) ++ flat_map (loads axes way (levels - 1)) (children axes way cell)
loads_more axes way zero cell h = absurd (omega arith)
loads_more axes way (suc levels) cell h = let e : levels ≡ suc levels - 1 = omega arith in ap (λ l. reverse (corner_touches axes cell) ++ flat_map (loads axes way l) (children axes way cell)) e

pub stores_more : (axes : ℕ) (way : Way) (levels : ℕ) (cell : Place) → 0 < levels → stores axes way levels cell ≡ flat_map (stores axes way (levels - 1)) (children axes way cell) ++ corner_touches axes cell
stores_more axes way zero cell h = absurd (omega arith)
stores_more axes way (suc levels) cell h = let e : levels ≡ suc levels - 1 = omega arith in ap (λ l. flat_map (stores axes way l) (children axes way cell) ++ corner_touches axes cell) e
