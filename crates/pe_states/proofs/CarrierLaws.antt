-- The carriers of a child's corners among the parent's corners.
use Rattle.std.proofs.Common.{◌≡◌, ℕ, zero, suc, ◌+◌, ◌-◌, ◌*◌, ◌/◌, ◌%◌, ◌^◌, ◌<◌, ◌≤◌, List, [], ◌∷◌, ◌++◌, map, take, length, refl, sym, ap, ap₂, ◌∙◌, subst, arith, Bool, true}
use Rattle.std.specs.Prelude.{◌==◌, replicate}
use Rattle.std.specs.List.{flat_map, list_any, AllByRecursion as Each}
use Rattle.std.proofs.lemmas.Bool.{eq-eqb, ne_eqb, cond-true, cond-false, cond_both}
use Rattle.std.proofs.lemmas.List.Folds.{flat_map-map}
use Rattle.pe_base.specs.declared.place.Place.{Place}
use Rattle.pe_base.specs.declared.place.Digits.{Digits}
use Rattle.pe_base.specs.Tree.Places.{IsCellPlace, IsDigits, bits, moved, finer, child_at, corner, number_of}
use Rattle.pe_base.specs.Life.Carriers.{thirds, carrier_positions, carriers}
use Rattle.pe_base.proofs.Lists.{Each-map, Each-flat_map, Each-all, Each-weaker, map-map, map_same, flat_map_same, map-flat_map, list_any_same}
use Rattle.pe_base.proofs.Steps.RouteLaws.{Below, Below-front, length-front, padded-front}
use Rattle.pe_base.proofs.Tree.PlaceLaws.{length-bits}
use Rattle.pe_base.proofs.Tree.Corners.{IsBits}
use Rattle.pe_base.proofs.Walk.CarrierLaws.{bits-number_of, number_of-below}
use Rattle.pe_states.specs.Carriers.{carrier_numbers, place_in_parent}
use Rattle.pe_states.specs.Ages.{some_carrier}
use Rattle.pe_base.proofs.Tests.{any_same, any_map, any_flat_map}
use Rattle.pe_states.proofs.Numbers.{IsBits-bits}

-- a position on both levels, and one between
one_third : (x q : ℕ) → x % 3 ≡ 0 → x / 3 ≡ q → thirds x ≡ q ∷ []
one_third x q h e = cond-true (x % 3 == 0) _ _ (eq-eqb (x % 3) 0 h) ∙ ap (λ (y : ℕ). y ∷ []) e

two_thirds : (x q : ℕ) → (x % 3 ≡ 0 → ⊥) → x / 3 ≡ q → thirds x ≡ q ∷ (q + 1) ∷ []
two_thirds x q h e = cond-false (x % 3 == 0) _ _ (ne_eqb (x % 3) 0 h) ∙ ap (λ (y : ℕ). y ∷ (y + 1) ∷ []) e

-- along one axis, within the parent
thirds_within : (x t : ℕ) → t < 4 → thirds (3 * x + t) ≡ map (λ y. x + y) (thirds t)
thirds_within x zero h = one_third (3 * x + 0) (x + 0) (omega arith) (omega arith)
thirds_within x (suc zero) h = two_thirds (3 * x + 1) x (λ e. omega arith) (omega arith) ∙ ap (λ (y : ℕ). y ∷ (x + 1) ∷ []) (omega arith)
thirds_within x (suc (suc zero)) h = two_thirds (3 * x + 2) x (λ e. omega arith) (omega arith) ∙ ap (λ (y : ℕ). y ∷ (x + 1) ∷ []) (omega arith)
thirds_within x (suc (suc (suc zero))) h = one_third (3 * x + 3) (x + 1) (omega arith) (omega arith)
thirds_within x (suc (suc (suc (suc t)))) h = absurd (omega arith)

thirds_small : (t : ℕ) → t < 4 → Each (λ y. y < 2) (thirds t)
thirds_small zero h = (omega arith, tt)
thirds_small (suc zero) h = (omega arith, (omega arith, tt))
thirds_small (suc (suc zero)) h = (omega arith, (omega arith, tt))
thirds_small (suc (suc (suc zero))) h = (omega arith, tt)
thirds_small (suc (suc (suc (suc t)))) h = absurd (omega arith)

-- on all axes, within the parent
length-finer : (xs ks : List ℕ) → length ks ≡ length xs → length (finer xs ks) ≡ length xs
length-finer [] [] e = refl
length-finer [] (k ∷ ks) e = absurd (omega arith)
length-finer (x ∷ xs) [] e = absurd (omega arith)
length-finer (x ∷ xs) (k ∷ ks) e = (let rest = length-finer xs ks (omega arith) in omega arith)

within : (xs ks bs : List ℕ) → length ks ≡ length xs → length bs ≡ length xs → Below 3 ks → IsBits (length bs) bs
    → carrier_positions (moved (finer xs ks) bs) ≡ map (moved xs) (carrier_positions (moved ks bs))
within [] [] [] e f digits sides = refl
within [] (k ∷ ks) bs e f digits sides = absurd (omega arith)
within [] ks (b ∷ bs) e f digits sides = absurd (omega arith)
within (x ∷ xs) [] bs e f digits sides = absurd (omega arith)
within (x ∷ xs) (k ∷ ks) [] e f digits sides = absurd (omega arith)
within (x ∷ xs) (k ∷ ks) (b ∷ bs) e f digits sides =
    let small = digits.0 in
    let side = sides.0 in
    let below = carrier_positions (moved ks bs) in
    let together : 3 * x + k + b ≡ 3 * x + (k + b) = omega arith in
    let here : thirds (3 * x + k + b) ≡ map (λ y. x + y) (thirds (k + b)) = ap thirds together ∙ thirds_within x (k + b) (omega arith) in
    ap₂ (λ (rest : List (List ℕ)) (ys : List ℕ). flat_map (λ y. map (λ zs. y ∷ zs) rest) ys) (within xs ks bs (omega arith) (omega arith) digits.1 sides.1) here
    ∙ flat_map-map (λ y. map (λ zs. y ∷ zs) (map (moved xs) below)) (λ y. x + y) (thirds (k + b))
    ∙ flat_map_same _ _ (thirds (k + b)) (Each-all _ (λ o.
    map-map (λ zs. (x + o) ∷ zs) (moved xs) below ∙ sym (map-map (moved (x ∷ xs)) (λ os. o ∷ os) below)) (thirds (k + b)))
    ∙ sym (map-flat_map (moved (x ∷ xs)) (λ o. map (λ os. o ∷ os) below) (thirds (k + b)))

-- positions behind the grid's axes
only_zeros : (n : ℕ) → carrier_positions (replicate n 0) ≡ replicate n 0 ∷ []
only_zeros zero = refl
only_zeros (suc n) = ap (λ rest. map (λ ys. 0 ∷ ys) rest ++ []) (only_zeros n)

padded_positions : (n : ℕ) (xs : List ℕ) → carrier_positions (xs ++ replicate n 0) ≡ map (λ ys. ys ++ replicate n 0) (carrier_positions xs)
padded_positions n [] = only_zeros n
padded_positions n (x ∷ xs) =
    ap (λ (rest : List (List ℕ)). flat_map (λ y. map (λ zs. y ∷ zs) rest) (thirds x)) (padded_positions n xs)
    ∙ flat_map_same _ _ (thirds x) (Each-all _ (λ y. map-map (λ zs. y ∷ zs) (λ ys. ys ++ replicate n 0) (carrier_positions xs) ∙ sym (map-map (λ ys. ys ++ replicate n 0) (λ zs. y ∷ zs) (carrier_positions xs))) (thirds x))
    ∙ sym (map-flat_map (λ ys. ys ++ replicate n 0) (λ y. map (λ zs. y ∷ zs) (carrier_positions xs)) (thirds x))

padded_finer : (n : ℕ) (xs ks : List ℕ) → length ks ≡ length xs → finer (xs ++ replicate n 0) (ks ++ replicate n 0) ≡ finer xs ks ++ replicate n 0
padded_finer zero [] [] e = refl
padded_finer (suc n) [] [] e = ap (λ zs. 0 ∷ zs) (padded_finer n [] [] refl)
padded_finer n [] (k ∷ ks) e = absurd (omega arith)
padded_finer n (x ∷ xs) [] e = absurd (omega arith)
padded_finer n (x ∷ xs) (k ∷ ks) e = ap (λ zs. (3 * x + k) ∷ zs) (padded_finer n xs ks (omega arith))

padded_moved : (xs bs zs : List ℕ) → length bs ≡ length xs → moved (xs ++ zs) bs ≡ moved xs bs ++ zs
padded_moved [] [] [] e = refl
padded_moved [] [] (z ∷ zs) e = refl
padded_moved [] (b ∷ bs) zs e = absurd (omega arith)
padded_moved (x ∷ xs) [] zs e = absurd (omega arith)
padded_moved (x ∷ xs) (b ∷ bs) zs e = ap (λ ys. (x + b) ∷ ys) (padded_moved xs bs zs (omega arith))

-- the carriers lie at corners of the parent
at_corners : (ks bs : List ℕ) → length bs ≡ length ks → Below 3 ks → IsBits (length bs) bs → Each (IsBits (length bs)) (carrier_positions (moved ks bs))
at_corners [] [] e digits sides = (tt, tt)
at_corners [] (b ∷ bs) e digits sides = absurd (omega arith)
at_corners (k ∷ ks) [] e digits sides = absurd (omega arith)
at_corners (k ∷ ks) (b ∷ bs) e digits sides =
    let small = digits.0 in
    let side = sides.0 in
    let n = length bs in
    let below = carrier_positions (moved ks bs) in
    Each-flat_map (IsBits (suc n)) (λ o. map (λ os. o ∷ os) below) (thirds (k + b))
    (Each-weaker (λ o. o < 2) (λ o. Each (IsBits (suc n)) (map (λ os. o ∷ os) below))
    (λ o h. Each-map (IsBits (suc n)) (λ os. o ∷ os) below (Each-weaker (IsBits n) (λ os. IsBits (suc n) (o ∷ os)) (λ os d. (h, d)) below (at_corners ks bs (omega arith) digits.1 sides.1)))
    (thirds (k + b)) (thirds_small (k + b) (omega arith)))

length-bits_of : (n : ℕ) (bs : List ℕ) → IsBits n bs → length bs ≡ n
length-bits_of zero [] h = refl
length-bits_of zero (b ∷ bs) h = absurd (omega arith)
length-bits_of (suc n) [] h = absurd (omega arith)
length-bits_of (suc n) (b ∷ bs) h = (let rest = length-bits_of n bs h.1 in omega arith)

pub carriers_within : (axes : ℕ) (parent : Place) (digits : Digits) (k : ℕ) → axes ≤ 4 → IsCellPlace axes parent → IsDigits axes digits → k < 2 ^ axes
    → carriers (corner axes (child_at parent digits) k) ≡ map (corner axes parent) (carrier_numbers axes digits k)
carriers_within axes parent digits k few place fit small =
    let p = take axes parent.pos in
    let q = take axes digits.k in
    let b = bits axes k in
    let zs = replicate (4 - axes) 0 in
    let below = carrier_positions (moved q b) in
    let long_p : length p ≡ axes = length-front axes (3 ^ parent.level) parent.pos few place.pos in
    let long_q : length q ≡ axes = length-front axes 3 digits.k few fit in
    let long_b : length b ≡ axes = length-bits axes k in
    let same_q : length q ≡ length p = long_q ∙ sym long_p in
    let same_b : length b ≡ length p = long_b ∙ sym long_p in
    let Sides : ℕ → Type 0 = λ n. IsBits n b in
    let sides : IsBits (length b) b = subst Sides (sym long_b) (IsBits-bits axes k) in
    let digits_below : Below 3 q = Below-front axes 3 digits.k fit.inside in
    let front_p : parent.pos ≡ p ++ zs = padded-front axes (3 ^ parent.level) parent.pos few place.pos ∙ ap (λ (n : ℕ). p ++ replicate (4 - n) 0) long_p in
    let front_q : digits.k ≡ q ++ zs = padded-front axes 3 digits.k few fit ∙ ap (λ (n : ℕ). q ++ replicate (4 - n) 0) long_q in
    let long_finer : length b ≡ length (finer p q) = same_b ∙ sym (length-finer p q same_q) in
    let moved_child : moved (finer parent.pos digits.k) b ≡ moved (finer p q) b ++ zs =
    ap₂ (λ (xs ys : List ℕ). moved (finer xs ys) b) front_p front_q
    ∙ ap (λ (xs : List ℕ). moved xs b) (padded_finer (4 - axes) p q same_q)
    ∙ padded_moved (finer p q) b zs long_finer in
    let level : parent.level + 1 - 1 ≡ parent.level = omega arith in
    let place_at = λ (pos : List ℕ). let c : Place = record { level = parent.level; pos = pos } in c in
    let each_corner : Each (λ os. place_at (moved p os ++ zs) ≡ corner axes parent (number_of os)) below =
    Each-weaker (IsBits (length b)) _ (λ os d.
    let sides_os : IsBits axes os = (let P : ℕ → Type 0 = λ n. IsBits n os in subst P long_b d) in
    ap place_at (sym (padded_moved p os zs (length-bits_of axes os sides_os ∙ sym long_p)) ∙ ap₂ (λ (xs ys : List ℕ). moved xs ys) (sym front_p) (sym (bits-number_of axes os sides_os))))
    below (at_corners q b (same_b ∙ sym same_q) digits_below sides) in
    ap (λ (l : ℕ). map (λ pos. (let c : Place = record { level = l; pos = pos } in c)) (carrier_positions (moved (finer parent.pos digits.k) b))) level
    ∙ ap (λ (xs : List ℕ). map place_at (carrier_positions xs)) moved_child
    ∙ ap (map place_at) (padded_positions (4 - axes) (moved (finer p q) b) ∙ ap (map (λ ys. ys ++ zs)) (within p q b same_q same_b digits_below sides))
    ∙ ap (map place_at) (map-map (λ ys. ys ++ zs) (moved p) below)
    ∙ map-map place_at (λ os. moved p os ++ zs) below
    ∙ map_same _ _ below each_corner
    ∙ sym (map-map (corner axes parent) number_of below)

-- the positions of the carriers are those of corners
carrier_sides : (axes : ℕ) (digits : Digits) (k : ℕ) → axes ≤ 4 → IsDigits axes digits → Each (IsBits axes) (carrier_positions (place_in_parent axes digits k))
carrier_sides axes digits k few fit =
    let b = bits axes k in
    let long_b : length b ≡ axes = length-bits axes k in
    let long_q : length (take axes digits.k) ≡ axes = length-front axes 3 digits.k few fit in
    let P : ℕ → Type 0 = λ n. Each (IsBits n) (carrier_positions (place_in_parent axes digits k)) in
    let Sides : ℕ → Type 0 = λ n. IsBits n b in
    subst P long_b (at_corners (take axes digits.k) b (long_b ∙ sym long_q) (Below-front axes 3 digits.k fit.inside) (subst Sides (sym long_b) (IsBits-bits axes k)))

pub carrier_numbers-below : (axes : ℕ) (digits : Digits) (k : ℕ) → axes ≤ 4 → IsDigits axes digits → Each (λ n. n < 2 ^ axes) (carrier_numbers axes digits k)
carrier_numbers-below axes digits k few fit =
    Each-map (λ n. n < 2 ^ axes) number_of (carrier_positions (place_in_parent axes digits k))
    (Each-weaker (IsBits axes) (λ os. number_of os < 2 ^ axes) (λ os d. number_of-below axes os d) (carrier_positions (place_in_parent axes digits k)) (carrier_sides axes digits k few fit))

-- there is a carrier, and a test that each passes
any_of_thirds : (t : ℕ) → list_any (λ y. true) (thirds t) ≡ true
any_of_thirds t = cond_both (t % 3 == 0) _ _ (λ (ys : List ℕ). list_any (λ y. true) ys ≡ true) (λ e. refl) (λ e. refl)

any_position : (xs : List ℕ) → list_any (λ ys. true) (carrier_positions xs) ≡ true
any_position [] = refl
any_position (x ∷ xs) =
    any_flat_map (λ ys. true) (λ y. map (λ ys. y ∷ ys) (carrier_positions xs)) (thirds x)
    ∙ any_same _ _ (λ y. any_map (λ ys. true) (λ ys. y ∷ ys) (carrier_positions xs) ∙ any_position xs) (thirds x)
    ∙ any_of_thirds x

pub all_carry : (axes : ℕ) (digits : Digits) (k : ℕ) (test : ℕ → Bool) → axes ≤ 4 → IsDigits axes digits → ((n : ℕ) → n < 2 ^ axes → test n ≡ true) → some_carrier axes digits k test ≡ true
all_carry axes digits k test few fit all =
    list_any_same test (λ n. true) (carrier_numbers axes digits k) (Each-weaker (λ n. n < 2 ^ axes) _ all (carrier_numbers axes digits k) (carrier_numbers-below axes digits k few fit))
    ∙ any_map (λ n. true) number_of (carrier_positions (place_in_parent axes digits k))
    ∙ any_position (place_in_parent axes digits k)
