-- What has a carrier inside the root cube lies inside itself.
use Rattle.std.proofs.Common.{◌≡◌, ℕ, zero, suc, ◌+◌, ◌-◌, ◌*◌, ◌/◌, ◌%◌, ◌^◌, ◌<◌, ◌≤◌, ◌≢◌, Bool, true, ◌&&◌, ◌==◌, List, [], ◌∷◌, map, length, take, drop, replicate, refl, sym, ap, ap₂, subst, ◌∙◌, inl, inr, arith, pow-suc, if◌then◌else◌}
use Rattle.std.specs.Prelude.{nat_lt}
use Rattle.std.specs.List.{list_all, AllByRecursion as Each}
use Rattle.std.proofs.lemmas.Bool.{lt-ltb, ltb-true, eqb-true, eqb-false, cases_Bool, and_parts}
use Rattle.pe_base.specs.declared.place.Place.{Place}
use Rattle.pe_base.specs.Life.Kinds.{is_inside}
use Rattle.pe_base.specs.Life.Carriers.{thirds, carrier_positions, carriers}
use Rattle.pe_base.proofs.Lists.{Each-map, Each-flat_map, Each-weaker}
use Rattle.pe_base.proofs.Steps.VertexTouches.{OnGrid}

-- along some axes a position is strictly between 0 and a bound
abbrev is_between : ℕ → ℕ → List ℕ → Bool
is_between n bound xs = list_all (λ x. nat_lt 0 x && nat_lt x bound) (take n xs)

-- so it is where a third is, for a bound three times as great
abbrev Third : ℕ → ℕ → ℕ → Type 0
Third bound x y = (nat_lt 0 y && nat_lt y bound) ≡ true → (nat_lt 0 x && nat_lt x (3 * bound)) ≡ true

between : (bound x : ℕ) → 0 < x → x < bound → (nat_lt 0 x && nat_lt x bound) ≡ true
between bound x some few = ap₂ (λ a b. a && b) (lt-ltb 0 x some) (lt-ltb x bound few)

third_between : (bound x y : ℕ) → (y ≤ x) → (0 < y → 0 < x) → (y < bound → x < 3 * bound) → Third bound x y
third_between bound x y below some few h =
    let parts = and_parts (nat_lt 0 y) (nat_lt y bound) h in
    between (3 * bound) x (some (ltb-true 0 y parts.0)) (few (ltb-true y bound parts.1))

each_third : (bound x : ℕ) → Each (Third bound x) (thirds x)
each_third bound x = elim (cases_Bool (x % 3 == 0)) [
  | inl t ↦ subst (λ b. Each (Third bound x) (if b then (x / 3) ∷ [] else (x / 3) ∷ (x / 3 + 1) ∷ [])) (sym t) (
    (let e : x % 3 ≡ 0 = eqb-true (x % 3) 0 t in third_between bound x (x / 3) (omega arith) (λ s. omega (arith, s)) (λ l. omega (arith, l, e))),
    tt,
  )
  | inr f ↦ subst (λ b. Each (Third bound x) (if b then (x / 3) ∷ [] else (x / 3) ∷ (x / 3 + 1) ∷ [])) (sym f) (
    third_between bound x (x / 3) (omega arith) (λ s. omega (arith, s)) (λ l. omega (arith, l)),
    (upper (eqb-false (x % 3) 0 f), tt),
  )
]
  where
    upper : x % 3 ≢ 0 → Third bound x (x / 3 + 1)
    upper other h =
        let parts = and_parts (nat_lt 0 (x / 3 + 1)) (nat_lt (x / 3 + 1) bound) h in
        let few : x / 3 + 1 < bound = ltb-true (x / 3 + 1) bound parts.1 in
        let some : 0 < x = go (x % 3) refl other in
        between (3 * bound) x some (omega (arith, few))
      where
        go : (r : ℕ) → x % 3 ≡ r → r ≢ 0 → 0 < x
        go zero e other = absurd (other refl)
        go (suc r) e other = omega (arith, e)

-- all positions of carriers
abbrev Above : ℕ → List ℕ → List ℕ → Type 0
Above bound xs ys = (n : ℕ) → is_between n bound ys ≡ true → is_between n (3 * bound) xs ≡ true

each_above : (bound : ℕ) (xs : List ℕ) → Each (Above bound xs) (carrier_positions xs)
each_above bound [] = ((λ n h. nothing n), tt)
  where
    nothing : (n : ℕ) → is_between n (3 * bound) [] ≡ true
    nothing zero = refl
    nothing (suc n) = refl
each_above bound (x ∷ xs) =
    Each-flat_map (Above bound (x ∷ xs)) (λ y. map (λ ys. y ∷ ys) (carrier_positions xs)) (thirds x)
    (Each-weaker (Third bound x) (λ y. Each (Above bound (x ∷ xs)) (map (λ ys. y ∷ ys) (carrier_positions xs)))
    (λ y third. Each-map (Above bound (x ∷ xs)) (λ ys. y ∷ ys) (carrier_positions xs) (Each-weaker (Above bound xs) (λ ys. Above bound (x ∷ xs) (y ∷ ys)) (λ ys above. joined y ys third above) (carrier_positions xs) (each_above bound xs)))
    (thirds x) (each_third bound x))
  where
    joined : (y : ℕ) (ys : List ℕ) → Third bound x y → Above bound xs ys → Above bound (x ∷ xs) (y ∷ ys)
    joined y ys third above zero h = refl
    joined y ys third above (suc n) h =
        let parts = and_parts (nat_lt 0 y && nat_lt y bound) (is_between n bound ys) h in
        ap₂ (λ a b. a && b) (third parts.0) (above n parts.1)

zeros_all : (n : ℕ) → list_all (λ x. x == 0) (replicate n 0) ≡ true
zeros_all zero = refl
zeros_all (suc n) = zeros_all n

-- a vertex on the grid below level 0 is inside where a carrier is
pub carried_inside : (axes : ℕ) (vertex : Place) → 1 ≤ vertex.level → OnGrid axes vertex.level vertex → Each (λ m. is_inside axes m ≡ true → is_inside axes vertex ≡ true) (carriers vertex)
carried_inside axes vertex deep on =
    Each-map (λ m. is_inside axes m ≡ true → is_inside axes vertex ≡ true) (λ pos. record { level = vertex.level - 1; pos = pos }) (carrier_positions vertex.pos)
    (Each-weaker (Above (3 ^ (vertex.level - 1)) vertex.pos) _ (λ ys above h.
    let back = and_parts (length ys == 4 && is_between axes (3 ^ (vertex.level - 1)) ys) (list_all (λ x. x == 0) (drop axes ys)) h in
    let front = and_parts (length ys == 4) (is_between axes (3 ^ (vertex.level - 1)) ys) back.0 in
    inside (vertex.level) deep (above axes front.1))
    (carrier_positions vertex.pos) (each_above (3 ^ (vertex.level - 1)) vertex.pos))
  where
    inside : (n : ℕ) → 1 ≤ n → is_between axes (3 * 3 ^ (n - 1)) vertex.pos ≡ true
        → ((length vertex.pos == 4 && is_between axes (3 ^ n) vertex.pos) && list_all (λ x. x == 0) (drop axes vertex.pos)) ≡ true
    inside zero some h = absurd (omega arith)
    inside (suc n) some h =
        let bound : 3 * 3 ^ (suc n - 1) ≡ 3 ^ suc n = up n in
        ap₂ (λ a b. a && b) (ap₂ (λ a b. a == 4 && b) on.1 (subst (λ b. is_between axes b vertex.pos ≡ true) bound h)) (ap (list_all (λ x. x == 0)) on.2 ∙ zeros_all (4 - axes))
      where
        up : (n : ℕ) → 3 * 3 ^ (suc n - 1) ≡ 3 ^ suc n
        up n = ap (λ m. 3 * 3 ^ m) (let e : suc n - 1 ≡ n = omega arith in e) ∙ (let turn : 3 * 3 ^ n ≡ 3 ^ n * 3 = omega arith in turn) ∙ sym (pow-suc 3 n)
