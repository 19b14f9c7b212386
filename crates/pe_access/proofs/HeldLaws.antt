-- What a cell state holds of each axis is what the order of the walk says of the cell.
use Rattle.std.proofs.Common.{◌≡◌, ℕ, zero, suc, ◌+◌, ◌-◌, ◌*◌, ◌/◌, ◌%◌, ◌^◌, ◌<◌, ◌≤◌, Bool, true, false, ◌&&◌, ◌||◌, List, [], ◌∷◌, ◌++◌, map, take, set, length, Option, Some, None, sym, ap, ◌∙◌, subst, refl, inl, inr, arith, pow-suc}
use Rattle.std.specs.Prelude.{◌==◌, if◌then◌else◌, find, sum, slice_index, slice_get, slice_set, replicate, not}
use Rattle.std.specs.List.{range_with_len}
use Rattle.std.specs.Option.{option_map}
use Rattle.std.proofs.lemmas.Bool.{or_right, or_from, eqb-true, eqb-false, eq-eqb, ne_eqb, cases_lt, cases_Bool}
use Rattle.std.proofs.lemmas.List.{get_or-map, length-set}
use Rattle.std.proofs.lemmas.List.Elements.{All-from_recursion, All-weaker}
use Rattle.pe_base.specs.declared.place.Place.{Place}
use Rattle.pe_base.specs.declared.way.Way.{Way}
use Rattle.pe_base.specs.Tree.Places.{IsCellPlace, padded, at, is_same, is_same_pos}
use Rattle.pe_base.specs.Tree.Curve.{order}
use Rattle.pe_base.specs.Steps.Around.{threes}
use Rattle.pe_base.specs.Steps.Routes.{way_turns}
use Rattle.pe_access.specs.Neighbours.{is_place}
use Rattle.pe_base.proofs.Steps.RouteLaws.{Below, Below-front, length-front, at-front}
use Rattle.pe_base.proofs.Steps.AroundInCell.{parents}
use Rattle.pe_base.proofs.Steps.Levels.{cells}
use Rattle.pe_base.proofs.Steps.AroundAsGrid.{order-cells, cells-long}
use Rattle.pe_base.proofs.Steps.SlowerLaws.{times, count-tally, threes-times}
use Rattle.pe_base.proofs.Steps.StackLaws.{length-parents}
use Rattle.pe_base.proofs.Steps.VertexTouches.{pos_itself}
use Rattle.pe_access.specs.Extents.{Face, Earlier, Later, Outside, Extent, bit_of, root_extent, root_face, near_face, far_face}
use Rattle.pe_access.specs.Faces.{relation_to, face_of, extent_of}
use Rattle.pe_access.proofs.ChildExtents.{child_extents, extents_of}
use Rattle.pe_access.proofs.ExtentLaws.{length-extents_of, extents_of-odd}
use Rattle.pe_access.proofs.OrderLaws.{Beside, is_either, near_at, far_at, first_of, First, first-is, beside-apart, not-same, find-same}
use Rattle.pe_access.proofs.RouteProofs.{index-padded, split}

-- the faces of a child along an axis
record NearChild (i level b : ℕ) (xs : List ℕ) (extents : List Extent) : Type 0 where
  pub turns : ℕ
  pub is : near_at i (child_extents level b (parents xs) xs extents) ≡ (if slice_index xs i % 3 == 0 then near_at i extents else near_face level turns)

record FarChild (i level b : ℕ) (xs : List ℕ) (extents : List Extent) : Type 0 where
  pub turns : ℕ
  pub is : far_at i (child_extents level b (parents xs) xs extents) ≡ (if slice_index xs i % 3 == 2 then far_at i extents else far_face level turns)

near-child : (i level b : ℕ) (xs : List ℕ) (extents : List Extent) → i < length xs → length extents ≡ length xs → NearChild i level b xs extents
near-child i level b [] extents h e = absurd (omega arith)
near-child i level b (x ∷ xs) [] h e = absurd (omega arith)
near-child zero level b (x ∷ xs) (extent ∷ extents) h e = record { turns = b + x / 3; is = refl }
near-child (suc i) level b (x ∷ xs) (extent ∷ extents) h e =
    let rest = near-child i level (b + x % 3) xs extents (omega arith) (omega arith) in
    record { turns = rest.turns; is = rest.is }

far-child : (i level b : ℕ) (xs : List ℕ) (extents : List Extent) → i < length xs → length extents ≡ length xs → FarChild i level b xs extents
far-child i level b [] extents h e = absurd (omega arith)
far-child i level b (x ∷ xs) [] h e = absurd (omega arith)
far-child zero level b (x ∷ xs) (extent ∷ extents) h e = record { turns = b + x / 3; is = refl }
far-child (suc i) level b (x ∷ xs) (extent ∷ extents) h e =
    let rest = far-child i level (b + x % 3) xs extents (omega arith) (omega arith) in
    record { turns = rest.turns; is = rest.is }

root-near : (i : ℕ) (xs : List ℕ) → near_at i (map (λ x. root_extent) xs) ≡ root_face
root-near i [] = refl
root-near zero (x ∷ xs) = refl
root-near (suc i) (x ∷ xs) = root-near i xs

root-far : (i : ℕ) (xs : List ℕ) → far_at i (map (λ x. root_extent) xs) ≡ root_face
root-far i [] = refl
root-far zero (x ∷ xs) = refl
root-far (suc i) (x ∷ xs) = root-far i xs

index-parents : (xs : List ℕ) (i : ℕ) → i < length xs → slice_index (parents xs) i ≡ slice_index xs i / 3
index-parents xs i h = get_or-map (λ c. c / 3) xs i 0 0 h

-- no neighbour on the root's boundary
near-outside : (way : Way) (level i : ℕ) (xs : List ℕ) → i < length xs → slice_index xs i ≡ 0 → (near_at i (extents_of way level xs)).relation ≡ Outside
near-outside way zero i xs h e = ap (λ f. f.relation) (root-near i xs)
near-outside way (suc level) i xs h e =
    let ps = parents xs in
    let child = near-child i (suc level) (way_turns way + sum ps) xs (extents_of way level ps) h (length-extents_of way level ps ∙ length-parents xs) in
    ap (λ f. f.relation) child.is
    ∙ ap (λ v. (if v then near_at i (extents_of way level ps) else near_face (suc level) child.turns).relation) (eq-eqb (slice_index xs i % 3) 0 (omega arith))
    ∙ near-outside way level i ps (omega (arith, length-parents xs)) (index-parents xs i h ∙ omega arith)

far-outside : (way : Way) (level i : ℕ) (xs : List ℕ) → i < length xs → slice_index xs i + 1 ≡ 3 ^ level → (far_at i (extents_of way level xs)).relation ≡ Outside
far-outside way zero i xs h e = ap (λ f. f.relation) (root-far i xs)
far-outside way (suc level) i xs h e =
    let ps = parents xs in
    let bound : 3 ^ suc level ≡ 3 * 3 ^ level = omega (arith, pow-suc 3 level) in
    let child = far-child i (suc level) (way_turns way + sum ps) xs (extents_of way level ps) h (length-extents_of way level ps ∙ length-parents xs) in
    ap (λ f. f.relation) child.is
    ∙ ap (λ v. (if v then far_at i (extents_of way level ps) else far_face (suc level) child.turns).relation) (eq-eqb (slice_index xs i % 3) 2 (omega arith))
    ∙ far-outside way level i ps (omega (arith, length-parents xs)) (ap (λ n. n + 1) (index-parents xs i h) ∙ omega arith)

-- a plane appears on the level on which 3 no longer divides it
times-new : (level x : ℕ) → (x % 3 == 0) ≡ false → times (suc level) (record { x = x; on = true }) ≡ 0
times-new level x e = ap (λ v. if v then suc (times level (record { x = x / 3; on = v })) else 0) e

times-old : (level x : ℕ) → (x % 3 == 0) ≡ true → times (suc level) (record { x = x; on = true }) ≡ suc (times level (record { x = x / 3; on = true }))
times-old level x e = ap (λ v. if v then suc (times level (record { x = x / 3; on = v })) else 0) e

near-level : (way : Way) (level i : ℕ) (xs : List ℕ) → i < length xs → (near_at i (extents_of way level xs)).level ≡ level - times level (record { x = slice_index xs i; on = true })
near-level way zero i xs h = ap (λ f. f.level) (root-near i xs)
near-level way (suc level) i xs h =
    let ps = parents xs in
    let x = slice_index xs i in
    let child = near-child i (suc level) (way_turns way + sum ps) xs (extents_of way level ps) h (length-extents_of way level ps ∙ length-parents xs) in
    ap (λ f. f.level) child.is
    ∙ elim (cases_Bool (x % 3 == 0)) [
      | inl e ↦
          ap (λ v. (if v then near_at i (extents_of way level ps) else near_face (suc level) child.turns).level) e
          ∙ near-level way level i ps (omega (arith, length-parents xs))
          ∙ ap (λ (q : ℕ). level - times level (record { x = q; on = true })) (index-parents xs i h)
          ∙ omega (arith, times-old level x e)
      | inr e ↦
          ap (λ v. (if v then near_at i (extents_of way level ps) else near_face (suc level) child.turns).level) e
          ∙ omega (arith, times-new level x e)
    ]

far-level : (way : Way) (level i : ℕ) (xs : List ℕ) → i < length xs → (far_at i (extents_of way level xs)).level ≡ level - times level (record { x = slice_index xs i + 1; on = true })
far-level way zero i xs h = ap (λ f. f.level) (root-far i xs)
far-level way (suc level) i xs h =
    let ps = parents xs in
    let x = slice_index xs i in
    let child = far-child i (suc level) (way_turns way + sum ps) xs (extents_of way level ps) h (length-extents_of way level ps ∙ length-parents xs) in
    ap (λ f. f.level) child.is
    ∙ elim (cases_Bool (x % 3 == 2)) [
      | inl e ↦
          let edge : x % 3 ≡ 2 = eqb-true (x % 3) 2 e in
          let third : slice_index ps i + 1 ≡ (x + 1) / 3 = ap (λ n. n + 1) (index-parents xs i h) ∙ omega arith in
          ap (λ v. (if v then far_at i (extents_of way level ps) else far_face (suc level) child.turns).level) e
          ∙ far-level way level i ps (omega (arith, length-parents xs))
          ∙ ap (λ (q : ℕ). level - times level (record { x = q; on = true })) third
          ∙ omega (arith, times-old level (x + 1) (eq-eqb ((x + 1) % 3) 0 (omega arith)))
      | inr e ↦
          let inner = eqb-false (x % 3) 2 e in
          ap (λ v. (if v then far_at i (extents_of way level ps) else far_face (suc level) child.turns).level) e
          ∙ omega (arith, times-new level (x + 1) (ne_eqb ((x + 1) % 3) 0 (λ k. inner (omega arith))))
    ]

threes-is : (level x : ℕ) → threes level x ≡ times level (record { x = x; on = true })
threes-is level x = count-tally (λ n. x % 3 ^ n == 0) (range_with_len 1 level) ∙ threes-times level x

-- the cell beside
beside-below : (i : ℕ) (xs : List ℕ) → i < length xs → 0 < slice_index xs i → Beside i (set xs i (slice_index xs i - 1)) xs
beside-below i [] h k = absurd (omega arith)
beside-below zero (x ∷ xs) h k = (omega arith, refl)
beside-below (suc i) (x ∷ xs) h k = (refl, beside-below i xs (omega arith) k)

beside-above : (i : ℕ) (xs : List ℕ) → i < length xs → Beside i xs (set xs i (slice_index xs i + 1))
beside-above i [] h = absurd (omega arith)
beside-above zero (x ∷ xs) h = (refl, refl)
beside-above (suc i) (x ∷ xs) h = (refl, beside-above i xs (omega arith))

set-append : (i v : ℕ) (xs zs : List ℕ) → i < length xs → set (xs ++ zs) i v ≡ set xs i v ++ zs
set-append i v [] zs h = absurd (omega arith)
set-append zero v (x ∷ xs) zs h = refl
set-append (suc i) v (x ∷ xs) zs h = ap (λ ys. x ∷ ys) (set-append i v xs zs (omega arith))

Below-set : (bound i v : ℕ) (xs : List ℕ) → Below bound xs → v < bound → Below bound (set xs i v)
Below-set bound i v [] h k = tt
Below-set bound zero v (x ∷ xs) h k = (k, h.1)
Below-set bound (suc i) v (x ∷ xs) h k = (h.0, Below-set bound i v xs h.1 k)

same-zeros : (n m : ℕ) → n ≡ m → is_same_pos (replicate n 0) (replicate m 0) ≡ true
same-zeros zero zero e = refl
same-zeros zero (suc m) e = absurd (omega arith)
same-zeros (suc n) zero e = absurd (omega arith)
same-zeros (suc n) (suc m) e = same-zeros n m (omega arith)

same-append : (us vs xs ys : List ℕ) → length us ≡ length vs → is_same_pos xs ys ≡ true → is_same_pos (us ++ xs) (vs ++ ys) ≡ is_same_pos us vs
same-append [] [] xs ys e h = h
same-append [] (v ∷ vs) xs ys e h = absurd (omega arith)
same-append (u ∷ us) [] xs ys e h = absurd (omega arith)
same-append (u ∷ us) (v ∷ vs) xs ys e h = ap (λ w. u == v && w) (same-append us vs xs ys (omega arith) h)

same-at : (level : ℕ) (us vs : List ℕ) → length us ≡ length vs → is_same (at level us) (at level vs) ≡ is_same_pos us vs
same-at level us vs e =
    ap (λ w. w && is_same_pos (padded us) (padded vs)) (eq-eqb level level refl)
    ∙ same-append us vs (replicate (4 - length us) 0) (replicate (4 - length vs) 0) e (same-zeros (4 - length us) (4 - length vs) (ap (λ (l : ℕ). 4 - l) e))

find-map : {X Y : Type 0} (test : Y → Bool) (f : X → Y) (xs : List X) → find test (map f xs) ≡ option_map f (find (λ x. test (f x)) xs)
find-map test f [] = refl
find-map test f (x ∷ xs) =
    ap (λ o. if test (f x) then Some (f x) else o) (find-map test f xs)
    ∙ elim (test (f x)) as (λ v. (if v then Some (f x) else option_map f (find (λ x. test (f x)) xs)) ≡ option_map f (if v then Some x else find (λ x. test (f x)) xs)) [ true ↦ refl | false ↦ refl ]

-- the first of two cells in the order, by positions
first-place : (axes level : ℕ) (way : Way) (us vs c : List ℕ) → axes ≤ 4 → length us ≡ axes → length vs ≡ axes → find (is_either us vs) (cells axes (way_turns way) level) ≡ Some c → find (λ p. is_same p (at level us) || is_same p (at level vs)) (order axes way level) ≡ Some (at level c)
first-place axes level way us vs c few e f found =
    let w = way_turns way in
    ap (find (λ p. is_same p (at level us) || is_same p (at level vs))) (order-cells axes level way few)
    ∙ find-map (λ p. is_same p (at level us) || is_same p (at level vs)) (at level) (cells axes w level)
    ∙ ap (option_map (at level))
    (find-same (λ x. is_same (at level x) (at level us) || is_same (at level x) (at level vs)) (is_either us vs) (cells axes w level)
    (All-weaker (λ x. length x ≡ axes) (λ x. (is_same (at level x) (at level us) || is_same (at level x) (at level vs)) ≡ is_either us vs x) (λ x long.
    let one = same-at level x us (long ∙ sym e) in
    let other = same-at level x vs (long ∙ sym f) in
    cc) (cells axes w level) (All-from_recursion _ _ (cells-long axes w level)))
    ∙ found)

lower-first : (v : Bool) (us vs : List ℕ) → (us ≡ vs → ⊥) → is_same_pos (first_of v us vs) us ≡ v
lower-first true us vs h = pos_itself us
lower-first false us vs h = not-same vs us (λ e. h (sym e))

upper-first : (v : Bool) (us vs : List ℕ) → (us ≡ vs → ⊥) → is_same_pos (first_of v us vs) vs ≡ not v
upper-first true us vs h = not-same us vs h
upper-first false us vs h = pos_itself vs

length-first : (v : Bool) (us vs : List ℕ) (n : ℕ) → length us ≡ n → length vs ≡ n → length (first_of v us vs) ≡ n
length-first true us vs n e f = e
length-first false us vs n e f = f

either-swap : (us vs x : List ℕ) → is_either us vs x ≡ is_either vs us x
either-swap us vs x = elim (is_same_pos x us) as (λ v. (v || is_same_pos x vs) ≡ (is_same_pos x vs || v)) [
  | true ↦ elim (is_same_pos x vs) as (λ w. true ≡ (w || true)) [ true ↦ refl | false ↦ refl ]
  | false ↦ elim (is_same_pos x vs) as (λ w. w ≡ (w || false)) [ true ↦ refl | false ↦ refl ]
]

-- when the neighbour at the near end comes
near-relation : (axes level i : ℕ) (way : Way) (us vs : List ℕ) → axes ≤ 4 → length us ≡ axes → length vs ≡ axes → Beside i us vs → First axes way level i us vs → relation_to axes way (at level vs) (Some (at level us)) ≡ (near_at i (extents_of way level vs)).relation
near-relation axes level i way us vs few e f h first =
    let v = first.lower in
    ap (λ o. if is_place o (at level us) then Earlier else Later) (first-place axes level way us vs (first_of v us vs) few e f first.found)
    ∙ ap (λ w. if w then Earlier else Later) (same-at level (first_of v us vs) us (length-first v us vs axes e f ∙ sym e) ∙ lower-first v us vs (beside-apart i us vs h))
    ∙ sym first.near

-- when the neighbour at the far end comes
far-relation : (axes level i : ℕ) (way : Way) (us vs : List ℕ) → axes ≤ 4 → length us ≡ axes → length vs ≡ axes → Beside i us vs → First axes way level i us vs → relation_to axes way (at level us) (Some (at level vs)) ≡ (far_at i (extents_of way level us)).relation
far-relation axes level i way us vs few e f h first =
    let v = first.lower in
    let found : find (is_either vs us) (cells axes (way_turns way) level) ≡ Some (first_of v us vs) =
    find-same (is_either vs us) (is_either us vs) (cells axes (way_turns way) level) (λ n d k. either-swap vs us _) ∙ first.found in
    ap (λ o. if is_place o (at level vs) then Earlier else Later) (first-place axes level way vs us (first_of v us vs) few f e found)
    ∙ ap (λ w. if w then Earlier else Later) (same-at level (first_of v us vs) vs (length-first v us vs axes e f ∙ sym f) ∙ upper-first v us vs (beside-apart i us vs h))
    ∙ elim v as (λ w. (if not w then Earlier else Later) ≡ (if w then Later else Earlier)) [ true ↦ refl | false ↦ refl ]
    ∙ sym first.far

-- the neighbour's place, by positions
set-place : (level i v : ℕ) (cs : List ℕ) → i < length cs → (let p : Place = record { level = level; pos = slice_set (padded cs) i v } in p) ≡ at level (set cs i v)
set-place level i v cs h =
    let zs = replicate (4 - length cs) 0 in
    let same : 4 - length cs ≡ 4 - length (set cs i v) = ap (λ (l : ℕ). 4 - l) (sym (length-set cs i v)) in
    ap (λ (xs : List ℕ). let p : Place = record { level = level; pos = xs } in p) (set-append i v cs zs h ∙ ap (λ (n : ℕ). set cs i v ++ replicate n 0) same)

below-at : (bound : ℕ) (xs : List ℕ) (i : ℕ) → i < length xs → Below bound xs → slice_index xs i < bound
below-at bound [] i h k = absurd (omega arith)
below-at bound (x ∷ xs) zero h k = k.0
below-at bound (x ∷ xs) (suc i) h k = below-at bound xs i (omega arith) k.1

near-face : (axes level i : ℕ) (way : Way) (cs : List ℕ) → axes ≤ 4 → length cs ≡ axes → Below (3 ^ level) cs → i < axes → face_of axes way (at level cs) i 0 ≡ near_at i (extents_of way level cs)
near-face axes level i way cs few long below within =
    let c = slice_index cs i in
    let cell = at level cs in
    let inside : i < length cs = omega arith in
    let x-is : slice_index (padded cs) i ≡ c = index-padded cs (4 - length cs) i in
    let small : c < 3 ^ level = below-at (3 ^ level) cs i inside below in
    let place : ℕ → Option Place = λ x. if x + 0 == 0 || x + 0 == 3 ^ level then None else (Some (record { level = level; pos = slice_set (padded cs) i (x - 1) })) in
    let none : c + 0 ≡ c = omega arith in
    let relation : relation_to axes way cell (place c) ≡ (near_at i (extents_of way level cs)).relation =
    elim (cases_lt 0 c) [
      | inl positive ↦
          let us = set cs i (c - 1) in
          let side : Beside i us cs = beside-below i cs inside positive in
          let there : place c ≡ Some (at level us) =
          ap (λ v. if v then None else (Some (record { level = level; pos = slice_set (padded cs) i (c - 1) }))) (or_from (c + 0 == 0) (c + 0 == 3 ^ level) (ne_eqb (c + 0) 0 (λ k. omega arith)) (ne_eqb (c + 0) (3 ^ level) (λ k. omega arith)))
          ∙ ap Some (set-place level i (c - 1) cs inside) in
          ap (relation_to axes way cell) there
          ∙ near-relation axes level i way us cs few (length-set cs i (c - 1) ∙ long) long side (first-is axes way level i us cs long below side)
      | inr bottom ↦
          let zero-is : c ≡ 0 = omega arith in
          let there : place c ≡ None = ap (λ v. if v || c + 0 == 3 ^ level then None else (Some (record { level = level; pos = slice_set (padded cs) i (c - 1) }))) (eq-eqb (c + 0) 0 (omega arith)) in
          ap (relation_to axes way cell) there ∙ sym (near-outside way level i cs inside zero-is)
    ] in
    let level-is : level - threes level (c + 0) ≡ (near_at i (extents_of way level cs)).level = ap (λ (x : ℕ). level - threes level x) none ∙ ap (λ n. level - n) (threes-is level c) ∙ sym (near-level way level i cs inside) in
    ap (λ (x : ℕ). let f : Face = record { relation = relation_to axes way cell (place x); level = level - threes level (x + 0) } in f) x-is
    ∙ ap (λ r. let f : Face = record { relation = r; level = level - threes level (c + 0) } in f) relation
    ∙ ap (λ n. let f : Face = record { relation = (near_at i (extents_of way level cs)).relation; level = n } in f) level-is

far-face : (axes level i : ℕ) (way : Way) (cs : List ℕ) → axes ≤ 4 → length cs ≡ axes → Below (3 ^ level) cs → i < axes → face_of axes way (at level cs) i 1 ≡ far_at i (extents_of way level cs)
far-face axes level i way cs few long below within =
    let c = slice_index cs i in
    let cell = at level cs in
    let inside : i < length cs = omega arith in
    let x-is : slice_index (padded cs) i ≡ c = index-padded cs (4 - length cs) i in
    let small : c < 3 ^ level = below-at (3 ^ level) cs i inside below in
    let place : ℕ → Option Place = λ x. if x + 1 == 0 || x + 1 == 3 ^ level then None else (Some (record { level = level; pos = slice_set (padded cs) i (x + 1) })) in
    let relation : relation_to axes way cell (place c) ≡ (far_at i (extents_of way level cs)).relation =
    elim (cases_lt (c + 1) (3 ^ level)) [
      | inl room ↦
          let vs = set cs i (c + 1) in
          let side : Beside i cs vs = beside-above i cs inside in
          let long' : length vs ≡ axes = length-set cs i (c + 1) ∙ long in
          let there : place c ≡ Some (at level vs) =
          ap (λ v. if v then None else (Some (record { level = level; pos = slice_set (padded cs) i (c + 1) }))) (or_from (c + 1 == 0) (c + 1 == 3 ^ level) (ne_eqb (c + 1) 0 (λ k. omega arith)) (ne_eqb (c + 1) (3 ^ level) (λ k. omega arith)))
          ∙ ap Some (set-place level i (c + 1) cs inside) in
          ap (relation_to axes way cell) there
          ∙ far-relation axes level i way cs vs few long long' side (first-is axes way level i cs vs long' (Below-set (3 ^ level) i (c + 1) cs below room) side)
      | inr top ↦
          let last : c + 1 ≡ 3 ^ level = omega arith in
          let there : place c ≡ None = ap (λ v. if v then None else (Some (record { level = level; pos = slice_set (padded cs) i (c + 1) }))) (or_right (c + 1 == 0) (c + 1 == 3 ^ level) (eq-eqb (c + 1) (3 ^ level) last)) in
          ap (relation_to axes way cell) there ∙ sym (far-outside way level i cs inside last)
    ] in
    let level-is : level - threes level (c + 1) ≡ (far_at i (extents_of way level cs)).level = ap (λ n. level - n) (threes-is level (c + 1)) ∙ sym (far-level way level i cs inside) in
    ap (λ (x : ℕ). let f : Face = record { relation = relation_to axes way cell (place x); level = level - threes level (x + 1) } in f) x-is
    ∙ ap (λ r. let f : Face = record { relation = r; level = level - threes level (c + 1) } in f) relation
    ∙ ap (λ n. let f : Face = record { relation = (far_at i (extents_of way level cs)).relation; level = n } in f) level-is

odd_at : ℕ → List Extent → Bool
odd_at i [] = false
odd_at zero (extent ∷ extents) = extent.odd
odd_at (suc i) (extent ∷ extents) = odd_at i extents

extent-at : (i : ℕ) (extents more : List Extent) → i < length extents → slice_get (extents ++ more) i ≡ Some (record { odd = odd_at i extents; near = near_at i extents; far = far_at i extents })
unfolding odd_at
extent-at i [] more h = absurd (omega arith)
extent-at zero (extent ∷ extents) more h = refl
extent-at (suc i) (extent ∷ extents) more h = extent-at i extents more (omega arith)

odd-bit : (odd : Bool) (c : ℕ) → bit_of odd ≡ c % 2 → odd ≡ (c % 2 == 1)
odd-bit true c e = sym (eq-eqb (c % 2) 1 (sym e))
odd-bit false c e = sym (ne_eqb (c % 2) 1 (λ k. omega arith))

odd-is : (i : ℕ) (extents : List Extent) (cs : List ℕ) → i < length extents → map (λ extent. bit_of extent.odd) extents ≡ map (λ x. x % 2) cs → odd_at i extents ≡ (slice_index cs i % 2 == 1)
unfolding odd_at
odd-is i [] cs h e = absurd (omega arith)
odd-is i (extent ∷ extents) [] h e = cc
odd-is zero (extent ∷ extents) (c ∷ cs) h e = odd-bit extent.odd c (cc)
odd-is (suc i) (extent ∷ extents) (c ∷ cs) h e = odd-is i extents cs (omega arith) (cc)

-- what the extents of a cell are, by the order of the walk
pub held : (axes : ℕ) (way : Way) (cell : Place) (axis : ℕ) → axes ≤ 4 → IsCellPlace axes cell → axis < axes → slice_get (extents_of way cell.level cell.pos) axis ≡ Some (extent_of axes way cell axis)
held axes way cell axis few place within =
    let level = cell.level in
    let cs = take axes cell.pos in
    let long : length cs ≡ axes = length-front axes (3 ^ level) cell.pos few place.pos in
    let below = Below-front axes (3 ^ level) cell.pos place.pos.inside in
    let extents = extents_of way level cs in
    let many : length extents ≡ axes = length-extents_of way level cs ∙ long in
    let parts = split way level (4 - length cs) cs in
    let P : Place → Type 0 = λ c. slice_get (extents_of way c.level c.pos) axis ≡ Some (extent_of axes way c axis) in
    let odd : odd_at axis extents ≡ (slice_index (padded cs) axis % 2 == 1) =
    odd-is axis extents cs (omega arith) (extents_of-odd way level cs below) ∙ ap (λ (x : ℕ). x % 2 == 1) (sym (index-padded cs (4 - length cs) axis)) in
    let near = sym (near-face axes level axis way cs few long below within) in
    let far = sym (far-face axes level axis way cs few long below within) in
    subst P (sym (at-front axes (3 ^ level) cell few place.pos))
    (ap (λ xs. slice_get xs axis) parts.is ∙ extent-at axis extents parts.tail (omega arith)
    ∙ ap (λ o. Some (let l : Extent = record { odd = o; near = near_at axis extents; far = far_at axis extents } in l)) odd
    ∙ ap (λ f. Some (let l : Extent = record { odd = slice_index (padded cs) axis % 2 == 1; near = f; far = far_at axis extents } in l)) near
    ∙ ap (λ f. Some (let l : Extent = record { odd = slice_index (padded cs) axis % 2 == 1; near = face_of axes way (at level cs) axis 0; far = f } in l)) far)
