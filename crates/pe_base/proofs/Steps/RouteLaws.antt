-- The steps around a vertex, and the stacks by which it goes.
use Rattle.std.proofs.Common.{◌≡◌, ℕ, zero, suc, ◌+◌, ◌-◌, ◌*◌, ◌%◌, ◌^◌, ◌<◌, ◌≤◌, true, ◌&&◌, ◌||◌, List, [], ◌∷◌, ◌++◌, map, take, drop, length, Option, sym, ap, ap₂, ◌∙◌, subst, subst₂, refl, inl, inr, ◌⊎◌, arith, pow-suc}
use Rattle.std.specs.Prelude.{◌==◌, if◌then◌else◌, replicate, slice_index}
use Rattle.std.specs.List.{zip, AllByRecursion as Each}
use Rattle.std.proofs.lemmas.Bool.{eq-eqb, ne_eqb, cases_lt, and_parts}
use Rattle.std.proofs.lemmas.List.{length-take-le}
use Rattle.std.proofs.lemmas.List.Elements.{All-from_recursion}
use Rattle.pe_base.specs.declared.place.Place.{Place}
use Rattle.pe_base.specs.declared.way.Way.{Way}
use Rattle.pe_base.specs.Tree.Places.{IsPosition, IsInside, is_same, padded, at}
use Rattle.pe_base.specs.Steps.Around.{around, steps}
use Rattle.pe_base.specs.Steps.Faces.{IsFace, ShareFace, across, is_step}
use Rattle.pe_base.specs.Steps.Routes.{way_turns, axis_between, axis_of, StepsAcrossFaces}
use Rattle.pe_base.proofs.Lists.{Each-weaker}
use Rattle.pe_base.proofs.Tree.Mirrors.{up}
use Rattle.pe_base.proofs.Tree.Ranks.{list_any-Each, same_places}
use Rattle.pe_base.proofs.Faces.FaceLists.{face_of, up_cell, across-up}
use Rattle.pe_base.proofs.Steps.Walks.{Path}
use Rattle.pe_base.proofs.Steps.AroundInCell.{Spot, fits, fits_all, coarse, Crosses}
use Rattle.pe_base.proofs.Steps.Levels.{entry, coarsest, Round, round}
use Rattle.pe_base.proofs.Steps.AroundAsGrid.{spots, around-holders}

-- a position is that on the grid's axes, and 0 behind it
replicate-rest : (xs : List ℕ) (n : ℕ) → length xs ≡ n → ((i : ℕ) → slice_index xs i ≡ 0) → xs ≡ replicate n 0
replicate-rest [] zero e h = refl
replicate-rest [] (suc n) e h = absurd (omega arith)
replicate-rest (x ∷ xs) zero e h = absurd (omega arith)
replicate-rest (x ∷ xs) (suc n) e h =
    let head = h 0 in
    let tail = replicate-rest xs n (omega arith) (λ i. h (suc i)) in
    cc

padded-split : (axes : ℕ) (pos : List ℕ) (n : ℕ) → length pos ≡ axes + n → ((i : ℕ) → axes ≤ i → slice_index pos i ≡ 0) → pos ≡ take axes pos ++ replicate n 0
padded-split zero pos n e h = replicate-rest pos n (omega arith) (λ i. h i (omega arith))
padded-split (suc axes) [] n e h = absurd (omega arith)
padded-split (suc axes) (x ∷ pos) n e h = ap (λ xs. x ∷ xs) (padded-split axes pos n (omega arith) (λ i k. h (suc i) (omega arith)))

pub length-front : (axes bound : ℕ) (pos : List ℕ) → axes ≤ 4 → IsPosition axes bound pos → length (take axes pos) ≡ axes
length-front axes bound pos within h = length-take-le axes pos (omega (arith, h.four))

pub padded-front : (axes bound : ℕ) (pos : List ℕ) → axes ≤ 4 → IsPosition axes bound pos → pos ≡ padded (take axes pos)
padded-front axes bound pos within h =
    padded-split axes pos (4 - axes) (omega (arith, h.four)) h.rest
    ∙ ap (λ (l : ℕ). take axes pos ++ replicate (4 - l) 0) (sym (length-front axes bound pos within h))

pub at-front : (axes bound : ℕ) (place : Place) → axes ≤ 4 → IsPosition axes bound place.pos → place ≡ at place.level (take axes place.pos)
at-front axes bound place within h = ap (λ (xs : List ℕ). let p : Place = record { level = place.level; pos = xs } in p) (padded-front axes bound place.pos within h)

-- a vertex inside lies within the root cube
pub within_cube : (axes : ℕ) (vertex : Place) → IsInside axes vertex → IsPosition axes (suc (3 ^ vertex.level)) vertex.pos
within_cube axes vertex inside = record {
  four = inside.pos.four;
  inside = λ axis a. omega (arith, inside.pos.inside axis a);
  rest = inside.pos.rest;
}

-- coordinates below a bound
abbrev pub Below : ℕ → List ℕ → Type 0
Below bound [] = Unit
Below bound (x ∷ xs) = (x < bound) × Below bound xs

pub Below-front : (axes bound : ℕ) (pos : List ℕ) → ((i : ℕ) → i < axes → slice_index pos i < bound) → Below bound (take axes pos)
Below-front zero bound pos h = tt
Below-front (suc axes) bound [] h = tt
Below-front (suc axes) bound (x ∷ pos) h = (h 0 (omega arith), Below-front axes bound pos (λ i k. h (suc i) (omega arith)))

pub Below-next : (bound : ℕ) (xs : List ℕ) → Below bound xs → Below (suc bound) xs
Below-next bound [] h = tt
Below-next bound (x ∷ xs) h = (let b = h.0 in omega arith, Below-next bound xs h.1)

-- a point up to a bound; at the bound it lies in a plane
UpTo : ℕ → List Spot → Type 0
UpTo bound [] = Unit
UpTo bound (s ∷ ss) = ((s.x < bound) ⊎ ((s.x ≡ bound) × (s.on ≡ true))) × UpTo bound ss

up_to-spots : (bound : ℕ) (qs : List ℕ) → Below (suc bound) qs → UpTo bound (spots qs)
unfolding UpTo
up_to-spots bound [] h = tt
up_to-spots bound (q ∷ qs) h = (elim (cases_lt q bound) [ inl l ↦ inl l | inr g ↦ inr (let b = h.0 in omega arith, refl) ], up_to-spots bound qs h.1)

up_to-coarse : (bound : ℕ) (ss : List Spot) → UpTo (3 * bound) ss → UpTo bound (map coarse ss)
unfolding UpTo
up_to-coarse bound [] h = tt
up_to-coarse bound (s ∷ ss) h = (
  elim h.0 [
    | inl l ↦ inl (omega arith)
    | inr e ↦ inr (let x = e.0 in omega arith, let x = e.0 in ap₂ (λ a b. a && b) e.1 (eq-eqb (s.x % 3) 0 (omega arith)))
  ],
  up_to-coarse bound ss h.1,
)

-- the root holds every point of the grid
fits_root : (axes : ℕ) (ss : List Spot) → length ss ≡ axes → UpTo 1 ss → fits_all ss (replicate axes 0) ≡ true
unfolding UpTo
fits_root zero [] e h = refl
fits_root (suc axes) [] e h = absurd (omega arith)
fits_root zero (s ∷ ss) e h = absurd (omega arith)
fits_root (suc axes) (s ∷ ss) e h = ap (λ v. v && fits_all ss (replicate axes 0)) (here h.0) ∙ fits_root axes ss (omega arith) h.1
  where
    here : (s.x < 1) ⊎ ((s.x ≡ 1) × (s.on ≡ true)) → fits s 0 ≡ true
    here h = elim h [
      | inl b ↦ ap (λ v. v || (s.on && s.x == 0 + 1)) (eq-eqb s.x 0 (omega arith))
      | inr e ↦ ap₂ (λ x on. x == 0 || (on && x == 0 + 1)) e.0 e.1
    ]

length-coarse : (ss : List Spot) → length (map coarse ss) ≡ length ss
length-coarse [] = refl
length-coarse (s ∷ ss) = ap suc (length-coarse ss)

fits_coarsest : (axes level : ℕ) (ss : List Spot) → length ss ≡ axes → UpTo (3 ^ level) ss → fits_all (coarsest level ss) (replicate axes 0) ≡ true
fits_coarsest axes zero ss e h = fits_root axes ss e h
fits_coarsest axes (suc level) ss e h =
    let P : ℕ → Type 0 = λ b. UpTo b ss in
    let bound : 3 ^ suc level ≡ 3 * 3 ^ level = omega (arith, pow-suc 3 level) in
    fits_coarsest axes level (map coarse ss) (length-coarse ss ∙ e) (up_to-coarse (3 ^ level) ss (subst P bound h))

pub length-spots : (qs : List ℕ) → length (spots qs) ≡ length qs
length-spots [] = refl
length-spots (q ∷ qs) = ap suc (length-spots qs)

-- so it holds those within the root cube, its boundary with it
fits_within : (axes level : ℕ) (qs : List ℕ) → length qs ≡ axes → Below (suc (3 ^ level)) qs → fits_all (coarsest level (spots qs)) (replicate axes 0) ≡ true
fits_within axes level qs e h = fits_coarsest axes level (spots qs) (length-spots qs ∙ e) (up_to-spots (3 ^ level) qs h)

pub fits_vertex : (axes level : ℕ) (qs : List ℕ) → length qs ≡ axes → Below (3 ^ level) qs → fits_all (coarsest level (spots qs)) (replicate axes 0) ≡ true
fits_vertex axes level qs e h = fits_within axes level qs e (Below-next (3 ^ level) qs h)

-- the walk around a vertex
pub round_at : (axes w level : ℕ) (qs : List ℕ) → length qs ≡ axes → Below (3 ^ level) qs → Round axes w level (spots qs)
round_at axes w level qs e h = round axes w level (spots qs) (fits_vertex axes level qs e h)

crosses-axis : (ss : List Spot) (i : ℕ) (us vs zs : List ℕ) → Crosses ss i us vs → axis_between (us ++ zs) (vs ++ zs) ≡ i
crosses-axis [] i us vs zs h = absurd h
crosses-axis (s ∷ ss) zero [] vs zs h = absurd h
crosses-axis (s ∷ ss) zero (u ∷ us) [] zs h = absurd h
crosses-axis (s ∷ ss) zero (u ∷ us) (v ∷ vs) zs h =
    let differ : u ≡ v → ⊥ = λ e. elim h.1 [ inl k ↦ let far = k.0 in let near = k.1 in omega arith | inr k ↦ let far = k.0 in let near = k.1 in omega arith ] in
    ap (λ t. if t then axis_between (us ++ zs) (vs ++ zs) + 1 else 0) (ne_eqb u v differ)
crosses-axis (s ∷ ss) (suc i) [] vs zs h = absurd h
crosses-axis (s ∷ ss) (suc i) (u ∷ us) [] zs h = absurd h
crosses-axis (s ∷ ss) (suc i) (u ∷ us) (v ∷ vs) zs h =
    ap (λ t. if t then axis_between (us ++ zs) (vs ++ zs) + 1 else 0) (eq-eqb u v h.0) ∙ omega (arith, crosses-axis ss i us vs zs h.1)

-- the position after a step is one further on its axis, or the one before it is
crosses-up : (ss : List Spot) (i : ℕ) (us vs zs : List ℕ) → Crosses ss i us vs → (vs ++ zs ≡ up i (us ++ zs)) ⊎ (us ++ zs ≡ up i (vs ++ zs))
crosses-up [] i us vs zs h = absurd h
crosses-up (s ∷ ss) zero [] vs zs h = absurd h
crosses-up (s ∷ ss) zero (u ∷ us) [] zs h = absurd h
crosses-up (s ∷ ss) zero (u ∷ us) (v ∷ vs) zs h = elim h.1 [
  | inl k ↦ inl (ap₂ (λ y ys. y ∷ ys ++ zs) (sym k.1 ∙ k.0) (sym h.2))
  | inr k ↦ inr (ap₂ (λ y ys. y ∷ ys ++ zs) (sym k.0 ∙ k.1) h.2)
]
crosses-up (s ∷ ss) (suc i) [] vs zs h = absurd h
crosses-up (s ∷ ss) (suc i) (u ∷ us) [] zs h = absurd h
crosses-up (s ∷ ss) (suc i) (u ∷ us) (v ∷ vs) zs h = elim (crosses-up ss i us vs zs h.1) [
  | inl e ↦ inl (ap₂ (λ y ys. y ∷ ys) (sym h.0) e)
  | inr e ↦ inr (ap₂ (λ y ys. y ∷ ys) h.0 e)
]

crosses-inside : (ss : List Spot) (i : ℕ) (us vs : List ℕ) → Crosses ss i us vs → i < length ss
crosses-inside [] i us vs h = absurd h
crosses-inside (s ∷ ss) zero us vs h = omega arith
crosses-inside (s ∷ ss) (suc i) [] vs h = absurd h
crosses-inside (s ∷ ss) (suc i) (u ∷ us) [] h = absurd h
crosses-inside (s ∷ ss) (suc i) (u ∷ us) (v ∷ vs) h = omega (arith, crosses-inside ss i us vs h.1)

crosses-length : (ss : List Spot) (i : ℕ) (us vs : List ℕ) → Crosses ss i us vs → length us ≡ length vs
crosses-length [] i us vs h = absurd h
crosses-length (s ∷ ss) zero [] vs h = absurd h
crosses-length (s ∷ ss) zero (u ∷ us) [] h = absurd h
crosses-length (s ∷ ss) zero (u ∷ us) (v ∷ vs) h = ap (λ (xs : List ℕ). suc (length xs)) h.2
crosses-length (s ∷ ss) (suc i) [] vs h = absurd h
crosses-length (s ∷ ss) (suc i) (u ∷ us) [] h = absurd h
crosses-length (s ∷ ss) (suc i) (u ∷ us) (v ∷ vs) h = ap suc (crosses-length ss i us vs h.1)

-- the place of a step's second cell has as many zeros behind it
padded-step : (ss : List Spot) (i : ℕ) (us vs : List ℕ) → Crosses ss i us vs → vs ++ replicate (4 - length us) 0 ≡ padded vs
padded-step ss i us vs h = ap (λ (l : ℕ). vs ++ replicate (4 - l) 0) (crosses-length ss i us vs h)

pub axis_of-step : (ss : List Spot) (level i : ℕ) (us vs : List ℕ) → Crosses ss i us vs → axis_between (padded us) (padded vs) ≡ i
axis_of-step ss level i us vs h =
    ap (axis_between (padded us)) (sym (padded-step ss i us vs h)) ∙ crosses-axis ss i us vs (replicate (4 - length us) 0) h

-- two cells, one next to the other on an axis
abbrev pub AreNeighbours : ℕ → ℕ → Place → Place → Type 0
AreNeighbours axes axis a b = (axis < axes) × ((b ≡ up_cell axis a) ⊎ (a ≡ up_cell axis b))

-- they share a face normal to it
pub neighbours-share : (axes axis : ℕ) (a b : Place) → AreNeighbours axes axis a b → (side : ℕ) × IsFace axes (face_of axis side) × ShareFace (face_of axis side) a b
neighbours-share axes axis a b n = elim n.1 [
  | inl e ↦ (1, (n.0, omega arith), (sym e, ap (across (face_of axis 0)) e ∙ across-up axis a))
  | inr e ↦ (0, (n.0, omega arith), (ap (across (face_of axis 0)) e ∙ across-up axis b, sym e))
]

step-neighbours : (axes : ℕ) (ss : List Spot) (level i : ℕ) (us vs : List ℕ) → length ss ≡ axes → Crosses ss i us vs → AreNeighbours axes (axis_of (at level us, at level vs)) (at level us) (at level vs)
step-neighbours axes ss level i us vs len h =
    let place = λ (pos : List ℕ). let p : Place = record { level = level; pos = pos } in p in
    let zs : List ℕ = replicate (4 - length us) 0 in
    subst (λ j. AreNeighbours axes j (at level us) (at level vs)) (sym (axis_of-step ss level i us vs h))
    (subst (λ xs. AreNeighbours axes i (at level us) (place xs)) (padded-step ss i us vs h) (
      omega (arith, len, crosses-inside ss i us vs h),
      elim (crosses-up ss i us vs zs h) [ inl e ↦ inl (ap place e) | inr e ↦ inr (ap place e) ],
    ))

-- each step goes from a cell to one next to it
abbrev pub AllNeighbours : ℕ → List (Place × Place) → Type 0
AllNeighbours axes all = Each (λ step. AreNeighbours axes (axis_of step) step.0 step.1) all

path-neighbours : (axes : ℕ) (f g : List ℕ → Option ℕ) (ss : List Spot) (level : ℕ) (a : List ℕ) (xs : List (List ℕ)) (z : List ℕ) → length ss ≡ axes → Path f g (Crosses ss) a xs z → AllNeighbours axes (zip (map (at level) (a ∷ xs)) (map (at level) xs))
path-neighbours axes f g ss level a [] z len path = tt
path-neighbours axes f g ss level a (b ∷ xs) z len path = (step-neighbours axes ss level path.0.axis a b len path.0.crosses, path-neighbours axes f g ss level b xs z len path.1)

-- the steps around a vertex, by the walk of its cells
pub steps-round : (axes level : ℕ) (way : Way) (qs : List ℕ) (len : length qs ≡ axes) → axes ≤ 4 → (r : Round axes (way_turns way) level (spots qs)) → steps (around axes way (at level qs)) ≡ zip (map (at level) (r.first ∷ r.walk.rest)) (map (at level) r.walk.rest)
steps-round axes level way qs len within r = ap (λ (xs : List Place). zip xs (drop 1 xs)) (around-holders axes level way qs len within ∙ ap (map (at level)) r.walk.is)

-- around a vertex, each cell is next to the one before it
pub around-neighbours : (axes : ℕ) (way : Way) (vertex : Place) → axes ≤ 4 → IsPosition axes (suc (3 ^ vertex.level)) vertex.pos → AllNeighbours axes (steps (around axes way vertex))
around-neighbours axes way vertex within h =
    let level = vertex.level in
    let qs = take axes vertex.pos in
    let len : length qs ≡ axes = length-front axes (suc (3 ^ level)) vertex.pos within h in
    let r = round axes (way_turns way) level (spots qs) (fits_within axes level qs len (Below-front axes (suc (3 ^ level)) vertex.pos h.inside)) in
    subst (λ v. AllNeighbours axes (steps (around axes way v))) (sym (at-front axes (suc (3 ^ level)) vertex within h))
    (subst (AllNeighbours axes) (sym (steps-round axes level way qs len within r))
    (path-neighbours axes (entry (way_turns way) level (spots qs)) (entry (suc (way_turns way)) level (spots qs)) (spots qs) level r.first r.walk.rest r.last (length-spots qs ∙ len) r.walk.path))

-- the cells of a step are next to each other
pub step_neighbours : (axes : ℕ) (way : Way) (vertex a b : Place) → axes ≤ 4 → IsPosition axes (suc (3 ^ vertex.level)) vertex.pos → is_step axes way vertex a b ≡ true → AreNeighbours axes (axis_of (a, b)) a b
step_neighbours axes way vertex a b within h t =
    list_any-Each _ (λ s. AreNeighbours axes (axis_of s) s.0 s.1) (AreNeighbours axes (axis_of (a, b)) a b)
    (λ s e n. subst₂ (λ x y. AreNeighbours axes (axis_of (x, y)) x y) (same_places s.0 a (and_parts (is_same s.0 a) (is_same s.1 b) e).0) (same_places s.1 b (and_parts (is_same s.0 a) (is_same s.1 b) e).1) n)
    (steps (around axes way vertex)) t (around-neighbours axes way vertex within h)

-- and share a face
pub steps-share : (axes : ℕ) (way : Way) (vertex : Place) → axes ≤ 4 → IsInside axes vertex → StepsAcrossFaces axes way vertex
steps-share axes way vertex within inside =
    All-from_recursion _ (steps (around axes way vertex))
    (Each-weaker _ _ (λ s n. neighbours-share axes (axis_of s) s.0 s.1 n) (steps (around axes way vertex)) (around-neighbours axes way vertex within (within_cube axes vertex inside)))
