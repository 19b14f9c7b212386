-- The loads and stores of one vertex, and its steps.
use Rattle.std.proofs.Common.{◌≡◌, ◌≢◌, ℕ, zero, suc, ◌+◌, ◌-◌, ◌<◌, ◌≤◌, ◌⊎◌, Bool, true, false, cond, ◌&&◌, ◌||◌, ◌==◌, nat_eq, List, [], ◌∷◌, ◌++◌, map, filter, reverse, length, take, drop, replicate, refl, sym, ap, ap₂, ◌∙◌, subst, inl, inr, append-nil, arith}
use Rattle.std.specs.List.{flat_map, AllByRecursion as Each}
use Rattle.std.specs.Cmp.Lexicographic.{pointwise}
use Rattle.std.proofs.lemmas.List.{map-append, reverse-reverse}
use Rattle.std.proofs.lemmas.List.Elements.{filter-append}
use Rattle.std.proofs.lemmas.List.Concat.{flat_map_single, flat_map-append}
use Rattle.std.proofs.lemmas.Bool.Decides.{nat_tests}
use Rattle.std.proofs.lemmas.Bool.{eq-eqb, ne_eqb, eqb-true, eqb-false}
use Rattle.pe_base.specs.declared.place.Place.{Place}
use Rattle.pe_base.specs.declared.way.Way.{Way}
use Rattle.pe_base.specs.Tree.Ways.{opposite}
use Rattle.pe_base.specs.Tree.Places.{root, finer, moved, is_same}
use Rattle.pe_base.specs.Tree.Curve.{digit_lists, children, order}
use Rattle.pe_base.specs.Steps.Around.{is_corner_pos, is_corner, around, steps}
use Rattle.pe_base.specs.Steps.Faces.{Touch, corner_touches, loads, stores, touched_for, steps_to, steps_from}
use Rattle.pe_base.proofs.Lists.{In, Each-all, Each-weaker, Each-map, Each-reverse, map-map, flat_map_same, flat_map_none, map-flat_map, flat_map-flat_map, filter-flat_map, filter-map, filter_none, filter_same, map-reverse, filter-reverse, reverse-flat_map}
use Rattle.pe_base.proofs.Tree.PlaceLaws.{finer-zeros, moved-none}
use Rattle.pe_base.proofs.Tree.Mirrors.{Digits3, digit_lists_below}
use Rattle.pe_base.proofs.Tree.Children.{reverse-children, child_of, child_ks, child_ks-below, children_are, length-digits}
use Rattle.pe_base.proofs.Tree.Corners.{bit_lists, touch_at, corner_touches_are}
use Rattle.pe_base.proofs.Faces.FaceLists.{reverse-stores}
use Rattle.pe_base.proofs.Tree.Ranks.{Rising, Rising-above, rank, rank_of, child_four, is_same-true, around_rises, top}
use Rattle.pe_base.proofs.Faces.Quiet.{false_unless}
use Rattle.pe_base.proofs.Faces.Waits.{deeper, deeper_is, deeper-suc}

-- In a list on which a number rises, the steps to the first items are the steps among them.
module _ {X : Type 0} (same : X → X → Bool) (r : X → ℕ) (itself : (x : X) → same x x ≡ true) (ranks : (x y : X) → same x y ≡ true → r x ≡ r y) where
  other : (x y : X) → r x < r y → same x y ≡ false
  other x y h = false_unless (same x y) (λ e. omega (arith, ranks x y e))

  pub other_back : (x y : X) → r x < r y → same y x ≡ false
  other_back x y h = false_unless (same y x) (λ e. omega (arith, ranks y x e))

  abbrev pub to : List X → X → List (X × X)
  to xs x = filter (λ s. same s.1 x) (steps xs)

  abbrev from : List X → X → List (X × X)
  from xs x = filter (λ s. same s.0 x) (steps xs)

  pub later_steps : (low high : ℕ) (xs : List X) → Rising r low xs high → Each (λ s. (low ≤ r s.0) × (suc low ≤ r s.1)) (steps xs)
  later_steps low high [] s = tt
  later_steps low high (x ∷ []) s = tt
  later_steps low high (x ∷ y ∷ xs) s = ((s.0, omega (arith, s.0, s.1.0)), Each-weaker _ _ (λ e h. (omega (arith, h.0, s.0), omega (arith, h.1, s.0))) (steps (y ∷ xs)) (later_steps (suc (r x)) high (y ∷ xs) s.1))

  Each-take : (P : X → Type 0) (n : ℕ) (xs : List X) → Each P xs → Each P (take n xs)
  Each-take P zero xs e = tt
  Each-take P (suc n) [] e = tt
  Each-take P (suc n) (x ∷ xs) e = (e.0, Each-take P n xs e.1)

  to_first : (low high : ℕ) (x : X) (xs : List X) → Rising r low (x ∷ xs) high → to (x ∷ xs) x ≡ []
  to_first low high x xs s = filter_none (λ e. same e.1 x) (steps (x ∷ xs)) (Each-weaker _ _ (λ e h. other_back x e.1 h.1) (steps (x ∷ xs)) (later_steps (r x) high (x ∷ xs) (omega arith, s.1)))

  skip : {Y : Type 0} (p : Y → Bool) (y : Y) (ys : List Y) → p y ≡ false → filter p (y ∷ ys) ≡ filter p ys
  skip p y ys h = ap (λ b. cond b (y ∷ filter p ys) (filter p ys)) h

  pub steps_to_first : (n low high : ℕ) (xs : List X) → Rising r low xs high → flat_map (to xs) (take n xs) ≡ steps (take n xs)
  steps_to_first zero low high xs s = refl
  steps_to_first (suc n) low high [] s = refl
  steps_to_first (suc n) low high (x ∷ []) s = ap (λ ys. ys ++ flat_map (to (x ∷ [])) (take n [])) (to_first low high x [] s) ∙ none n
    where
      none : (m : ℕ) → flat_map (to (x ∷ [])) (take m []) ≡ steps (x ∷ take m [])
      none zero = refl
      none (suc m) = refl
  steps_to_first (suc zero) low high (x ∷ y ∷ xs) s = ap (λ ys. ys ++ []) (to_first low high x (y ∷ xs) s)
  steps_to_first (suc (suc n)) low high (x ∷ y ∷ xs) s =
      let two : to (x ∷ y ∷ xs) y ≡ (x, y) ∷ [] = ap₂ (λ b t. cond b ((x, y) ∷ t) t) (itself y) (to_first (suc (r x)) high y xs s.1) in
      let tail : flat_map (to (x ∷ y ∷ xs)) (take n xs) ≡ flat_map (to (y ∷ xs)) (take n xs) =
      flat_map_same _ _ (take n xs) (Each-take _ n xs (Each-weaker _ _ (λ c h. skip (λ e. same e.1 c) (x, y) (steps (y ∷ xs)) (other y c h)) xs (Rising-above r (suc (r y)) high xs s.1.1))) in
      let ih : flat_map (to (y ∷ xs)) (take n xs) ≡ steps (y ∷ take n xs) = sym (ap (λ t. t ++ flat_map (to (y ∷ xs)) (take n xs)) (to_first (suc (r x)) high y xs s.1)) ∙ steps_to_first (suc n) (suc (r x)) high (y ∷ xs) s.1 in
      ap₂ (λ a b. a ++ b) (to_first low high x (y ∷ xs) s) (ap₂ (λ a b. a ++ b) two (tail ∙ ih))

  pub steps_from_first : (n low high : ℕ) (xs : List X) → Rising r low xs high → flat_map (from xs) (take n xs) ≡ steps (take (suc n) xs)
  steps_from_first zero low high [] s = refl
  steps_from_first zero low high (x ∷ xs) s = refl
  steps_from_first (suc n) low high [] s = refl
  steps_from_first (suc n) low high (x ∷ []) s = none n
    where
      none : (m : ℕ) → flat_map (from (x ∷ [])) (take m []) ≡ []
      none zero = refl
      none (suc m) = refl
  steps_from_first (suc n) low high (x ∷ y ∷ xs) s =
      let one : from (x ∷ y ∷ xs) x ≡ (x, y) ∷ [] = ap₂ (λ b t. cond b ((x, y) ∷ t) t) (itself x)
      (filter_none (λ e. same e.0 x) (steps (y ∷ xs)) (Each-weaker _ _ (λ e h. other_back x e.0 h.0) (steps (y ∷ xs)) (later_steps (suc (r x)) high (y ∷ xs) s.1))) in
      let tail : flat_map (from (x ∷ y ∷ xs)) (take n (y ∷ xs)) ≡ flat_map (from (y ∷ xs)) (take n (y ∷ xs)) =
      flat_map_same _ _ (take n (y ∷ xs)) (Each-take _ n (y ∷ xs) (Each-weaker _ _ (λ c h. skip (λ e. same e.0 c) (x, y) (steps (y ∷ xs)) (other x c h)) (y ∷ xs) (Rising-above r (suc (r x)) high (y ∷ xs) s.1))) in
      ap₂ (λ a b. a ++ b) one (tail ∙ steps_from_first n (suc (r x)) high (y ∷ xs) s.1)

-- at most one step ends at an item
module _ {X : Type 0} (same : X → X → Bool) (r : X → ℕ) (itself : (x : X) → same x x ≡ true) (ranks : (x y : X) → same x y ≡ true → r x ≡ r y) where
  pub step_alone : (low high : ℕ) (xs : List X) (x : X) → Rising r low xs high → (to same r itself ranks xs x ≡ []) ⊎ ((s : X × X) × (to same r itself ranks xs x ≡ s ∷ []))
  step_alone low high [] x s = inl refl
  step_alone low high (a ∷ []) x s = inl refl
  step_alone low high (a ∷ b ∷ xs) x s = go (same b x) refl (step_alone (suc (r a)) high (b ∷ xs) x s.1)
    where
      more : List (X × X)
      more = to same r itself ranks (b ∷ xs) x

      go : (t : Bool) → same b x ≡ t → (more ≡ []) ⊎ ((e : X × X) × (more ≡ e ∷ [])) → (cond t ((a, b) ∷ more) more ≡ []) ⊎ ((e : X × X) × (cond t ((a, b) ∷ more) more ≡ e ∷ []))
      go true is ih = inr (
        (a, b),
        ap (λ m. (a, b) ∷ m) (filter_none (λ e. same e.1 x) (steps (b ∷ xs))
            (Each-weaker _ _ (λ e h. other_back same r itself ranks x e.1 (omega (arith, h.1, ranks b x is))) (steps (b ∷ xs)) (later_steps same r itself ranks (r b) high (b ∷ xs) (omega arith, s.1.1)))),
      )
      go false is ih = ih

-- a place is the same as itself
pub same_itself : (x : ℕ) → (x == x) ≡ true
same_itself x = grind (arith, nat_tests)

pub pos_itself : (xs : List ℕ) → pointwise nat_eq xs xs ≡ true
pos_itself [] = refl
pos_itself (x ∷ xs) = ap₂ (λ a b. a && b) (same_itself x) (pos_itself xs)

pub is_same_itself : (a : Place) → is_same a a ≡ true
is_same_itself a = ap₂ (λ x y. x && y) (same_itself a.level) (pos_itself a.pos)

pub steps_to_cells : (axes : ℕ) (way : Way) (vertex : Place) (n : ℕ) → axes ≤ 4 → flat_map (steps_to axes way vertex) (take n (around axes way vertex)) ≡ steps (take n (around axes way vertex))
steps_to_cells axes way vertex n four = steps_to_first is_same (rank_of axes way vertex.level) is_same_itself (λ x y e. ap (λ p. rank axes way vertex.level p) (is_same-true x y e).1)
    n 0 (top axes vertex.level) (around axes way vertex) (around_rises axes way vertex four)

pub steps_from_cells : (axes : ℕ) (way : Way) (vertex : Place) (n : ℕ) → axes ≤ 4 → flat_map (steps_from axes way vertex) (take n (around axes way vertex)) ≡ steps (take (suc n) (around axes way vertex))
steps_from_cells axes way vertex n four = steps_from_first is_same (rank_of axes way vertex.level) is_same_itself (λ x y e. ap (λ p. rank axes way vertex.level p) (is_same-true x y e).1)
    n 0 (top axes vertex.level) (around axes way vertex) (around_rises axes way vertex four)

-- the cells some levels below a cell, in the order of the walk
abbrev pub below : ℕ → Way → ℕ → Place → List Place
below axes way zero cell = cell ∷ []
below axes way (suc m) cell = flat_map (below axes way m) (children axes way cell)

pub below_order : (axes : ℕ) (way : Way) (m level : ℕ) → flat_map (below axes way m) (order axes way level) ≡ order axes way (deeper m level)
below_order axes way zero level = flat_map_single (λ c. c) (order axes way level) ∙ same (order axes way level)
  where
    same : (xs : List Place) → map (λ c. c) xs ≡ xs
    same [] = refl
    same (x ∷ xs) = ap (λ ys. x ∷ ys) (same xs)
below_order axes way (suc m) level =
    sym (flat_map-flat_map (below axes way m) (children axes way) (order axes way level)) ∙ below_order axes way m (suc level) ∙ ap (order axes way) (deeper-suc m level)

-- places with four positions, those behind the axes 0
abbrev pub OnGrid : ℕ → ℕ → Place → Type 0
OnGrid axes level place = (place.level ≡ level) × (length place.pos ≡ 4) × (drop axes place.pos ≡ replicate (4 - axes) 0)

drop-finer : (n : ℕ) (pos ks zs : List ℕ) → length ks ≡ n → n ≤ length pos → drop n (finer pos (ks ++ zs)) ≡ finer (drop n pos) zs
drop-finer zero pos [] zs k l = refl
drop-finer zero pos (x ∷ ks) zs k l = absurd (omega arith)
drop-finer (suc n) [] ks zs k l = absurd (omega arith)
drop-finer (suc n) (x ∷ pos) [] zs k l = absurd (omega arith)
drop-finer (suc n) (x ∷ pos) (y ∷ ks) zs k l = drop-finer n pos ks zs (omega arith) (omega arith)

pub child_on_grid : (axes : ℕ) (way : Way) (level : ℕ) (cell : Place) (ts : List ℕ) → axes ≤ 4 → OnGrid axes level cell → Digits3 axes ts → OnGrid axes (suc level) (child_of axes way cell ts)
child_on_grid axes way level cell ts four on d = (
  omega (arith, on.0),
  child_four axes way cell ts four on.1 d,
  drop-finer axes cell.pos (child_ks axes way cell ts) (replicate (4 - axes) 0) (length-digits axes (child_ks axes way cell ts) (child_ks-below axes way cell ts d)) (omega (arith, on.1))
      ∙ ap (λ p. finer p (replicate (4 - axes) 0)) on.2 ∙ finer-zeros (4 - axes),
)

pub children_on_grid : (axes : ℕ) (way : Way) (level : ℕ) (cell : Place) → axes ≤ 4 → OnGrid axes level cell → Each (OnGrid axes (suc level)) (children axes way cell)
children_on_grid axes way level cell four on = subst (Each (OnGrid axes (suc level))) (sym (children_are axes way cell))
    (Each-map (OnGrid axes (suc level)) (child_of axes way cell) (digit_lists axes) (Each-weaker (Digits3 axes) _ (λ ts d. child_on_grid axes way level cell ts four on d) (digit_lists axes) (digit_lists_below axes)))

-- a coordinate is a cell's near one, or its far one, or neither
near_or_far : (x y : ℕ) → (((x + 0 == y) ≡ true) × ((x + 1 == y) ≡ false) × ((y == x || y == x + 1) ≡ true))
    ⊎ ((((x + 0 == y) ≡ false) × ((x + 1 == y) ≡ true) × ((y == x || y == x + 1) ≡ true)) ⊎ (((x + 0 == y) ≡ false) × ((x + 1 == y) ≡ false) × ((y == x || y == x + 1) ≡ false)))
near_or_far x y = pick (y == x) (y == x + 1) refl refl
  where
    pick : (s t : Bool) → (y == x) ≡ s → (y == x + 1) ≡ t → (((x + 0 == y) ≡ true) × ((x + 1 == y) ≡ false) × ((s || t) ≡ true))
        ⊎ ((((x + 0 == y) ≡ false) × ((x + 1 == y) ≡ true) × ((s || t) ≡ true)) ⊎ (((x + 0 == y) ≡ false) × ((x + 1 == y) ≡ false) × ((s || t) ≡ false)))
    pick true t e f = let k = eqb-true y x e in inl (eq-eqb (x + 0) y (omega arith), ne_eqb (x + 1) y (omega arith), refl)
    pick false true e f = let k = eqb-true y (x + 1) f in inr (inl (ne_eqb (x + 0) y (omega arith), eq-eqb (x + 1) y (omega arith), refl))
    pick false false e f = let k = eqb-false y x e in let m = eqb-false y (x + 1) f in inr (inr (ne_eqb (x + 0) y (omega arith), ne_eqb (x + 1) y (omega arith), refl))

one_each : {X Y : Type 0} (cell : Place) (rest : X → Bool) (k : X → Y) (xs : List X) → flat_map (λ x. map (λ (y : Y). cell) (cond (rest x) (k x ∷ []) [])) xs ≡ map (λ (x : X). cell) (filter rest xs)
one_each cell rest k [] = refl
one_each cell rest k (x ∷ xs) = ap (λ r. map (λ y. cell) (cond (rest x) (k x ∷ []) []) ++ r) (one_each cell rest k xs) ∙ go (rest x)
  where
    go : (b : Bool) → map (λ y. cell) (cond b (k x ∷ []) []) ++ map (λ z. cell) (filter rest xs) ≡ map (λ z. cell) (cond b (x ∷ filter rest xs) (filter rest xs))
    go true = refl
    go false = refl

-- of the corners of a cell, a vertex is one or none
one_corner : (n : ℕ) (cell : Place) (pos q : List ℕ) → n ≤ length pos → length q ≡ length pos → drop n q ≡ drop n pos
    → map (λ (bs : List ℕ). cell) (filter (λ bs. pointwise nat_eq (moved pos bs) q) (bit_lists n)) ≡ cond (is_corner_pos q pos) (cell ∷ []) []
one_corner zero cell pos q l m e =
    subst (λ p. map (λ (bs : List ℕ). cell) (filter (λ bs. pointwise nat_eq (moved p bs) q) ([] ∷ [])) ≡ cond (is_corner_pos q p) (cell ∷ []) []) e (alone q)
  where
    own : (p : List ℕ) → is_corner_pos p p ≡ true
    own [] = refl
    own (x ∷ p) = ap₂ (λ a b. a && b) (ap (λ b. b || (x == x + 1)) (same_itself x)) (own p)

    alone : (p : List ℕ) → map (λ (bs : List ℕ). cell) (filter (λ bs. pointwise nat_eq (moved p bs) p) ([] ∷ [])) ≡ cond (is_corner_pos p p) (cell ∷ []) []
    alone p = ap (λ b. map (λ (bs : List ℕ). cell) (cond b ([] ∷ []) [])) (ap (λ z. pointwise nat_eq z p) (moved-none p) ∙ pos_itself p) ∙ ap (λ b. cond b (cell ∷ []) []) (sym (own p))
one_corner (suc n) cell [] q l m e = absurd (omega arith)
one_corner (suc n) cell (x ∷ pos) [] l m e = absurd (omega arith)
one_corner (suc n) cell (x ∷ pos) (y ∷ q) l m e =
    let both = λ (bs : List ℕ). (0 ∷ bs) ∷ (1 ∷ bs) ∷ [] in
    let test = λ (bs : List ℕ). pointwise nat_eq (moved (x ∷ pos) bs) (y ∷ q) in
    ap (map (λ (bs : List ℕ). cell)) (filter-flat_map test both (bit_lists n))
    ∙ map-flat_map (λ (bs : List ℕ). cell) (λ bs. filter test (both bs)) (bit_lists n)
    ∙ go (x + 0 == y) (x + 1 == y) (y == x || y == x + 1) (near_or_far x y) (one_corner n cell pos q (omega arith) (omega arith) e)
  where
    go : (s t u : Bool) → ((s ≡ true) × (t ≡ false) × (u ≡ true)) ⊎ (((s ≡ false) × (t ≡ true) × (u ≡ true)) ⊎ ((s ≡ false) × (t ≡ false) × (u ≡ false)))
        → map (λ (bs : List ℕ). cell) (filter (λ bs. pointwise nat_eq (moved pos bs) q) (bit_lists n)) ≡ cond (is_corner_pos q pos) (cell ∷ []) []
        → flat_map (λ bs. map (λ (cs : List ℕ). cell) (cond (s && pointwise nat_eq (moved pos bs) q) ((0 ∷ bs) ∷ cond (t && pointwise nat_eq (moved pos bs) q) ((1 ∷ bs) ∷ []) []) (cond (t && pointwise nat_eq (moved pos bs) q) ((1 ∷ bs) ∷ []) []))) (bit_lists n)
        ≡ cond (u && is_corner_pos q pos) (cell ∷ []) []
    go s t u h ih = elim h [
      | inl k ↦ rw (k.0, k.1, k.2) (one_each cell (λ bs. pointwise nat_eq (moved pos bs) q) (λ bs. 0 ∷ bs) (bit_lists n) ∙ ih)
      | inr i ↦ elim i [
        | inl k ↦ rw (k.0, k.1, k.2) (one_each cell (λ bs. pointwise nat_eq (moved pos bs) q) (λ bs. 1 ∷ bs) (bit_lists n) ∙ ih)
        | inr k ↦ rw (k.0, k.1, k.2) (flat_map_none _ (bit_lists n) (Each-all _ (λ bs. refl) (bit_lists n)))
      ]
    ]

-- among the touches of a cell's own corners, those of a vertex of its level
pub own_touches : (axes : ℕ) (vertex cell : Place) → axes ≤ 4 → OnGrid axes vertex.level vertex → OnGrid axes vertex.level cell → touched_for vertex (reverse (corner_touches axes cell)) ≡ cond (is_corner vertex cell) (cell ∷ []) []
own_touches axes vertex cell four v c =
    let same = λ (t : Touch). is_same t.vertex vertex in
    let test = λ (bs : List ℕ). pointwise nat_eq (moved cell.pos bs) vertex.pos in
    let level : (cell.level == vertex.level) ≡ true = eq-eqb cell.level vertex.level c.0 in
    ap (λ ts. map (λ (t : Touch). t.cell) (filter same (reverse ts))) (corner_touches_are axes cell four)
    ∙ ap (map (λ t. t.cell)) (filter-reverse same (map (touch_at cell) (bit_lists axes)) ∙ ap reverse (filter-map same (touch_at cell) (bit_lists axes)
    ∙ ap (map (touch_at cell)) (filter_same (λ bs. same (touch_at cell bs)) test (bit_lists axes) (Each-all _ (λ bs. ap (λ b. b && test bs) level) (bit_lists axes)))))
    ∙ map-reverse (λ t. t.cell) (map (touch_at cell) (filter test (bit_lists axes)))
    ∙ ap reverse (map-map (λ t. t.cell) (touch_at cell) (filter test (bit_lists axes))
    ∙ one_corner axes cell cell.pos vertex.pos (omega (arith, c.1)) (v.1 ∙ sym c.1) (v.2 ∙ sym c.2))
    ∙ one (is_corner_pos vertex.pos cell.pos) ∙ ap (λ b. cond (b && is_corner_pos vertex.pos cell.pos) (cell ∷ []) []) (sym (eq-eqb vertex.level cell.level (sym c.0)))
  where
    one : (b : Bool) → reverse (cond b (cell ∷ []) []) ≡ cond b (cell ∷ []) []
    one true = refl
    one false = refl

-- none of another level
other_touches : (axes : ℕ) (vertex cell : Place) → axes ≤ 4 → cell.level ≢ vertex.level → touched_for vertex (reverse (corner_touches axes cell)) ≡ []
other_touches axes vertex cell four h =
    ap (map (λ (t : Touch). t.cell)) (filter_none (λ t. is_same t.vertex vertex) (reverse (corner_touches axes cell)) (Each-reverse _ (corner_touches axes cell) (subst (Each _) (sym (corner_touches_are axes cell four))
    (Each-map _ (touch_at cell) (bit_lists axes) (Each-all _ (λ bs. ap (λ b. b && pointwise nat_eq (moved cell.pos bs) vertex.pos) (ne_eqb cell.level vertex.level h)) (bit_lists axes))))))

pub touched-append : (vertex : Place) (ts us : List Touch) → touched_for vertex (ts ++ us) ≡ touched_for vertex ts ++ touched_for vertex us
touched-append vertex ts us = ap (map (λ t. t.cell)) (filter-append (λ t. is_same t.vertex vertex) ts us) ∙ map-append (λ t. t.cell) (filter (λ t. is_same t.vertex vertex) ts) (filter (λ t. is_same t.vertex vertex) us)

pub touched-flat_map : {X : Type 0} (vertex : Place) (f : X → List Touch) (xs : List X) → touched_for vertex (flat_map f xs) ≡ flat_map (λ x. touched_for vertex (f x)) xs
touched-flat_map vertex f [] = refl
touched-flat_map vertex f (x ∷ xs) = touched-append vertex (f x) (flat_map f xs) ∙ ap (λ r. touched_for vertex (f x) ++ r) (touched-flat_map vertex f xs)

-- a cell of a greater level loads no corner that is the vertex
deeper_touches : (axes : ℕ) (way : Way) (levels level : ℕ) (vertex cell : Place) → axes ≤ 4 → OnGrid axes level cell → vertex.level < level → touched_for vertex (loads axes way levels cell) ≡ []
deeper_touches axes way zero level vertex cell four c h = other_touches axes vertex cell four (omega (arith, c.0))
deeper_touches axes way (suc levels) level vertex cell four c h =
    touched-append vertex (reverse (corner_touches axes cell)) (flat_map (loads axes way levels) (children axes way cell))
    ∙ ap₂ (λ x y. x ++ y) (other_touches axes vertex cell four (omega (arith, c.0)))
    (touched-flat_map vertex (loads axes way levels) (children axes way cell)
    ∙ flat_map_none _ (children axes way cell) (Each-weaker (OnGrid axes (suc level)) _ (λ d on. deeper_touches axes way levels (suc level) vertex d four on (omega arith)) (children axes way cell) (children_on_grid axes way level cell four c)))

-- the loads of a vertex within a cell are for the cells around it, in the order of the walk
pub loads_below : (axes : ℕ) (way : Way) (m more level : ℕ) (vertex cell : Place) → axes ≤ 4 → OnGrid axes vertex.level vertex → OnGrid axes level cell → vertex.level ≡ deeper m level
    → touched_for vertex (loads axes way (m + more) cell) ≡ filter (is_corner vertex) (below axes way m cell)
loads_below axes way zero zero level vertex cell four v c h = own_touches axes vertex cell four v (c.0 ∙ sym h, c.1, c.2)
loads_below axes way zero (suc more) level vertex cell four v c h =
    ap (λ n. touched_for vertex (loads axes way n cell)) (let e : 0 + suc more ≡ suc more = omega arith in e)
    ∙ touched-append vertex (reverse (corner_touches axes cell)) (flat_map (loads axes way more) (children axes way cell))
    ∙ ap₂ (λ x y. x ++ y) (own_touches axes vertex cell four v (c.0 ∙ sym h, c.1, c.2))
    (touched-flat_map vertex (loads axes way more) (children axes way cell)
    ∙ flat_map_none _ (children axes way cell) (Each-weaker (OnGrid axes (suc level)) _ (λ d on. deeper_touches axes way more (suc level) vertex d four on (omega (arith, h))) (children axes way cell) (children_on_grid axes way level cell four c)))
    ∙ append-nil _
loads_below axes way (suc m) more level vertex cell four v c h =
    ap (λ n. touched_for vertex (loads axes way n cell)) (let e : suc m + more ≡ suc (m + more) = omega arith in e)
    ∙ touched-append vertex (reverse (corner_touches axes cell)) (flat_map (loads axes way (m + more)) (children axes way cell))
    ∙ ap₂ (λ x y. x ++ y) (other_touches axes vertex cell four (omega (arith, c.0, h, deeper_is m level)))
    (touched-flat_map vertex (loads axes way (m + more)) (children axes way cell)
    ∙ flat_map_same _ (λ d. filter (is_corner vertex) (below axes way m d)) (children axes way cell)
    (Each-weaker (OnGrid axes (suc level)) _ (λ d on. loads_below axes way m more (suc level) vertex d four v on (h ∙ sym (deeper-suc m level))) (children axes way cell) (children_on_grid axes way level cell four c)))
    ∙ sym (filter-flat_map (is_corner vertex) (below axes way m) (children axes way cell))

pub root_on_grid : (axes : ℕ) → axes ≤ 4 → OnGrid axes 0 root
root_on_grid axes four = (refl, refl, zeros axes four)
  where
    zeros : (n : ℕ) → n ≤ 4 → drop {A = ℕ} n (0 ∷ 0 ∷ 0 ∷ 0 ∷ []) ≡ replicate (4 - n) 0
    zeros zero h = refl
    zeros (suc zero) h = refl
    zeros (suc (suc zero)) h = refl
    zeros (suc (suc (suc zero))) h = refl
    zeros (suc (suc (suc (suc zero)))) h = refl
    zeros (suc (suc (suc (suc (suc n))))) h = absurd (omega arith)

pub loaded_for_around : (axes : ℕ) (way : Way) (levels : ℕ) (vertex : Place) → axes ≤ 4 → OnGrid axes vertex.level vertex → vertex.level ≤ levels → touched_for vertex (loads axes way levels root) ≡ around axes way vertex
loaded_for_around axes way levels vertex four v h =
    let more = levels - vertex.level in
    ap (λ n. touched_for vertex (loads axes way n root)) (let e : levels ≡ vertex.level + more = omega arith in e)
    ∙ loads_below axes way vertex.level more 0 vertex root four v (root_on_grid axes four) (omega (arith, deeper_is vertex.level 0))
    ∙ ap (filter (is_corner vertex)) (sym (append-nil (below axes way vertex.level root)) ∙ below_order axes way vertex.level 0 ∙ ap (order axes way) (let e : deeper vertex.level 0 ≡ vertex.level = omega (arith, deeper_is vertex.level 0) in e))

-- the order in the other way is the order backwards
pub reverse-order : (axes : ℕ) (way : Way) (level : ℕ) → order axes (opposite way) level ≡ reverse (order axes way level)
reverse-order axes way zero = refl
reverse-order axes way (suc level) =
    ap (flat_map (children axes (opposite way))) (reverse-order axes way level)
    ∙ flat_map_same _ (λ c. reverse (children axes way c)) (reverse (order axes way level)) (Each-all _ (λ c. sym (reverse-children axes way c)) (reverse (order axes way level)))
    ∙ sym (reverse-flat_map (children axes way) (order axes way level))

-- the stores of a vertex are in the same order
pub stored_for_around : (axes : ℕ) (way : Way) (levels : ℕ) (vertex : Place) → axes ≤ 4 → OnGrid axes vertex.level vertex → vertex.level ≤ levels → touched_for vertex (stores axes way levels root) ≡ around axes way vertex
stored_for_around axes way levels vertex four v h =
    ap (touched_for vertex) (sym (reverse-reverse (stores axes way levels root)) ∙ ap reverse (reverse-stores axes way levels root))
    ∙ ap (map (λ t. t.cell)) (filter-reverse (λ t. is_same t.vertex vertex) (loads axes (opposite way) levels root))
    ∙ map-reverse (λ t. t.cell) (filter (λ t. is_same t.vertex vertex) (loads axes (opposite way) levels root))
    ∙ ap reverse (loaded_for_around axes (opposite way) levels vertex four v h ∙ ap (filter (is_corner vertex)) (reverse-order axes way vertex.level) ∙ filter-reverse (is_corner vertex) (order axes way vertex.level))
    ∙ reverse-reverse (around axes way vertex)

-- an item of a list stands between what is before it and what is behind it
between_others : {X : Type 0} (x : X) (xs : List X) → In x xs → (before : List X) × (behind : List X) × (xs ≡ before ++ x ∷ behind)
between_others x [] i = absurd (omega arith)
between_others x (y ∷ xs) i = elim i [
  | inl e ↦ ([], xs, ap (λ z. z ∷ xs) (sym e))
  | inr j ↦ let rest = between_others x xs j in (y ∷ rest.0, rest.1, ap (λ zs. y ∷ zs) rest.2)
]

-- a cell that ends above a vertex does not load it
higher_touches : (axes : ℕ) (way : Way) (levels level : ℕ) (vertex cell : Place) → axes ≤ 4 → OnGrid axes level cell → level + levels < vertex.level → touched_for vertex (loads axes way levels cell) ≡ []
higher_touches axes way zero level vertex cell four c h = other_touches axes vertex cell four (omega (arith, c.0))
higher_touches axes way (suc levels) level vertex cell four c h =
    touched-append vertex (reverse (corner_touches axes cell)) (flat_map (loads axes way levels) (children axes way cell))
    ∙ ap₂ (λ x y. x ++ y) (other_touches axes vertex cell four (omega (arith, c.0)))
    (touched-flat_map vertex (loads axes way levels) (children axes way cell)
    ∙ flat_map_none _ (children axes way cell) (Each-weaker (OnGrid axes (suc level)) _ (λ d on. higher_touches axes way levels (suc level) vertex d four on (omega arith)) (children axes way cell) (children_on_grid axes way level cell four c)))

-- the cells for which a cell loads a vertex stand together around it
pub stand_together : (axes : ℕ) (way : Way) (levels : ℕ) (vertex cell : Place) → axes ≤ 4 → OnGrid axes vertex.level vertex → OnGrid axes cell.level cell → In cell (order axes way cell.level)
    → (before : List Place) × (behind : List Place) × (around axes way vertex ≡ before ++ (touched_for vertex (loads axes way levels cell) ++ behind))
stand_together axes way levels vertex cell four v c i = elim (where_it_is vertex.level cell.level levels) [
  | inl h ↦ ([], around axes way vertex, ap (λ l. l ++ around axes way vertex) (sym (deeper_touches axes way levels cell.level vertex cell four c h)))
  | inr more ↦ elim more [
    | inl h ↦ ([], around axes way vertex, ap (λ l. l ++ around axes way vertex) (sym (higher_touches axes way levels cell.level vertex cell four c h)))
    | inr h ↦
        let m = vertex.level - cell.level in
        let test = is_corner vertex in
        let parts = between_others cell (order axes way cell.level) i in
        let f = λ (cells : List Place). filter test (flat_map (below axes way m) cells) in (
          f parts.0,
          f parts.1,
          ap (λ n. filter test (order axes way n)) (let e : vertex.level ≡ deeper m cell.level = omega (arith, deeper_is m cell.level) in e)
              ∙ ap (filter test) (sym (below_order axes way m cell.level) ∙ ap (flat_map (below axes way m)) parts.2 ∙ flat_map-append (below axes way m) parts.0 (cell ∷ parts.1))
              ∙ filter-append test (flat_map (below axes way m) parts.0) (below axes way m cell ++ flat_map (below axes way m) parts.1)
              ∙ ap (λ r. f parts.0 ++ r) (filter-append test (below axes way m cell) (flat_map (below axes way m) parts.1))
              ∙ ap (λ r. f parts.0 ++ (r ++ f parts.1))
              (sym (loads_below axes way m (levels - m) cell.level vertex cell four v c (let e : vertex.level ≡ deeper m cell.level = omega (arith, deeper_is m cell.level) in e))
              ∙ ap (λ n. touched_for vertex (loads axes way n cell)) (let e : m + (levels - m) ≡ levels = omega arith in e)),
        )
  ]
]
  where
    where_it_is : (a b n : ℕ) → (a < b) ⊎ ((b + n < a) ⊎ ((b ≤ a) × (a ≤ b + n)))
    where_it_is a b n = grind arith
