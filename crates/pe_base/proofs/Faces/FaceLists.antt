-- The lists of a face: those of the cell's own corners and of its children at the face; neighbours agree.
use Rattle.std.proofs.Common.{◌≡◌, ℕ, zero, suc, ◌+◌, ◌-◌, ◌*◌, ◌^◌, ◌<◌, ◌≤◌, ◌⊎◌, Bool, true, false, ◌&&◌, ◌==◌, List, [], ◌∷◌, ◌++◌, map, filter, reverse, length, slice_index, slice_set, replicate, refl, sym, ap, ap₂, ◌∙◌, subst, inl, inr, le_trans, pow-suc, mul-le-mul_right, arith}
use Rattle.std.specs.List.{flat_map, AllByRecursion as Each}
use Rattle.std.proofs.lemmas.List.{length-set, map-append, reverse-append}
use Rattle.std.proofs.lemmas.List.Elements.{filter-append}
use Rattle.std.proofs.lemmas.Bool.Decides.{nat_tests}
use Rattle.std.proofs.lemmas.Bool.{eqb-true}
use Rattle.std.proofs.lemmas.List.Folds.{flat_map-map}
use Rattle.pe_base.specs.declared.place.Place.{Place}
use Rattle.pe_base.specs.declared.way.Way.{Way}
use Rattle.pe_base.specs.Tree.Ways.{opposite}
use Rattle.pe_base.specs.declared.way.Way.TheVariants.{Forward, Inverted}
use Rattle.pe_base.specs.Tree.Places.{moved}
use Rattle.pe_base.specs.Tree.Curve.{digit_lists, children}
use Rattle.pe_base.specs.Steps.Faces.{Face, Touch, across, in_finest, is_step, corner_touches, loads, stores, comes_across, goes_across, at_face, arriving, leaving}
use Rattle.pe_base.proofs.Lists.{Each-all, Each-weaker, Each-append, Each-map, Each-flat_map, Each-filter, Each-reverse, flat_map_same, flat_map-filter, reverse-flat_map, filter_same, filter_none}
use Rattle.pe_base.proofs.Tree.Mirrors.{Digits3, digit_lists_below, turned_across, turned_across-digit, up}
use Rattle.pe_base.proofs.Tree.Children.{flips_in, flips_agree, length-flips, child_of, child_ks, child_ks-below, child_index, child_length, children_are, reverse-children, slice_index-below}
use Rattle.pe_base.proofs.Tree.Corners.{IsBits, bit_lists, bit_lists_below, shared_corners, slice_index-moved, slice_index-bits, touch_at, corner_touches_are, pow_three, same_tests, own_corners}

abbrev pub face_of : ℕ → ℕ → Face
face_of axis side = record { axis = axis; side = side }

-- the next cell on an axis
abbrev pub up_cell : ℕ → Place → Place
up_cell axis cell = record { level = cell.level; pos = up axis cell.pos }

-- at_face, at a plane given in widths of the finest cells
abbrev pub at_plane : (Touch → Bool) → ℕ → ℕ → ℕ → List Touch → List Place
at_plane test finest axis x touches = map (λ touch. touch.vertex) (filter (λ touch. in_finest finest touch.vertex.level (slice_index touch.vertex.pos axis) == x && test touch) touches)

at_plane-append : (test : Touch → Bool) (finest axis x : ℕ) (ts us : List Touch) → at_plane test finest axis x (ts ++ us) ≡ at_plane test finest axis x ts ++ at_plane test finest axis x us
at_plane-append test finest axis x ts us = ap (map (λ t. t.vertex)) (filter-append _ ts us) ∙ map-append (λ t. t.vertex) (filter (λ touch. in_finest finest touch.vertex.level (slice_index touch.vertex.pos axis) == x && test touch) ts) (filter (λ touch. in_finest finest touch.vertex.level (slice_index touch.vertex.pos axis) == x && test touch) us)

at_plane-flat_map : {X : Type 0} (test : Touch → Bool) (finest axis x : ℕ) (f : X → List Touch) (xs : List X)
    → at_plane test finest axis x (flat_map f xs) ≡ flat_map (λ y. at_plane test finest axis x (f y)) xs
at_plane-flat_map test finest axis x f [] = refl
at_plane-flat_map test finest axis x f (y ∷ ys) = at_plane-append test finest axis x (f y) (flat_map f ys) ∙ ap (λ r. at_plane test finest axis x (f y) ++ r) (at_plane-flat_map test finest axis x f ys)

-- a vertex lies between two planes
abbrev pub Within : ℕ → ℕ → ℕ → ℕ → Touch → Type 0
Within finest axis low high t = (low ≤ in_finest finest t.vertex.level (slice_index t.vertex.pos axis)) × (in_finest finest t.vertex.level (slice_index t.vertex.pos axis) ≤ high)

at_plane_none : (test : Touch → Bool) (finest axis x low high : ℕ) (ts : List Touch) → Each (Within finest axis low high) ts → (x < low) ⊎ (high < x) → at_plane test finest axis x ts ≡ []
at_plane_none test finest axis x low high ts e h =
    ap (map (λ t. t.vertex)) (filter_none _ ts (Each-weaker (Within finest axis low high) _ (λ t w. ap (λ b. b && test t) (unequal (in_finest finest t.vertex.level (slice_index t.vertex.pos axis)) w.0 w.1)) ts e))
  where
    unequal : (y : ℕ) → low ≤ y → y ≤ high → (y == x) ≡ false
    unequal y a b = grind (arith, nat_tests)

own_bounds : (p b w : ℕ) → b < 2 → (p * w ≤ (p + b) * w) × ((p + b) * w ≤ (p + 1) * w)
own_bounds p b w h = (mul-le-mul_right w (omega arith), mul-le-mul_right w (omega arith))

own_within : (axes : ℕ) (axis finest levels : ℕ) (cell : Place) → axes ≤ 4 → axis < axes → axes ≤ length cell.pos → finest ≡ cell.level + levels
    → Each (Within finest axis (slice_index cell.pos axis * 3 ^ levels) ((slice_index cell.pos axis + 1) * 3 ^ levels)) (reverse (corner_touches axes cell))
own_within axes axis finest levels cell four a l is =
    let W = Within finest axis (slice_index cell.pos axis * 3 ^ levels) ((slice_index cell.pos axis + 1) * 3 ^ levels) in
    Each-reverse W (corner_touches axes cell) (subst (Each W) (sym (corner_touches_are axes cell four))
    (Each-map W (touch_at cell) (bit_lists axes) (Each-weaker (IsBits axes) (λ bs. W (touch_at cell bs)) (λ bs d.
    let b = own_bounds (slice_index cell.pos axis) (slice_index bs axis) (3 ^ levels) (slice_index-bits axis axes bs a d) in
    let e : in_finest finest cell.level (slice_index (moved cell.pos bs) axis) ≡ (slice_index cell.pos axis + slice_index bs axis) * 3 ^ levels =
    ap₂ (λ y k. y * 3 ^ k) (slice_index-moved axis axes cell.pos bs a l d) (omega arith) in
    (subst (λ y. slice_index cell.pos axis * 3 ^ levels ≤ y) (sym e) b.0, subst (λ y. y ≤ (slice_index cell.pos axis + 1) * 3 ^ levels) (sym e) b.1))
    (bit_lists axes) (bit_lists_below axes))))

child_bounds : (p q k w v low high : ℕ) → q ≡ 3 * p + k → k < 3 → v ≡ w * 3 → low ≡ p * v → high ≡ (p + 1) * v → (low ≤ q * w) × ((q + 1) * w ≤ high)
child_bounds p q k w v low high is h vw lo hi =
    let m : k * w ≤ 2 * w = mul-le-mul_right w (omega arith) in
    (rw (is, lo, vw) (omega arith), rw (is, hi, vw) (omega arith))

-- each corner in a cell lies between the cell's two planes on an axis
pub loads_within : (axes : ℕ) (way : Way) (axis finest levels : ℕ) (cell : Place) → axes ≤ 4 → axis < axes → axes ≤ length cell.pos → finest ≡ cell.level + levels
    → Each (Within finest axis (slice_index cell.pos axis * 3 ^ levels) ((slice_index cell.pos axis + 1) * 3 ^ levels)) (loads axes way levels cell)
loads_within axes way axis finest zero cell four a l is = own_within axes axis finest 0 cell four a l is
loads_within axes way axis finest (suc levels) cell four a l is =
    let W = Within finest axis (slice_index cell.pos axis * 3 ^ suc levels) ((slice_index cell.pos axis + 1) * 3 ^ suc levels) in
    Each-append W (reverse (corner_touches axes cell)) (flat_map (loads axes way levels) (children axes way cell))
    (own_within axes axis finest (suc levels) cell four a l is)
    (Each-flat_map W (loads axes way levels) (children axes way cell) (subst (Each (λ c. Each W (loads axes way levels c))) (sym (children_are axes way cell))
    (Each-map (λ c. Each W (loads axes way levels c)) (child_of axes way cell) (digit_lists axes)
    (Each-weaker (Digits3 axes) (λ ts. Each W (loads axes way levels (child_of axes way cell ts))) (λ ts d.
    let child = child_of axes way cell ts in
    let q = slice_index child.pos axis in
    let b = child_bounds (slice_index cell.pos axis) q (slice_index (child_ks axes way cell ts) axis) (3 ^ levels) (3 ^ suc levels)
    (slice_index cell.pos axis * 3 ^ suc levels) ((slice_index cell.pos axis + 1) * 3 ^ suc levels)
    (child_index axes way cell ts axis a l d) (slice_index-below axis axes (child_ks axes way cell ts) a (child_ks-below axes way cell ts d)) (pow-suc 3 levels) refl refl in
    Each-weaker (Within finest axis (q * 3 ^ levels) ((q + 1) * 3 ^ levels)) W (λ t w. (le_trans b.0 w.0, le_trans w.1 b.1)) (loads axes way levels child)
    (loads_within axes way axis finest levels child four a (child_length axes way cell ts l d) (omega arith)))
    (digit_lists axes) (digit_lists_below axes)))))

-- the children of a cell at a face
abbrev pub is_child_at : ℕ → Way → Place → Face → List ℕ → Bool
is_child_at axes way cell face ts = slice_index (child_ks axes way cell ts) face.axis == 2 * face.side

-- a child at a face has the same plane there
same_plane : (p q s levels : ℕ) → q ≡ 3 * p + 2 * s → (p + s) * 3 ^ suc levels ≡ (q + s) * 3 ^ levels
same_plane p q s levels is = rw (is, pow-suc 3 levels) (omega arith)

-- and no corner in a child that is not at it lies there
pub off_plane : (p q k s levels : ℕ) → q ≡ 3 * p + k → k < 3 → s < 2 → (k == 2 * s) ≡ false → ((p + s) * 3 ^ suc levels < q * 3 ^ levels) ⊎ ((q + 1) * 3 ^ levels < (p + s) * 3 ^ suc levels)
off_plane p q k s levels is h side other = rw (is, pow-suc 3 levels) (go s side other)
  where
    w : ℕ
    w = 3 ^ levels

    go : (s : ℕ) → s < 2 → (k == 2 * s) ≡ false → ((p + s) * (w * 3) < (3 * p + k) * w) ⊎ ((3 * p + k + 1) * w < (p + s) * (w * 3))
    go zero b n =
        let z : 0 < k = grind (arith, nat_tests) in
        let m : 1 * w ≤ k * w = mul-le-mul_right w z in
        inl (omega (arith, pow_three levels))
    go (suc zero) b n =
        let z : k < 2 = grind (arith, nat_tests) in
        let m : k * w ≤ 1 * w = mul-le-mul_right w (omega arith) in
        inr (omega (arith, pow_three levels))
    go (suc (suc s)) b n = absurd (omega arith)

-- the list of a face: the cell's own corners, then those of the children at the face
pub at_face_parts : (axes : ℕ) (way : Way) (test : Touch → Bool) (axis side finest levels : ℕ) (cell : Place) → axes ≤ 4 → axis < axes → side < 2 → axes ≤ length cell.pos → finest ≡ cell.level + suc levels
    → at_face test finest (face_of axis side) cell (loads axes way (suc levels) cell)
    ≡ at_face test finest (face_of axis side) cell (reverse (corner_touches axes cell))
    ++ flat_map (λ ts. at_face test finest (face_of axis side) (child_of axes way cell ts) (loads axes way levels (child_of axes way cell ts)))
    (filter (is_child_at axes way cell (face_of axis side)) (digit_lists axes))
at_face_parts axes way test axis side finest levels cell four a b l is =
    let x = in_finest finest cell.level (slice_index cell.pos axis + side) in
    let child = child_of axes way cell in
    let list = λ (ts : List ℕ). at_face test finest (face_of axis side) (child ts) (loads axes way levels (child ts)) in
    let part = λ (ts : List ℕ). at_plane test finest axis x (loads axes way levels (child ts)) in
    let at = is_child_at axes way cell (face_of axis side) in
    let fl : finest - cell.level ≡ suc levels = omega arith in
    at_plane-append test finest axis x (reverse (corner_touches axes cell)) (flat_map (loads axes way levels) (children axes way cell))
    ∙ ap (λ r. at_face test finest (face_of axis side) cell (reverse (corner_touches axes cell)) ++ r)
    (at_plane-flat_map test finest axis x (loads axes way levels) (children axes way cell)
    ∙ ap (flat_map (λ c. at_plane test finest axis x (loads axes way levels c))) (children_are axes way cell)
    ∙ flat_map-map (λ c. at_plane test finest axis x (loads axes way levels c)) child (digit_lists axes)
    ∙ flat_map-filter part at (digit_lists axes) (Each-weaker (Digits3 axes) _ (λ ts d other.
    let q = slice_index (child ts).pos axis in
    at_plane_none test finest axis x (q * 3 ^ levels) ((q + 1) * 3 ^ levels) (loads axes way levels (child ts))
    (loads_within axes way axis finest levels (child ts) four a (child_length axes way cell ts l d) (omega arith))
    (subst (λ k. ((slice_index cell.pos axis + side) * 3 ^ k < q * 3 ^ levels) ⊎ ((q + 1) * 3 ^ levels < (slice_index cell.pos axis + side) * 3 ^ k)) (sym fl)
    (off_plane (slice_index cell.pos axis) q (slice_index (child_ks axes way cell ts) axis) side levels (child_index axes way cell ts axis a l d)
    (slice_index-below axis axes (child_ks axes way cell ts) a (child_ks-below axes way cell ts d)) b other)))
    (digit_lists axes) (digit_lists_below axes))
    ∙ flat_map_same part list (filter at (digit_lists axes)) (Each-weaker _ _ (λ ts d.
    ap (λ y. at_plane test finest axis y (loads axes way levels (child ts)))
    (ap (λ k. (slice_index cell.pos axis + side) * 3 ^ k) fl
    ∙ same_plane (slice_index cell.pos axis) (slice_index (child ts).pos axis) side levels
    (child_index axes way cell ts axis a l d.0 ∙ ap (λ k. 3 * slice_index cell.pos axis + k) (eqb-true (slice_index (child_ks axes way cell ts) axis) (2 * side) d.1))
    ∙ ap (λ k. (slice_index (child ts).pos axis + side) * 3 ^ k) (let e : levels ≡ finest - (cell.level + 1) = omega arith in e)))
    (filter at (digit_lists axes)) (Each-filter (Digits3 axes) at (digit_lists axes) (digit_lists_below axes))))

-- Neighbours agree, for two tests that say the same of a vertex in a cell and in the next cell on the axis: what
-- the walk in one way finds at the far side of a cell, the walk in the other way finds at the near side of the next.
pub neighbours : (axes : ℕ) (way : Way) (test other : Touch → Bool) (axis finest : ℕ)
    → ((vertex cell : Place) → test (record { vertex = vertex; cell = cell }) ≡ other (record { vertex = vertex; cell = up_cell axis cell }))
    → axes ≤ 4 → axis < axes → (levels : ℕ) (cell : Place) → axes ≤ length cell.pos → finest ≡ cell.level + levels
    → at_face test finest (face_of axis 1) cell (loads axes way levels cell) ≡ at_face other finest (face_of axis 0) (up_cell axis cell) (loads axes (opposite way) levels (up_cell axis cell))
neighbours axes way test other axis finest same four a levels cell l is = go levels cell l is
  where
    own : (cell : Place) → axes ≤ length cell.pos → at_face test finest (face_of axis 1) cell (reverse (corner_touches axes cell)) ≡ at_face other finest (face_of axis 0) (up_cell axis cell) (reverse (corner_touches axes (up_cell axis cell)))
    own cell l =
        let place = λ (pos : List ℕ). let v : Place = record { level = cell.level; pos = pos } in v in
        let t = λ (v : Place). let u : Touch = record { vertex = v; cell = cell } in test u in
        own_corners axes test finest axis 1 cell four a l
        ∙ ap (λ ps. reverse (filter t (map place ps))) (shared_corners axis axes cell.pos a l)
        ∙ ap reverse (filter_same t (λ v. other (record { vertex = v; cell = up_cell axis cell })) _ (Each-all _ (λ v. same v cell) (map place (map (moved (up axis cell.pos)) (filter (λ bs. slice_index bs axis == 0) (bit_lists axes))))))
        ∙ sym (own_corners axes other finest axis 0 (up_cell axis cell) four a (omega (arith, length-set cell.pos axis (slice_index cell.pos axis + 1))))

    at_other : (k j : ℕ) → k < 3 → j ≡ 2 - k → (k == 2) ≡ (j == 0)
    at_other k j h is = same_tests k 2 j 0 (λ e. omega arith) (λ e. omega arith)

    when_two : (k : ℕ) → (k == 2) ≡ true → k ≡ 2
    when_two k h = grind (arith, nat_tests)

    go : (levels : ℕ) (cell : Place) → axes ≤ length cell.pos → finest ≡ cell.level + levels
        → at_face test finest (face_of axis 1) cell (loads axes way levels cell) ≡ at_face other finest (face_of axis 0) (up_cell axis cell) (loads axes (opposite way) levels (up_cell axis cell))
    go zero cell l is = own cell l
    go (suc levels) cell l is =
        let next = up_cell axis cell in
        let l' : axes ≤ length next.pos = omega (arith, length-set cell.pos axis (slice_index cell.pos axis + 1)) in
        let agree = flips_agree axes way axis cell.pos l a in
        let at = is_child_at axes way cell (face_of axis 1) in
        let at' = is_child_at axes (opposite way) next (face_of axis 0) in
        at_face_parts axes way test axis 1 finest levels cell four a (omega arith) l is
        ∙ ap₂ (λ r s. r ++ s) (own cell l)
        (flat_map_same _ (λ ts. at_face other finest (face_of axis 0) (child_of axes (opposite way) next ts) (loads axes (opposite way) levels (child_of axes (opposite way) next ts)))
        (filter at (digit_lists axes)) (Each-weaker _ _ (λ ts d.
        go levels (child_of axes way cell ts) (child_length axes way cell ts l d.0) (omega arith)
        ∙ ap (λ ps. let c : Place = record { level = cell.level + 1; pos = ps } in at_face other finest (face_of axis 0) c (loads axes (opposite way) levels c))
        (sym (turned_across axis (flips_in axes way cell.pos) (flips_in axes (opposite way) (up axis cell.pos)) 0 0 axes ts (replicate (4 - axes) 0) cell.pos agree (length-flips axes way cell.pos) refl d.0 (when_two _ d.1))))
        (filter at (digit_lists axes)) (Each-filter (Digits3 axes) at (digit_lists axes) (digit_lists_below axes)))
        ∙ ap (flat_map (λ ts. at_face other finest (face_of axis 0) (child_of axes (opposite way) next ts) (loads axes (opposite way) levels (child_of axes (opposite way) next ts))))
        (filter_same at at' (digit_lists axes) (Each-weaker (Digits3 axes) _ (λ ts d.
        at_other _ _ (slice_index-below axis axes (child_ks axes way cell ts) a (child_ks-below axes way cell ts d))
        (turned_across-digit axis (flips_in axes way cell.pos) (flips_in axes (opposite way) (up axis cell.pos)) 0 0 axes ts agree (length-flips axes way cell.pos) refl d))
        (digit_lists axes) (digit_lists_below axes))))
        ∙ sym (at_face_parts axes (opposite way) other axis 0 finest levels next four a (omega arith) l' is)

pub opposite-opposite : (way : Way) → opposite (opposite way) ≡ way
opposite-opposite Forward = refl
opposite-opposite Inverted = refl

-- the stores backwards are the loads in the other way
pub reverse-stores : (axes : ℕ) (way : Way) (levels : ℕ) (cell : Place) → reverse (stores axes way levels cell) ≡ loads axes (opposite way) levels cell
reverse-stores axes way zero cell = refl
reverse-stores axes way (suc levels) cell =
    reverse-append (flat_map (stores axes way levels) (children axes way cell)) (corner_touches axes cell)
    ∙ ap (λ r. reverse (corner_touches axes cell) ++ r)
    (reverse-flat_map (stores axes way levels) (children axes way cell)
    ∙ flat_map_same _ (loads axes (opposite way) levels) (reverse (children axes way cell)) (Each-all _ (λ c. reverse-stores axes way levels c) (reverse (children axes way cell)))
    ∙ ap (flat_map (loads axes (opposite way) levels)) (reverse-children axes way cell))

pub leaving_is : (axes : ℕ) (way : Way) (counts : Place → Bool) (levels : ℕ) (face : Face) (cell : Place)
    → leaving axes way counts levels face cell ≡ at_face (goes_across axes way counts face) (cell.level + levels) face cell (loads axes (opposite way) levels cell)
leaving_is axes way counts levels face cell = ap (at_face (goes_across axes way counts face) (cell.level + levels) face cell) (reverse-stores axes way levels cell)

-- a step on and a step back
pub across-up : (axis : ℕ) (cell : Place) → across (face_of axis 0) (up_cell axis cell) ≡ cell
across-up axis cell = ap (λ pos. record { level = cell.level; pos = pos }) (back axis cell.pos)
  where
    back : (axis : ℕ) (pos : List ℕ) → slice_set (up axis pos) axis (slice_index (up axis pos) axis - 1) ≡ pos
    back axis [] = refl
    back zero (x ∷ pos) = ap (λ y. y ∷ pos) (omega arith)
    back (suc axis) (x ∷ pos) = ap (λ ps. x ∷ ps) (back axis pos)

-- what a cell leaves at its far side on an axis is what arrives in the next cell there, and the other way round
pub leaving-up : (axes : ℕ) (way : Way) (counts : Place → Bool) (levels axis : ℕ) (cell : Place) → axes ≤ 4 → axis < axes → axes ≤ length cell.pos
    → leaving axes way counts levels (face_of axis 1) cell ≡ arriving axes way counts levels (face_of axis 0) (up_cell axis cell)
leaving-up axes way counts levels axis cell four a l =
    leaving_is axes way counts levels (face_of axis 1) cell
    ∙ neighbours axes (opposite way) (goes_across axes way counts (face_of axis 1)) (comes_across axes way counts (face_of axis 0)) axis (cell.level + levels)
    (λ v c. ap (λ b. counts v && is_step axes way v b (up_cell axis c)) (sym (across-up axis c))) four a levels cell l refl
    ∙ ap (λ w. at_face (comes_across axes way counts (face_of axis 0)) (cell.level + levels) (face_of axis 0) (up_cell axis cell) (loads axes w levels (up_cell axis cell))) (opposite-opposite way)

pub leaving-down : (axes : ℕ) (way : Way) (counts : Place → Bool) (levels axis : ℕ) (cell : Place) → axes ≤ 4 → axis < axes → axes ≤ length cell.pos
    → leaving axes way counts levels (face_of axis 0) (up_cell axis cell) ≡ arriving axes way counts levels (face_of axis 1) cell
leaving-down axes way counts levels axis cell four a l =
    leaving_is axes way counts levels (face_of axis 0) (up_cell axis cell)
    ∙ sym (neighbours axes way (comes_across axes way counts (face_of axis 1)) (goes_across axes way counts (face_of axis 0)) axis (cell.level + levels)
    (λ v c. ap (λ b. counts v && is_step axes way v (up_cell axis c) b) (sym (across-up axis c))) four a levels cell l refl)
