-- Faces where nothing arrives, and faces where nothing is left.
use Rattle.std.specs.List.{AllByRecursion as Each}
use Rattle.std.proofs.Common.{◌≡◌, ℕ, zero, suc, ◌+◌, ◌-◌, ◌*◌, ◌/◌, ◌%◌, ◌^◌, ◌<◌, ◌≤◌, ◌⊎◌, ◌≢◌, length-set, Bool, true, false, ◌==◌, List, [], ◌∷◌, ◌++◌, map, filter, reverse, length, set, take, drop, slice_index, slice_set, replicate, refl, sym, ap, ap₂, ◌∙◌, subst, inl, inr, pow-suc, mul-le-mul_right, take-append-drop, arith}
use Rattle.std.proofs.lemmas.Bool.{and_parts, eqb-true}
use Rattle.std.proofs.lemmas.List.{length-map}
use Rattle.pe_base.specs.declared.place.Place.{Place}
use Rattle.pe_base.specs.declared.way.Way.{Way}
use Rattle.pe_base.specs.Tree.Ways.{opposite}
use Rattle.pe_base.specs.Tree.Places.{finer, moved}
use Rattle.pe_base.specs.Tree.Curve.{digit_lists, turned}
use Rattle.pe_base.specs.Steps.Faces.{Face, Touch, beside, across, corner_touches, loads, comes_across, goes_across, at_face, arriving, leaving}
use Rattle.pe_base.proofs.Lists.{Each-all, Each-weaker, Each-map, Each-filter, filter_none, flat_map_none}
use Rattle.pe_base.proofs.Tree.Mirrors.{Digits3, digit_lists_below, sum_of, sum-turned, mirrored_below}
use Rattle.pe_base.proofs.Tree.Children.{flips_in, length-flips, child_of, child_ks, child_ks-below, child_index}
use Rattle.pe_base.proofs.Tree.Corners.{bit_lists, own_corners, pow_three}
use Rattle.pe_base.proofs.Faces.FaceLists.{is_child_at, at_face_parts, leaving_is}
use Rattle.pe_base.proofs.Tree.Ranks.{value, thirds, rests, rank, rank_of, thirds-finer, thirds-child, child_digits-below, length-child_digits, child_four, is_step-rises}

-- the parent of a child's neighbour at a face of the parent is the parent's neighbour
pub thirds-across : (axis side : ℕ) (pos ks : List ℕ) → side < 2 → length pos ≡ length ks → Each (λ k. k < 3) ks → slice_index ks axis ≡ 2 * side
    → thirds (slice_set (finer pos ks) axis (beside side (slice_index (finer pos ks) axis))) ≡ slice_set pos axis (beside side (slice_index pos axis))
thirds-across axis side [] ks b l e h = refl
thirds-across axis side (x ∷ pos) [] b l e h = absurd (omega arith)
thirds-across zero side (x ∷ pos) (k ∷ ks) b l e h = ap₂ (λ y ys. y ∷ ys) (head side b h) (thirds-finer pos ks (omega arith) e.1)
  where
    head : (s : ℕ) → s < 2 → k ≡ 2 * s → beside s (3 * x + k) / 3 ≡ beside s x
    head zero c is = omega arith
    head (suc zero) c is = omega arith
    head (suc (suc s)) c is = absurd (omega arith)
thirds-across (suc axis) side (x ∷ pos) (k ∷ ks) b l e h = ap₂ (λ y ys. y ∷ ys) (omega (arith, e.0)) (thirds-across axis side pos ks b (omega arith) e.1 h)

-- a rank is that of the parent, and then a number below the number of children
pub value-below : (n : ℕ) (ts : List ℕ) → Each (λ t. t < 3) ts → value n ts < 3 ^ n
value-below zero ts e = pow_three 0
value-below (suc n) [] e = pow_three (suc n)
value-below (suc n) (t ∷ ts) e =
    let m : t * 3 ^ n ≤ 2 * 3 ^ n = mul-le-mul_right (3 ^ n) (omega (arith, e.0)) in
    omega (arith, pow-suc 3 n, value-below n ts e.1)

turned-each : (es : List ℕ) (b : ℕ) (ts : List ℕ) → Each (λ t. t < 3) ts → Each (λ t. t < 3) (turned es b ts)
turned-each [] b ts e = tt
turned-each (f ∷ es) b [] e = tt
turned-each (f ∷ es) b (t ∷ ts) e = (mirrored_below (f + b) t e.0, turned-each es (b + t) ts e.1)

pub rests-each : (pos : List ℕ) → Each (λ t. t < 3) (rests pos)
rests-each [] = tt
rests-each (x ∷ pos) = (omega arith, rests-each pos)

pub rank-parent : (axes : ℕ) (way : Way) (level : ℕ) (pos : List ℕ) → (rank axes way level (thirds pos) * 3 ^ axes ≤ rank axes way (suc level) pos) × (rank axes way (suc level) pos < (rank axes way level (thirds pos) + 1) * 3 ^ axes)
rank-parent axes way level pos =
    let v = value-below axes (turned (flips_in axes way (thirds pos)) 0 (rests pos)) (turned-each (flips_in axes way (thirds pos)) 0 (rests pos) (rests-each pos)) in
    (omega arith, omega (arith, v))

-- the neighbour at a face is later in the walk, or earlier, or there is none because the face is on the near side of the root
abbrev pub Later : ℕ → Way → Face → ℕ → Place → Type 0
Later axes way face level cell = rank_of axes way level cell < rank_of axes way level (across face cell)

abbrev pub Earlier : ℕ → Way → Face → ℕ → Place → Type 0
Earlier axes way face level cell = rank_of axes way level (across face cell) < rank_of axes way level cell

abbrev pub Still : Face → Place → Type 0
Still face cell = (face.side ≡ 0) × (slice_index cell.pos face.axis ≡ 0)

-- the children at the face are as their parent is
pub less_below : (a b w x y : ℕ) → a < b → x < (a + 1) * w → b * w ≤ y → x < y
less_below a b w x y h lo hi = let m : (a + 1) * w ≤ b * w = mul-le-mul_right w (omega arith) in omega arith

pub across_child : (axes : ℕ) (way : Way) (face : Face) (cell : Place) (ts : List ℕ) → axes ≤ 4 → face.axis < axes → face.side < 2 → length cell.pos ≡ 4 → Digits3 axes ts → is_child_at axes way cell face ts ≡ true
    → thirds (across face (child_of axes way cell ts)).pos ≡ (across face cell).pos
across_child axes way face cell ts four a b l d at =
    thirds-across face.axis face.side cell.pos (child_ks axes way cell ts ++ replicate (4 - axes) 0) b (l ∙ sym (length-child_digits axes way cell ts four d)) (child_digits-below axes way cell ts d)
    (index face.axis axes (child_ks axes way cell ts) a (child_ks-below axes way cell ts d) ∙ eqb-true _ _ at)
  where
    index : (axis n : ℕ) (ks : List ℕ) → axis < n → Digits3 n ks → slice_index (ks ++ replicate (4 - axes) 0) axis ≡ slice_index ks axis
    index axis zero ks a d = absurd (omega arith)
    index axis (suc n) [] a d = absurd (omega arith)
    index zero (suc n) (k ∷ ks) a d = refl
    index (suc axis) (suc n) (k ∷ ks) a d = index axis n ks (omega arith) d.1

pub later_child : (axes : ℕ) (way walk : Way) (face : Face) (level : ℕ) (cell : Place) (ts : List ℕ) → axes ≤ 4 → face.axis < axes → face.side < 2 → length cell.pos ≡ 4 → Digits3 axes ts → is_child_at axes walk cell face ts ≡ true
    → Later axes way face level cell → Later axes way face (suc level) (child_of axes walk cell ts)
later_child axes way walk face level cell ts four a b l d at h =
    let child = child_of axes walk cell ts in
    less_below (rank_of axes way level cell) (rank_of axes way level (across face cell)) (3 ^ axes) (rank_of axes way (suc level) child) (rank_of axes way (suc level) (across face child)) h
    (subst (λ p. rank_of axes way (suc level) child < (rank axes way level p + 1) * 3 ^ axes) (thirds-child axes walk cell ts four l d) (rank-parent axes way level child.pos).1)
    (subst (λ p. rank axes way level p * 3 ^ axes ≤ rank_of axes way (suc level) (across face child)) (across_child axes walk face cell ts four a b l d at) (rank-parent axes way level (across face child).pos).0)

pub earlier_child : (axes : ℕ) (way walk : Way) (face : Face) (level : ℕ) (cell : Place) (ts : List ℕ) → axes ≤ 4 → face.axis < axes → face.side < 2 → length cell.pos ≡ 4 → Digits3 axes ts → is_child_at axes walk cell face ts ≡ true
    → Earlier axes way face level cell → Earlier axes way face (suc level) (child_of axes walk cell ts)
earlier_child axes way walk face level cell ts four a b l d at h =
    let child = child_of axes walk cell ts in
    less_below (rank_of axes way level (across face cell)) (rank_of axes way level cell) (3 ^ axes) (rank_of axes way (suc level) (across face child)) (rank_of axes way (suc level) child) h
    (subst (λ p. rank_of axes way (suc level) (across face child) < (rank axes way level p + 1) * 3 ^ axes) (across_child axes walk face cell ts four a b l d at) (rank-parent axes way level (across face child).pos).1)
    (subst (λ p. rank axes way level p * 3 ^ axes ≤ rank_of axes way (suc level) child) (thirds-child axes walk cell ts four l d) (rank-parent axes way level child.pos).0)

pub still_child : (axes : ℕ) (walk : Way) (face : Face) (cell : Place) (ts : List ℕ) → face.axis < axes → length cell.pos ≡ 4 → axes ≤ 4 → Digits3 axes ts → is_child_at axes walk cell face ts ≡ true
    → Still face cell → Still face (child_of axes walk cell ts)
still_child axes walk face cell ts a l four d at h =
    (h.0, omega (arith, h.0, h.1, eqb-true (slice_index (child_ks axes walk cell ts) face.axis) (2 * face.side) at, child_index axes walk cell ts face.axis a (omega arith) d))

still_same : (axis side : ℕ) (pos : List ℕ) → side ≡ 0 → slice_index pos axis ≡ 0 → slice_set pos axis (beside side (slice_index pos axis)) ≡ pos
still_same axis zero [] s h = refl
still_same zero zero (x ∷ pos) s h = ap (λ y. y ∷ pos) (omega arith)
still_same (suc axis) zero (x ∷ pos) s h = ap (λ ps. x ∷ ps) (still_same axis zero pos s h)
still_same axis (suc side) pos s h = absurd (omega arith)

-- a list of a face is empty where no cell that is reached from the cell can pass the test
pub at_face_none : (axes : ℕ) (walk : Way) (test : Touch → Bool) (face : Face) (Quiet : ℕ → Place → Type 0)
    → ((level : ℕ) (cell vertex : Place) → vertex.level ≡ level → Quiet level cell → test (record { vertex = vertex; cell = cell }) ≡ false)
    → ((level : ℕ) (cell : Place) (ts : List ℕ) → length cell.pos ≡ 4 → Digits3 axes ts → is_child_at axes walk cell face ts ≡ true → Quiet level cell → Quiet (suc level) (child_of axes walk cell ts))
    → axes ≤ 4 → face.axis < axes → face.side < 2 → (finest levels level : ℕ) (cell : Place) → cell.level ≡ level → length cell.pos ≡ 4 → finest ≡ cell.level + levels → Quiet level cell
    → at_face test finest face cell (loads axes walk levels cell) ≡ []
at_face_none axes walk test face Quiet fails passes four a b finest levels level cell on l is q = go levels level cell on l is q
  where
    own : (level : ℕ) (cell : Place) → cell.level ≡ level → length cell.pos ≡ 4 → Quiet level cell → at_face test finest face cell (reverse (corner_touches axes cell)) ≡ []
    own level cell on l q =
        let place = λ (pos : List ℕ). let v : Place = record { level = cell.level; pos = pos } in v in
        let found = map (moved cell.pos) (filter (λ bs. slice_index bs face.axis == face.side) (bit_lists axes)) in
        own_corners axes test finest face.axis face.side cell four a (omega arith)
        ∙ ap reverse (filter_none (λ v. test (record { vertex = v; cell = cell })) (map place found)
        (Each-map _ place found (Each-all _ (λ pos. fails level cell (place pos) on q) found)))

    go : (levels level : ℕ) (cell : Place) → cell.level ≡ level → length cell.pos ≡ 4 → finest ≡ cell.level + levels → Quiet level cell → at_face test finest face cell (loads axes walk levels cell) ≡ []
    go zero level cell on l is q = own level cell on l q
    go (suc levels) level cell on l is q =
        at_face_parts axes walk test face.axis face.side finest levels cell four a b (omega arith) is
        ∙ ap₂ (λ r s. r ++ s) (own level cell on l q)
        (flat_map_none _ (filter (is_child_at axes walk cell face) (digit_lists axes))
        (Each-weaker _ _ (λ ts d. go levels (suc level) (child_of axes walk cell ts) (omega arith) (child_four axes walk cell ts four l d.0) (omega arith) (passes level cell ts l d.0 d.1 q))
        (filter (is_child_at axes walk cell face) (digit_lists axes)) (Each-filter (Digits3 axes) (is_child_at axes walk cell face) (digit_lists axes) (digit_lists_below axes))))

pub false_unless : (b : Bool) → (b ≡ true → 1 ≤ 0) → b ≡ false
false_unless true h = absurd (omega (arith, h refl))
false_unless false h = refl

-- nothing arrives at a face to a later cell, nor at the near side of the root
pub arriving_none : (axes : ℕ) (way : Way) (counts : Place → Bool) (levels level : ℕ) (face : Face) (cell : Place) → axes ≤ 4 → face.axis < axes → face.side < 2 → cell.level ≡ level → length cell.pos ≡ 4
    → (Later axes way face level cell) ⊎ (Still face cell) → arriving axes way counts levels face cell ≡ []
arriving_none axes way counts levels level face cell four a b on l q =
    at_face_none axes way (comes_across axes way counts face) face (λ level cell. (Later axes way face level cell) ⊎ (Still face cell))
    (λ level c v on q. false_unless _ (λ t.
    let s = subst (λ n. rank_of axes way n (across face c) < rank_of axes way n c) on (is_step-rises axes way v (across face c) c four (and_parts (counts v) _ t).1) in
    elim q [
      | inl later ↦ omega (arith, s, later)
      | inr still ↦ omega (arith, subst (λ p. rank axes way level p < rank_of axes way level c) (still_same face.axis face.side c.pos still.0 still.1) s)
    ]))
    (λ level c ts l d at q. elim q [
      | inl later ↦ inl (later_child axes way way face level c ts four a b l d at later)
      | inr still ↦ inr (still_child axes way face c ts a l four d at still)
    ])
    four a b (cell.level + levels) levels level cell on l refl q

-- nothing is left at a face to an earlier cell, nor at the near side of the root
pub leaving_none : (axes : ℕ) (way : Way) (counts : Place → Bool) (levels level : ℕ) (face : Face) (cell : Place) → axes ≤ 4 → face.axis < axes → face.side < 2 → cell.level ≡ level → length cell.pos ≡ 4
    → (Earlier axes way face level cell) ⊎ (Still face cell) → leaving axes way counts levels face cell ≡ []
leaving_none axes way counts levels level face cell four a b on l q =
    leaving_is axes way counts levels face cell
    ∙ at_face_none axes (opposite way) (goes_across axes way counts face) face (λ level cell. (Earlier axes way face level cell) ⊎ (Still face cell))
    (λ level c v on q. false_unless _ (λ t.
    let s = subst (λ n. rank_of axes way n c < rank_of axes way n (across face c)) on (is_step-rises axes way v c (across face c) four (and_parts (counts v) _ t).1) in
    elim q [
      | inl earlier ↦ omega (arith, s, earlier)
      | inr still ↦ omega (arith, subst (λ p. rank_of axes way level c < rank axes way level p) (still_same face.axis face.side c.pos still.0 still.1) s)
    ]))
    (λ level c ts l d at q. elim q [
      | inl earlier ↦ inl (earlier_child axes way (opposite way) face level c ts four a b l d at earlier)
      | inr still ↦ inr (still_child axes (opposite way) face c ts a l four d at still)
    ])
    four a b (cell.level + levels) levels level cell on l refl q

-- ranks and the sums of positions have the same parity, so neighbours have different ranks
odd_power : (n : ℕ) → (m : ℕ) × (3 ^ n ≡ 2 * m + 1)
odd_power zero = (0, omega arith)
odd_power (suc n) = let p = odd_power n in (3 * p.0 + 1, omega (arith, pow-suc 3 n, p.1))

odd_times : (x w m : ℕ) → w ≡ 2 * m + 1 → (x * w + x) % 2 ≡ 0
odd_times x w m e = rw e (let k : x * (2 * m + 1) + x ≡ 2 * (x * m + x) = omega arith in rw k (omega arith))

value-parity : (n : ℕ) (ts : List ℕ) → length ts ≤ n → (value n ts + sum_of ts) % 2 ≡ 0
value-parity zero [] l = refl
value-parity zero (t ∷ ts) l = absurd (omega arith)
value-parity (suc n) [] l = refl
value-parity (suc n) (t ∷ ts) l = let p = odd_power n in omega (arith, odd_times t (3 ^ n) p.0 p.1, value-parity n ts (omega arith))

length-turned : (es : List ℕ) (b : ℕ) (ts : List ℕ) → length (turned es b ts) ≤ length es
length-turned [] b ts = omega arith
length-turned (e ∷ es) b [] = omega arith
length-turned (e ∷ es) b (t ∷ ts) = omega (arith, length-turned es (b + t) ts)

pub digits-take : (n : ℕ) (ts : List ℕ) → n ≤ length ts → Each (λ t. t < 3) ts → Digits3 n (take n ts)
digits-take zero ts l e = tt
digits-take (suc n) [] l e = absurd (omega arith)
digits-take (suc n) (t ∷ ts) l e = (e.0, digits-take n ts (omega arith) e.1)

sum-thirds : (n : ℕ) (pos : List ℕ) → sum_of (take n pos) ≡ 3 * sum_of (take n (thirds pos)) + sum_of (take n (rests pos))
sum-thirds zero pos = refl
sum-thirds (suc n) [] = refl
sum-thirds (suc n) (x ∷ pos) = omega (arith, sum-thirds n pos)

rank-parity : (axes : ℕ) (way : Way) (level : ℕ) (pos : List ℕ) → axes ≤ length pos → (rank axes way level pos + sum_of (take axes pos)) % 2 ≡ 0
rank-parity axes way zero pos l = omega arith
rank-parity axes way (suc level) pos l =
    let es = flips_in axes way (thirds pos) in
    let p = odd_power axes in
    let lr : axes ≤ length (rests pos) = omega (arith, length-map pos (λ x. x % 3)) in
    let s : (sum_of (turned es 0 (rests pos)) + sum_of (take axes (rests pos))) % 2 ≡ 0 =
    subst (λ r. (sum_of (turned es 0 r) + sum_of (take axes (rests pos))) % 2 ≡ 0) (take-append-drop axes (rests pos))
    (sum-turned es 0 axes (take axes (rests pos)) (drop axes (rests pos)) (length-flips axes way (thirds pos)) (digits-take axes (rests pos) lr (rests-each pos))) in
    let v = value-parity axes (turned es 0 (rests pos)) (omega (arith, length-turned es 0 (rests pos), length-flips axes way (thirds pos))) in
    let r = rank-parity axes way level (thirds pos) (omega (arith, length-map pos (λ x. x / 3))) in
    omega (arith, odd_times (rank axes way level (thirds pos)) (3 ^ axes) p.0 p.1, s, v, r, sum-thirds axes pos)

sum-set : (n axis : ℕ) (pos : List ℕ) (y : ℕ) → axis < n → n ≤ length pos → sum_of (take n (set pos axis y)) + slice_index pos axis ≡ sum_of (take n pos) + y
sum-set zero axis pos y a l = absurd (omega arith)
sum-set (suc n) axis [] y a l = absurd (omega arith)
sum-set (suc n) zero (x ∷ pos) y a l = omega arith
sum-set (suc n) (suc axis) (x ∷ pos) y a l = omega (arith, sum-set n axis pos y (omega arith) (omega arith))

-- a face has a later neighbour, or an earlier one, or none on the near side
pub later_or_earlier : (axes : ℕ) (way : Way) (face : Face) (level : ℕ) (cell : Place) → face.axis < axes → axes ≤ length cell.pos → face.side < 2
    → (Later axes way face level cell) ⊎ ((Earlier axes way face level cell) ⊎ (Still face cell))
later_or_earlier axes way face level cell a l b = go face.side (slice_index cell.pos face.axis) refl refl b
  where
    apart : (y : ℕ) → y ≡ beside face.side (slice_index cell.pos face.axis) → (y + slice_index cell.pos face.axis) % 2 ≡ 1
        → (Later axes way face level cell) ⊎ ((Earlier axes way face level cell) ⊎ (Still face cell))
    apart y is odd =
        let n = set cell.pos face.axis y in
        let one = rank-parity axes way level cell.pos l in
        let two = rank-parity axes way level n (omega (arith, l, length-set cell.pos face.axis y)) in
        let s = sum-set axes face.axis cell.pos y a l in
        let d : rank axes way level cell.pos ≢ rank axes way level n = omega (arith, one, two, s, odd) in
        let e : rank axes way level n ≡ rank_of axes way level (across face cell) = ap (λ z. rank axes way level (set cell.pos face.axis z)) is in
        elim (cases (rank axes way level cell.pos) (rank axes way level n) d) [
          | inl h ↦ inl (omega (arith, e, h))
          | inr h ↦ inr (inl (omega (arith, e, h)))
        ]
      where
        cases : (p q : ℕ) → p ≢ q → (p < q) ⊎ (q < p)
        cases p q d = grind arith

    go : (s x : ℕ) → face.side ≡ s → slice_index cell.pos face.axis ≡ x → s < 2 → (Later axes way face level cell) ⊎ ((Earlier axes way face level cell) ⊎ (Still face cell))
    go zero zero e f h = inr (inr (e, f))
    go zero (suc x) e f h = let k : x ≡ suc x - 1 = omega arith in apart x (k ∙ sym (ap₂ beside e f)) (omega arith)
    go (suc zero) x e f h = apart (x + 1) (sym (ap₂ beside e f)) (omega arith)
    go (suc (suc s)) x e f h = absurd (omega arith)
