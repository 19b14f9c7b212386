-- Where the vertices of a face's lists wait, and that no cell is walked meanwhile which they touch.
use Rattle.std.proofs.Common.{◌≡◌, ℕ, zero, suc, ◌+◌, ◌*◌, ◌^◌, ◌<◌, ◌≤◌, ◌⊎◌, Bool, true, false, ◌&&◌, ◌||◌, ◌==◌, List, [], ◌∷◌, map, filter, reverse, length, slice_index, refl, sym, ap, ap₂, ◌∙◌, subst, subst₂, inl, inr, mul-le-mul_right, arith}
use Rattle.std.specs.List.{list_any, AllByRecursion as Each}
use Rattle.std.proofs.lemmas.Bool.Decides.{nat_tests}
use Rattle.std.proofs.lemmas.Bool.{and_parts}
use Rattle.pe_base.specs.declared.place.Place.{Place}
use Rattle.pe_base.specs.declared.way.Way.{Way}
use Rattle.pe_base.specs.Tree.Ways.{opposite}
use Rattle.pe_base.specs.Tree.Places.{moved, is_same}
use Rattle.pe_base.specs.Tree.Curve.{digit_lists, children, order}
use Rattle.pe_base.specs.Steps.Around.{is_corner_pos, is_corner, around, steps}
use Rattle.pe_base.specs.Steps.Faces.{Face, Touch, across, is_step, corner_touches, loads, comes_across, goes_across, at_face, arriving, leaving, is_touched}
use Rattle.pe_base.proofs.Lists.{Each-all, Each-weaker, Each-append, Each-map, Each-flat_map, Each-filter, Each-reverse, In, In-append_left, In-append_right, In-map, In-flat_map, In-filter, Each-In, list_any_none}
use Rattle.pe_base.proofs.Tree.Mirrors.{Digits3, digit_lists_below}
use Rattle.pe_base.proofs.Tree.Children.{child_of, children_are}
use Rattle.pe_base.proofs.Tree.Corners.{IsBits, bit_lists, bit_lists_below, own_corners, touch_at, corner_touches_are}
use Rattle.pe_base.proofs.Faces.FaceLists.{is_child_at, at_face_parts, leaving_is}
use Rattle.pe_base.proofs.Tree.Ranks.{thirds, rank, rank_of, thirds-child, child_four, is_same-true, IsClose, steps_close, around_rises, top, list_any-Each}
use Rattle.pe_base.proofs.Faces.Quiet.{rank-parent, across_child, false_unless}

-- the position of the ancestor some levels above
abbrev pub above : ℕ → List ℕ → List ℕ
above zero pos = pos
above (suc m) pos = above m (thirds pos)

above-thirds : (m : ℕ) (pos : List ℕ) → thirds (above m pos) ≡ above m (thirds pos)
above-thirds zero pos = refl
above-thirds (suc m) pos = above-thirds m (thirds pos)

-- some levels below a level
abbrev pub deeper : ℕ → ℕ → ℕ
deeper zero level = level
deeper (suc m) level = suc (deeper m level)

pub deeper_is : (m level : ℕ) → deeper m level ≡ level + m
deeper_is zero level = omega arith
deeper_is (suc m) level = omega (arith, deeper_is m level)

pub deeper-suc : (m level : ℕ) → deeper m (suc level) ≡ suc (deeper m level)
deeper-suc m level = omega (arith, deeper_is m level, deeper_is m (suc level))

-- the order of two cells is that of their ancestors
pub rank-deeper : (axes : ℕ) (way : Way) (m level : ℕ) (x y : List ℕ) → rank axes way level (above m x) < rank axes way level (above m y) → rank axes way (deeper m level) x < rank axes way (deeper m level) y
rank-deeper axes way zero level x y h = h
rank-deeper axes way (suc m) level x y h =
    let i = rank-deeper axes way m level (thirds x) (thirds y) h in
    let k : (rank axes way (deeper m level) (thirds x) + 1) * 3 ^ axes ≤ rank axes way (deeper m level) (thirds y) * 3 ^ axes = mul-le-mul_right (3 ^ axes) (omega arith) in
    omega (arith, k, (rank-parent axes way (deeper m level) x).1, (rank-parent axes way (deeper m level) y).0)

-- a vertex of a face's list: some levels below, it is touched for a cell within, across whose face a cell lies beyond
pub record AtFace (test : Touch → Bool) (face : Face) (cell vertex : Place) : Type 0 where
  pub depth : ℕ
  pub inner : Place
  pub level : vertex.level ≡ deeper depth cell.level
  pub within : above depth inner.pos ≡ cell.pos
  pub beyond : above depth (across face inner).pos ≡ (across face cell).pos
  pub passes : test (record { vertex = vertex; cell = inner }) ≡ true

pub at_face_each : (axes : ℕ) (walk : Way) (test : Touch → Bool) (face : Face) → axes ≤ 4 → face.axis < axes → face.side < 2 → (finest levels : ℕ) (cell : Place) → length cell.pos ≡ 4 → finest ≡ cell.level + levels
    → Each (AtFace test face cell) (at_face test finest face cell (loads axes walk levels cell))
at_face_each axes walk test face four a b finest levels cell l is = go levels cell l is
  where
    own : (cell : Place) → length cell.pos ≡ 4 → Each (AtFace test face cell) (at_face test finest face cell (reverse (corner_touches axes cell)))
    own cell l =
        let place = λ (pos : List ℕ). let v : Place = record { level = cell.level; pos = pos } in v in
        let t = λ (v : Place). let u : Touch = record { vertex = v; cell = cell } in test u in
        let found = map place (map (moved cell.pos) (filter (λ bs. slice_index bs face.axis == face.side) (bit_lists axes))) in
        subst (Each (AtFace test face cell)) (sym (own_corners axes test finest face.axis face.side cell four a (omega arith)))
        (Each-reverse (AtFace test face cell) (filter t found) (Each-weaker _ (AtFace test face cell) (λ v h. record { depth = 0; inner = cell; level = h.0; within = refl; beyond = refl; passes = h.1 })
        (filter t found) (Each-filter (λ v. v.level ≡ cell.level) t found (Each-map _ place (map (moved cell.pos) (filter (λ bs. slice_index bs face.axis == face.side) (bit_lists axes))) (Each-all _ (λ pos. refl) (map (moved cell.pos) (filter (λ bs. slice_index bs face.axis == face.side) (bit_lists axes))))))))

    go : (levels : ℕ) (cell : Place) → length cell.pos ≡ 4 → finest ≡ cell.level + levels → Each (AtFace test face cell) (at_face test finest face cell (loads axes walk levels cell))
    go zero cell l is = own cell l
    go (suc levels) cell l is = subst (Each (AtFace test face cell)) (sym (at_face_parts axes walk test face.axis face.side finest levels cell four a b (omega arith) is))
        (Each-append (AtFace test face cell) (at_face test finest face cell (reverse (corner_touches axes cell))) _ (own cell l)
        (Each-flat_map (AtFace test face cell) _ (filter (is_child_at axes walk cell face) (digit_lists axes)) (Each-weaker _ _ (λ ts d.
        let child = child_of axes walk cell ts in
        Each-weaker (AtFace test face child) (AtFace test face cell) (λ v h. record {
          depth = suc h.depth;
          inner = h.inner;
          level = h.level ∙ let e : cell.level + 1 ≡ suc cell.level = omega arith in ap (deeper h.depth) e ∙ deeper-suc h.depth cell.level;
          within = sym (above-thirds h.depth h.inner.pos) ∙ ap thirds h.within ∙ thirds-child axes walk cell ts four l d.0;
          beyond = sym (above-thirds h.depth (across face h.inner).pos) ∙ ap thirds h.beyond ∙ across_child axes walk face cell ts four a b l d.0 d.1;
          passes = h.passes;
        })
        (at_face test finest face child (loads axes walk levels child)) (go levels child (child_four axes walk cell ts four l d.0) (omega arith)))
        (filter (is_child_at axes walk cell face) (digit_lists axes)) (Each-filter (Digits3 axes) (is_child_at axes walk cell face) (digit_lists axes) (digit_lists_below axes)))))

-- a touch in the walk of a cell: its cell lies within, and is one of those around its vertex
pub record Touched (axes : ℕ) (way : Way) (cell : Place) (touch : Touch) : Type 0 where
  pub depth : ℕ
  pub level : touch.vertex.level ≡ deeper depth cell.level
  pub within : above depth touch.cell.pos ≡ cell.pos
  pub around_it : In touch.cell (around axes way touch.vertex)

pub digits_in : (n : ℕ) (ts : List ℕ) → Digits3 n ts → In ts (digit_lists n)
digits_in zero [] d = inl refl
digits_in zero (t ∷ ts) d = absurd (omega arith)
digits_in (suc n) [] d = absurd (omega arith)
digits_in (suc n) (t ∷ ts) d = go t d.0 (In-map (λ us. t ∷ us) ts (digit_lists n) (digits_in n ts d.1))
  where
    block : ℕ → List (List ℕ)
    block s = map (λ us. s ∷ us) (digit_lists n)

    go : (s : ℕ) → s < 3 → In (s ∷ ts) (map (λ us. s ∷ us) (digit_lists n)) → In (s ∷ ts) (digit_lists (suc n))
    go zero h i = In-append_left _ (map (λ us. 0 ∷ us) (digit_lists n)) _ i
    go (suc zero) h i = In-append_right _ (map (λ us. 0 ∷ us) (digit_lists n)) _ (In-append_left _ (map (λ us. 1 ∷ us) (digit_lists n)) _ i)
    go (suc (suc zero)) h i = In-append_right _ (map (λ us. 0 ∷ us) (digit_lists n)) _ (In-append_right _ (map (λ us. 1 ∷ us) (digit_lists n)) _ (In-append_left _ (map (λ us. 2 ∷ us) (digit_lists n)) _ i))
    go (suc (suc (suc s))) h i = absurd (omega arith)

-- a cell of the tree
abbrev pub InTree : ℕ → Way → Place → Type 0
InTree axes way cell = In cell (order axes way cell.level)

pub child_in_tree : (axes : ℕ) (way : Way) (cell : Place) (ts : List ℕ) → InTree axes way cell → Digits3 axes ts → InTree axes way (child_of axes way cell ts)
child_in_tree axes way cell ts i d =
    subst (λ n. In (child_of axes way cell ts) (order axes way n)) (let e : suc cell.level ≡ cell.level + 1 = omega arith in e)
    (In-flat_map (children axes way) cell (child_of axes way cell ts) (order axes way cell.level) i
    (subst (In (child_of axes way cell ts)) (sym (children_are axes way cell)) (In-map (child_of axes way cell) ts (digit_lists axes) (digits_in axes ts d))))

near : (x b : ℕ) → b < 2 → (x + b == x || x + b == x + 1) ≡ true
near x zero h = grind (arith, nat_tests)
near x (suc zero) h = grind (arith, nat_tests)
near x (suc (suc b)) h = absurd (omega arith)

here : (x : ℕ) → (x == x || x == x + 1) ≡ true
here x = grind (arith, nat_tests)

own_pos : (pos : List ℕ) → is_corner_pos pos pos ≡ true
own_pos [] = refl
own_pos (x ∷ pos) = ap₂ (λ a b. a && b) (here x) (own_pos pos)

is_corner-moved : (n : ℕ) (pos bs : List ℕ) → IsBits n bs → is_corner_pos (moved pos bs) pos ≡ true
is_corner-moved n [] bs d = refl
is_corner-moved zero (x ∷ pos) [] d = own_pos (x ∷ pos)
is_corner-moved zero (x ∷ pos) (b ∷ bs) d = absurd (omega arith)
is_corner-moved (suc n) (x ∷ pos) [] d = absurd (omega arith)
is_corner-moved (suc n) (x ∷ pos) (b ∷ bs) d = ap₂ (λ a b. a && b) (near x b d.0) (is_corner-moved n pos bs d.1)

pub loads_touched : (axes : ℕ) (way : Way) (levels : ℕ) (cell : Place) → axes ≤ 4 → length cell.pos ≡ 4 → InTree axes way cell → Each (Touched axes way cell) (loads axes way levels cell)
loads_touched axes way levels cell four l i = go levels cell l i
  where
    own : (cell : Place) → InTree axes way cell → Each (Touched axes way cell) (reverse (corner_touches axes cell))
    own cell i = Each-reverse (Touched axes way cell) (corner_touches axes cell) (subst (Each (Touched axes way cell)) (sym (corner_touches_are axes cell four))
        (Each-map (Touched axes way cell) (touch_at cell) (bit_lists axes) (Each-weaker (IsBits axes) (λ bs. Touched axes way cell (touch_at cell bs)) (λ bs d. record {
          depth = 0;
          level = refl;
          within = refl;
          around_it = In-filter (is_corner (touch_at cell bs).vertex) cell (order axes way cell.level) (ap₂ (λ a b. a && b) (same cell.level) (is_corner-moved axes cell.pos bs d)) i;
        })
        (bit_lists axes) (bit_lists_below axes))))
      where
        same : (n : ℕ) → (n == n) ≡ true
        same n = grind (arith, nat_tests)

    go : (levels : ℕ) (cell : Place) → length cell.pos ≡ 4 → InTree axes way cell → Each (Touched axes way cell) (loads axes way levels cell)
    go zero cell l i = own cell i
    go (suc levels) cell l i = Each-append (Touched axes way cell) (reverse (corner_touches axes cell)) _ (own cell i)
        (Each-flat_map (Touched axes way cell) (loads axes way levels) (children axes way cell) (subst (Each (λ c. Each (Touched axes way cell) (loads axes way levels c))) (sym (children_are axes way cell))
        (Each-map _ (child_of axes way cell) (digit_lists axes) (Each-weaker (Digits3 axes) _ (λ ts d.
        let child = child_of axes way cell ts in
        Each-weaker (Touched axes way child) (Touched axes way cell) (λ t h. record {
          depth = suc h.depth;
          level = h.level ∙ let e : cell.level + 1 ≡ suc cell.level = omega arith in ap (deeper h.depth) e ∙ deeper-suc h.depth cell.level;
          within = sym (above-thirds h.depth t.cell.pos) ∙ ap thirds h.within ∙ thirds-child axes way cell ts four l d;
          around_it = h.around_it;
        })
        (loads axes way levels child) (go levels child (child_four axes way cell ts four l d) (child_in_tree axes way cell ts i d)))
        (digit_lists axes) (digit_lists_below axes)))))

-- no cell around a vertex comes between the two of a step
pub nothing_between : (axes : ℕ) (way : Way) (vertex a b z : Place) → axes ≤ 4 → is_step axes way vertex a b ≡ true → In z (around axes way vertex)
    → rank_of axes way vertex.level a < rank_of axes way vertex.level z → rank_of axes way vertex.level z < rank_of axes way vertex.level b → 1 ≤ 0
nothing_between axes way vertex a b z four step i low high =
    let r = rank_of axes way vertex.level in
    list_any-Each _ (IsClose r (around axes way vertex)) (1 ≤ 0)
    (λ s t close.
    let e : r s.0 ≡ r a = ap (rank axes way vertex.level) (is_same-true s.0 a (and_parts (is_same s.0 a) (is_same s.1 b) t).0).1 in
    let f : r s.1 ≡ r b = ap (rank axes way vertex.level) (is_same-true s.1 b (and_parts (is_same s.0 a) (is_same s.1 b) t).1).1 in
    elim (Each-In (λ y. (r y ≤ r s.0) ⊎ (r s.1 ≤ r y)) z (around axes way vertex) close i) [
      | inl h ↦ omega arith
      | inr h ↦ omega arith
    ])
    (steps (around axes way vertex)) step (steps_close r 0 (top axes vertex.level) (around axes way vertex) (around_rises axes way vertex four))

-- a vertex that waits between two cells is not touched in the walk of a cell between them
apart : (axes : ℕ) (way : Way) (levels depth : ℕ) (cell vertex a b : Place) (low high : List ℕ) → axes ≤ 4 → length cell.pos ≡ 4 → InTree axes way cell → vertex.level ≡ deeper depth cell.level
    → above depth a.pos ≡ low → above depth b.pos ≡ high → is_step axes way vertex a b ≡ true
    → rank axes way cell.level low < rank_of axes way cell.level cell → rank_of axes way cell.level cell < rank axes way cell.level high → is_touched axes way levels cell vertex ≡ false
apart axes way levels depth cell vertex a b low high four l i level is_low is_high step below_it above_it =
    list_any_none (λ t. is_same t.vertex vertex) (loads axes way levels cell) (Each-weaker (Touched axes way cell) _ (λ t h. false_unless _ (λ same.
    let e = is_same-true t.vertex vertex same in
    let is : t.vertex ≡ vertex = ap₂ (λ n p. let v : Place = record { level = n; pos = p } in v) e.0 e.1 in
    let m : h.depth ≡ depth = omega (arith, deeper_is h.depth cell.level, deeper_is depth cell.level, h.level, level, e.0) in
    let w : above depth t.cell.pos ≡ cell.pos = subst (λ n. above n t.cell.pos ≡ cell.pos) m h.within in
    nothing_between axes way vertex a b t.cell four step (subst (λ v. In t.cell (around axes way v)) is h.around_it)
    (subst (λ n. rank_of axes way n a < rank_of axes way n t.cell) (sym level) (rank-deeper axes way depth cell.level a.pos t.cell.pos (subst₂ (λ x y. rank axes way cell.level x < rank axes way cell.level y) (sym is_low) (sym w) below_it)))
    (subst (λ n. rank_of axes way n t.cell < rank_of axes way n b) (sym level) (rank-deeper axes way depth cell.level t.cell.pos b.pos (subst₂ (λ x y. rank axes way cell.level x < rank axes way cell.level y) (sym w) (sym is_high) above_it)))))
    (loads axes way levels cell) (loads_touched axes way levels cell four l i))

-- what arrives in a cell is not touched by a cell between it and its neighbour at the face; nor what is left
pub arriving_apart : (axes : ℕ) (way : Way) (counts : Place → Bool) (levels others : ℕ) (face : Face) (cell other : Place) → axes ≤ 4 → face.axis < axes → face.side < 2 → length cell.pos ≡ 4 → length other.pos ≡ 4 → InTree axes way other → other.level ≡ cell.level
    → rank_of axes way other.level (across face cell) < rank_of axes way other.level other → rank_of axes way other.level other < rank_of axes way other.level cell
    → list_any (is_touched axes way others other) (arriving axes way counts levels face cell) ≡ false
arriving_apart axes way counts levels others face cell other four a b l k i same low high =
    list_any_none (is_touched axes way others other) (arriving axes way counts levels face cell) (Each-weaker (AtFace (comes_across axes way counts face) face cell) _ (λ v h.
    apart axes way others h.depth other v (across face h.inner) h.inner (across face cell).pos cell.pos four k i (h.level ∙ ap (deeper h.depth) (sym same)) h.beyond h.within (and_parts (counts v) _ h.passes).1 low high)
    (arriving axes way counts levels face cell) (at_face_each axes way (comes_across axes way counts face) face four a b (cell.level + levels) levels cell l refl))

pub leaving_apart : (axes : ℕ) (way : Way) (counts : Place → Bool) (levels others : ℕ) (face : Face) (cell other : Place) → axes ≤ 4 → face.axis < axes → face.side < 2 → length cell.pos ≡ 4 → length other.pos ≡ 4 → InTree axes way other → other.level ≡ cell.level
    → rank_of axes way other.level cell < rank_of axes way other.level other → rank_of axes way other.level other < rank_of axes way other.level (across face cell)
    → list_any (is_touched axes way others other) (leaving axes way counts levels face cell) ≡ false
leaving_apart axes way counts levels others face cell other four a b l k i same low high =
    ap (list_any (is_touched axes way others other)) (leaving_is axes way counts levels face cell)
    ∙ list_any_none (is_touched axes way others other) _ (Each-weaker (AtFace (goes_across axes way counts face) face cell) _ (λ v h.
    apart axes way others h.depth other v h.inner (across face h.inner) cell.pos (across face cell).pos four k i (h.level ∙ ap (deeper h.depth) (sym same)) h.within h.beyond (and_parts (counts v) _ h.passes).1 low high)
    _ (at_face_each axes (opposite way) (goes_across axes way counts face) face four a b (cell.level + levels) levels cell l refl))

-- a vertex of a child's list is no corner of the cell
corner_apart : (axes : ℕ) (way : Way) (cell vertex : Place) → axes ≤ 4 → cell.level < vertex.level → is_touched axes way 0 cell vertex ≡ false
corner_apart axes way cell vertex four deep =
    list_any_none (λ t. is_same t.vertex vertex) (reverse (corner_touches axes cell)) (Each-reverse _ (corner_touches axes cell) (subst (Each _) (sym (corner_touches_are axes cell four))
    (Each-map _ (touch_at cell) (bit_lists axes) (Each-all _ (λ bs. false_unless _ (λ same. omega (arith, (is_same-true (touch_at cell bs).vertex vertex same).0))) (bit_lists axes)))))

pub deeper_arriving : (axes : ℕ) (way : Way) (counts : Place → Bool) (levels : ℕ) (face : Face) (cell child : Place) → axes ≤ 4 → face.axis < axes → face.side < 2 → length child.pos ≡ 4 → child.level ≡ cell.level + 1
    → list_any (is_touched axes way 0 cell) (arriving axes way counts levels face child) ≡ false
deeper_arriving axes way counts levels face cell child four a b l deep =
    list_any_none (is_touched axes way 0 cell) _ (Each-weaker (AtFace (comes_across axes way counts face) face child) _ (λ v h. corner_apart axes way cell v four (omega (arith, h.level, deeper_is h.depth child.level)))
    _ (at_face_each axes way (comes_across axes way counts face) face four a b (child.level + levels) levels child l refl))

pub deeper_leaving : (axes : ℕ) (way : Way) (counts : Place → Bool) (levels : ℕ) (face : Face) (cell child : Place) → axes ≤ 4 → face.axis < axes → face.side < 2 → length child.pos ≡ 4 → child.level ≡ cell.level + 1
    → list_any (is_touched axes way 0 cell) (leaving axes way counts levels face child) ≡ false
deeper_leaving axes way counts levels face cell child four a b l deep =
    ap (list_any (is_touched axes way 0 cell)) (leaving_is axes way counts levels face child)
    ∙ list_any_none (is_touched axes way 0 cell) _ (Each-weaker (AtFace (goes_across axes way counts face) face child) _ (λ v h. corner_apart axes way cell v four (omega (arith, h.level, deeper_is h.depth child.level)))
    _ (at_face_each axes (opposite way) (goes_across axes way counts face) face four a b (child.level + levels) levels child l refl))
