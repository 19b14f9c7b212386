-- The steps around a vertex, and the corners of the cells on both sides of each.
use Rattle.std.proofs.Common.{◌≡◌, ℕ, zero, suc, ◌+◌, ◌-◌, ◌<◌, ◌≤◌, ◌⊎◌, Bool, true, ◌&&◌, ◌||◌, ◌==◌, List, [], ◌∷◌, map, filter, reverse, drop, replicate, length, slice_index, refl, sym, ap, ap₂, ◌∙◌, subst, inl, inr, length-set, arith}
use Rattle.std.specs.List.{Contains, AllByRecursion as Each}
use Rattle.std.proofs.lemmas.List.{get_or-set_same}
use Rattle.std.proofs.lemmas.Bool.Decides.{nat_tests}
use Rattle.std.proofs.lemmas.Bool.{and_parts, eq-eqb}
use Rattle.pe_base.specs.declared.place.Place.{Place}
use Rattle.pe_base.specs.declared.way.Way.{Way}
use Rattle.pe_base.specs.Tree.Places.{IsInside, moved}
use Rattle.pe_base.specs.Tree.Curve.{children, order}
use Rattle.pe_base.specs.Steps.Around.{is_corner_pos, is_corner}
use Rattle.pe_base.specs.Steps.Routes.{axis_of}
use Rattle.pe_base.specs.Steps.Faces.{Face, Touch, beside, across, is_step, corner_touches, comes_across, goes_across, at_face, in_corners, out_corners, IsFace, facing, ShareFace}
use Rattle.pe_base.proofs.Lists.{Each-all, Each-weaker, Each-filter, In, In-map, In-flat_map, In-filter, In-reverse, Each-In, Each-flat_map, Each-reverse}
use Rattle.pe_base.proofs.Tree.Corners.{IsBits, bit_lists, own_corners, slice_index-moved}
use Rattle.pe_base.proofs.Faces.FaceLists.{face_of, up_cell, across-up, leaving_is}
use Rattle.pe_base.proofs.Tree.Ranks.{OnLevel, order_on_level}
use Rattle.pe_base.proofs.Steps.VertexTouches.{OnGrid, root_on_grid, children_on_grid}
use Rattle.pe_base.proofs.Steps.RouteLaws.{within_cube, step_neighbours}
use Rattle.pe_order.specs.Laws.{Crosses}
use Rattle.pe_order.proofs.Unwalked.{contains_in, in_contains}
use Rattle.pe_order.proofs.Outside.{step_in}
use Rattle.pe_base.proofs.Faces.Bridge.{zeros_behind, corner_coordinate, step_corners, one_axis}
use Rattle.pe_base.proofs.Tree.PlaceLaws.{moved-none}

pub inside_on_grid : (axes : ℕ) (vertex : Place) → IsInside axes vertex → OnGrid axes vertex.level vertex
inside_on_grid axes vertex inside = (refl, inside.pos.four, zeros_behind axes vertex.pos inside.pos.rest ∙ ap (λ n. replicate (n - axes) 0) inside.pos.four)

-- the bits by which a vertex is a corner of a cell
pub corner_bits : (n : ℕ) (pos q : List ℕ) → n ≤ length pos → length q ≡ length pos → drop n q ≡ drop n pos → is_corner_pos q pos ≡ true → (bs : List ℕ) × In bs (bit_lists n) × IsBits n bs × (moved pos bs ≡ q)
corner_bits zero pos q l m e t = ([], inl refl, tt, moved-none pos ∙ sym e)
corner_bits (suc n) [] q l m e t = absurd (omega arith)
corner_bits (suc n) (x ∷ pos) [] l m e t = absurd (omega arith)
corner_bits (suc n) (x ∷ pos) (y ∷ q) l m e t =
    let rest = corner_bits n pos q (omega arith) (omega arith) e (and_parts (y == x || y == x + 1) _ t).1 in
    let put : (b : ℕ) → b < 2 → In (b ∷ rest.0) ((0 ∷ rest.0) ∷ (1 ∷ rest.0) ∷ []) → y ≡ x + b → (bs : List ℕ) × In bs (bit_lists (suc n)) × IsBits (suc n) bs × (moved (x ∷ pos) bs ≡ y ∷ q) =
    λ b h i is. (b ∷ rest.0, In-flat_map (λ bs. (0 ∷ bs) ∷ (1 ∷ bs) ∷ []) rest.0 (b ∷ rest.0) (bit_lists n) rest.1 i, (h, rest.2), ap₂ (λ z zs. z ∷ zs) (sym is) rest.3) in
    elim (near_far y x (and_parts (y == x || y == x + 1) _ t).0) [
      | inl is ↦ put 0 (omega arith) (inl refl) (omega arith)
      | inr is ↦ put 1 (omega arith) (inr (inl refl)) is
    ]
  where
    near_far : (a b : ℕ) → (a == b || a == b + 1) ≡ true → (a ≡ b) ⊎ (a ≡ b + 1)
    near_far a b h = grind (arith, nat_tests)

pub order_on_grid : (axes : ℕ) (way : Way) (level : ℕ) → axes ≤ 4 → Each (OnGrid axes level) (order axes way level)
order_on_grid axes way zero four = (root_on_grid axes four, tt)
order_on_grid axes way (suc level) four = Each-flat_map (OnGrid axes (suc level)) (children axes way) (order axes way level)
    (Each-weaker (OnGrid axes level) _ (λ c on. children_on_grid axes way level c four on) (order axes way level) (order_on_grid axes way level four))

-- two cells one next to the other share one face, and no other
up_alone : (axes axis : ℕ) (a : Place) (other : Face) → axis < length a.pos → other.side < 2 → across other a ≡ up_cell axis a → other ≡ face_of axis 1
up_alone axes axis a other l s e =
    let moved_up : slice_index (up_cell axis a).pos axis ≡ slice_index a.pos axis + 1 = get_or-set_same a.pos axis (slice_index a.pos axis + 1) 0 l in
    let j : other.axis ≡ axis = one_axis axes axis other.axis 1 other.side a (up_cell axis a) l (omega (arith, moved_up)) e in
    let v : beside other.side (slice_index a.pos axis) ≡ slice_index a.pos axis + 1 =
    sym (get_or-set_same a.pos axis (beside other.side (slice_index a.pos axis)) 0 l) ∙ ap (λ i. slice_index (across (face_of i other.side) a).pos axis) (sym j) ∙ ap (λ p. slice_index p.pos axis) e ∙ moved_up in
    ap₂ face_of j (side other.side s v)
  where
    side : (n : ℕ) → n < 2 → beside n (slice_index a.pos axis) ≡ slice_index a.pos axis + 1 → n ≡ 1
    side zero h v = absurd (omega (arith, v))
    side (suc zero) h v = refl
    side (suc (suc n)) h v = absurd (omega arith)

down_alone : (axes axis : ℕ) (b : Place) (other : Face) → axis < length b.pos → other.side < 2 → across other (up_cell axis b) ≡ b → other ≡ face_of axis 0
down_alone axes axis b other l s e =
    let a = up_cell axis b in
    let k : axis < length a.pos = omega (arith, length-set b.pos axis (slice_index b.pos axis + 1)) in
    let moved_up : slice_index a.pos axis ≡ slice_index b.pos axis + 1 = get_or-set_same b.pos axis (slice_index b.pos axis + 1) 0 l in
    let j : other.axis ≡ axis = one_axis axes axis other.axis 0 other.side a b k (omega (arith, moved_up)) e in
    let v : beside other.side (slice_index a.pos axis) ≡ slice_index b.pos axis =
    sym (get_or-set_same a.pos axis (beside other.side (slice_index a.pos axis)) 0 k) ∙ ap (λ i. slice_index (across (face_of i other.side) a).pos axis) (sym j) ∙ ap (λ p. slice_index p.pos axis) e in
    ap₂ face_of j (side other.side s v moved_up)
  where
    side : (n : ℕ) → n < 2 → beside n (slice_index (up_cell axis b).pos axis) ≡ slice_index b.pos axis → slice_index (up_cell axis b).pos axis ≡ slice_index b.pos axis + 1 → n ≡ 0
    side zero h v m = refl
    side (suc zero) h v m = absurd (omega (arith, v, m))
    side (suc (suc n)) h v m = absurd (omega arith)

pub step_crosses : (axes : ℕ) (way : Way) (vertex a b : Place) → axes ≤ 4 → IsInside axes vertex → is_step axes way vertex a b ≡ true → Crosses axes a b
step_crosses axes way vertex a b four inside t =
    let n = step_neighbours axes way vertex a b four (within_cube axes vertex inside) t in
    let axis = axis_of (a, b) in
    let cells = step_in axes way vertex a b t in
    let la = (Each-In (OnLevel vertex.level) a (order axes way vertex.level) (order_on_level axes way vertex.level four) cells.0).1 in
    let lb = (Each-In (OnLevel vertex.level) b (order axes way vertex.level) (order_on_level axes way vertex.level four) cells.1).1 in
    elim n.1 [
      | inl e ↦ record {
        face = face_of axis 1;
        is_face = (n.0, omega arith);
        shared = (sym e, ap (across (face_of axis 0)) e ∙ across-up axis a);
        alone = λ other is_face shared. up_alone axes axis a other (omega arith) is_face.1 (shared.0 ∙ e);
      }
      | inr e ↦ record {
        face = face_of axis 0;
        is_face = (n.0, omega arith);
        shared = (ap (across (face_of axis 0)) e ∙ across-up axis b, sym e);
        alone = λ other is_face shared. down_alone axes axis b other (omega arith) is_face.1 (ap (across other) (sym e) ∙ shared.0);
      }
    ]

-- a vertex is found among a cell's own corners at a face
own_contains : (axes : ℕ) (test : Touch → Bool) (axis side : ℕ) (cell vertex : Place) → axes ≤ 4 → axis < axes → OnGrid axes vertex.level vertex → OnGrid axes vertex.level cell → is_corner vertex cell ≡ true
    → slice_index vertex.pos axis ≡ slice_index cell.pos axis + side → test (record { vertex = vertex; cell = cell }) ≡ true
    → In vertex (at_face test (cell.level + 0) (face_of axis side) cell (reverse (corner_touches axes cell)))
own_contains axes test axis side cell vertex four a v c corner plane passes =
    let bits = corner_bits axes cell.pos vertex.pos (omega (arith, c.1)) (v.1 ∙ sym c.1) (v.2 ∙ sym c.2) (and_parts (vertex.level == cell.level) _ corner).1 in
    let place = λ (pos : List ℕ). let k : Place = record { level = cell.level; pos = pos } in k in
    let found = λ (bs : List ℕ). slice_index bs axis == side in
    let is : place (moved cell.pos bits.0) ≡ vertex = ap₂ (λ n p. let k : Place = record { level = n; pos = p } in k) c.0 bits.3 in
    let bit : slice_index bits.0 axis ≡ side = omega (arith, plane, slice_index-moved axis axes cell.pos bits.0 a (omega (arith, c.1)) bits.2, ap (λ p. slice_index p axis) bits.3) in
    subst (In vertex) (sym (own_corners axes test (cell.level + 0) axis side cell four a (omega (arith, c.1))))
    (In-reverse vertex _ (In-filter _ vertex _ passes
    (subst (λ k. In k (map place (map (moved cell.pos) (filter found (bit_lists axes))))) is
    (In-map place (moved cell.pos bits.0) _ (In-map (moved cell.pos) bits.0 _ (In-filter found bits.0 (bit_lists axes) (eq-eqb _ _ bit) bits.1))))))

-- the coordinate of the plane between two cells of a step
between : (axis side : ℕ) (vertex a b : Place) → side < 2 → axis < length a.pos → axis < length b.pos → ShareFace (face_of axis side) a b → is_corner vertex a ≡ true → is_corner vertex b ≡ true
    → (slice_index vertex.pos axis ≡ slice_index a.pos axis + side) × (slice_index vertex.pos axis ≡ slice_index b.pos axis + (1 - side))
between axis zero vertex a b s la lb share ca cb =
    let e : slice_index a.pos axis ≡ slice_index b.pos axis + 1 = ap (λ p. slice_index p.pos axis) (sym share.1) ∙ get_or-set_same b.pos axis (slice_index b.pos axis + 1) 0 lb in
    let x = corner_coordinate axis vertex.pos a.pos la (and_parts (vertex.level == a.level) _ ca).1 in
    let y = corner_coordinate axis vertex.pos b.pos lb (and_parts (vertex.level == b.level) _ cb).1 in
    (omega (arith, e, x.0, x.1, y.0, y.1), omega (arith, e, x.0, x.1, y.0, y.1))
between axis (suc zero) vertex a b s la lb share ca cb =
    let e : slice_index b.pos axis ≡ slice_index a.pos axis + 1 = ap (λ p. slice_index p.pos axis) (sym share.0) ∙ get_or-set_same a.pos axis (slice_index a.pos axis + 1) 0 la in
    let x = corner_coordinate axis vertex.pos a.pos la (and_parts (vertex.level == a.level) _ ca).1 in
    let y = corner_coordinate axis vertex.pos b.pos lb (and_parts (vertex.level == b.level) _ cb).1 in
    (omega (arith, e, x.0, x.1, y.0, y.1), omega (arith, e, x.0, x.1, y.0, y.1))
between axis (suc (suc side)) vertex a b s la lb share ca cb = absurd (omega arith)

pub step_in_corners : (axes : ℕ) (way : Way) (counts : Place → Bool) (vertex a b : Place) (face : Face) → axes ≤ 4 → IsInside axes vertex → counts vertex ≡ true → is_step axes way vertex a b ≡ true → IsFace axes face → ShareFace face a b
    → Contains (out_corners axes way counts face a) vertex × Contains (in_corners axes way counts (facing face) b) vertex
step_in_corners axes way counts vertex a b face four inside counted t is_face share =
    let cells = step_in axes way vertex a b t in
    let grid = order_on_grid axes way vertex.level four in
    let ga = Each-In (OnGrid axes vertex.level) a (order axes way vertex.level) grid cells.0 in
    let gb = Each-In (OnGrid axes vertex.level) b (order axes way vertex.level) grid cells.1 in
    let v = inside_on_grid axes vertex inside in
    let c = step_corners axes way vertex a b t in
    let x = between face.axis face.side vertex a b is_face.1 (omega (arith, ga.1, is_face.0)) (omega (arith, gb.1, is_face.0)) share c.0 c.1 in (
      in_contains (out_corners axes way counts face a) vertex (subst (In vertex) (sym (leaving_is axes way counts 0 face a))
          (own_contains axes (goes_across axes way counts face) face.axis face.side a vertex four is_face.0 v ga c.0 x.0
          (ap₂ (λ p q. p && q) counted (ap (is_step axes way vertex a) share.0 ∙ t)))),
      in_contains (in_corners axes way counts (facing face) b) vertex
          (own_contains axes (comes_across axes way counts (facing face)) face.axis (1 - face.side) b vertex four is_face.0 v gb c.1 x.1
          (ap₂ (λ p q. p && q) counted (ap (λ p. is_step axes way vertex p b) share.1 ∙ t))),
    )

own_only : (axes : ℕ) (test : Touch → Bool) (face : Face) (cell vertex : Place) → axes ≤ 4 → IsFace axes face → length cell.pos ≡ 4 → In vertex (at_face test (cell.level + 0) face cell (reverse (corner_touches axes cell)))
    → test (record { vertex = vertex; cell = cell }) ≡ true
own_only axes test face cell vertex four is_face l i =
    let t = λ (v : Place). test (record { vertex = v; cell = cell }) in
    let place = λ (pos : List ℕ). let k : Place = record { level = cell.level; pos = pos } in k in
    let all = map place (map (moved cell.pos) (filter (λ bs. slice_index bs face.axis == face.side) (bit_lists axes))) in
    Each-In (λ v. t v ≡ true) vertex _
    (Each-reverse (λ v. t v ≡ true) (filter t all) (Each-weaker _ (λ v. t v ≡ true) (λ v h. h.1) (filter t all) (Each-filter (λ v. Unit {0}) t all (Each-all (λ v. Unit {0}) (λ v. tt) all))))
    (subst (In vertex) (own_corners axes test (cell.level + 0) face.axis face.side cell four is_face.0 (omega arith)) i)

-- and the cell's own corners at a face are no others
pub in_corners_only : (axes : ℕ) (way : Way) (counts : Place → Bool) (face : Face) (cell vertex : Place) → axes ≤ 4 → IsFace axes face → length cell.pos ≡ 4 → Contains (in_corners axes way counts face cell) vertex
    → (counts vertex ≡ true) × (is_step axes way vertex (across face cell) cell ≡ true)
in_corners_only axes way counts face cell vertex four is_face l c =
    let t = own_only axes (comes_across axes way counts face) face cell vertex four is_face l (contains_in (in_corners axes way counts face cell) vertex c) in
    ((and_parts (counts vertex) _ t).0, (and_parts (counts vertex) _ t).1)

pub out_corners_only : (axes : ℕ) (way : Way) (counts : Place → Bool) (face : Face) (cell vertex : Place) → axes ≤ 4 → IsFace axes face → length cell.pos ≡ 4 → Contains (out_corners axes way counts face cell) vertex
    → (counts vertex ≡ true) × (is_step axes way vertex cell (across face cell) ≡ true)
out_corners_only axes way counts face cell vertex four is_face l c =
    let t = own_only axes (goes_across axes way counts face) face cell vertex four is_face l (subst (In vertex) (leaving_is axes way counts 0 face cell) (contains_in (out_corners axes way counts face cell) vertex c)) in
    ((and_parts (counts vertex) _ t).0, (and_parts (counts vertex) _ t).1)
