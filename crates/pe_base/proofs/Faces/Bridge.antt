-- The steps around a corner of a cell, and the stacks by which the corner comes and goes.
use Rattle.std.proofs.Common.{◌≡◌, ◌≢◌, ℕ, zero, suc, ◌+◌, ◌-◌, ◌*◌, ◌/◌, ◌%◌, ◌^◌, ◌<◌, ◌≤◌, ◌⊎◌, inl, inr, Bool, true, false, ◌&&◌, ◌||◌, ◌==◌, List, [], ◌∷◌, map, filter, reverse, drop, replicate, length, slice_index, Some, refl, sym, ap, ap₂, ◌∙◌, subst, true≢false, arith}
use Rattle.std.specs.Prelude.{nat_lt, if◌then◌else◌}
use Rattle.std.specs.List.{list_any, AllByRecursion as Each}
use Rattle.std.specs.Option.{option_map}
use Rattle.std.proofs.lemmas.List.{length-set, get_or-set_same, get_or-set_other}
use Rattle.std.proofs.lemmas.Bool.Decides.{nat_tests}
use Rattle.std.proofs.lemmas.Bool.{and_parts, eq-eqb, eqb-true, cases_eq}
use Rattle.std.proofs.Math.Bool.{or-false, and-false}
use Rattle.pe_base.specs.declared.place.Place.{Place}
use Rattle.pe_base.specs.declared.way.Way.{Way}
use Rattle.pe_base.specs.Tree.Ways.{opposite}
use Rattle.pe_base.specs.Tree.Places.{IsPosition, moved, is_same}
use Rattle.pe_base.specs.Tree.Curve.{order}
use Rattle.pe_base.specs.Steps.Around.{is_corner_pos, is_corner, around, steps}
use Rattle.pe_base.specs.Steps.Routes.{axis_between, axis_of, waiting_stack, stack_in, stack_out}
use Rattle.pe_base.specs.Steps.Faces.{Face, IsFace, ShareFace, Touch, beside, across, plane, stack_of, face_on, in_finest, is_on, is_step, corner_touches, comes_across, in_corners}
use Rattle.pe_base.specs.Steps.Stacks.{is_stack, comes_by, goes_by, ComeByFaces, GoByFaces, AcrossNone, AcrossOne}
use Rattle.pe_base.proofs.Lists.{Each-all, Each-weaker, Each-filter, map-map, map-reverse, filter-map, filter-reverse, filter_same, filter_none}
use Rattle.pe_base.proofs.Tree.Mirrors.{up}
use Rattle.pe_base.proofs.Tree.Corners.{IsBits, bit_lists, bit_lists_below, touch_at, corner_touches_are, slice_index-moved, slice_index-bits}
use Rattle.pe_base.proofs.Tree.Ranks.{steps_within, list_any-Each, same_places}
use Rattle.pe_base.proofs.Steps.VertexTouches.{OnGrid, is_same_itself, same_itself}
use Rattle.pe_base.proofs.Steps.CornerPlaces.{length-moved}
use Rattle.pe_base.proofs.Steps.RouteLaws.{step_neighbours}
use Rattle.pe_base.proofs.Steps.Turned.{find_none, find_first, any_both, one_step_to, is_step-opposite, stack-opposite}
use Rattle.pe_base.proofs.Faces.FaceLists.{face_of, across-up}
use Rattle.pe_base.proofs.Faces.Quiet.{false_unless}
use Rattle.pe_base.proofs.Faces.TurnedLists.{leaving-opposite, goes_by-opposite}

pub all_zeros : (pos : List ℕ) → ((axis : ℕ) → slice_index pos axis ≡ 0) → pos ≡ replicate (length pos) 0
all_zeros [] h = refl
all_zeros (x ∷ pos) h = ap₂ (λ y ys. y ∷ ys) (h 0) (all_zeros pos (λ axis. h (suc axis)))

pub zeros_behind : (n : ℕ) (pos : List ℕ) → ((axis : ℕ) → n ≤ axis → slice_index pos axis ≡ 0) → drop n pos ≡ replicate (length pos - n) 0
zeros_behind zero pos h = all_zeros pos (λ axis. h axis (omega arith)) ∙ ap (λ k. replicate k 0) (let e : length pos ≡ length pos - 0 = omega arith in e)
zeros_behind (suc n) [] h = ap (λ k. replicate k 0) (let e : 0 ≡ 0 - suc n = omega arith in e)
zeros_behind (suc n) (x ∷ pos) h = zeros_behind n pos (λ axis l. h (suc axis) (omega arith)) ∙ ap (λ k. replicate k 0) (let e : length pos - n ≡ suc (length pos) - suc n = omega arith in e)

pub on_grid : (axes : ℕ) (place : Place) (bound : ℕ) → IsPosition axes bound place.pos → OnGrid axes place.level place
on_grid axes place bound is = (refl, is.four, zeros_behind axes place.pos is.rest ∙ ap (λ n. replicate (n - axes) 0) is.four)

-- the corner of a cell with some bits
abbrev pub corner_at : Place → List ℕ → Place
corner_at cell bs = record { level = cell.level; pos = moved cell.pos bs }

-- its coordinates behind the axes are the cell's
moved-behind : (axis n : ℕ) (pos bs : List ℕ) → IsBits n bs → n ≤ axis → slice_index (moved pos bs) axis ≡ slice_index pos axis
moved-behind axis n [] bs d h = refl
moved-behind axis n (x ∷ pos) [] d h = refl
moved-behind axis zero (x ∷ pos) (b ∷ bs) d h = absurd (omega arith)
moved-behind zero (suc n) (x ∷ pos) (b ∷ bs) d h = absurd (omega arith)
moved-behind (suc axis) (suc n) (x ∷ pos) (b ∷ bs) d h = moved-behind axis n pos bs d.1 (omega arith)

corner_within : (axes : ℕ) (cell : Place) (bs : List ℕ) → axes ≤ 4 → IsPosition axes (3 ^ cell.level) cell.pos → IsBits axes bs → IsPosition axes (suc (3 ^ cell.level)) (corner_at cell bs).pos
corner_within axes cell bs four is d = record {
  four = length-moved cell.pos bs ∙ is.four;
  inside = λ axis a. omega (arith, slice_index-moved axis axes cell.pos bs a (omega (arith, is.four)) d, slice_index-bits axis axes bs a d, is.inside axis a);
  rest = λ axis a. moved-behind axis axes cell.pos bs d a ∙ is.rest axis a;
}

-- a corner's coordinate is the cell's, or one more
pub corner_coordinate : (axis : ℕ) (qs ps : List ℕ) → axis < length ps → is_corner_pos qs ps ≡ true → (slice_index ps axis ≤ slice_index qs axis) × (slice_index qs axis ≤ slice_index ps axis + 1)
corner_coordinate axis qs [] h t = absurd (omega arith)
corner_coordinate axis [] (p ∷ ps) h t = absurd (true≢false (sym t))
corner_coordinate zero (q ∷ qs) (p ∷ ps) h t = both q p (and_parts (q == p || q == p + 1) _ t).0
  where
    both : (a b : ℕ) → (a == b || a == b + 1) ≡ true → (b ≤ a) × (a ≤ b + 1)
    both a b e = elim (cases a b e) [ inl i ↦ (omega arith, omega arith) | inr i ↦ (omega arith, omega arith) ]
      where
        cases : (c d : ℕ) → (c == d || c == d + 1) ≡ true → (c ≡ d) ⊎ (c ≡ d + 1)
        cases c d k = grind (arith, nat_tests)
corner_coordinate (suc axis) (q ∷ qs) (p ∷ ps) h t = corner_coordinate axis qs ps (omega arith) (and_parts (q == p || q == p + 1) _ t).1

-- both cells of a step have the vertex for a corner
pub step_corners : (axes : ℕ) (way : Way) (vertex a b : Place) → is_step axes way vertex a b ≡ true → (is_corner vertex a ≡ true) × (is_corner vertex b ≡ true)
step_corners axes way vertex a b t =
    list_any-Each _ (λ s. (is_corner vertex s.0 ≡ true) × (is_corner vertex s.1 ≡ true)) ((is_corner vertex a ≡ true) × (is_corner vertex b ≡ true))
    (λ s e w. (subst (λ p. is_corner vertex p ≡ true) (same_places s.0 a (and_parts (is_same s.0 a) (is_same s.1 b) e).0) w.0, subst (λ p. is_corner vertex p ≡ true) (same_places s.1 b (and_parts (is_same s.0 a) (is_same s.1 b) e).1) w.1))
    (steps (around axes way vertex)) t (steps_within (λ p. is_corner vertex p ≡ true) (around axes way vertex)
    (Each-weaker _ (λ p. is_corner vertex p ≡ true) (λ p h. h.1) (around axes way vertex) (Each-filter (λ p. Unit {0}) (is_corner vertex) (order axes way vertex.level) (Each-all (λ p. Unit {0}) (λ p. tt) (order axes way vertex.level)))))

-- a cell that differs on an axis lies across no face of another axis
pub one_axis : (axes axis j side s : ℕ) (a b : Place) → axis < length a.pos → slice_index b.pos axis ≢ slice_index a.pos axis → across (face_of j s) a ≡ b → j ≡ axis
one_axis axes axis j side s a b l apart e = elim (cases_eq j axis) [
  | inl h ↦ h
  | inr h ↦ absurd (apart (ap (λ p. slice_index p.pos axis) (sym e) ∙ get_or-set_other a.pos j axis (beside s (slice_index a.pos j)) 0 (λ k. h (sym k))))
]

-- a corner of a cell comes to it across no face, or across one
pub one_across : (axes : ℕ) (way : Way) (cell : Place) (bs : List ℕ) → axes ≤ 4 → IsPosition axes (3 ^ cell.level) cell.pos → IsBits axes bs
    → AcrossNone (stack_in axes way (corner_at cell bs) cell) (λ other. is_step axes way (corner_at cell bs) other cell)
    ⊎ AcrossOne axes (corner_at cell bs) cell (stack_in axes way (corner_at cell bs) cell) (λ other. is_step axes way (corner_at cell bs) other cell)
one_across axes way cell bs four is d =
    let v = corner_at cell bs in
    let all = steps (around axes way v) in
    let waits = λ (step : Place × Place). waiting_stack v (axis_of step) in
    let ends = λ (step : Place × Place). is_same step.1 cell in
    elim (one_step_to axes way v cell four) [
      | inl none ↦ inl (record {
        no_stack = ap (option_map waits) (find_none ends all none);
        no_cell = λ other. any_both (λ s. is_same s.0 other) ends all ∙ ap (list_any (λ s. is_same s.0 other)) none;
      })
      | inr one ↦
          let a = one.0.0 in
          let found : (other : Place) → is_step axes way v other cell ≡ is_same a other = λ other. any_both (λ s. is_same s.0 other) ends all ∙ ap (list_any (λ s. is_same s.0 other)) one.1 ∙ or-false (is_same a other) in
          let at_cell : is_same one.0.1 cell ≡ true = (subst (Each (λ s. Unit {0} × (ends s ≡ true))) one.1 (Each-filter (λ s. Unit {0}) ends all (Each-all (λ s. Unit {0}) (λ s. tt) all))).0.1 in
          let same : one.0.1 ≡ cell = same_places one.0.1 cell at_cell in
          let t : is_step axes way v a cell ≡ true = found a ∙ is_same_itself a in
          let corner_a = (step_corners axes way v a cell t).0 in
          let n = step_neighbours axes way v a cell four (corner_within axes cell bs four is d) t in
          let i = axis_of (a, cell) in
          let crossed : axis_of one.0 ≡ i = ap (λ c. axis_between a.pos c.pos) same in
          let long : i < length cell.pos = omega (arith, is.four, n.0) in
          let end = slice_index-moved i axes cell.pos bs n.0 (omega (arith, is.four)) d in
          let bit = slice_index-bits i axes bs n.0 d in
          let stack : (face : Face) → face.axis ≡ i → slice_index v.pos face.axis ≡ plane face cell → stack_in axes way v cell ≡ Some (stack_of face cell) =
          λ face e p. ap (option_map waits) (find_first ends all one.0 [] one.1) ∙ ap (λ i. Some (waiting_stack v i)) (crossed ∙ sym e) ∙ ap (λ p. Some (2 * face.axis + p % 2)) p in
          elim n.1 [
            | inl e ↦
                let long_a : i < length a.pos = omega (arith, ap (λ p. length p.pos) e, length-up i a.pos) in
                let is_across : across (face_of i 0) cell ≡ a = ap (across (face_of i 0)) e ∙ across-up i a in
                let x : slice_index cell.pos i ≡ slice_index a.pos i + 1 = ap (λ p. slice_index p.pos i) e ∙ get_or-set_same a.pos i (slice_index a.pos i + 1) 0 long_a in
                let c = corner_coordinate i v.pos a.pos long_a (and_parts (v.level == a.level) _ corner_a).1 in
                let lies : slice_index v.pos i ≡ slice_index cell.pos i + 0 = omega (arith, x, c.0, c.1, end, bit) in
                inr (record {
                  face = face_of i 0;
                  is_face = (n.0, omega arith);
                  shared = (refl, ap (across (face_of i 1)) is_across ∙ sym e);
                  in_plane = lies;
                  its_stack = stack (face_of i 0) refl lies;
                  its_cell = λ other. found other ∙ ap (λ p. is_same p other) (sym is_across);
                })
            | inr e ↦
                let long_a : i < length a.pos = omega (arith, ap (λ p. length p.pos) e, length-up i cell.pos) in
                let x : slice_index a.pos i ≡ slice_index cell.pos i + 1 = ap (λ p. slice_index p.pos i) e ∙ get_or-set_same cell.pos i (slice_index cell.pos i + 1) 0 long in
                let c = corner_coordinate i v.pos a.pos long_a (and_parts (v.level == a.level) _ corner_a).1 in
                let lies : slice_index v.pos i ≡ slice_index cell.pos i + 1 = omega (arith, x, c.0, c.1, end, bit) in
                inr (record {
                  face = face_of i 1;
                  is_face = (n.0, omega arith);
                  shared = (refl, across-up i cell);
                  in_plane = lies;
                  its_stack = stack (face_of i 1) refl lies;
                  its_cell = λ other. found other ∙ ap (λ p. is_same p other) e;
                })
          ]
    ]
  where
    length-up : (axis : ℕ) (pos : List ℕ) → length (up axis pos) ≡ length pos
    length-up axis [] = refl
    length-up zero (x ∷ pos) = refl
    length-up (suc axis) (x ∷ pos) = ap suc (length-up axis pos)

-- the face of a cell on a stack is the one whose stack it is
face_of_stack : (s axis side x : ℕ) → side < 2 → s ≡ 2 * axis + (x + side) % 2 → (s / 2 ≡ axis) × ((x + s % 2) % 2 ≡ side)
face_of_stack s axis side x h e = (omega arith, omega arith)

stack_of_face : (s axis side x : ℕ) → side < 2 → s / 2 ≡ axis → (x + s % 2) % 2 ≡ side → s ≡ 2 * axis + (x + side) % 2
stack_of_face s axis side x h e f = omega arith

-- a cell that shares a face lies at another position on its axis
pub apart : (face : Face) (cell : Place) → face.side < 2 → face.axis < length cell.pos → ShareFace face cell (across face cell) → beside face.side (slice_index cell.pos face.axis) ≢ slice_index cell.pos face.axis
apart face cell s l share e = go face.side s (slice_index cell.pos face.axis) e there
  where
    long : face.axis < length (across face cell).pos
    long = omega (arith, length-set cell.pos face.axis (beside face.side (slice_index cell.pos face.axis)))

    there : beside (1 - face.side) (beside face.side (slice_index cell.pos face.axis)) ≡ slice_index cell.pos face.axis
    there = ap (beside (1 - face.side)) (sym (get_or-set_same cell.pos face.axis (beside face.side (slice_index cell.pos face.axis)) 0 l))
        ∙ sym (get_or-set_same (across face cell).pos face.axis (beside (1 - face.side) (slice_index (across face cell).pos face.axis)) 0 long)
        ∙ ap (λ p. slice_index p.pos face.axis) share.1

    go : (side : ℕ) → side < 2 → (x : ℕ) → beside side x ≡ x → beside (1 - side) (beside side x) ≡ x → ⊥
    go zero h x e t = absurd (omega (arith, e, t))
    go (suc zero) h x e t = absurd (omega (arith, e))
    go (suc (suc side)) h x e t = absurd (omega arith)

-- two faces of a cell with one cell across them are one
same_across : (axes : ℕ) (face other : Face) (cell : Place) → axes ≤ length cell.pos → IsFace axes face → IsFace axes other → ShareFace face cell (across face cell) → across face cell ≡ across other cell → (other.axis ≡ face.axis) × (other.side ≡ face.side)
same_across axes face other cell l f g share e = (axis, sides face.side other.side f.1 g.1 (slice_index cell.pos face.axis) step distinct)
  where
    long : face.axis < length cell.pos
    long = omega (arith, f.0)

    here : slice_index (across face cell).pos face.axis ≡ beside face.side (slice_index cell.pos face.axis)
    here = get_or-set_same cell.pos face.axis (beside face.side (slice_index cell.pos face.axis)) 0 long

    distinct : beside face.side (slice_index cell.pos face.axis) ≢ slice_index cell.pos face.axis
    distinct = apart face cell f.1 long share

    axis : other.axis ≡ face.axis
    axis = one_axis axes face.axis other.axis 0 other.side cell (across face cell) long (λ h. distinct (sym here ∙ h)) (sym e)

    step : beside face.side (slice_index cell.pos face.axis) ≡ beside other.side (slice_index cell.pos face.axis)
    step = sym here ∙ ap (λ p. slice_index p.pos face.axis) e ∙ ap (λ i. slice_index (across (face_of i other.side) cell).pos face.axis) axis
        ∙ get_or-set_same cell.pos face.axis (beside other.side (slice_index cell.pos face.axis)) 0 long

    sides : (a b : ℕ) → a < 2 → b < 2 → (x : ℕ) → beside a x ≡ beside b x → beside a x ≢ x → b ≡ a
    sides zero zero h k x s d = refl
    sides (suc zero) (suc zero) h k x s d = refl
    sides zero (suc zero) h k x s d = absurd (omega (arith, s))
    sides (suc zero) zero h k x s d = absurd (omega (arith, s))
    sides (suc (suc a)) b h k x s d = absurd (omega arith)
    sides zero (suc (suc b)) h k x s d = absurd (omega arith)
    sides (suc zero) (suc (suc b)) h k x s d = absurd (omega arith)

-- a corner comes by a stack where it comes across the face on the stack
comes_across_it : (axes : ℕ) (way : Way) (counts : Place → Bool) (s : ℕ) (cell : Place) (bs : List ℕ) → axes ≤ 4 → IsPosition axes (3 ^ cell.level) cell.pos → IsBits axes bs → s < 2 * axes
    → comes_by axes way counts s (touch_at cell bs)
    ≡ (is_on (cell.level + 0) (face_on (s / 2) (s % 2) cell) cell (corner_at cell bs) && comes_across axes way counts (face_on (s / 2) (s % 2) cell) (touch_at cell bs))
comes_across_it axes way counts s cell bs four is d inside = elim (one_across axes way cell bs four is d) [
  | inl none ↦
      ap (λ o. counts v && is_stack s o) none.no_stack ∙ neither (counts v) (is_on (cell.level + 0) face cell v)
      ∙ ap (λ b. is_on (cell.level + 0) face cell v && (counts v && b)) (sym (none.no_cell (across face cell)))
  | inr one ↦
      ap (λ o. counts v && is_stack s o) one.its_stack
      ∙ decide one (s == stack_of one.face cell) refl
      ∙ ap (λ b. is_on (cell.level + 0) face cell v && (counts v && b)) (sym (one.its_cell (across face cell)))
]
  where
    v : Place
    v = corner_at cell bs

    face : Face
    face = face_on (s / 2) (s % 2) cell

    neither : (a b : Bool) → (a && false) ≡ (b && (a && false))
    neither true true = refl
    neither true false = refl
    neither false true = refl
    neither false false = refl

    both : (a : Bool) → (a && true) ≡ (true && (a && true))
    both true = refl
    both false = refl

    decide : (one : AcrossOne axes v cell (stack_in axes way v cell) (λ other. is_step axes way v other cell)) (b : Bool) → (s == stack_of one.face cell) ≡ b
        → (counts v && b) ≡ (is_on (cell.level + 0) face cell v && (counts v && is_same (across one.face cell) (across face cell)))
    decide one true e =
        let k = face_of_stack s one.face.axis one.face.side (slice_index cell.pos one.face.axis) one.is_face.1 (eqb-true s (stack_of one.face cell) e) in
        let same : face ≡ one.face = ap₂ face_of k.0 (ap (λ i. (slice_index cell.pos i + s % 2) % 2) k.0 ∙ k.1) in
        let on : is_on (cell.level + 0) one.face cell v ≡ true = ap (λ x. in_finest (cell.level + 0) cell.level x == in_finest (cell.level + 0) cell.level (plane one.face cell)) one.in_plane ∙ same_itself _ in
        both (counts v) ∙ ap₂ (λ a b. a && (counts v && b)) (sym on ∙ ap (λ f. is_on (cell.level + 0) f cell v) (sym same)) (sym (is_same_itself (across one.face cell)) ∙ ap (λ f. is_same (across one.face cell) (across f cell)) (sym same))
    decide one false e =
        neither (counts v) (is_on (cell.level + 0) face cell v)
        ∙ ap (λ b. is_on (cell.level + 0) face cell v && (counts v && b)) (sym (false_unless (is_same (across one.face cell) (across face cell)) (λ t.
        let k = same_across axes one.face face cell (omega (arith, is.four)) one.is_face (omega arith, omega arith) one.shared (same_places (across one.face cell) (across face cell) t) in
        absurd (true≢false (sym (eq-eqb s (stack_of one.face cell) (stack_of_face s one.face.axis one.face.side (slice_index cell.pos one.face.axis) one.is_face.1 k.0
        (ap (λ i. (slice_index cell.pos i + s % 2) % 2) (sym k.0) ∙ k.1))) ∙ e)))))

-- behind the axes nothing comes
comes_nowhere : (axes : ℕ) (way : Way) (counts : Place → Bool) (s : ℕ) (cell : Place) (bs : List ℕ) → axes ≤ 4 → IsPosition axes (3 ^ cell.level) cell.pos → IsBits axes bs → 2 * axes ≤ s → comes_by axes way counts s (touch_at cell bs) ≡ false
comes_nowhere axes way counts s cell bs four is d behind = elim (one_across axes way cell bs four is d) [
  | inl none ↦ ap (λ o. counts (corner_at cell bs) && is_stack s o) none.no_stack ∙ and-false (counts (corner_at cell bs))
  | inr one ↦ ap (λ o. counts (corner_at cell bs) && is_stack s o) one.its_stack
      ∙ ap (λ b. counts (corner_at cell bs) && b) (false_unless (s == stack_of one.face cell) (λ t. let e : s ≡ 2 * one.face.axis + plane one.face cell % 2 = eqb-true s (stack_of one.face cell) t in let a = one.is_face.0 in absurd (omega arith)))
      ∙ and-false (counts (corner_at cell bs))
]

touch_vertices : (test : Touch → Bool) (axes : ℕ) (cell : Place) → axes ≤ 4 → map (λ t. t.vertex) (filter test (reverse (corner_touches axes cell))) ≡ reverse (map (corner_at cell) (filter (λ bs. test (touch_at cell bs)) (bit_lists axes)))
touch_vertices test axes cell four =
    ap (λ ts. map (λ t. t.vertex) (filter test (reverse ts))) (corner_touches_are axes cell four)
    ∙ ap (map (λ t. t.vertex)) (filter-reverse test (map (touch_at cell) (bit_lists axes)) ∙ ap reverse (filter-map test (touch_at cell) (bit_lists axes)))
    ∙ map-reverse (λ t. t.vertex) (map (touch_at cell) (filter (λ bs. test (touch_at cell bs)) (bit_lists axes)))
    ∙ ap reverse (map-map (λ t. t.vertex) (touch_at cell) (filter (λ bs. test (touch_at cell bs)) (bit_lists axes)))

-- the corners that come by each stack
pub come_by_faces : (axes : ℕ) (way : Way) (counts : Place → Bool) (cell : Place) → axes ≤ 4 → IsPosition axes (3 ^ cell.level) cell.pos → ComeByFaces axes way counts cell
come_by_faces axes way counts cell four is s = touch_vertices (comes_by axes way counts s) axes cell four ∙ go (nat_lt s (2 * axes)) refl
  where
    face : Face
    face = face_on (s / 2) (s % 2) cell

    across_it : Touch → Bool
    across_it t = is_on (cell.level + 0) face cell t.vertex && comes_across axes way counts face t

    go : (b : Bool) → nat_lt s (2 * axes) ≡ b → reverse (map (corner_at cell) (filter (λ bs. comes_by axes way counts s (touch_at cell bs)) (bit_lists axes))) ≡ (if b then in_corners axes way counts face cell else [])
    go true e =
        let inside : s < 2 * axes = grind (arith, nat_tests) in
        ap (λ r. reverse (map (corner_at cell) r)) (filter_same _ (λ bs. across_it (touch_at cell bs)) (bit_lists axes)
        (Each-weaker (IsBits axes) _ (λ bs d. comes_across_it axes way counts s cell bs four is d inside) (bit_lists axes) (bit_lists_below axes)))
        ∙ sym (touch_vertices across_it axes cell four)
    go false e =
        let behind : 2 * axes ≤ s = grind (arith, nat_tests) in
        ap (λ r. reverse (map (corner_at cell) r)) (filter_none _ (bit_lists axes)
        (Each-weaker (IsBits axes) _ (λ bs d. comes_nowhere axes way counts s cell bs four is d behind) (bit_lists axes) (bit_lists_below axes)))

-- and those that go by it: they come in the other way
pub go_by_faces : (axes : ℕ) (way : Way) (counts : Place → Bool) (cell : Place) → axes ≤ 4 → IsPosition axes (3 ^ cell.level) cell.pos → GoByFaces axes way counts cell
go_by_faces axes way counts cell four is s =
    ap (map (λ t. t.vertex)) (filter_same (goes_by axes way counts s) (comes_by axes (opposite way) counts s) (reverse (corner_touches axes cell)) (Each-all _ (λ t. goes_by-opposite axes way counts s t four) (reverse (corner_touches axes cell))))
    ∙ come_by_faces axes (opposite way) counts cell four is s
    ∙ ap (λ r. if nat_lt s (2 * axes) then r else []) (sym (leaving-opposite axes way counts 0 (face_on (s / 2) (s % 2) cell) cell))

-- a corner goes from its cell as it comes there in the other way
pub one_across_out : (axes : ℕ) (way : Way) (cell : Place) (bs : List ℕ) → axes ≤ 4 → IsPosition axes (3 ^ cell.level) cell.pos → IsBits axes bs
    → AcrossNone (stack_out axes way (corner_at cell bs) cell) (λ other. is_step axes way (corner_at cell bs) cell other)
    ⊎ AcrossOne axes (corner_at cell bs) cell (stack_out axes way (corner_at cell bs) cell) (λ other. is_step axes way (corner_at cell bs) cell other)
one_across_out axes way cell bs four is d =
    let v = corner_at cell bs in
    let stack = stack-opposite axes way v cell four in
    let turned = λ (other : Place). is_step-opposite axes way v other cell in
    elim (one_across axes (opposite way) cell bs four is d) [
      | inl none ↦ inl (record { no_stack = sym stack ∙ none.no_stack; no_cell = λ other. sym (turned other) ∙ none.no_cell other })
      | inr one ↦ inr (record {
        face = one.face;
        is_face = one.is_face;
        shared = one.shared;
        in_plane = one.in_plane;
        its_stack = sym stack ∙ one.its_stack;
        its_cell = λ other. sym (turned other) ∙ one.its_cell other;
      })
    ]
