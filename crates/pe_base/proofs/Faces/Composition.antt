-- What the walk of a cell does on one stack.
use Rattle.std.proofs.Common.{◌≡◌, ℕ, zero, suc, ◌+◌, ◌-◌, ◌*◌, ◌%◌, ◌^◌, ◌<◌, ◌≤◌, Bool, true, false, ◌==◌, List, [], ◌∷◌, ◌++◌, map, filter, reverse, length, slice_index, replicate, refl, sym, ap, ap₂, ◌∙◌, subst, subst₂, inl, inr, append_assoc, append-nil, arith}
use Rattle.std.proofs.lemmas.Bool.{eqb-true}
use Rattle.std.proofs.lemmas.List.Folds.{flat_map-map}
use Rattle.std.specs.List.{flat_map, list_any, AllByRecursion as Each}
use Rattle.pe_base.specs.declared.place.Place.{Place}
use Rattle.pe_base.specs.declared.way.Way.{Way}
use Rattle.pe_base.specs.Tree.Ways.{opposite}
use Rattle.pe_base.specs.declared.way.Way.TheVariants.{Forward, Inverted}
use Rattle.pe_base.specs.Tree.Places.{finer, is_same}
use Rattle.pe_base.specs.Tree.Curve.{digit_lists, flip, children}
use Rattle.pe_base.specs.Steps.Faces.{Stretches, Stretches, Face, Stretch, StretchesApart, across, face_on, is_touched, loads, corner_touches, comes_across, goes_across, at_face, arriving, leaving, in_corners, out_corners, child_stretch, corner_stretch, cell_stretches}
use Rattle.pe_base.proofs.Lists.{In, In-map, Each-In, Each-left, Each-right, Each-parts, list_any_none, none_Each, Each-weaker, Each-reverse, Each-filter, map-map, flat_map_same, filter_same, filter-map, filter-reverse}
use Rattle.pe_base.proofs.Tree.Mirrors.{Digits3, complement, digit_lists_below, reverse-digit_lists, turned_complement, Each-digits}
use Rattle.pe_base.specs.Steps.Routes.{way_turns}
use Rattle.pe_base.proofs.Tree.Children.{Pairs-range, flips_in, length-flips, child_of, child_ks, child_index, children_are}
use Rattle.pe_base.proofs.Tree.Corners.{own_corners}
use Rattle.pe_base.proofs.Faces.FaceLists.{face_of, is_child_at, at_face_parts, leaving_is}
use Rattle.pe_base.proofs.Tree.Ranks.{value, rank, rank_of, rank-child, child_four}
use Rattle.pe_base.proofs.Faces.Quiet.{later_child, earlier_child, still_child, arriving_none, leaving_none, later_or_earlier, across_child, rank-parent, less_below, value-below}
use Rattle.pe_base.proofs.Faces.Blocks.{Touching, Meet, Untouched, Untouched-append, Untouched-flat_map, Free, Apart, meet_behind, OneWay, blocks, outer_takes, outer_gives, StretchesApart-append}
use Rattle.pe_base.proofs.Faces.Waits.{InTree, child_in_tree, digits_in, arriving_apart, leaving_apart, deeper_arriving, deeper_leaving}
use Rattle.pe_base.proofs.Faces.Meetings.{meet_at}

-- the digits of a child's place in the other way
turned_opposite : (axes : ℕ) (way : Way) (cell : Place) (ts : List ℕ) → Digits3 axes ts → child_ks axes (opposite way) cell ts ≡ child_ks axes way cell (complement ts)
turned_opposite axes way cell ts d = turned_complement 0 (flips_in axes (opposite way) cell.pos) (flips_in axes way cell.pos) 0 0 axes ts
    (Pairs-range (λ x y. (x + y + 0) % 2 ≡ 1) (λ axis. flip cell.pos axis + way_turns (opposite way)) (λ axis. flip cell.pos axis + way_turns way) (λ k. omega (arith, both way)) 0 axes)
    (length-flips axes (opposite way) cell.pos ∙ sym (length-flips axes way cell.pos)) refl d
  where
    both : (w : Way) → way_turns (opposite w) + way_turns w ≡ 1
    both Forward = refl
    both Inverted = refl

child_opposite : (axes : ℕ) (way : Way) (cell : Place) (ts : List ℕ) → Digits3 axes ts → child_of axes (opposite way) cell ts ≡ child_of axes way cell (complement ts)
child_opposite axes way cell ts d = ap (λ ks. record { level = cell.level + 1; pos = finer cell.pos (ks ++ replicate (4 - axes) 0) }) (turned_opposite axes way cell ts d)

-- The law of composition, over the children.
module _ (axes : ℕ) (way : Way) (counts : Place → Bool) (levels axis parity : ℕ) (cell : Place) (four : axes ≤ 4) (a : axis < axes) (l : length cell.pos ≡ 4) (tree : InTree axes way cell) where
  abbrev face : Face
  face = face_on axis parity cell

  abbrev below : List ℕ → Place
  below ts = child_of axes way cell ts

  abbrev stretch : List ℕ → Stretch
  stretch ts = child_stretch axes way counts levels axis parity (below ts)

  abbrev at : List ℕ → Bool
  at ts = is_child_at axes way cell face ts

  abbrev touches : Touching
  touches ts = is_touched axes way levels (below ts)

  -- a child at the cell's face on the stack has its own face on the stack there
  same_face : (ts : List ℕ) → Digits3 axes ts → at ts ≡ true → face_on axis parity (below ts) ≡ face
  same_face ts d o = ap (face_of axis) (omega (arith, child_index axes way cell ts axis a (omega arith) d, eqb-true (slice_index (child_ks axes way cell ts) axis) (2 * face.side) o))

  one_way : OneWay axes (λ ts. (stretch ts).takes) (λ ts. (stretch ts).gives) at
  one_way = elim (later_or_earlier axes way face cell.level cell a (omega arith) (omega arith)) [
    | inl later ↦ inl (λ ts d o. ap (λ f. arriving axes way counts levels f (below ts)) (same_face ts d o)
        ∙ arriving_none axes way counts levels (suc cell.level) face (below ts) four a (omega arith) (omega arith) (child_four axes way cell ts four l d) (inl (later_child axes way way face cell.level cell ts four a (omega arith) l d o later)))
    | inr other ↦ elim other [
      | inl earlier ↦ inr (λ ts d o. ap (λ f. leaving axes way counts levels f (below ts)) (same_face ts d o)
          ∙ leaving_none axes way counts levels (suc cell.level) face (below ts) four a (omega arith) (omega arith) (child_four axes way cell ts four l d) (inl (earlier_child axes way way face cell.level cell ts four a (omega arith) l d o earlier)))
      | inr still ↦ inl (λ ts d o. ap (λ f. arriving axes way counts levels f (below ts)) (same_face ts d o)
          ∙ arriving_none axes way counts levels (suc cell.level) face (below ts) four a (omega arith) (omega arith) (child_four axes way cell ts four l d) (inr (still_child axes way face cell ts a l four d o still)))
    ]
  ]

  -- the ranks of the children, and of the neighbours of those at the face
  ranks : (ts : List ℕ) → Digits3 axes ts → rank_of axes way (below ts).level (below ts) ≡ rank_of axes way cell.level cell * 3 ^ axes + value axes ts
  ranks ts d = subst (λ n. rank_of axes way n (below ts) ≡ rank_of axes way cell.level cell * 3 ^ axes + value axes ts) (let e : suc cell.level ≡ cell.level + 1 = omega arith in e) (rank-child axes way cell.level cell ts four l d)

  across_low : (ts : List ℕ) → Digits3 axes ts → at ts ≡ true → rank_of axes way (below ts).level (across face (below ts)) < (rank_of axes way cell.level (across face cell) + 1) * 3 ^ axes
  across_low ts d o = subst (λ n. rank_of axes way n (across face (below ts)) < (rank_of axes way cell.level (across face cell) + 1) * 3 ^ axes) (let e : suc cell.level ≡ cell.level + 1 = omega arith in e)
      (subst (λ p. rank_of axes way (suc cell.level) (across face (below ts)) < (rank axes way cell.level p + 1) * 3 ^ axes) (across_child axes way face cell ts four a (omega arith) l d o) (rank-parent axes way cell.level (across face (below ts)).pos).1)

  across_high : (ts : List ℕ) → Digits3 axes ts → at ts ≡ true → rank_of axes way cell.level (across face cell) * 3 ^ axes ≤ rank_of axes way (below ts).level (across face (below ts))
  across_high ts d o = subst (λ n. rank_of axes way cell.level (across face cell) * 3 ^ axes ≤ rank_of axes way n (across face (below ts))) (let e : suc cell.level ≡ cell.level + 1 = omega arith in e)
      (subst (λ p. rank axes way cell.level p * 3 ^ axes ≤ rank_of axes way (suc cell.level) (across face (below ts))) (across_child axes way face cell ts four a (omega arith) l d o) (rank-parent axes way cell.level (across face (below ts)).pos).0)

  apart : Apart axes (λ ts. (stretch ts).takes) (λ ts. (stretch ts).gives) touches at
  apart = record {
    later = λ xs ys d e r o. ap (λ f. list_any (touches xs) (arriving axes way counts levels f (below ys))) (same_face ys e o) ∙ later xs ys d e r o;
    earlier = λ xs ys d e r o. ap (λ f. list_any (touches ys) (leaving axes way counts levels f (below xs))) (same_face xs d o) ∙ earlier xs ys d e r o;
  }
    where
      later : (xs ys : List ℕ) → Digits3 axes xs → Digits3 axes ys → value axes xs < value axes ys → at ys ≡ true → list_any (touches xs) (arriving axes way counts levels face (below ys)) ≡ false
      later xs ys d e r o = elim (later_or_earlier axes way face cell.level cell a (omega arith) (omega arith)) [
        | inl h ↦ ap (list_any (touches xs)) (arriving_none axes way counts levels (suc cell.level) face (below ys) four a (omega arith) (omega arith) (child_four axes way cell ys four l e) (inl (later_child axes way way face cell.level cell ys four a (omega arith) l e o h)))
        | inr other ↦ elim other [
          | inl h ↦ arriving_apart axes way counts levels levels face (below ys) (below xs) four a (omega arith) (child_four axes way cell ys four l e) (child_four axes way cell xs four l d) (child_in_tree axes way cell xs tree d) refl
              (less_below (rank_of axes way cell.level (across face cell)) (rank_of axes way cell.level cell) (3 ^ axes) (rank_of axes way (below ys).level (across face (below ys))) (rank_of axes way (below xs).level (below xs)) h (across_low ys e o) (omega (arith, ranks xs d)))
              (omega (arith, ranks xs d, ranks ys e))
          | inr still ↦ ap (list_any (touches xs)) (arriving_none axes way counts levels (suc cell.level) face (below ys) four a (omega arith) (omega arith) (child_four axes way cell ys four l e) (inr (still_child axes way face cell ys a l four e o still)))
        ]
      ]

      earlier : (xs ys : List ℕ) → Digits3 axes xs → Digits3 axes ys → value axes xs < value axes ys → at xs ≡ true → list_any (touches ys) (leaving axes way counts levels face (below xs)) ≡ false
      earlier xs ys d e r o = elim (later_or_earlier axes way face cell.level cell a (omega arith) (omega arith)) [
        | inl h ↦ leaving_apart axes way counts levels levels face (below xs) (below ys) four a (omega arith) (child_four axes way cell xs four l d) (child_four axes way cell ys four l e) (child_in_tree axes way cell ys tree e) refl
            (omega (arith, ranks xs d, ranks ys e))
            (less_below (rank_of axes way cell.level cell) (rank_of axes way cell.level (across face cell)) (3 ^ axes) (rank_of axes way (below ys).level (below ys)) (rank_of axes way (below xs).level (across face (below xs))) h
            (omega (arith, ranks ys e, value-below axes ys (Each-digits axes ys e))) (across_high xs d o))
        | inr other ↦ elim other [
          | inl h ↦ ap (list_any (touches ys)) (leaving_none axes way counts levels (suc cell.level) face (below xs) four a (omega arith) (omega arith) (child_four axes way cell xs four l d) (inl (earlier_child axes way way face cell.level cell xs four a (omega arith) l d o h)))
          | inr still ↦ ap (list_any (touches ys)) (leaving_none axes way counts levels (suc cell.level) face (below xs) four a (omega arith) (omega arith) (child_four axes way cell xs four l d) (inr (still_child axes way face cell xs a l four d o still)))
        ]
      ]

  -- what the cell does not touch, no child touches, nor is it a corner of the cell
  free_children : (beneath : List Place) → list_any (is_touched axes way (suc levels) cell) beneath ≡ false → Free axes touches beneath
  free_children beneath h ts d = list_any_none (touches ts) beneath (Each-weaker (λ v. is_touched axes way (suc levels) cell v ≡ false) _ (λ v u.
      list_any_none (λ t. is_same t.vertex v) (loads axes way levels (below ts))
      (Each-In (λ c. Each (λ t. is_same t.vertex v ≡ false) (loads axes way levels c)) (below ts) (children axes way cell)
      (Each-parts (λ t. is_same t.vertex v ≡ false) (loads axes way levels) (children axes way cell)
      (Each-right (λ t. is_same t.vertex v ≡ false) (reverse (corner_touches axes cell)) (flat_map (loads axes way levels) (children axes way cell)) (none_Each (λ t. is_same t.vertex v) (loads axes way (suc levels) cell) u)))
      (subst (In (below ts)) (sym (children_are axes way cell)) (In-map below ts (digit_lists axes) (digits_in axes ts d)))))
      beneath (none_Each (is_touched axes way (suc levels) cell) beneath h))

  free_corners : (beneath : List Place) → list_any (is_touched axes way (suc levels) cell) beneath ≡ false → list_any (is_touched axes way 0 cell) beneath ≡ false
  free_corners beneath h = list_any_none (is_touched axes way 0 cell) beneath (Each-weaker (λ v. is_touched axes way (suc levels) cell v ≡ false) _ (λ v u.
      list_any_none (λ t. is_same t.vertex v) (reverse (corner_touches axes cell)) (Each-left (λ t. is_same t.vertex v ≡ false) (reverse (corner_touches axes cell)) (flat_map (loads axes way levels) (children axes way cell)) (none_Each (λ t. is_same t.vertex v) (loads axes way (suc levels) cell) u)))
      beneath (none_Each (is_touched axes way (suc levels) cell) beneath h))

  deep_takes : Untouched (is_touched axes way 0 cell) (outer_takes axes (λ ts. (stretch ts).takes) at)
  deep_takes = Untouched-flat_map (is_touched axes way 0 cell) (λ ts. (stretch ts).takes) (filter at (digit_lists axes))
      (Each-weaker _ _ (λ ts d. deeper_arriving axes way counts levels (face_on axis parity (below ts)) cell (below ts) four a (omega arith) (child_four axes way cell ts four l d.0) refl) (filter at (digit_lists axes)) (Each-filter (Digits3 axes) at (digit_lists axes) (digit_lists_below axes)))

  deep_gives : Untouched (is_touched axes way 0 cell) (outer_gives axes (λ ts. (stretch ts).gives) at)
  deep_gives = Untouched-flat_map (is_touched axes way 0 cell) (λ ts. (stretch ts).gives) (reverse (filter at (digit_lists axes)))
      (Each-reverse _ (filter at (digit_lists axes)) (Each-weaker _ _ (λ ts d. deeper_leaving axes way counts levels (face_on axis parity (below ts)) cell (below ts) four a (omega arith) (child_four axes way cell ts four l d.0) refl) (filter at (digit_lists axes)) (Each-filter (Digits3 axes) at (digit_lists axes) (digit_lists_below axes))))

  children_compose : (beneath : List Place) → list_any (is_touched axes way (suc levels) cell) beneath ≡ false → StretchesApart (map (child_stretch axes way counts levels axis parity) (children axes way cell))
      (outer_takes axes (λ ts. (stretch ts).takes) at ++ beneath) (outer_gives axes (λ ts. (stretch ts).gives) at ++ beneath)
  children_compose beneath free =
      subst (λ z. StretchesApart z (outer_takes axes (λ ts. (stretch ts).takes) at ++ beneath) (outer_gives axes (λ ts. (stretch ts).gives) at ++ beneath))
      (sym (ap (map (child_stretch axes way counts levels axis parity)) (children_are axes way cell) ∙ map-map (child_stretch axes way counts levels axis parity) below (digit_lists axes)))
      (blocks axis axes (λ ts. (stretch ts).takes) (λ ts. (stretch ts).gives) touches at
      (meet_behind axis axes (λ ts. (stretch ts).takes) (λ ts. (stretch ts).gives) touches at
      (λ us m is within digits. subst (λ x. Meet m (λ ts. (child_stretch axes way counts levels x parity (below (us ++ ts))).takes) (λ ts. (child_stretch axes way counts levels x parity (below (us ++ ts))).gives) (λ ts. is_touched axes way levels (below (us ++ ts))) (λ ts. is_child_at axes way cell (face_on x parity cell) (us ++ ts)))
      is (meet_at axes way counts levels parity cell.level cell four refl l tree us m within digits)) a)
      one_way apart beneath (free_children beneath free))

  -- the lists of the cell's face, split
  arriving_parts : arriving axes way counts (suc levels) face cell ≡ in_corners axes way counts face cell ++ outer_takes axes (λ ts. (stretch ts).takes) at
  arriving_parts =
      let finest = cell.level + suc levels in
      at_face_parts axes way (comes_across axes way counts face) axis face.side finest levels cell four a (omega arith) (omega arith) refl
      ∙ ap₂ (λ x y. x ++ y)
      (own_corners axes (comes_across axes way counts face) finest axis face.side cell four a (omega arith) ∙ sym (own_corners axes (comes_across axes way counts face) (cell.level + 0) axis face.side cell four a (omega arith)))
      (flat_map_same _ (λ ts. (stretch ts).takes) (filter at (digit_lists axes)) (Each-weaker _ _ (λ ts d.
      ap (λ n. at_face (comes_across axes way counts face) n face (below ts) (loads axes way levels (below ts))) (let e : finest ≡ (cell.level + 1) + levels = omega arith in e)
      ∙ ap (λ f. arriving axes way counts levels f (below ts)) (sym (same_face ts d.0 d.1)))
      (filter at (digit_lists axes)) (Each-filter (Digits3 axes) at (digit_lists axes) (digit_lists_below axes))))

  leaving_parts : leaving axes way counts (suc levels) face cell ≡ out_corners axes way counts face cell ++ outer_gives axes (λ ts. (stretch ts).gives) at
  leaving_parts =
      let finest = cell.level + suc levels in
      let back = opposite way in
      let list = λ (ts : List ℕ). at_face (goes_across axes way counts face) finest face (below ts) (loads axes back levels (below ts)) in
      let other : (ts : List ℕ) → Digits3 axes ts → child_of axes back cell ts ≡ below (complement ts) = λ ts d. child_opposite axes way cell ts d in
      let at_other = is_child_at axes back cell face in
      leaving_is axes way counts (suc levels) face cell
      ∙ at_face_parts axes back (goes_across axes way counts face) axis face.side finest levels cell four a (omega arith) (omega arith) refl
      ∙ ap₂ (λ x y. x ++ y)
      (own_corners axes (goes_across axes way counts face) finest axis face.side cell four a (omega arith)
      ∙ sym (own_corners axes (goes_across axes way counts face) (cell.level + 0) axis face.side cell four a (omega arith)) ∙ sym (leaving_is axes way counts 0 face cell))
      (flat_map_same _ (λ ts. list (complement ts)) (filter at_other (digit_lists axes)) (Each-weaker _ _ (λ ts d.
      ap (λ c. at_face (goes_across axes way counts face) finest face c (loads axes back levels c)) (other ts d.0)) (filter at_other (digit_lists axes)) (Each-filter (Digits3 axes) at_other (digit_lists axes) (digit_lists_below axes)))
      ∙ sym (flat_map-map list complement (filter at_other (digit_lists axes)))
      ∙ ap (flat_map list) (ap (map complement) (filter_same at_other (λ ts. at (complement ts)) (digit_lists axes) (Each-weaker (Digits3 axes) _ (λ ts d.
      ap (λ ks. slice_index ks axis == 2 * face.side) (turned_opposite axes way cell ts d)) (digit_lists axes) (digit_lists_below axes)))
      ∙ sym (filter-map at complement (digit_lists axes)) ∙ ap (filter at) (sym (reverse-digit_lists axes)) ∙ filter-reverse at (digit_lists axes))
      ∙ flat_map_same list (λ ts. (stretch ts).gives) (reverse (filter at (digit_lists axes))) (Each-reverse _ (filter at (digit_lists axes)) (Each-weaker _ _ (λ ts d.
      ap (λ n. at_face (goes_across axes way counts face) n face (below ts) (loads axes back levels (below ts))) (let e : finest ≡ (cell.level + 1) + levels = omega arith in e)
      ∙ sym (leaving_is axes way counts levels face (below ts))
      ∙ ap (λ f. leaving axes way counts levels f (below ts)) (sym (same_face ts d.0 d.1)))
      (filter at (digit_lists axes)) (Each-filter (Digits3 axes) at (digit_lists axes) (digit_lists_below axes)))))

-- the law of composition, on one stack
pub composes : (axes : ℕ) (way : Way) (counts : Place → Bool) (levels axis parity : ℕ) (cell : Place) → axes ≤ 4 → axis < axes → length cell.pos ≡ 4 → InTree axes way cell
    → (beneath : List Place) → list_any (is_touched axes way levels cell) beneath ≡ false
    → StretchesApart (cell_stretches axes way counts levels axis parity cell) (arriving axes way counts levels (face_on axis parity cell) cell ++ beneath) (leaving axes way counts levels (face_on axis parity cell) cell ++ beneath)
composes axes way counts zero axis parity cell four a l tree beneath free = (beneath, refl, free, (beneath, refl, free, refl))
composes axes way counts (suc levels) axis parity cell four a l tree beneath free =
    let takes = outer_takes axes (λ ts. (stretch axes way counts levels axis parity cell four a l tree ts).takes) (at axes way counts levels axis parity cell four a l tree) in
    let gives = outer_gives axes (λ ts. (stretch axes way counts levels axis parity cell four a l tree ts).gives) (at axes way counts levels axis parity cell four a l tree) in
    let out = out_corners axes way counts (face_on axis parity cell) cell in
    let own = free_corners axes way counts levels axis parity cell four a l tree beneath free in (
      takes ++ beneath,
      ap (λ x. x ++ beneath) (arriving_parts axes way counts levels axis parity cell four a l tree) ∙ append_assoc (in_corners axes way counts (face_on axis parity cell) cell) takes beneath,
      Untouched-append (is_touched axes way 0 cell) takes beneath (deep_takes axes way counts levels axis parity cell four a l tree) own,
      StretchesApart-append (map (child_stretch axes way counts levels axis parity) (children axes way cell)) (corner_stretch axes way cell [] out ∷ []) (takes ++ beneath) (gives ++ beneath) (leaving axes way counts (suc levels) (face_on axis parity cell) cell ++ beneath)
          (children_compose axes way counts levels axis parity cell four a l tree beneath free) (
            gives ++ beneath,
            refl,
            Untouched-append (is_touched axes way 0 cell) gives beneath (deep_gives axes way counts levels axis parity cell four a l tree) own,
            sym (append_assoc out gives beneath) ∙ ap (λ x. x ++ beneath) (sym (leaving_parts axes way counts levels axis parity cell four a l tree)),
          ),
    )

-- stretches on a stack of which nothing need be known
plain : (stretches : List Stretch) (before after rest : List Place) → StretchesApart stretches before after → Stretches stretches (before ++ rest) (after ++ rest)
plain [] before after rest s = ap (λ x. x ++ rest) s
plain (stretch ∷ stretches) before after rest s = (
  s.0 ++ rest,
  ap (λ x. x ++ rest) s.1 ∙ append_assoc stretch.takes s.0 rest,
  subst (λ x. Stretches stretches x (after ++ rest)) (append_assoc stretch.gives s.0 rest) (plain stretches (stretch.gives ++ s.0) after rest s.3),
)

pub composes_any : (axes : ℕ) (way : Way) (counts : Place → Bool) (levels axis parity : ℕ) (cell : Place) → axes ≤ 4 → axis < axes → length cell.pos ≡ 4 → InTree axes way cell → (beneath : List Place)
    → Stretches (cell_stretches axes way counts levels axis parity cell) (arriving axes way counts levels (face_on axis parity cell) cell ++ beneath) (leaving axes way counts levels (face_on axis parity cell) cell ++ beneath)
composes_any axes way counts levels axis parity cell four a l tree beneath =
    let takes = arriving axes way counts levels (face_on axis parity cell) cell in
    let gives = leaving axes way counts levels (face_on axis parity cell) cell in
    subst₂ (Stretches (cell_stretches axes way counts levels axis parity cell)) (ap (λ x. x ++ beneath) (append-nil takes)) (ap (λ x. x ++ beneath) (append-nil gives))
    (plain (cell_stretches axes way counts levels axis parity cell) (takes ++ []) (gives ++ []) beneath (composes axes way counts levels axis parity cell four a l tree [] refl))

-- stretches one after another
pub Stretches-join : (stretches more : List Stretch) (before between after : List Place) → Stretches stretches before between → Stretches more between after → Stretches (stretches ++ more) before after
Stretches-join [] more before between after s t = subst (λ x. Stretches more x after) (sym s) t
Stretches-join (stretch ∷ stretches) more before between after s t = (s.0, s.1, Stretches-join stretches more (stretch.gives ++ s.0) between after s.2 t)

pub Stretches-split : (stretches more : List Stretch) (before after : List Place) → Stretches (stretches ++ more) before after → (between : List Place) × Stretches stretches before between × Stretches more between after
Stretches-split [] more before after s = (before, refl, s)
Stretches-split (stretch ∷ stretches) more before after s = let rest = Stretches-split stretches more (stretch.gives ++ s.0) after s.2 in (rest.0, (s.0, s.1, rest.1), rest.2)
