-- The cells of the tree are the places of cells.
use Rattle.std.proofs.Common.{◌≡◌, ℕ, zero, suc, ◌+◌, ◌-◌, ◌*◌, ◌/◌, ◌%◌, ◌^◌, ◌<◌, ◌≤◌, ◌⊎◌, inl, inr, List, [], ◌∷◌, ◌++◌, map, length, take, drop, replicate, slice_index, refl, sym, ap, ap₂, ◌∙◌, subst, pow-suc, take-append-drop, append-nil, arith}
use Rattle.std.proofs.lemmas.List.{length-map}
use Rattle.std.specs.List.{Contains, AllByRecursion as Each}
use Rattle.pe_base.specs.declared.place.Place.{Place}
use Rattle.pe_base.specs.declared.way.Way.{Way}
use Rattle.pe_base.specs.Tree.Places.{root, finer, IsPosition}
use Rattle.pe_base.specs.Tree.Curve.{digit_lists, turned, children, order}
use Rattle.pe_base.proofs.Lists.{Each-weaker, Each-map, Each-flat_map, In, In-flat_map, Each-In}
use Rattle.pe_base.proofs.Tree.Mirrors.{Digits3, digit_lists_below, turned_below, turned_twice}
use Rattle.pe_base.proofs.Tree.Children.{flips_in, length-flips, child_of, child_ks, child_ks-below, child_index, children_are, slice_index-below}
use Rattle.pe_base.proofs.Tree.Ranks.{thirds, rests}
use Rattle.pe_base.proofs.Faces.Quiet.{digits-take, rests-each}
use Rattle.pe_base.proofs.Faces.Waits.{child_in_tree}
use Rattle.pe_base.proofs.Steps.VertexTouches.{OnGrid, child_on_grid, root_on_grid}
use Rattle.pe_order.specs.Laws.{IsCell}
use Rattle.pe_order.proofs.Unwalked.{contains_in, in_contains}
use Rattle.pe_base.proofs.Faces.Bridge.{all_zeros, zeros_behind}
use Rattle.pe_base.proofs.Tree.PlaceLaws.{zeros}

index_map : (f : ℕ → ℕ) (pos : List ℕ) (axis : ℕ) → f 0 ≡ 0 → slice_index (map f pos) axis ≡ f (slice_index pos axis)
index_map f [] axis h = sym h
index_map f (x ∷ pos) zero h = refl
index_map f (x ∷ pos) (suc axis) h = index_map f pos axis h

finer_again : (pos : List ℕ) → finer (thirds pos) (rests pos) ≡ pos
finer_again [] = refl
finer_again (x ∷ pos) = ap₂ (λ y ys. y ∷ ys) (omega arith) (finer_again pos)

-- each position in the range of a level is that of a cell
every_place : (axes : ℕ) (way : Way) (level : ℕ) (pos : List ℕ) → axes ≤ 4 → IsPosition axes (3 ^ level) pos → In (record { level = level; pos = pos }) (order axes way level)
every_place axes way zero pos four is =
    let zeros : pos ≡ 0 ∷ 0 ∷ 0 ∷ 0 ∷ [] = all_zeros pos (λ axis. zero_at axis) ∙ ap (λ n. replicate n 0) is.four in
    inl (ap (λ p. let c : Place = record { level = 0; pos = p } in c) zeros)
  where
    zero_at : (axis : ℕ) → slice_index pos axis ≡ 0
    zero_at axis = elim (below axis) [ inl h ↦ omega (arith, is.inside axis h) | inr h ↦ is.rest axis h ]
      where
        below : (i : ℕ) → (i < axes) ⊎ (axes ≤ i)
        below i = grind arith
every_place axes way (suc level) pos four is =
    let up : Place = record { level = level; pos = thirds pos } in
    let es = flips_in axes way (thirds pos) in
    let long : length (rests pos) ≡ 4 = length-map pos (λ x. x % 3) ∙ is.four in
    let ks = take axes (rests pos) in
    let ds : Digits3 axes ks = digits-take axes (rests pos) (omega arith) (rests-each pos) in
    let ts = turned es 0 ks in
    let whole : ks ++ replicate (4 - axes) 0 ≡ rests pos =
    ap (λ z. ks ++ z) (sym (zeros_behind axes (rests pos) (λ axis h. index_map (λ x. x % 3) pos axis refl ∙ ap (λ x. x % 3) (is.rest axis h)) ∙ ap (λ n. replicate (n - axes) 0) long))
    ∙ take-append-drop axes (rests pos) in
    let same : (child_of axes way up ts).pos ≡ pos =
    ap (λ js. finer (thirds pos) (js ++ replicate (4 - axes) 0)) (ap (turned es 0) (sym (append-nil ts)) ∙ turned_twice es 0 0 axes ks [] (length-flips axes way (thirds pos)) refl ds)
    ∙ ap (finer (thirds pos)) whole ∙ finer_again pos in
    let parent : In up (order axes way level) = every_place axes way level (thirds pos) four (record {
      four = length-map pos (λ x. x / 3) ∙ is.four;
      inside = λ axis h. subst (λ x. x < 3 ^ level) (sym (index_map (λ x. x / 3) pos axis refl)) (third_below (slice_index pos axis) (3 ^ level) (3 ^ suc level) (pow-suc 3 level) (is.inside axis h));
      rest = λ axis h. index_map (λ x. x / 3) pos axis refl ∙ ap (λ x. x / 3) (is.rest axis h);
    }) in
    let e : level + 1 ≡ suc level = omega arith in
    subst (λ p. In p (order axes way (suc level))) (ap₂ (λ n p. let c : Place = record { level = n; pos = p } in c) e same)
    (subst (λ n. In (child_of axes way up ts) (order axes way n)) e (child_in_tree axes way up ts parent (turned_below es 0 axes ks (length-flips axes way (thirds pos)) ds)))
  where
    third_below : (x w v : ℕ) → v ≡ w * 3 → x < v → x / 3 < w
    third_below x w v e h = omega arith

-- and no others are
abbrev InRange : ℕ → ℕ → Place → Type 0
InRange axes level cell = OnGrid axes level cell × ((axis : ℕ) → axis < axes → slice_index cell.pos axis < 3 ^ level)

pub zeros_read : (n k : ℕ) (pos : List ℕ) → drop n pos ≡ replicate k 0 → (axis : ℕ) → n ≤ axis → slice_index pos axis ≡ 0
zeros_read zero k pos e axis h = ap (λ p. slice_index p axis) e ∙ zeros k axis
zeros_read (suc n) k [] e axis h = refl
zeros_read (suc n) k (x ∷ pos) e zero h = absurd (omega arith)
zeros_read (suc n) k (x ∷ pos) e (suc axis) h = zeros_read n k pos e axis (omega arith)

child_in_range : (axes : ℕ) (way : Way) (level : ℕ) (cell : Place) (ts : List ℕ) → axes ≤ 4 → InRange axes level cell → Digits3 axes ts → InRange axes (suc level) (child_of axes way cell ts)
child_in_range axes way level cell ts four in_range d = (
  child_on_grid axes way level cell ts four in_range.0 d,
  (λ axis a. finer_below (slice_index cell.pos axis) (slice_index (child_ks axes way cell ts) axis) (slice_index (child_of axes way cell ts).pos axis) (3 ^ level) (3 ^ suc level)
      (child_index axes way cell ts axis a (omega (arith, in_range.0.1)) d) (slice_index-below axis axes (child_ks axes way cell ts) a (child_ks-below axes way cell ts d)) (in_range.1 axis a) (pow-suc 3 level)),
)
  where
    finer_below : (p k q w v : ℕ) → q ≡ 3 * p + k → k < 3 → p < w → v ≡ w * 3 → q < v
    finer_below p k q w v e h l f = omega arith

order_in_range : (axes : ℕ) (way : Way) (level : ℕ) → axes ≤ 4 → Each (InRange axes level) (order axes way level)
order_in_range axes way zero four = ((root_on_grid axes four, (λ axis a. subst (λ x. x < 1) (sym (at_root axis)) (omega arith))), tt)
  where
    at_root : (axis : ℕ) → slice_index (0 ∷ 0 ∷ 0 ∷ 0 ∷ []) axis ≡ 0
    at_root zero = refl
    at_root (suc zero) = refl
    at_root (suc (suc zero)) = refl
    at_root (suc (suc (suc zero))) = refl
    at_root (suc (suc (suc (suc axis)))) = refl
order_in_range axes way (suc level) four = Each-flat_map (InRange axes (suc level)) (children axes way) (order axes way level)
    (Each-weaker (InRange axes level) _ (λ c r. subst (Each (InRange axes (suc level))) (sym (children_are axes way c))
    (Each-map (InRange axes (suc level)) (child_of axes way c) (digit_lists axes) (Each-weaker (Digits3 axes) _ (λ ts d. child_in_range axes way level c ts four r d) (digit_lists axes) (digit_lists_below axes))))
    (order axes way level) (order_in_range axes way level four))

pub cell_position : (axes : ℕ) (way : Way) (cell : Place) → axes ≤ 4 → IsCell axes way cell → IsPosition axes (3 ^ cell.level) cell.pos
cell_position axes way cell four is =
    let r = Each-In (InRange axes cell.level) cell (order axes way cell.level) (order_in_range axes way cell.level four) (contains_in (order axes way cell.level) cell is) in
    record { four = r.0.1; inside = r.1; rest = zeros_read axes (4 - axes) cell.pos r.0.2 }

pub place_is_cell : (axes : ℕ) (way : Way) (cell : Place) → axes ≤ 4 → IsPosition axes (3 ^ cell.level) cell.pos → IsCell axes way cell
place_is_cell axes way cell four is = in_contains (order axes way cell.level) cell (every_place axes way cell.level cell.pos four is)

pub root_is_cell : (axes : ℕ) (way : Way) → IsCell axes way root
root_is_cell axes way = in_contains (root ∷ []) root (inl refl)

pub child_is_cell : (axes : ℕ) (way : Way) (cell child : Place) → axes ≤ 4 → IsCell axes way cell → Contains (children axes way cell) child → IsCell axes way child
child_is_cell axes way cell child four is c =
    let i = In-flat_map (children axes way) cell child (order axes way cell.level) (contains_in (order axes way cell.level) cell is) (contains_in (children axes way cell) child c) in
    let level : child.level ≡ suc cell.level = (Each-In (InRange axes (suc cell.level)) child (order axes way (suc cell.level)) (order_in_range axes way (suc cell.level) four) i).0.0 in
    in_contains (order axes way child.level) child (subst (λ n. In child (order axes way n)) (sym level) i)
