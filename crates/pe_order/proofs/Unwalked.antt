-- Cells that are not walked.
use Rattle.std.proofs.Common.{◌≡◌, ℕ, zero, suc, ◌+◌, ◌<◌, ◌≤◌, Bool, true, false, List, [], ◌∷◌, ◌++◌, filter, length, get_or, refl, sym, ap, ap₂, ◌∙◌, subst, true≢false, inl, inr, append-nil, arith}
use Rattle.std.proofs.lemmas.Bool.{and_parts}
use Rattle.std.specs.List.{All, Contains, AllByRecursion as Each}
use Rattle.pe_base.specs.declared.place.Place.{Place}
use Rattle.pe_base.specs.declared.way.Way.{Way}
use Rattle.pe_base.specs.declared.way.Way.TheVariants.{Forward, Inverted}
use Rattle.pe_base.specs.Tree.Ways.{opposite}
use Rattle.pe_base.specs.Tree.Curve.{digit_lists, children, order}
use Rattle.pe_base.specs.Steps.Around.{around, steps}
use Rattle.pe_base.specs.Steps.Faces.{Face, Touch, across, is_step, loads, comes_across, goes_across, at_face, arriving, leaving, in_corners, out_corners}
use Rattle.pe_base.specs.Tree.Places.{is_same}
use Rattle.pe_base.proofs.Lists.{Each-weaker, Each-filter, In, In-map, In-reverse, Each-In, flat_map_none}
use Rattle.pe_base.proofs.Tree.Mirrors.{Digits3, digit_lists_below}
use Rattle.pe_base.proofs.Tree.Children.{child_of, children_are, reverse-children}
use Rattle.pe_base.proofs.Tree.Corners.{own_corners}
use Rattle.pe_base.proofs.Faces.FaceLists.{is_child_at, at_face_parts, leaving_is}
use Rattle.pe_base.proofs.Tree.Ranks.{OnLevel, order_on_level, child_four, steps_within, list_any-Each, same_places}
use Rattle.pe_base.proofs.Faces.Quiet.{at_face_none, false_unless}
use Rattle.pe_base.proofs.Faces.Waits.{digits_in, InTree, child_in_tree}
use Rattle.pe_base.proofs.Steps.VertexTouches.{reverse-order}
use Rattle.pe_order.specs.Laws.{IsCell, IsWalk}

pub contains_in : {X : Type 0} (xs : List X) (x : X) → Contains xs x → In x xs
contains_in {X = X} xs x c = go xs c.0 c.1 c.2
  where
    go : (ys : List X) (k : ℕ) → k < length ys → get_or ys k x ≡ x → In x ys
    go [] k h e = absurd (omega arith)
    go (y ∷ ys) zero h e = inl (sym e)
    go (y ∷ ys) (suc k) h e = inr (go ys k (omega arith) e)

pub in_contains : {X : Type 0} (xs : List X) (x : X) → In x xs → Contains xs x
in_contains [] x i = absurd (omega arith)
in_contains (y ∷ ys) x i = elim i [
  | inl e ↦ (0, omega arith, sym e)
  | inr j ↦ let c = in_contains ys x j in (suc c.0, omega (arith, c.1), c.2)
]

pub all_each : {X : Type 0} (P : X → Type 0) (xs : List X) → All P xs → Each P xs
all_each P [] a = tt
all_each P (x ∷ xs) a = (a 0 x (omega arith), all_each P xs (λ k d h. a (suc k) d (omega arith)))

pub cell_four : (axes : ℕ) (way : Way) (cell : Place) → axes ≤ 4 → IsCell axes way cell → length cell.pos ≡ 4
cell_four axes way cell four is = (Each-In (OnLevel cell.level) cell (order axes way cell.level) (order_on_level axes way cell.level four) (contains_in (order axes way cell.level) cell is)).1

child_contained : (axes : ℕ) (way : Way) (cell : Place) (ts : List ℕ) → Digits3 axes ts → Contains (children axes way cell) (child_of axes way cell ts)
child_contained axes way cell ts d = in_contains (children axes way cell) (child_of axes way cell ts) (subst (In (child_of axes way cell ts)) (sym (children_are axes way cell)) (In-map (child_of axes way cell) ts (digit_lists axes) (digits_in axes ts d)))

pub contained_either : (axes : ℕ) (either way : Way) (cell child : Place) → Contains (children axes either cell) child → Contains (children axes way cell) child
contained_either axes Forward Forward cell child c = c
contained_either axes Inverted Inverted cell child c = c
contained_either axes Forward Inverted cell child c = in_contains (children axes Inverted cell) child (subst (In child) (reverse-children axes Forward cell) (In-reverse child (children axes Forward cell) (contains_in (children axes Forward cell) child c)))
contained_either axes Inverted Forward cell child c = in_contains (children axes Forward cell) child (subst (In child) (reverse-children axes Inverted cell) (In-reverse child (children axes Inverted cell) (contains_in (children axes Inverted cell) child c)))

-- a cell of the tree of one way is one of the other
pub tree_either : (axes : ℕ) (either way : Way) (cell : Place) → InTree axes either cell → InTree axes way cell
tree_either axes Forward Forward cell i = i
tree_either axes Inverted Inverted cell i = i
tree_either axes Forward Inverted cell i = subst (In cell) (sym (reverse-order axes Forward cell.level)) (In-reverse cell (order axes Forward cell.level) i)
tree_either axes Inverted Forward cell i = subst (In cell) (sym (reverse-order axes Inverted cell.level)) (In-reverse cell (order axes Inverted cell.level) i)

module _ (axes : ℕ) (way : Way) (walked counts : Place → Bool) (walk : IsWalk axes way walked counts) (four : axes ≤ 4) where
  -- both cells of a step around a vertex that counts are walked
  step_walked : (vertex a b : Place) → counts vertex ≡ true → is_step axes way vertex a b ≡ true → (walked a ≡ true) × (walked b ≡ true)
  step_walked vertex a b c t =
      list_any-Each _ (λ s. (walked s.0 ≡ true) × (walked s.1 ≡ true)) ((walked a ≡ true) × (walked b ≡ true))
      (λ s e w. (subst (λ p. walked p ≡ true) (same_places s.0 a (and_parts (is_same s.0 a) (is_same s.1 b) e).0) w.0, subst (λ p. walked p ≡ true) (same_places s.1 b (and_parts (is_same s.0 a) (is_same s.1 b) e).1) w.1))
      (steps (around axes way vertex)) t (steps_within (λ p. walked p ≡ true) (around axes way vertex) (all_each (λ p. walked p ≡ true) (around axes way vertex) (walk.all_around vertex c)))

  -- cells of the tree that are not walked
  abbrev Unwalked : Way → Place → Type 0
  Unwalked either cell = (walked cell ≡ false) × InTree axes either cell

  unwalked_child : (either : Way) (cell : Place) (ts : List ℕ) → Digits3 axes ts → Unwalked either cell → Unwalked either (child_of axes either cell ts)
  unwalked_child either cell ts d h = (
    false_unless (walked (child_of axes either cell ts)) (λ t. absurd (true≢false (sym (walk.parents cell (child_of axes either cell ts)
        (in_contains (order axes way cell.level) cell (tree_either axes either way cell h.1)) (contained_either axes either way cell (child_of axes either cell ts) (child_contained axes either cell ts d)) t) ∙ h.0))),
    child_in_tree axes either cell ts h.1 d,
  )

  pub unwalked_arriving : (finest levels : ℕ) (face : Face) (cell : Place) → face.axis < axes → face.side < 2 → length cell.pos ≡ 4 → finest ≡ cell.level + levels → Unwalked way cell → at_face (comes_across axes way counts face) finest face cell (loads axes way levels cell) ≡ []
  unwalked_arriving finest levels face cell a b l is h = at_face_none axes way (comes_across axes way counts face) face (λ level c. Unwalked way c)
      (λ level c v e q. false_unless _ (λ t. absurd (true≢false (sym (step_walked v (across face c) c (and_parts (counts v) _ t).0 (and_parts (counts v) _ t).1).1 ∙ q.0))))
      (λ level c ts k d at q. unwalked_child way c ts d q)
      four a b finest levels cell.level cell refl l is h

  pub unwalked_leaving : (finest levels : ℕ) (face : Face) (cell : Place) → face.axis < axes → face.side < 2 → length cell.pos ≡ 4 → finest ≡ cell.level + levels → Unwalked (opposite way) cell → at_face (goes_across axes way counts face) finest face cell (loads axes (opposite way) levels cell) ≡ []
  unwalked_leaving finest levels face cell a b l is h = at_face_none axes (opposite way) (goes_across axes way counts face) face (λ level c. Unwalked (opposite way) c)
      (λ level c v e q. false_unless _ (λ t. absurd (true≢false (sym (step_walked v c (across face c) (and_parts (counts v) _ t).0 (and_parts (counts v) _ t).1).0 ∙ q.0))))
      (λ level c ts k d at q. unwalked_child (opposite way) c ts d q)
      four a b finest levels cell.level cell refl l is h

  -- a cell's list where no child is walked
  leaf : (either : Way) (test : Touch → Bool) (levels : ℕ) (face : Face) (cell : Place) → face.axis < axes → face.side < 2 → length cell.pos ≡ 4
      → InTree axes either cell → ((levels : ℕ) (child : Place) → Contains (children axes either cell) child → InTree axes either child → length child.pos ≡ 4 → at_face test (child.level + levels) face child (loads axes either levels child) ≡ [])
      → at_face test (cell.level + levels) face cell (loads axes either levels cell) ≡ at_face test (cell.level + 0) face cell (loads axes either 0 cell)
  leaf either test zero face cell a b l tree none = refl
  leaf either test (suc levels) face cell a b l tree none =
      at_face_parts axes either test face.axis face.side (cell.level + suc levels) levels cell four a b (omega arith) refl
      ∙ ap₂ (λ x y. x ++ y)
      (own_corners axes test (cell.level + suc levels) face.axis face.side cell four a (omega arith) ∙ sym (own_corners axes test (cell.level + 0) face.axis face.side cell four a (omega arith)))
      (flat_map_none _ (filter (is_child_at axes either cell face) (digit_lists axes)) (Each-weaker _ _ (λ ts d.
      ap (λ n. at_face test n face (child_of axes either cell ts) (loads axes either levels (child_of axes either cell ts))) (let e : cell.level + suc levels ≡ (cell.level + 1) + levels = omega arith in e)
      ∙ none levels (child_of axes either cell ts) (child_contained axes either cell ts d.0) (child_in_tree axes either cell ts tree d.0) (child_four axes either cell ts four l d.0))
      (filter (is_child_at axes either cell face) (digit_lists axes)) (Each-filter (Digits3 axes) (is_child_at axes either cell face) (digit_lists axes) (digit_lists_below axes))))
      ∙ append-nil _

  pub leaf_arriving : (levels : ℕ) (face : Face) (cell : Place) → face.axis < axes → face.side < 2 → length cell.pos ≡ 4 → InTree axes way cell → ((child : Place) → Contains (children axes way cell) child → walked child ≡ false)
      → arriving axes way counts levels face cell ≡ in_corners axes way counts face cell
  leaf_arriving levels face cell a b l tree none = leaf way (comes_across axes way counts face) levels face cell a b l tree (λ n child c i k. unwalked_arriving (child.level + n) n face child a b k refl (none child c, i))

  pub leaf_leaving : (levels : ℕ) (face : Face) (cell : Place) → face.axis < axes → face.side < 2 → length cell.pos ≡ 4 → InTree axes way cell → ((child : Place) → Contains (children axes way cell) child → walked child ≡ false)
      → leaving axes way counts levels face cell ≡ out_corners axes way counts face cell
  leaf_leaving levels face cell a b l tree none =
      leaving_is axes way counts levels face cell
      ∙ leaf (opposite way) (goes_across axes way counts face) levels face cell a b l (tree_either axes way (opposite way) cell tree) (λ n child c i k. unwalked_leaving (child.level + n) n face child a b k refl (none child (contained_either axes (opposite way) way cell child c), i))
      ∙ sym (leaving_is axes way counts 0 face cell)
