-- Faces to earlier cells, to later ones, and on the boundary of the root.
use Rattle.std.specs.List.{AllByRecursion as Each}
use Rattle.std.proofs.Common.{◌≡◌, ℕ, zero, suc, ◌+◌, ◌<◌, ◌≤◌, Bool, true, List, [], ◌∷◌, length, get_or, refl, sym, ap₂, ◌∙◌, subst, inl, inr, arith}
use Rattle.std.proofs.lemmas.Bool.{and_parts}
use Rattle.pe_base.specs.declared.place.Place.{Place}
use Rattle.pe_base.specs.declared.way.Way.{Way}
use Rattle.pe_base.specs.Tree.Ways.{opposite}
use Rattle.pe_base.specs.Tree.Curve.{digit_lists, children, order}
use Rattle.pe_base.specs.Steps.Around.{is_corner, around, steps}
use Rattle.pe_base.specs.Steps.Faces.{Face, across, is_step, comes_across, goes_across, arriving, leaving}
use Rattle.pe_base.specs.Tree.Places.{is_same}
use Rattle.pe_base.proofs.Lists.{Each-weaker, Each-map, Each-flat_map, Each-filter, In, Each-In}
use Rattle.pe_base.proofs.Tree.Mirrors.{Digits3, digit_lists_below}
use Rattle.pe_base.proofs.Tree.Children.{child_of, children_are}
use Rattle.pe_base.proofs.Faces.FaceLists.{is_child_at, leaving_is}
use Rattle.pe_base.proofs.Tree.Ranks.{thirds, Rising, OnLevel, order_on_level, thirds-child, steps_within, list_any-Each, same_places}
use Rattle.pe_base.proofs.Faces.Quiet.{across_child, at_face_none, false_unless}
use Rattle.pe_order.specs.Laws.{ComesBefore}

-- of two items of a rising list, the number of the first is less
pub before_rises : {X : Type 0} (r : X → ℕ) (low high : ℕ) (xs : List X) (a b : X) → Rising r low xs high → ComesBefore xs a b → r a < r b
before_rises {X = X} r low high xs a b s c = go low xs c.0 c.1 s c.2 c.3 c.4 c.5
  where
    at : (low : ℕ) (ys : List X) (j : ℕ) → Rising r low ys high → j < length ys → get_or ys j b ≡ b → low ≤ r b
    at low [] j s h e = absurd (omega arith)
    at low (y ∷ ys) zero s h e = subst (λ z. low ≤ r z) e s.0
    at low (y ∷ ys) (suc j) s h e = omega (arith, at (suc (r y)) ys j s.1 (omega arith) e, s.0)

    go : (low : ℕ) (ys : List X) (i j : ℕ) → Rising r low ys high → i < j → j < length ys → get_or ys i a ≡ a → get_or ys j b ≡ b → r a < r b
    go low [] i j s l h e f = absurd (omega arith)
    go low (y ∷ ys) zero zero s l h e f = absurd (omega arith)
    go low (y ∷ ys) zero (suc j) s l h e f = subst (λ z. suc (r z) ≤ r b) e (at (suc (r y)) ys j s.1 (omega arith) f)
    go low (y ∷ ys) (suc i) zero s l h e f = absurd (omega arith)
    go low (y ∷ ys) (suc i) (suc j) s l h e f = go (suc (r y)) ys i j s.1 (omega arith) (omega arith) e f

each_itself : {X : Type 0} (xs : List X) → Each (λ x. In x xs) xs
each_itself [] = tt
each_itself (x ∷ xs) = (inl refl, Each-weaker _ _ (λ y i. inr i) xs (each_itself xs))

-- the parent of a place
abbrev parent : ℕ → Place → Place
parent level cell = record { level = level; pos = thirds cell.pos }

parent_in : (axes : ℕ) (way : Way) (level : ℕ) → axes ≤ 4 → Each (λ c. In (parent level c) (order axes way level)) (order axes way (suc level))
parent_in axes way level four = Each-flat_map _ (children axes way) (order axes way level) (both (order axes way level) (order_on_level axes way level four) (each_itself (order axes way level)))
  where
    one : (c : Place) → OnLevel level c → In c (order axes way level) → Each (λ d. In (parent level d) (order axes way level)) (children axes way c)
    one c on i = subst (Each _) (sym (children_are axes way c)) (Each-map _ (child_of axes way c) (digit_lists axes) (Each-weaker (Digits3 axes) _
        (λ ts d. subst (λ p. In p (order axes way level)) (sym (ap₂ (λ l p. let v : Place = record { level = l; pos = p } in v) (sym on.0) (thirds-child axes way c ts four on.1 d))) i) (digit_lists axes) (digit_lists_below axes)))

    both : (cs : List Place) → Each (OnLevel level) cs → Each (λ c. In c (order axes way level)) cs → Each (λ c. Each (λ d. In (parent level d) (order axes way level)) (children axes way c)) cs
    both [] e f = tt
    both (c ∷ cs) e f = (one c e.0 f.0, both cs e.1 f.1)

-- no cell lies across a face
abbrev pub NoneAcross : ℕ → Way → Face → ℕ → Place → Type 0
NoneAcross axes way face level cell = In (across face cell) (order axes way level) → 1 ≤ 0

none_child : (axes : ℕ) (way walk : Way) (face : Face) (level : ℕ) (cell : Place) (ts : List ℕ) → axes ≤ 4 → face.axis < axes → face.side < 2 → cell.level ≡ level → length cell.pos ≡ 4 → Digits3 axes ts → is_child_at axes walk cell face ts ≡ true
    → NoneAcross axes way face level cell → NoneAcross axes way face (suc level) (child_of axes walk cell ts)
none_child axes way walk face level cell ts four a b on l d at none i =
    none (subst (λ p. In p (order axes way level)) (ap₂ (λ n p. let v : Place = record { level = n; pos = p } in v) (sym on) (across_child axes walk face cell ts four a b l d at))
    (Each-In (λ c. In (parent level c) (order axes way level)) (across face (child_of axes walk cell ts)) (order axes way (suc level)) (parent_in axes way level four) i))

-- both cells of a step are cells of the tree
pub step_in : (axes : ℕ) (way : Way) (vertex a b : Place) → is_step axes way vertex a b ≡ true → In a (order axes way vertex.level) × In b (order axes way vertex.level)
step_in axes way vertex a b t =
    let cells = order axes way vertex.level in
    list_any-Each _ (λ s. In s.0 cells × In s.1 cells) (In a cells × In b cells)
    (λ s e w. (subst (λ p. In p cells) (same_places s.0 a (and_parts (is_same s.0 a) (is_same s.1 b) e).0) w.0, subst (λ p. In p cells) (same_places s.1 b (and_parts (is_same s.0 a) (is_same s.1 b) e).1) w.1))
    (steps (around axes way vertex)) t (steps_within (λ p. In p cells) (around axes way vertex)
    (Each-weaker _ (λ p. In p cells) (λ p h. h.0) (around axes way vertex) (Each-filter (λ p. In p cells) (is_corner vertex) cells (each_itself cells))))

pub outside_arriving : (axes : ℕ) (way : Way) (counts : Place → Bool) (levels : ℕ) (face : Face) (cell : Place) → axes ≤ 4 → face.axis < axes → face.side < 2 → length cell.pos ≡ 4 → NoneAcross axes way face cell.level cell
    → arriving axes way counts levels face cell ≡ []
outside_arriving axes way counts levels face cell four a b l none = at_face_none axes way (comes_across axes way counts face) face (λ level c. (c.level ≡ level) × NoneAcross axes way face level c)
    (λ level c v on q. false_unless _ (λ t. q.1 (subst (λ n. In (across face c) (order axes way n)) on (step_in axes way v (across face c) c (and_parts (counts v) _ t).1).0)))
    (λ level c ts k d at q. (omega (arith, q.0), none_child axes way way face level c ts four a b q.0 k d at q.1))
    four a b (cell.level + levels) levels cell.level cell refl l refl (refl, none)

pub outside_leaving : (axes : ℕ) (way : Way) (counts : Place → Bool) (levels : ℕ) (face : Face) (cell : Place) → axes ≤ 4 → face.axis < axes → face.side < 2 → length cell.pos ≡ 4 → NoneAcross axes way face cell.level cell
    → leaving axes way counts levels face cell ≡ []
outside_leaving axes way counts levels face cell four a b l none = leaving_is axes way counts levels face cell
    ∙ at_face_none axes (opposite way) (goes_across axes way counts face) face (λ level c. (c.level ≡ level) × NoneAcross axes way face level c)
    (λ level c v on q. false_unless _ (λ t. q.1 (subst (λ n. In (across face c) (order axes way n)) on (step_in axes way v c (across face c) (and_parts (counts v) _ t).1).1)))
    (λ level c ts k d at q. (omega (arith, q.0), none_child axes way (opposite way) face level c ts four a b q.0 k d at q.1))
    four a b (cell.level + levels) levels cell.level cell refl l refl (refl, none)
