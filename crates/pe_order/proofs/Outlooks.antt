-- The outlooks of grids fit walks.
use Rattle.std.proofs.Common.{◌≡◌, ◌⊎◌, inl, inr, ℕ, zero, suc, ◌+◌, ◌-◌, ◌^◌, ◌<◌, ◌≤◌, Bool, true, ◌&&◌, ◌||◌, ◌==◌, List, [], ◌∷◌, map, reverse, length, take, drop, slice_index, refl, sym, ap, ap₂, ◌∙◌, subst, arith}
use Rattle.std.specs.Prelude.{nat_lt}
use Rattle.std.specs.List.{list_any, list_all, range_with_len, Contains, AllByRecursion as Each}
use Rattle.std.proofs.lemmas.Bool.Decides.{nat_tests}
use Rattle.std.proofs.lemmas.List.{reverse-reverse}
use Rattle.std.proofs.lemmas.Bool.{and_parts, eq-eqb, ne_eqb, eqb-true, or_cases, or_right}
use Rattle.std.proofs.lemmas.List.Elements.{All-from_recursion}
use Rattle.pe_base.specs.declared.place.Place.{Place}
use Rattle.pe_base.specs.declared.way.Way.{Way}
use Rattle.pe_base.specs.Tree.Dim.{IsDim}
use Rattle.pe_base.specs.Tree.Places.{IsPosition, root, corner, corners, moved, parent_of, number_of}
use Rattle.pe_base.specs.Tree.Curve.{digit_lists, children, order}
use Rattle.pe_base.specs.Steps.Around.{is_corner, around}
use Rattle.pe_base.specs.Steps.Faces.{corner_touches}
use Rattle.pe_base.specs.Life.Carriers.{carriers, carrier_positions}
use Rattle.pe_base.specs.Life.Kinds.{is_inside}
use Rattle.pe_base.specs.Walk.Laws.{IsCornerOf}
use Rattle.pe_base.proofs.Lists.{Each-all, Each-weaker, Each-map, Each-reverse, Each-filter, In, Each-In, In-map}
use Rattle.pe_base.proofs.Tree.Mirrors.{Digits3, digit_lists_below}
use Rattle.pe_base.proofs.Tree.Children.{child_of, children_are}
use Rattle.pe_base.proofs.Tree.Ranks.{thirds-child, list_any-Each}
use Rattle.pe_base.proofs.Steps.VertexTouches.{OnGrid}
use Rattle.pe_base.proofs.Faces.Waits.{loads_touched}
use Rattle.pe_base.proofs.Faces.Bridge.{on_grid}
use Rattle.pe_base.proofs.Walk.CarrierLaws.{number_of-below, bits-number_of, carriers_are_parents}
use Rattle.pe_order.specs.Laws.{IsCell, IsWalk}
use Rattle.pe_order.proofs.Unwalked.{contains_in, in_contains, cell_four}
use Rattle.pe_order.proofs.Trees.{cell_position, root_is_cell}
use Rattle.pe_order.proofs.Steps.{corner_bits, order_on_grid}
use Rattle.pe_order.proofs.Tokens.Walks.{each_with}

any_in : {X : Type 0} (p : X → Bool) (x : X) (xs : List X) → In x xs → p x ≡ true → list_any p xs ≡ true
any_in p x [] i t = absurd (omega arith)
any_in p x (y ∷ xs) i t = elim i [
  | inl e ↦ ap (λ b. b || list_any p xs) (sym (ap p e) ∙ t)
  | inr j ↦ ap (λ b. p y || b) (any_in p x xs j t) ∙ or_right (p y) true refl
]

pub un_map : {X Y : Type 0} (P : Y → Type 0) (f : X → Y) (xs : List X) → Each P (map f xs) → Each (λ x. P (f x)) xs
un_map P f [] e = tt
un_map P f (x ∷ xs) e = (e.0, un_map P f xs e.1)

pub in_range : (k a n : ℕ) → a ≤ k → k < a + n → In k (range_with_len a n)
in_range k a zero l h = absurd (omega arith)
in_range k a (suc n) l h = elim (here_or_later k a l) [ inl e ↦ inl e | inr m ↦ inr (in_range k (a + 1) n (omega arith) (omega arith)) ]
  where
    here_or_later : (x y : ℕ) → y ≤ x → (x ≡ y) ⊎ (y + 1 ≤ x)
    here_or_later x y g = grind arith

-- the children of a cell have it for their parent
pub kids_parent : (axes : ℕ) (way : Way) (cell : Place) → axes ≤ 4 → length cell.pos ≡ 4 → Each (λ c. (c.level ≡ cell.level + 1) × (parent_of c ≡ cell)) (children axes way cell)
kids_parent axes way cell four l = subst (Each (λ c. (c.level ≡ cell.level + 1) × (parent_of c ≡ cell))) (sym (children_are axes way cell)) (Each-map (λ c. (c.level ≡ cell.level + 1) × (parent_of c ≡ cell)) (child_of axes way cell) (digit_lists axes)
    (Each-weaker (Digits3 axes) _ (λ ts d. (refl, ap₂ (λ n p. let v : Place = record { level = n; pos = p } in v) (let e : cell.level + 1 - 1 ≡ cell.level = omega arith in e) (thirds-child axes way cell ts four l d))) (digit_lists axes) (digit_lists_below axes)))

-- A cell is among the cells around each of its corners.
pub around_corners : (axes : ℕ) (way : Way) (cell : Place) → axes ≤ 4 → IsCell axes way cell → Each (λ q. (q.level ≡ cell.level) × In cell (around axes way q)) (corners axes cell)
around_corners axes way cell four is_cell =
    let in_tree = contains_in (order axes way cell.level) cell is_cell in
    let touched = subst (Each (λ t. In t.cell (around axes way t.vertex))) (reverse-reverse (corner_touches axes cell))
    (Each-reverse _ (reverse (corner_touches axes cell)) (Each-weaker _ (λ t. In t.cell (around axes way t.vertex)) (λ t h. h.around_it) (reverse (corner_touches axes cell)) (loads_touched axes way 0 cell four (cell_four axes way cell four is_cell) in_tree))) in
    Each-map _ (corner axes cell) (range_with_len 0 (2 ^ axes)) (Each-weaker _ _ (λ k h. (refl, h)) (range_with_len 0 (2 ^ axes)) (un_map (λ t. In t.cell (around axes way t.vertex)) (λ k. record { vertex = corner axes cell k; cell = cell }) (range_with_len 0 (2 ^ axes)) touched))

-- The carriers of a vertex are corners of the parent of each cell around it.
pub carriers_above : (axes : ℕ) (way : Way) (vertex : Place) → IsDim axes → OnGrid axes vertex.level vertex
    → Each (λ c. Each (IsCornerOf axes (parent_of c)) (carriers vertex)) (around axes way vertex)
carriers_above axes way vertex dim on = Each-weaker _ _ (λ c i. found c i.0 i.1) (around axes way vertex)
    (Each-filter (λ c. In c (order axes way vertex.level) × OnGrid axes vertex.level c) (is_corner vertex) (order axes way vertex.level) (each_with (OnGrid axes vertex.level) (order axes way vertex.level) (order_on_grid axes way vertex.level dim.1)))
  where
    found : (c : Place) → In c (order axes way vertex.level) × OnGrid axes vertex.level c → is_corner vertex c ≡ true → Each (IsCornerOf axes (parent_of c)) (carriers vertex)
    found c i t =
        let here : In c (order axes way c.level) = subst (λ n. In c (order axes way n)) (sym i.1.0) i.0 in
        let is = cell_position axes way c dim.1 (in_contains (order axes way c.level) c here) in
        let bs = corner_bits axes c.pos vertex.pos (omega (arith, i.1.1)) (on.1 ∙ sym i.1.1) (on.2 ∙ sym i.1.2) (and_parts (vertex.level == c.level) _ t).1 in
        let k = number_of bs.0 in
        let same : corner axes c k ≡ vertex = ap₂ (λ n p. let v : Place = record { level = n; pos = p } in v) i.1.0 (ap (moved c.pos) (bits-number_of axes bs.0 bs.2) ∙ bs.3) in
        subst (λ v. Each (IsCornerOf axes (parent_of c)) (carriers v)) same (carriers_are_parents axes c k dim (number_of-below axes bs.0 bs.2) is)

-- What makes a walk: below level 1 what counts has a carrier that is active, and below a cell it goes on where a corner is.
pub record Carried (axes greatest : ℕ) (counts active walks walked : Place → Bool) : Type 0 where
  pub dim : IsDim axes
  pub few : greatest ≤ 20
  pub some : 1 ≤ greatest
  pub inside : (vertex : Place) → counts vertex ≡ true → is_inside axes vertex ≡ true
  pub carrier : (vertex : Place) → counts vertex ≡ true → (vertex.level ≡ 1) ⊎ ((2 ≤ vertex.level) × (list_any active (carriers vertex) ≡ true))
  pub active_counts : (vertex : Place) → active vertex ≡ true → counts vertex ≡ true
  pub active_within : (vertex : Place) → active vertex ≡ true → vertex.level < greatest
  pub walks_by : (cell : Place) → walks cell ≡ (cell.level == 0 || list_any active (corners axes cell))
  pub walked_by : (cell : Place) → walked cell ≡ (cell.level == 0 || walks (parent_of cell))

pub all_front : (p : ℕ → Bool) (n : ℕ) (pos : List ℕ) (i : ℕ) → list_all p (take n pos) ≡ true → i < n → i < length pos → p (slice_index pos i) ≡ true
all_front p zero pos i h l m = absurd (omega arith)
all_front p (suc n) [] i h l m = absurd (omega arith)
all_front p (suc n) (x ∷ pos) zero h l m = (and_parts (p x) _ h).0
all_front p (suc n) (x ∷ pos) (suc i) h l m = all_front p n pos i (and_parts (p x) _ h).1 (omega arith) (omega arith)

all_zero : (pos : List ℕ) (i : ℕ) → list_all (λ x. x == 0) pos ≡ true → slice_index pos i ≡ 0
all_zero [] i h = refl
all_zero (x ∷ pos) zero h = eqb-true x 0 (and_parts (x == 0) _ h).0
all_zero (x ∷ pos) (suc i) h = all_zero pos i (and_parts (x == 0) _ h).1

pub all_behind : (n : ℕ) (pos : List ℕ) (i : ℕ) → list_all (λ x. x == 0) (drop n pos) ≡ true → n ≤ i → slice_index pos i ≡ 0
all_behind zero pos i h l = all_zero pos i h
all_behind (suc n) [] i h l = refl
all_behind (suc n) (x ∷ pos) zero h l = absurd (omega arith)
all_behind (suc n) (x ∷ pos) (suc i) h l = all_behind n pos i h (omega arith)

-- a place that is inside, by the test
pub inside_place : (axes : ℕ) (vertex : Place) → axes ≤ 4 → is_inside axes vertex ≡ true → IsPosition axes (3 ^ vertex.level) vertex.pos × ((axis : ℕ) → axis < axes → 0 < slice_index vertex.pos axis)
inside_place axes vertex four t =
    let between = λ (x : ℕ). nat_lt 0 x && nat_lt x (3 ^ vertex.level) in
    let front : (length vertex.pos == 4 && list_all between (take axes vertex.pos)) ≡ true = (and_parts (length vertex.pos == 4 && list_all between (take axes vertex.pos)) _ t).0 in
    let long : length vertex.pos ≡ 4 = eqb-true (length vertex.pos) 4 (and_parts (length vertex.pos == 4) _ front).0 in
    let at : (axis : ℕ) → axis < axes → between (slice_index vertex.pos axis) ≡ true = λ axis a. all_front between axes vertex.pos axis (and_parts (length vertex.pos == 4) _ front).1 a (omega arith) in (
      record {
        four = long;
        inside = λ axis a. below (slice_index vertex.pos axis) (3 ^ vertex.level) (and_parts (nat_lt 0 (slice_index vertex.pos axis)) _ (at axis a)).1;
        rest = λ axis a. all_behind axes vertex.pos axis (and_parts (length vertex.pos == 4 && list_all between (take axes vertex.pos)) _ t).1 a;
      },
      (λ axis a. below 0 (slice_index vertex.pos axis) (and_parts (nat_lt 0 (slice_index vertex.pos axis)) _ (at axis a)).0),
    )
  where
    below : (x y : ℕ) → nat_lt x y ≡ true → x < y
    below x y h = grind (arith, nat_tests)

module _ (axes greatest : ℕ) (counts active walks walked : Place → Bool) (way : Way) (c : Carried axes greatest counts active walks walked) where
  abbrev four : axes ≤ 4
  four = c.dim.1

  root_goes : (cell : Place) → cell.level ≡ 0 → walks cell ≡ true
  root_goes cell e = c.walks_by cell ∙ ap (λ b. b || list_any active (corners axes cell)) (eq-eqb cell.level 0 e)

  -- all cells around what counts are walked
  around_walked : (vertex : Place) → counts vertex ≡ true → Each (λ cell. walked cell ≡ true) (around axes way vertex)
  around_walked vertex h = elim (c.carrier vertex h) [
    | inl e ↦ Each-weaker _ _ (λ cell i. c.walked_by cell ∙ or_right (cell.level == 0) _ (root_goes (parent_of cell) (omega (arith, i.0.0)))) (around axes way vertex) levels
    | inr k ↦ Each-weaker _ _ (λ cell i. c.walked_by cell ∙ or_right (cell.level == 0) _ (c.walks_by (parent_of cell) ∙ or_right ((parent_of cell).level == 0) _
        (list_any-Each active (IsCornerOf axes (parent_of cell)) (list_any active (corners axes (parent_of cell)) ≡ true) (λ m a at. any_in active m (corners axes (parent_of cell))
        (subst (λ p. In p (corners axes (parent_of cell))) (sym at.2) (In-map (corner axes (parent_of cell)) at.0 (range_with_len 0 (2 ^ axes)) (in_range at.0 0 (2 ^ axes) (omega arith) (omega (arith, at.1))))) a)
        (carriers vertex) k.1 i))) (around axes way vertex) (carriers_above axes way vertex c.dim on)
  ]
    where
      on : OnGrid axes vertex.level vertex
      on = on_grid axes vertex (3 ^ vertex.level) (inside_place axes vertex four (c.inside vertex h)).0

      levels : Each (λ cell. OnGrid axes vertex.level cell × (is_corner vertex cell ≡ true)) (around axes way vertex)
      levels = Each-filter (OnGrid axes vertex.level) (is_corner vertex) (order axes way vertex.level) (order_on_grid axes way vertex.level four)

  -- the children of a cell are walked as the cell says
  below_it : (cell child : Place) → IsCell axes way cell → Contains (children axes way cell) child → walked child ≡ walks cell
  below_it cell child is_cell k =
      let kid = Each-In (λ p. (p.level ≡ cell.level + 1) × (parent_of p ≡ cell)) child (children axes way cell) (kids_parent axes way cell four (cell_four axes way cell four is_cell)) (contains_in (children axes way cell) child k) in
      c.walked_by child ∙ ap₂ (λ b p. b || walks p) (ne_eqb child.level 0 (λ e. omega (arith, e, kid.0))) kid.1

  active_corner : (cell : Place) → walks cell ≡ true → (cell.level ≡ 0) ⊎ (list_any active (corners axes cell) ≡ true)
  active_corner cell t = elim (or_cases (cell.level == 0) (list_any active (corners axes cell)) (sym (c.walks_by cell) ∙ t)) [ inl e ↦ inl (eqb-true cell.level 0 e) | inr e ↦ inr e ]

  -- a cell below which the walk goes on is walked
  goes_walked : (cell : Place) → IsCell axes way cell → walks cell ≡ true → walked cell ≡ true
  goes_walked cell is_cell t = elim (active_corner cell t) [
    | inl e ↦ c.walked_by cell ∙ ap (λ b. b || walks (parent_of cell)) (eq-eqb cell.level 0 e)
    | inr a ↦ list_any-Each active (λ q. (q.level ≡ cell.level) × In cell (around axes way q)) (walked cell ≡ true)
        (λ q is at. Each-In (λ p. walked p ≡ true) cell (around axes way q) (around_walked q (c.active_counts q is)) at.1) (corners axes cell) a (around_corners axes way cell four is_cell)
  ]

  within_greatest : (vertex : Place) → counts vertex ≡ true → vertex.level ≤ greatest
  within_greatest vertex h = elim (c.carrier vertex h) [
    | inl e ↦ omega (arith, e, c.some)
    | inr k ↦ list_any-Each active (λ m. m.level ≡ vertex.level - 1) (vertex.level ≤ greatest) (λ m a e. omega (arith, c.active_within m a, e, k.0)) (carriers vertex) k.1
        (Each-map (λ m. m.level ≡ vertex.level - 1) (λ pos. record { level = vertex.level - 1; pos = pos }) (carrier_positions vertex.pos) (Each-all _ (λ pos. refl) (carrier_positions vertex.pos)))
  ]

  pub carried_within : (cell : Place) → walks cell ≡ true → cell.level < greatest
  carried_within cell t = elim (active_corner cell t) [
    | inl e ↦ omega (arith, e, c.some)
    | inr a ↦ list_any-Each active (λ q. q.level ≡ cell.level) (cell.level < greatest) (λ q is e. omega (arith, c.active_within q is, e)) (corners axes cell) a
        (Each-map (λ q. q.level ≡ cell.level) (corner axes cell) (range_with_len 0 (2 ^ axes)) (Each-all _ (λ k. refl) (range_with_len 0 (2 ^ axes))))
  ]

  pub carried_walk : IsWalk axes way walked counts
  carried_walk = record {
    first = λ child k. below_it root child (root_is_cell axes way) k ∙ root_goes root refl;
    parents = λ cell child is_cell k t. goes_walked cell is_cell (sym (below_it cell child is_cell k) ∙ t);
    all_or_none = λ cell child other is_cell k l. below_it cell child is_cell k ∙ sym (below_it cell other is_cell l);
    inside = λ vertex h.
        let at = inside_place axes vertex four (c.inside vertex h) in
        record { level = omega (arith, within_greatest vertex h, c.few); pos = at.0; above = at.1 };
    all_around = λ vertex h. All-from_recursion (λ cell. walked cell ≡ true) (around axes way vertex) (around_walked vertex h);
  }

  pub carried_below : (cell child : Place) → IsCell axes way cell → Contains (children axes way cell) child → walked child ≡ walks cell
  carried_below = below_it

  pub carried_counts : (vertex : Place) → counts vertex ≡ true → vertex.level ≤ greatest
  carried_counts = within_greatest
