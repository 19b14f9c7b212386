-- The cells of a walk differ: each lies below just one child of each cell above it.
use Rattle.std.proofs.Common.{◌≡◌, ℕ, zero, suc, ◌+◌, ◌-◌, ◌<◌, ◌≤◌, Bool, true, false, List, [], ◌∷◌, refl, sym, ap, ap₂, ◌∙◌, subst, true≢false, arith}
use Rattle.std.specs.List.{flat_map, AllByRecursion as Each}
use Rattle.pe_base.specs.declared.place.Place.{Place}
use Rattle.pe_base.specs.declared.way.Way.{Way}
use Rattle.pe_base.specs.Tree.Places.{parent_of, is_same}
use Rattle.pe_base.specs.Tree.Curve.{digit_lists, children}
use Rattle.pe_base.specs.Walk.Streams.{if_walks, walked_cells}
use Rattle.pe_base.proofs.Lists.{Each-weaker, Each-map, Each-flat_map}
use Rattle.pe_base.proofs.Tree.Mirrors.{Digits3, digit_lists_below}
use Rattle.pe_base.proofs.Tree.Children.{child_of, children_are}
use Rattle.pe_base.proofs.Tree.Ranks.{Rising, Rising-above, rank, rank_of, thirds-child, children_rise, is_same-true, same_places}
use Rattle.pe_base.proofs.Steps.VertexTouches.{is_same_itself}
use Rattle.pe_base.proofs.Faces.Quiet.{false_unless}
use Rattle.pe_order.specs.Laws.{IsCell}
use Rattle.pe_order.specs.Tokens.{Outlook}
use Rattle.pe_order.specs.CellsAhead.{times, cells_below, WalkedCellsDiffer}
use Rattle.pe_order.proofs.Unwalked.{in_contains, cell_four}
use Rattle.pe_order.proofs.Trees.{child_is_cell}
use Rattle.pe_order.proofs.Tokens.Walks.{each_with}
use Rattle.pe_order.proofs.Tokens.Apart.{one_if, at_most_one}
use Rattle.pe_order.proofs.Tokens.DepotCounts.{count_none}
use Rattle.pe_order.proofs.Tokens.CountLists.{count-cons, count-flat_map, sum-less}

-- the cell so many levels above
abbrev climb : ℕ → Place → Place
climb zero cell = cell
climb (suc n) cell = parent_of (climb n cell)

-- a cell lies in the subtree of another
abbrev Under : Place → Place → Type 0
Under cell x = (cell.level ≤ x.level) × (climb (x.level - cell.level) x ≡ cell)

-- in a rising list no place stands twice
rising_once : (r : Place → ℕ) → ((x y : Place) → is_same x y ≡ true → r x ≡ r y) → (low high : ℕ) (xs : List Place) → Rising r low xs high → (x : Place) → times xs x ≤ 1
rising_once r ranks low high [] s x = omega arith
rising_once r ranks low high (y ∷ ys) s x = go (is_same y x) refl (rising_once r ranks (suc (r y)) high ys s.1 x)
  where
    go : (b : Bool) → is_same y x ≡ b → times ys x ≤ 1 → times (y ∷ ys) x ≤ 1
    go true e more =
        let above = Rising-above r (suc (r y)) high ys s.1 in
        let none = count_none (λ z. is_same z x) ys (Each-weaker _ _ (λ z h. false_unless (is_same z x) (λ k. omega (arith, h, ranks z x k, ranks y x e))) ys above) in
        omega (arith, count-cons (λ z. is_same z x) y ys, ap one_if e, none)
    go false e more = omega (arith, count-cons (λ z. is_same z x) y ys, ap one_if e, more)

-- what is known of a child
pub record ChildOf (axes : ℕ) (way : Way) (cell child : Place) : Type 0 where
  pub is_cell : IsCell axes way child
  pub level : child.level ≡ suc cell.level
  pub parent : parent_of child ≡ cell

pub children_of : (axes : ℕ) (way : Way) (cell : Place) → axes ≤ 4 → IsCell axes way cell → Each (ChildOf axes way cell) (children axes way cell)
children_of axes way cell four is =
    let parts : Each (λ c. (c.level ≡ suc cell.level) × (parent_of c ≡ cell)) (children axes way cell) =
    subst (Each (λ c. (c.level ≡ suc cell.level) × (parent_of c ≡ cell))) (sym (children_are axes way cell))
    (Each-map (λ c. (c.level ≡ suc cell.level) × (parent_of c ≡ cell)) (child_of axes way cell) (digit_lists axes) (Each-weaker (Digits3 axes) _
    (λ ts d. (omega arith, ap₂ (λ n p. let c : Place = record { level = n; pos = p } in c) (let e : cell.level + 1 - 1 ≡ cell.level = omega arith in e) (thirds-child axes way cell ts four (cell_four axes way cell four is) d)))
    (digit_lists axes) (digit_lists_below axes))) in
    Each-weaker _ (ChildOf axes way cell) (λ c i. record {
      is_cell = child_is_cell axes way cell c four is (in_contains (children axes way cell) c i.0);
      level = i.1.0;
      parent = i.1.1;
    }) (children axes way cell) (each_with _ (children axes way cell) parts)

children_once : (axes : ℕ) (way : Way) (cell x : Place) → axes ≤ 4 → IsCell axes way cell → times (children axes way cell) x ≤ 1
children_once axes way cell x four is =
    rising_once (rank_of axes way (suc cell.level)) (λ a b e. ap (λ p. rank axes way (suc cell.level) p) (is_same-true a b e).1) _ _ (children axes way cell) (children_rise axes way cell.level cell four (cell_four axes way cell four is)) x

-- what holds of each of some items holds where they are walked
pub each_if : {X : Type 0} (P : X → Type 0) (axes : ℕ) (way : Way) (walks : Place → Bool) (b : Bool) (xs : List X) → Each P xs → Each P (if_walks axes way walks b xs)
each_if P axes way walks true xs e = e
each_if P axes way walks false xs e = tt

module _ (o : Outlook) (four : o.axes ≤ 4) where
  -- the cells of the walks of a cell's children lie below it
  walk_below : (levels : ℕ) → ((cell : Place) → IsCell o.axes o.way cell → Each (Under cell) (walked_cells o.axes o.way o.walks levels cell))
      → (cell : Place) → IsCell o.axes o.way cell → Each (λ x. Under cell x × (suc cell.level ≤ x.level)) (cells_below o levels cell)
  walk_below levels each cell is = Each-flat_map _ (walked_cells o.axes o.way o.walks levels) (children o.axes o.way cell)
      (Each-weaker (ChildOf o.axes o.way cell) _ (λ c i. Each-weaker (Under c) _ (λ x u.
      ((omega (arith, u.0, i.level), ap (λ n. climb n x) (let e : x.level - cell.level ≡ suc (x.level - c.level) = omega (arith, u.0, i.level) in e) ∙ ap parent_of u.1 ∙ i.parent), omega (arith, u.0, i.level)))
      (walked_cells o.axes o.way o.walks levels c) (each c i.is_cell))
      (children o.axes o.way cell) (children_of o.axes o.way cell four is))

  walk_under : (levels : ℕ) (cell : Place) → IsCell o.axes o.way cell → Each (Under cell) (walked_cells o.axes o.way o.walks levels cell)
  walk_under zero cell is = ((omega arith, ap (λ n. climb n cell) (let e : cell.level - cell.level ≡ 0 = omega arith in e)), tt)
  walk_under (suc levels) cell is = (
    (omega arith, ap (λ n. climb n cell) (let e : cell.level - cell.level ≡ 0 = omega arith in e)),
    go (o.walks cell) (Each-weaker _ (Under cell) (λ x u. u.0) (cells_below o levels cell) (walk_below levels (walk_under levels) cell is)),
  )
    where
      go : (b : Bool) → Each (Under cell) (cells_below o levels cell) → Each (Under cell) (flat_map (walked_cells o.axes o.way o.walks levels) (if_walks o.axes o.way o.walks b (children o.axes o.way cell)))
      go true e = e
      go false e = tt

  -- a cell that is the same as none of a list
  none_same : (P : Place → Type 0) (x : Place) → (P x → 1 ≤ 0) → (cells : List Place) → Each P cells → times cells x ≡ 0
  none_same P x out cells each = count_none (λ y. is_same y x) cells (Each-weaker P _ (λ y p. false_unless (is_same y x) (λ k. out (subst P (same_places y x k) p))) cells each)

  above_none : (levels : ℕ) (cell x : Place) → IsCell o.axes o.way cell → x.level < cell.level → times (walked_cells o.axes o.way o.walks levels cell) x ≡ 0
  above_none levels cell x is h = none_same (Under cell) x (λ u. omega (arith, u.0)) (walked_cells o.axes o.way o.walks levels cell) (walk_under levels cell is)

  below_deeper : (levels : ℕ) (cell x : Place) → IsCell o.axes o.way cell → x.level ≤ cell.level → times (cells_below o levels cell) x ≡ 0
  below_deeper levels cell x is h = none_same _ x (λ u. omega (arith, u.1)) (cells_below o levels cell) (walk_below levels (walk_under levels) cell is)

  -- where the walks of the children have each place once, so have they together: it lies below just one of them
  below_once : (levels : ℕ) → ((cell x : Place) → IsCell o.axes o.way cell → times (walked_cells o.axes o.way o.walks levels cell) x ≤ 1)
      → (cell x : Place) → IsCell o.axes o.way cell → times (cells_below o levels cell) x ≤ 1
  below_once levels once cell x is =
      let way_up = climb (x.level - suc cell.level) x in
      omega (
        arith,
        count-flat_map (λ y. is_same y x) (walked_cells o.axes o.way o.walks levels) (children o.axes o.way cell),
        sum-less (λ c. times (walked_cells o.axes o.way o.walks levels c) x) (λ c. one_if (is_same c way_up)) (children o.axes o.way cell)
            (Each-weaker (ChildOf o.axes o.way cell) _ (λ c i. within c i (is_same c way_up) refl) (children o.axes o.way cell) (children_of o.axes o.way cell four is)),
        children_once o.axes o.way cell way_up four is,
      )
    where
      within : (c : Place) → ChildOf o.axes o.way cell c → (b : Bool) → is_same c (climb (x.level - suc cell.level) x) ≡ b → times (walked_cells o.axes o.way o.walks levels c) x ≤ one_if b
      within c i true e = once c x i.is_cell
      within c i false e =
          let other : Under c x → 1 ≤ 0 = λ u. absurd (true≢false (sym (ap (is_same c) (ap (λ n. climb (x.level - n) x) (sym i.level) ∙ u.1) ∙ is_same_itself c) ∙ e)) in
          omega (arith, none_same (Under c) x other (walked_cells o.axes o.way o.walks levels c) (walk_under levels c i.is_cell))

  walk_once : (levels : ℕ) (cell x : Place) → IsCell o.axes o.way cell → times (walked_cells o.axes o.way o.walks levels cell) x ≤ 1
  walk_once zero cell x is = omega (arith, count-cons (λ y. is_same y x) cell [], at_most_one (is_same cell x))
  walk_once (suc levels) cell x is = go (o.walks cell) (is_same cell x) refl (below_once levels (walk_once levels) cell x is)
    where
      go : (b same : Bool) → is_same cell x ≡ same → times (cells_below o levels cell) x ≤ 1
          → times (cell ∷ flat_map (walked_cells o.axes o.way o.walks levels) (if_walks o.axes o.way o.walks b (children o.axes o.way cell))) x ≤ 1
      go true true e h = omega (arith, count-cons (λ y. is_same y x) cell (cells_below o levels cell), ap one_if e, below_deeper levels cell x is (omega (arith, (is_same-true cell x e).0)))
      go true false e h = omega (arith, count-cons (λ y. is_same y x) cell (cells_below o levels cell), ap one_if e, h)
      go false true e h = omega (arith, count-cons (λ y. is_same y x) cell [], ap one_if e)
      go false false e h = omega (arith, count-cons (λ y. is_same y x) cell [], ap one_if e)

pub walked_cells_differ : WalkedCellsDiffer
walked_cells_differ o levels cell dim is = record {
  once = λ x. walk_once o dim.1 levels cell x is;
  none_above = λ x h. above_none o dim.1 levels cell x is h;
  once_below = λ x. below_once o dim.1 levels (walk_once o dim.1 levels) cell x is;
  deeper = λ x h. below_deeper o dim.1 levels cell x is h;
}
