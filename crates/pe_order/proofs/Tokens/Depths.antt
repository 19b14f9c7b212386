-- How deep the walk of a cell goes.
use Rattle.std.proofs.Common.{◌≡◌, ℕ, zero, suc, ◌+◌, ◌-◌, ◌≤◌, List, [], ◌∷◌, ◌∙◌, arith}
use Rattle.std.specs.Prelude.{max}
use Rattle.std.specs.List.{flat_map, AllByRecursion as Each}
use Rattle.pe_base.specs.declared.place.Place.{Place}
use Rattle.pe_base.specs.Tree.Curve.{children}
use Rattle.pe_base.specs.Walk.Streams.{walked_children, walked_cells}
use Rattle.pe_base.proofs.Lists.{Each-all}
use Rattle.pe_order.specs.Tokens.{Outlook}
use Rattle.pe_order.specs.Traffic.{tallest, height}
use Rattle.pe_order.specs.Tallies.{deepest_of}
use Rattle.pe_order.proofs.Tokens.Walks.{children_levels}
use Rattle.pe_order.proofs.Tokens.CellsApart.{each_if}
use Rattle.pe_order.proofs.Tokens.TallyLaws.{deepest-append}

module _ (o : Outlook) where
  pub each_deepest : (levels level : ℕ) → ((cell : Place) (n : ℕ) → deepest_of (walked_cells o.axes o.way o.walks levels cell) n ≡ max n (cell.level + (height o levels cell - 1)))
      → (cells : List Place) → Each (λ c. c.level ≡ level + 1) cells → Each (λ c. 1 ≤ height o levels c) cells → (n : ℕ) → level ≤ n
      → deepest_of (flat_map (walked_cells o.axes o.way o.walks levels) cells) n ≡ max n (level + tallest (height o levels) cells)
  each_deepest levels level law [] each some n h = omega (arith, h)
  each_deepest levels level law (c ∷ cs) each some n h =
      let first = law c n in
      let mid = deepest_of (walked_cells o.axes o.way o.walks levels c) n in
      deepest-append (walked_cells o.axes o.way o.walks levels c) (flat_map (walked_cells o.axes o.way o.walks levels) cs) n
      ∙ each_deepest levels level law cs each.1 some.1 mid (omega (arith, h, first))
      ∙ joined n mid level c.level (height o levels c) (tallest (height o levels) cs) first each.0 some.0
    where
      joined : (n m level l a b : ℕ) → m ≡ max n (l + (a - 1)) → l ≡ level + 1 → 1 ≤ a → max m (level + b) ≡ max n (level + max a b)
      joined n m level l a b e f g = omega arith

  pub some_height : (levels : ℕ) (cell : Place) → 1 ≤ height o levels cell
  some_height zero cell = omega arith
  some_height (suc levels) cell = omega arith

  pub walk_deepest : (levels : ℕ) (cell : Place) (n : ℕ) → deepest_of (walked_cells o.axes o.way o.walks levels cell) n ≡ max n (cell.level + (height o levels cell - 1))
  walk_deepest zero cell n = omega arith
  walk_deepest (suc levels) cell n =
      let kids = walked_children o.axes o.way o.walks cell in
      each_deepest levels cell.level (walk_deepest levels) kids (each_if (λ c. c.level ≡ cell.level + 1) o.axes o.way o.walks (o.walks cell) (children o.axes o.way cell) (children_levels o.axes o.way cell)) (Each-all _ (some_height levels) kids)
      (max n cell.level) (omega arith)
      ∙ joined n cell.level (tallest (height o levels) kids)
    where
      joined : (n l a : ℕ) → max (max n l) (l + a) ≡ max n (l + (suc a - 1))
      joined n l a = omega arith
