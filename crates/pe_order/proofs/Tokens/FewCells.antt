-- A traversal walks no more cells than its vertices allow.
use Rattle.std.proofs.Common.{◌≡◌, ℕ, zero, suc, ◌+◌, ◌-◌, ◌*◌, ◌^◌, ◌≤◌, Bool, true, false, ◌||◌, List, [], ◌∷◌, ◌++◌, map, reverse, length, refl, sym, ap, ap₂, ◌∙◌, true≢false, length-append, arith}
use Rattle.std.specs.Prelude.{count_by, sum_by}
use Rattle.std.specs.List.{flat_map, range_with_len, list_any, AllByRecursion as Each}
use Rattle.std.proofs.lemmas.List.Sums.{sum_by-cons}
use Rattle.std.proofs.lemmas.Nat.{mul-pow}
use Rattle.std.proofs.Math.Nat.{mul-le-mul_left}
use Rattle.pe_base.specs.declared.place.Place.{Place}
use Rattle.pe_base.specs.Tree.Dim.{IsDim}
use Rattle.pe_base.specs.Tree.Places.{root, corner, corners}
use Rattle.pe_base.specs.Tree.Curve.{children}
use Rattle.pe_base.specs.Steps.Faces.{Touch, corner_touches}
use Rattle.pe_base.specs.Walk.Streams.{if_walks, walked_children, walked_cells}
use Rattle.pe_base.proofs.Lists.{Each-all, Each-weaker}
use Rattle.pe_base.proofs.Tree.CurveLaws.{length-children}
use Rattle.pe_order.specs.Tokens.{Outlook}
use Rattle.pe_order.specs.Takings.{loads_of, Grown}
use Rattle.pe_order.specs.Traffic.{entered_cells, first_vertices}
use Rattle.pe_order.specs.FewCells.{WalksAtCounting, FewCells}
use Rattle.pe_order.proofs.Tokens.LoadOrder.{root_walks}
use Rattle.pe_order.proofs.Tokens.Walks.{children_levels}
use Rattle.pe_order.proofs.Tokens.Apart.{one_if}
use Rattle.pe_order.proofs.Tokens.Traffic.{loads_length}
use Rattle.pe_order.proofs.Tokens.Crossings.{hanging_loads}
use Rattle.pe_order.proofs.Tokens.CellsApart.{each_if}
use Rattle.pe_order.proofs.Tokens.CountLists.{count-cons, count-append, count-flat_map, count-reverse, count-not, sum-less}

abbrev tests : Outlook → Touch → Bool
tests o touch = o.counts touch.vertex

-- corners that pass a test, by touches
corners-count : (axes : ℕ) (cell : Place) (p : Place → Bool) → list_any p (corners axes cell) ≡ true → 1 ≤ count_by (λ (t : Touch). p t.vertex) (corner_touches axes cell)
corners-count axes cell p = go (range_with_len 0 (2 ^ axes))
  where
    touch : ℕ → Touch
    touch k = record { vertex = corner axes cell k; cell = cell }

    go : (ks : List ℕ) → list_any p (map (corner axes cell) ks) ≡ true → 1 ≤ count_by (λ (t : Touch). p t.vertex) (map (λ k. record { vertex = corner axes cell k; cell = cell }) ks)
    go [] h = absurd (true≢false (sym h))
    go (k ∷ ks) h = by (p (corner axes cell k)) refl h (go ks)
      where
        by : (b : Bool) → p (corner axes cell k) ≡ b → (b || list_any p (map (corner axes cell) ks)) ≡ true
            → (list_any p (map (corner axes cell) ks) ≡ true → 1 ≤ count_by (λ (t : Touch). p t.vertex) (map (λ j. record { vertex = corner axes cell j; cell = cell }) ks))
            → 1 ≤ count_by (λ (t : Touch). p t.vertex) (map (λ j. record { vertex = corner axes cell j; cell = cell }) (k ∷ ks))
        by true e f more = omega (arith, count-cons (λ (t : Touch). p t.vertex) (touch k) (map (λ j. record { vertex = corner axes cell j; cell = cell }) ks), ap one_if e)
        by false e f more = omega (arith, count-cons (λ (t : Touch). p t.vertex) (touch k) (map (λ j. record { vertex = corner axes cell j; cell = cell }) ks), more f)

length-flat_map : {X Y : Type 0} (f : X → List Y) (xs : List X) → length (flat_map f xs) ≡ sum_by (λ x. length (f x)) xs
length-flat_map f [] = refl
length-flat_map f (x ∷ xs) = length-append (f x) (flat_map f xs) ∙ omega (arith, length-flat_map f xs, sum_by-cons (λ y. length (f y)) x xs)

-- a sum of terms of a slope
sum-slope : {X : Type 0} (f g : X → ℕ) (k : ℕ) (xs : List X) → Each (λ x. f x ≤ 1 + k * g x) xs → sum_by f xs ≤ length xs + k * sum_by g xs
sum-slope f g k [] e = omega arith
sum-slope f g k (x ∷ xs) e =
    omega (arith, sum_by-cons f x xs, e.0, sum-slope f g k xs e.1, ap (λ n. k * n) (sum_by-cons g x xs), spread (g x) (sum_by g xs))
  where
    spread : (a b : ℕ) → k * (a + b) ≡ k * a + k * b
    spread a b = omega arith

module _ (o : Outlook) where
  -- each cell whose children are walked adds so many cells
  cells-slope : (levels : ℕ) (cell : Place) → length (walked_cells o.axes o.way o.walks levels cell) ≤ 1 + 3 ^ o.axes * count_by o.walks (walked_cells o.axes o.way o.walks levels cell)
  cells-slope zero cell = omega arith
  cells-slope (suc levels) cell = go (o.walks cell) refl
      (sum-slope (λ c. length (walked_cells o.axes o.way o.walks levels c)) (λ c. count_by o.walks (walked_cells o.axes o.way o.walks levels c)) (3 ^ o.axes) (children o.axes o.way cell) (Each-all _ (cells-slope levels) (children o.axes o.way cell)))
    where
      spread : (k n : ℕ) → k * (1 + n) ≡ k + k * n
      spread k n = omega arith

      go : (b : Bool) → o.walks cell ≡ b
          → sum_by (λ c. length (walked_cells o.axes o.way o.walks levels c)) (children o.axes o.way cell) ≤ length (children o.axes o.way cell) + 3 ^ o.axes * sum_by (λ c. count_by o.walks (walked_cells o.axes o.way o.walks levels c)) (children o.axes o.way cell)
          → length (cell ∷ flat_map (walked_cells o.axes o.way o.walks levels) (if_walks o.axes o.way o.walks b (children o.axes o.way cell)))
          ≤ 1 + 3 ^ o.axes * count_by o.walks (cell ∷ flat_map (walked_cells o.axes o.way o.walks levels) (if_walks o.axes o.way o.walks b (children o.axes o.way cell)))
      go true e sums =
          let kids = children o.axes o.way cell in
          let all = flat_map (walked_cells o.axes o.way o.walks levels) kids in
          omega (
            arith,
            sums,
            length-children o.axes o.way cell,
            length-flat_map (walked_cells o.axes o.way o.walks levels) kids,
            ap (λ n. 3 ^ o.axes * n) (count-cons o.walks cell all ∙ ap₂ (λ b n. one_if b + n) e (count-flat_map o.walks (walked_cells o.axes o.way o.walks levels) kids)),
            spread (3 ^ o.axes) (sum_by (λ c. count_by o.walks (walked_cells o.axes o.way o.walks levels c)) kids),
          )
      go false e sums = omega arith

  -- and has a touch of a vertex that counts
  module _ (fits : WalksAtCounting o) where
    own : (cell : Place) → 1 ≤ cell.level → one_if (o.walks cell) ≤ count_by (tests o) (reverse (corner_touches o.axes cell))
    own cell deep = go (o.walks cell) refl
      where
        go : (b : Bool) → o.walks cell ≡ b → one_if b ≤ count_by (tests o) (reverse (corner_touches o.axes cell))
        go true e = omega (arith, count-reverse (tests o) (corner_touches o.axes cell), corners-count o.axes cell o.counts (fits cell deep e))
        go false e = omega arith

    walks-loads : (levels : ℕ) (cell : Place) → 1 ≤ cell.level → count_by o.walks (walked_cells o.axes o.way o.walks levels cell) ≤ count_by (tests o) (loads_of o levels cell)
    walks-loads zero cell deep = omega (arith, count-cons o.walks cell [], own cell deep)
    walks-loads (suc levels) cell deep =
        let kids = walked_children o.axes o.way o.walks cell in
        omega (
          arith,
          count-cons o.walks cell (flat_map (walked_cells o.axes o.way o.walks levels) kids),
          own cell deep,
          count-append (tests o) (reverse (corner_touches o.axes cell)) (flat_map (loads_of o levels) kids),
          count-flat_map o.walks (walked_cells o.axes o.way o.walks levels) kids,
          count-flat_map (tests o) (loads_of o levels) kids,
          sum-less (λ c. count_by o.walks (walked_cells o.axes o.way o.walks levels c)) (λ c. count_by (tests o) (loads_of o levels c)) kids
              (each_if _ o.axes o.way o.walks (o.walks cell) (children o.axes o.way cell) (Each-weaker (λ c. c.level ≡ cell.level + 1) _ (λ c e. walks-loads levels c (omega (arith, e))) (children o.axes o.way cell) (children_levels o.axes o.way cell))),
        )

-- the touches of vertices that count
counted_loads : (o : Outlook) (walked : Place → Bool) (greatest : ℕ) → IsDim o.axes → Grown o walked greatest → count_by (tests o) (loads_of o greatest root) ≡ 2 ^ o.axes * length (first_vertices o greatest)
counted_loads o walked greatest dim grown = omega (arith, hanging_loads o walked greatest dim grown, count-not (tests o) (loads_of o greatest root), loads_length o greatest root)

pub few_cells : FewCells
few_cells o walked greatest dim grown fits =
    let l = greatest - 1 in
    let kids = children o.axes o.way root in
    let entered = entered_cells o greatest in
    let touches = 2 ^ o.axes * length (first_vertices o greatest) in
    let loads : loads_of o greatest root ≡ reverse (corner_touches o.axes root) ++ flat_map (loads_of o l) kids =
    ap (λ n. loads_of o n root) (let e : greatest ≡ suc l = omega (arith, grown.walks_within root (root_walks o walked greatest dim grown)) in e)
    ∙ ap (λ b. reverse (corner_touches o.axes root) ++ flat_map (loads_of o l) (if_walks o.axes o.way o.walks b kids)) (root_walks o walked greatest dim grown) in
    let slope : length entered ≤ 3 ^ o.axes + 3 ^ o.axes * count_by o.walks entered = omega (
      arith,
      length-flat_map (walked_cells o.axes o.way o.walks l) kids,
      length-children o.axes o.way root,
      sum-slope (λ c. length (walked_cells o.axes o.way o.walks l c)) (λ c. count_by o.walks (walked_cells o.axes o.way o.walks l c)) (3 ^ o.axes) kids (Each-all _ (cells-slope o l) kids),
      ap (λ n. 3 ^ o.axes * n) (count-flat_map o.walks (walked_cells o.axes o.way o.walks l) kids),
    ) in
    let few : count_by o.walks entered ≤ touches = omega (
      arith,
      count-flat_map o.walks (walked_cells o.axes o.way o.walks l) kids,
      count-flat_map (tests o) (loads_of o l) kids,
      sum-less (λ c. count_by o.walks (walked_cells o.axes o.way o.walks l c)) (λ c. count_by (tests o) (loads_of o l c)) kids
          (Each-weaker (λ c. c.level ≡ 0 + 1) _ (λ c e. walks-loads o fits l c (omega (arith, e))) kids (children_levels o.axes o.way root)),
      count-append (tests o) (reverse (corner_touches o.axes root)) (flat_map (loads_of o l) kids),
      ap (count_by (tests o)) loads,
      counted_loads o walked greatest dim grown,
    ) in
    let most : 3 ^ o.axes * count_by o.walks entered ≤ 3 ^ o.axes * touches = mul-le-mul_left (3 ^ o.axes) few in
    let six : 3 ^ o.axes * touches ≡ 6 ^ o.axes * length (first_vertices o greatest) = turned (3 ^ o.axes) (2 ^ o.axes) (length (first_vertices o greatest)) (6 ^ o.axes) (mul-pow 3 2 o.axes) in
    omega arith
  where
    turned : (a b n c : ℕ) → c ≡ a * b → a * (b * n) ≡ c * n
    turned a b n c e = omega (arith, ap (λ x. x * n) e)
