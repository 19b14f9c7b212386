-- What the walk over places moves, makes and gives up.
use Rattle.std.proofs.Common.{◌≡◌, ◌⊎◌, inl, inr, ℕ, zero, suc, ◌+◌, ◌-◌, ◌*◌, ◌^◌, ◌<◌, ◌≤◌, Bool, true, false, not, cond, ◌&&◌, List, [], ◌∷◌, ◌++◌, map, reverse, length, Option, Some, None, refl, sym, ap, ap₂, ◌∙◌, subst, append-nil, length-append, arith}
use Rattle.std.specs.Prelude.{max, nat_lt, is_none, if◌then◌else◌, count_by}
use Rattle.std.specs.List.{flat_map, range_with_len, AllByRecursion as Each}
use Rattle.std.proofs.lemmas.List.{length-reverse, length-map}
use Rattle.pe_base.specs.Tree.Places.{corner}
use Rattle.std.proofs.lemmas.List.Sums.{sum_by-append, sum_by-cons, count_by-le-length}
use Rattle.std.proofs.lemmas.Option.{option_and_then_some}
use Rattle.std.proofs.lemmas.List.FromFn.{length-range_with_len}
use Rattle.std.proofs.Math.Nat.{mul-suc, mul-zero, mul-one, mul-add, mul-le-mul_left}
use Rattle.pe_base.specs.declared.place.Place.{Place}
use Rattle.pe_base.specs.Tree.Dim.{IsDim}
use Rattle.pe_base.specs.Tree.Curve.{children}
use Rattle.pe_base.specs.Steps.Faces.{Touch, corner_touches}
use Rattle.pe_base.specs.Steps.Stacks.{is_stack}
use Rattle.pe_base.specs.Walk.Streams.{if_walks, walked_children, walked_cells}
use Rattle.pe_stacks.specs.Holdings.{stack_count, stack_at, lent, given_up}
use Rattle.pe_order.specs.Laws.{IsCell}
use Rattle.pe_order.specs.Tokens.{Outlook, Tokens, given, each_some, taken, put, source, target, cell_source, cell_target, one_less, touch_of, load_it, load, store_it, store, enter, numbers, around_below, walk}
use Rattle.pe_order.specs.Takings.{loads_of, stores_of, left_cells}
use Rattle.pe_order.specs.Traffic.{takes_from, makes, gives_to, ends, Moved, tallest, height, Returns, HasMoved, TrafficOfACell, LoadsPerCell, CountsPerCell}
use Rattle.pe_order.proofs.Tokens.Walks.{goes_within, cell_goes, own_touches_are, each_below}
use Rattle.pe_order.proofs.Tokens.Keeping.{kids_in_tree, given_some}
use Rattle.pe_order.proofs.Tokens.Apart.{map_some, one_if}
use Rattle.pe_order.proofs.Tests.{some_power}
use Rattle.pe_order.proofs.Tokens.DepotCounts.{Took, take_counts, Gave, put_counts}
use Rattle.pe_order.proofs.Tokens.Bounds.{counted_stack}

-- counts over parts
count-more : {X : Type 0} (p : X → Bool) (xs ys : List X) (a b c : ℕ) → b ≡ a + count_by p xs → c ≡ b + count_by p ys → c ≡ a + count_by p (xs ++ ys)
count-more p xs ys a b c e f = omega (arith, e, f, sum_by-append (λ x. cond (p x) 1 0) xs ys)

module _ (o : Outlook) where
  moved_nothing : (t : Tokens) → Moved o [] [] [] [] t t
  moved_nothing t = record {
    stacks = refl;
    pops = λ s. omega arith;
    pushes = λ s. omega arith;
    fresh = omega arith;
    spent = omega arith;
    cell_stacks = refl;
    cell_pops = λ s. omega arith;
    cell_pushes = λ s. omega arith;
    cell_fresh = omega arith;
    cell_spent = omega arith;
  }

  join : (ls ss ls' ss' : List Touch) (es ds es' ds' : List Place) (t u v : Tokens) → Moved o ls ss es ds t u → Moved o ls' ss' es' ds' u v → Moved o (ls ++ ls') (ss ++ ss') (es ++ es') (ds ++ ds') t v
  join ls ss ls' ss' es ds es' ds' t u v a b = record {
    stacks = b.stacks ∙ a.stacks;
    pops = λ s. count-more (takes_from o s) ls ls' _ _ _ (a.pops s) (b.pops s);
    pushes = λ s. count-more (gives_to o s) ss ss' _ _ _ (a.pushes s) (b.pushes s);
    fresh = count-more (makes o) ls ls' _ _ _ a.fresh b.fresh;
    spent = count-more (ends o) ss ss' _ _ _ a.spent b.spent;
    cell_stacks = b.cell_stacks ∙ a.cell_stacks;
    cell_pops = λ s. count-more (λ cell. is_stack s (cell_source o cell)) es es' _ _ _ (a.cell_pops s) (b.cell_pops s);
    cell_pushes = λ s. count-more (λ cell. is_stack s (cell_target o cell)) ds ds' _ _ _ (a.cell_pushes s) (b.cell_pushes s);
    cell_fresh = count-more (λ cell. is_none (cell_source o cell)) es es' _ _ _ a.cell_fresh b.cell_fresh;
    cell_spent = count-more (λ cell. is_none (cell_target o cell)) ds ds' _ _ _ a.cell_spent b.cell_spent;
  }

  -- from where a vertex is loaded, and to where it is stored, whether it counts or not
  abbrev loaded_from : Touch → Option ℕ
  loaded_from touch = if o.counts touch.vertex then source o touch else None

  abbrev stored_to : Touch → Option ℕ
  stored_to touch = if o.counts touch.vertex then target o touch else None

  counted_none : (b : Bool) (from : Option ℕ) → is_none (if b then from else None) ≡ not (b && not (is_none from))
  counted_none true None = refl
  counted_none true (Some s) = refl
  counted_none false from = refl

  pub count-one : {X : Type 0} (p : X → Bool) (x : X) (a b : ℕ) (c : Bool) → c ≡ p x → b ≡ a + one_if c → b ≡ a + count_by p (x ∷ [])
  count-one p x a b c k e = omega (arith, e, ap one_if k, sum_by-cons (λ y. cond (p y) 1 0) x [])

  load_took : (cell : Place) (k : ℕ) (t after : Tokens) → load o cell k t ≡ Some after → Took (loaded_from (touch_of o cell k)) t.vertices after.vertices × (after.cells ≡ t.cells)
  load_took cell k t after e = go (o.counts (touch_of o cell k).vertex) e
    where
      go : (b : Bool) → (if b then load_it o (touch_of o cell k) t else (Some (record t { vertices = lent t.vertices }))) ≡ Some after
          → Took (if b then source o (touch_of o cell k) else None) t.vertices after.vertices × (after.cells ≡ t.cells)
      go true f =
          let g = given_some _ _ after f in
          let m = map_some _ (taken (source o (touch_of o cell k)) (touch_of o cell k).vertex t.vertices) after g.1 in (
            subst (λ a. Took (source o (touch_of o cell k)) t.vertices a.vertices) m.2 (take_counts (source o (touch_of o cell k)) (touch_of o cell k).vertex t.vertices m.0 m.1),
            ap (λ a. a.cells) (sym m.2),
          )
      go false f =
          let made : Tokens = record t { vertices = lent t.vertices } in
          let same : made ≡ after = cc in (
            subst (λ a. Took None t.vertices a.vertices) same (take_counts None (touch_of o cell k).vertex t.vertices (lent t.vertices) refl),
            ap (λ a. a.cells) (sym same),
          )

  none_some : (s : ℕ) → None ≡ Some s → ⊥
  none_some s h = cc

  store_gave : (cell : Place) (k : ℕ) (t after : Tokens) → ((s : ℕ) → target o (touch_of o cell k) ≡ Some s → s < stack_count t.vertices) → store o cell k t ≡ Some after → Gave (stored_to (touch_of o cell k)) t.vertices after.vertices × (after.cells ≡ t.cells)
  store_gave cell k t after within e = go (o.counts (touch_of o cell k).vertex) e
    where
      go : (b : Bool) → (if b then store_it o (touch_of o cell k) t else (Some (record t { vertices = given_up t.vertices }))) ≡ Some after
          → Gave (if b then target o (touch_of o cell k) else None) t.vertices after.vertices × (after.cells ≡ t.cells)
      go true f =
          let stored : Tokens = record t { vertices = put (target o (touch_of o cell k)) (touch_of o cell k).vertex t.vertices; held = one_less (touch_of o cell k).vertex t.held } in
          let g = given_some (nat_lt 0 (t.held (touch_of o cell k).vertex)) (Some stored) after f in
          let same : stored ≡ after = cc (g.1) in (
            subst (λ a. Gave (target o (touch_of o cell k)) t.vertices a.vertices) same (put_counts (target o (touch_of o cell k)) (touch_of o cell k).vertex t.vertices within),
            ap (λ a. a.cells) (sym same),
          )
      go false f =
          let gone : Tokens = record t { vertices = given_up t.vertices } in
          let same : gone ≡ after = cc in (
            subst (λ a. Gave None t.vertices a.vertices) same (put_counts None (touch_of o cell k).vertex t.vertices (λ s h. absurd (none_some s h))),
            ap (λ a. a.cells) (sym same),
          )

  -- the loads of some corners
  record Loads (touches : List Touch) (t after : Tokens) : Type 0 where
    moved : Moved o touches [] [] [] t after
    out : after.vertices.out ≡ t.vertices.out + length touches
    most : (m : ℕ) → t.vertices.out + length touches ≤ m → max after.vertices.most m ≡ max t.vertices.most m
    least : 1 ≤ length touches → after.vertices.out ≤ after.vertices.most
    idle : length touches ≡ 0 → after.vertices.most ≡ t.vertices.most
    cells : after.cells ≡ t.cells

  loads_moved : (cell : Place) (ks : List ℕ) (t after : Tokens) → each_some (load o cell) ks t ≡ Some after → Loads (map (touch_of o cell) ks) t after
  loads_moved cell [] t after e =
      let same : t ≡ after = cc in
      subst (Loads [] t) same (record { moved = moved_nothing t; out = omega arith; most = λ m h. refl; least = λ h. absurd (omega arith); idle = λ h. refl; cells = refl })
  loads_moved cell (k ∷ ks) t after e = option_and_then_some (each_some (load o cell) ks) (load o cell k t) after e (λ u f g.
      let touch = touch_of o cell k in
      let took = load_took cell k t u f in
      let more = loads_moved cell ks u after g in
      record {
        moved = join (touch ∷ []) [] (map (touch_of o cell) ks) [] [] [] [] [] t u after (record {
          stacks = took.0.stacks;
          pops = λ s. count-one (takes_from o s) touch _ _ _ (counted_stack (o.counts touch.vertex) s (source o touch)) (took.0.pops s);
          pushes = λ s. omega (arith, took.0.pushes s);
          fresh = count-one (makes o) touch _ _ _ (counted_none (o.counts touch.vertex) (source o touch)) took.0.fresh;
          spent = omega (arith, took.0.spent);
          cell_stacks = ap stack_count took.1;
          cell_pops = λ s. ap (λ h. (stack_at h s).pops) took.1 ∙ omega arith;
          cell_pushes = λ s. ap (λ h. (stack_at h s).pushes) took.1 ∙ omega arith;
          cell_fresh = ap (λ h. h.fresh) took.1 ∙ omega arith;
          cell_spent = ap (λ h. h.spent) took.1 ∙ omega arith;
        }) more.moved;
        out = omega (arith, more.out, took.0.out);
        most = λ m h. more.most m (omega (arith, took.0.out)) ∙ ap (λ x. max x m) took.0.most ∙ higher t.vertices.most (t.vertices.out + 1) m (omega arith);
        least = λ h. none_or_some (length (map (touch_of o cell) ks)) u.vertices.out u.vertices.most after.vertices.out after.vertices.most t.vertices.most t.vertices.out more.out more.idle more.least took.0.out took.0.most;
        idle = λ h. absurd (omega arith);
        cells = more.cells ∙ took.1;
      })
    where
      none_or_some : (n uo um ao am tm to : ℕ) → ao ≡ uo + n → (n ≡ 0 → am ≡ um) → (1 ≤ n → ao ≤ am) → uo ≡ to + 1 → um ≡ max tm (to + 1) → ao ≤ am
      none_or_some zero uo um ao am tm to e f g h k = let same : am ≡ um = f refl in omega arith
      none_or_some (suc n) uo um ao am tm to e f g h k = g (omega arith)

      higher : (a b m : ℕ) → b ≤ m → max (max a b) m ≡ max a m
      higher a b m h = omega arith

  -- the stores of some corners
  record Stores (touches : List Touch) (t after : Tokens) : Type 0 where
    moved : Moved o [] touches [] [] t after
    out : after.vertices.out ≡ t.vertices.out - length touches
    most : after.vertices.most ≡ t.vertices.most
    cells : after.cells ≡ t.cells

  stores_moved : (cell : Place) (ks : List ℕ) (t after : Tokens) → Each (λ k. (s : ℕ) → target o (touch_of o cell k) ≡ Some s → s < stack_count t.vertices) ks → each_some (store o cell) ks t ≡ Some after → Stores (map (touch_of o cell) ks) t after
  stores_moved cell [] t after each e =
      let same : t ≡ after = cc in
      subst (Stores [] t) same (record { moved = moved_nothing t; out = omega arith; most = refl; cells = refl })
  stores_moved cell (k ∷ ks) t after each e = option_and_then_some (each_some (store o cell) ks) (store o cell k t) after e (λ u f g.
      let touch = touch_of o cell k in
      let gave = store_gave cell k t u each.0 f in
      let more = stores_moved cell ks u after (subst (λ n. Each (λ j. (s : ℕ) → target o (touch_of o cell j) ≡ Some s → s < n) ks) (sym gave.0.stacks) each.1) g in
      record {
        moved = join [] (touch ∷ []) [] (map (touch_of o cell) ks) [] [] [] [] t u after (record {
          stacks = gave.0.stacks;
          pops = λ s. omega (arith, gave.0.pops s);
          pushes = λ s. count-one (gives_to o s) touch _ _ _ (counted_stack (o.counts touch.vertex) s (target o touch)) (gave.0.pushes s);
          fresh = omega (arith, gave.0.fresh);
          spent = count-one (ends o) touch _ _ _ (counted_none (o.counts touch.vertex) (target o touch)) gave.0.spent;
          cell_stacks = ap stack_count gave.1;
          cell_pops = λ s. ap (λ h. (stack_at h s).pops) gave.1 ∙ omega arith;
          cell_pushes = λ s. ap (λ h. (stack_at h s).pushes) gave.1 ∙ omega arith;
          cell_fresh = ap (λ h. h.fresh) gave.1 ∙ omega arith;
          cell_spent = ap (λ h. h.spent) gave.1 ∙ omega arith;
        }) more.moved;
        out = omega (arith, more.out, gave.0.out);
        most = more.most ∙ gave.0.most;
        cells = more.cells ∙ gave.1;
      })

  -- a cell that is entered, and one that is left
  entered : (cell : Place) (t after : Tokens) → enter o cell t ≡ Some after → Moved o [] [] (cell ∷ []) [] t after × Took (cell_source o cell) t.cells after.cells × (after.vertices ≡ t.vertices)
  entered cell t after e =
      let m = map_some (λ cells. record t { cells = cells }) (taken (cell_source o cell) cell t.cells) after e in
      let took = take_counts (cell_source o cell) cell t.cells m.0 m.1 in
      subst (λ a. Moved o [] [] (cell ∷ []) [] t a × Took (cell_source o cell) t.cells a.cells × (a.vertices ≡ t.vertices)) m.2 (
        record {
          stacks = refl;
          pops = λ s. omega arith;
          pushes = λ s. omega arith;
          fresh = omega arith;
          spent = omega arith;
          cell_stacks = took.stacks;
          cell_pops = λ s. count-one (λ c. is_stack s (cell_source o c)) cell _ _ _ refl (took.pops s);
          cell_pushes = λ s. omega (arith, took.pushes s);
          cell_fresh = count-one (λ c. is_none (cell_source o c)) cell _ _ _ refl took.fresh;
          cell_spent = omega (arith, took.spent);
        },
        took,
        refl,
      )

  abbrev left_by : Place → Tokens → Tokens
  left_by cell t = record t { cells = put (cell_target o cell) cell t.cells }

  left : (cell : Place) (t : Tokens) → ((s : ℕ) → cell_target o cell ≡ Some s → s < stack_count t.cells) → Moved o [] [] [] (cell ∷ []) t (left_by cell t) × Gave (cell_target o cell) t.cells (left_by cell t).cells
  left cell t within =
      let gave = put_counts (cell_target o cell) cell t.cells within in (
        record {
          stacks = refl;
          pops = λ s. omega arith;
          pushes = λ s. omega arith;
          fresh = omega arith;
          spent = omega arith;
          cell_stacks = gave.stacks;
          cell_pops = λ s. omega (arith, gave.pops s);
          cell_pushes = λ s. count-one (λ c. is_stack s (cell_target o c)) cell _ _ _ refl (gave.pushes s);
          cell_fresh = omega (arith, gave.fresh);
          cell_spent = count-one (λ c. is_none (cell_target o c)) cell _ _ _ refl gave.spent;
        },
        gave,
      )

  -- what is done below a cell
  pub record Below (ls ss : List Touch) (es ds : List Place) (levels : ℕ) (t after : Tokens) : Type 0 where
    pub moved : Moved o ls ss es ds t after
    pub out : after.vertices.out ≡ t.vertices.out
    pub most : t.vertices.out ≤ t.vertices.most → after.vertices.most ≡ max t.vertices.most (t.vertices.out + 2 ^ o.axes * levels)
    pub cell_out : after.cells.out ≡ t.cells.out
    pub cell_most : t.cells.out ≤ t.cells.most → after.cells.most ≡ max t.cells.most (t.cells.out + levels)

  around_moved : IsDim o.axes → (cell : Place) → IsCell o.axes o.way cell → (below : Tokens → Option Tokens) (ls ss : List Touch) (es ds : List Place) (levels : ℕ)
      → ((u v : Tokens) → stack_count u.vertices ≡ 10 → stack_count u.cells ≡ 2 → below u ≡ Some v → Below ls ss es ds levels u v)
      → (t after : Tokens) → stack_count t.vertices ≡ 10 → stack_count t.cells ≡ 2 → around_below o below cell t ≡ Some after
      → Moved o (reverse (corner_touches o.axes cell) ++ ls) (ss ++ corner_touches o.axes cell) (cell ∷ es) (ds ++ cell ∷ []) t after
      × Returns (2 ^ o.axes) (suc levels) t.vertices after.vertices × Returns 1 (suc levels) t.cells after.cells
  around_moved dim cell is_cell below ls ss es ds levels run t after stacks cell_stacks e =
      option_and_then_some _ (each_some (load o cell) (reverse (numbers o)) t) after e (λ t1 e1 f1.
      option_and_then_some _ (enter o cell t1) after f1 (λ t2 e2 f2.
      option_and_then_some _ (below t2) after f2 (λ t3 e3 f3.
      let own = reverse (corner_touches o.axes cell) in
      let loads = subst (λ ts. Loads ts t t1) (own_touches_are o dim cell) (loads_moved cell (reverse (numbers o)) t t1 e1) in
      let enters = entered cell t1 t2 e2 in
      let inside = run t2 t3 (ap stack_count enters.2 ∙ loads.moved.stacks ∙ stacks) (enters.0.cell_stacks ∙ ap stack_count loads.cells ∙ cell_stacks) e3 in
      let two : stack_count t3.cells ≡ 2 = inside.moved.cell_stacks ∙ enters.0.cell_stacks ∙ ap stack_count loads.cells ∙ cell_stacks in
      let ten : stack_count t3.vertices ≡ 10 = inside.moved.stacks ∙ ap stack_count enters.2 ∙ loads.moved.stacks ∙ stacks in
      let leaves = left cell t3 (λ s h. subst (λ n. s < n) (sym two) (cell_goes o dim cell s h)) in
      let t4 = left_by cell t3 in
      let stores = stores_moved cell (numbers o) t4 after (subst (λ n. Each (λ k. (s : ℕ) → target o (touch_of o cell k) ≡ Some s → s < n) (numbers o)) (sym ten) (each_below (2 ^ o.axes) _ (λ k h. goes_within o dim cell is_cell k h))) f3 in
      let many : length own ≡ 2 ^ o.axes = length-reverse (corner_touches o.axes cell) ∙ length-corners o.axes in
      let up : length (corner_touches o.axes cell) ≡ 2 ^ o.axes = length-corners o.axes in
      let some : 1 ≤ 2 ^ o.axes = some_power o.axes in
      let chain = join own [] ([] ++ (ls ++ [])) (ss ++ corner_touches o.axes cell) [] [] (cell ∷ (es ++ [])) (ds ++ cell ∷ []) t t1 after loads.moved
      (join [] [] (ls ++ []) (ss ++ corner_touches o.axes cell) (cell ∷ []) [] (es ++ []) (ds ++ cell ∷ []) t1 t2 after enters.0
      (join ls ss [] (corner_touches o.axes cell) es ds [] (cell ∷ []) t2 t3 after inside.moved
      (join [] [] [] (corner_touches o.axes cell) [] (cell ∷ []) [] [] t3 t4 after leaves.0 stores.moved))) in
      let o1 = enters.2 in (
        subst (λ xs. Moved o (own ++ ls) (ss ++ corner_touches o.axes cell) (cell ∷ xs) (ds ++ cell ∷ []) t after) (append-nil es)
            (subst (λ xs. Moved o (own ++ xs) (ss ++ corner_touches o.axes cell) (cell ∷ (es ++ [])) (ds ++ cell ∷ []) t after) (append-nil ls) chain),
        record {
          out = omega (arith, stores.out, inside.out, ap (λ h. h.out) enters.2, loads.out, many, up);
          most = stores.most ∙ inside.most (subst (λ h. h.out ≤ h.most) (sym enters.2) (loads.least (omega (arith, many, some))))
              ∙ ap (λ h. max h.most (h.out + 2 ^ o.axes * levels)) enters.2
              ∙ grows (2 ^ o.axes) levels (2 ^ o.axes * levels) (2 ^ o.axes * suc levels) t.vertices.out t.vertices.most t1.vertices.out t1.vertices.most (mul-suc (2 ^ o.axes) levels)
              (omega (arith, loads.out, many)) (loads.least (omega (arith, many, some))) (λ m h. loads.most m (omega (arith, many)));
        },
        record {
          out = ap (λ h. h.out) stores.cells ∙ leaves.1.out ∙ omega (arith, inside.cell_out, enters.1.out, ap (λ h. h.out) loads.cells);
          most = ap (λ h. h.most) stores.cells ∙ leaves.1.most ∙ inside.cell_most (omega (arith, enters.1.out, enters.1.most)) ∙ omega (arith, enters.1.out, enters.1.most, ap (λ h. h.out) loads.cells, ap (λ h. h.most) loads.cells);
        },
      ))))
    where
      length-corners : (axes : ℕ) → length (corner_touches axes cell) ≡ 2 ^ axes
      length-corners axes = length-map (range_with_len 0 (2 ^ axes)) (λ k. record { vertex = corner axes cell k; cell = cell }) ∙ length-range_with_len 0 (2 ^ axes)

      grows : (unit n u v to tm so sm : ℕ) → v ≡ u + unit → so ≡ to + unit → so ≤ sm → ((m : ℕ) → so ≤ m → max sm m ≡ max tm m) → max sm (so + u) ≡ max tm (to + v)
      grows unit n u v to tm so sm e f g h = h (so + u) (omega arith) ∙ ap (max tm) (omega arith)

  -- cells one after another
  pub each_moved : (levels : ℕ) → ((cell : Place) → IsCell o.axes o.way cell → (t after : Tokens) → stack_count t.vertices ≡ 10 → stack_count t.cells ≡ 2 → walk o levels cell t ≡ Some after → HasMoved o levels cell t after)
      → (cs : List Place) → Each (IsCell o.axes o.way) cs → (t after : Tokens) → stack_count t.vertices ≡ 10 → stack_count t.cells ≡ 2 → each_some (walk o levels) cs t ≡ Some after
      → Below (flat_map (loads_of o levels) cs) (flat_map (stores_of o levels) cs) (flat_map (walked_cells o.axes o.way o.walks levels) cs) (flat_map (left_cells o levels) cs) (tallest (height o levels) cs) t after
  each_moved levels law [] each t after stacks cell_stacks e =
      let same : t ≡ after = cc in
      subst (Below [] [] [] [] 0 t) same (record {
        moved = moved_nothing t;
        out = refl;
        most = λ h. (let z : t.vertices.most ≡ max t.vertices.most (t.vertices.out + 0) = omega arith in z) ∙ ap (λ n. max t.vertices.most (t.vertices.out + n)) (let z : 0 ≡ 2 ^ o.axes * 0 = sym (mul-zero (2 ^ o.axes)) in z);
        cell_out = refl;
        cell_most = λ h. omega arith;
      })
  each_moved levels law (c ∷ cs) each t after stacks cell_stacks e = option_and_then_some (each_some (walk o levels) cs) (walk o levels c t) after e (λ u f g.
      let one = law c each.0 t u stacks cell_stacks f in
      let more = each_moved levels law cs each.1 u after (one.moved.stacks ∙ stacks) (one.moved.cell_stacks ∙ cell_stacks) g in
      let h = height o levels c in
      let hs = tallest (height o levels) cs in
      record {
        moved = join (loads_of o levels c) (stores_of o levels c) (flat_map (loads_of o levels) cs) (flat_map (stores_of o levels) cs) (walked_cells o.axes o.way o.walks levels c) (left_cells o levels c) (flat_map (walked_cells o.axes o.way o.walks levels) cs) (flat_map (left_cells o levels) cs) t u after one.moved more.moved;
        out = more.out ∙ one.vertices.out;
        most = λ m. more.most (omega (arith, one.vertices.out, one.vertices.most)) ∙ ap₂ (λ x y. max x (y + 2 ^ o.axes * hs)) one.vertices.most one.vertices.out
            ∙ higher t.vertices.most t.vertices.out (2 ^ o.axes * h) (2 ^ o.axes * hs) ∙ ap (λ n. max t.vertices.most (t.vertices.out + n)) (scaled (2 ^ o.axes) h hs);
        cell_out = more.cell_out ∙ one.cells.out;
        cell_most = λ m. more.cell_most (omega (arith, one.cells.out, one.cells.most)) ∙ ap₂ (λ x y. max x (y + hs)) (one.cells.most ∙ ap (λ n. max t.cells.most (t.cells.out + n)) (let z : 1 * h ≡ h = omega arith in z)) one.cells.out ∙ higher t.cells.most t.cells.out h hs;
      })
    where
      higher : (m out a b : ℕ) → max (max m (out + a)) (out + b) ≡ max m (out + max a b)
      higher m out a b = omega arith

      scaled : (k a b : ℕ) → max (k * a) (k * b) ≡ k * max a b
      scaled k a b = elim (either a b) [
        | inl h ↦ (let l = mul-le-mul_left k h in let z : max (k * a) (k * b) ≡ k * b = omega arith in z) ∙ ap (λ n. k * n) (let z : b ≡ max a b = omega arith in z)
        | inr h ↦ (let l = mul-le-mul_left k h in let z : max (k * a) (k * b) ≡ k * a = omega arith in z) ∙ ap (λ n. k * n) (let z : a ≡ max a b = omega arith in z)
      ]
        where
          either : (x y : ℕ) → (x ≤ y) ⊎ (y ≤ x)
          either x y = grind arith

  -- the walk of a cell
  pub walk_moved : IsDim o.axes → (levels : ℕ) (cell : Place) → IsCell o.axes o.way cell → (t after : Tokens) → stack_count t.vertices ≡ 10 → stack_count t.cells ≡ 2 → walk o levels cell t ≡ Some after → HasMoved o levels cell t after
  walk_moved dim zero cell is_cell t after stacks cell_stacks e =
      let run = around_moved dim cell is_cell (λ t. given (not (o.walks cell)) (Some t)) [] [] [] [] 0
      (λ u v n m f. let g = given_some (not (o.walks cell)) (Some u) v f in let same : u ≡ v = cc (g.1) in subst (Below [] [] [] [] 0 u) same (record {
        moved = moved_nothing u;
        out = refl;
        most = λ h. (let z : u.vertices.most ≡ max u.vertices.most (u.vertices.out + 0) = omega arith in z) ∙ ap (λ n. max u.vertices.most (u.vertices.out + n)) (let z : 0 ≡ 2 ^ o.axes * 0 = sym (mul-zero (2 ^ o.axes)) in z);
        cell_out = refl;
        cell_most = λ h. omega arith;
      })) t after stacks cell_stacks e in record {
        moved = subst (λ xs. Moved o xs (corner_touches o.axes cell) (cell ∷ []) (cell ∷ []) t after) (append-nil (reverse (corner_touches o.axes cell))) run.0;
        vertices = run.1;
        cells = run.2;
      }
  walk_moved dim (suc levels) cell is_cell t after stacks cell_stacks e =
      let kids = walked_children o.axes o.way o.walks cell in
      let run = around_moved dim cell is_cell (λ t. if o.walks cell then each_some (walk o levels) (children o.axes o.way cell) t else (Some t))
      (flat_map (loads_of o levels) kids) (flat_map (stores_of o levels) kids) (flat_map (walked_cells o.axes o.way o.walks levels) kids) (flat_map (left_cells o levels) kids) (tallest (height o levels) kids)
      (λ u v n m f. below (o.walks cell) u v (λ g. each_moved levels (walk_moved dim levels) (children o.axes o.way cell) (kids_in_tree o dim.1 cell is_cell) u v n m g) (λ g. each_moved levels (walk_moved dim levels) [] tt u v n m g) f)
      t after stacks cell_stacks e in
      record { moved = run.0; vertices = run.1; cells = run.2 }
    where
      below : (b : Bool) (u v : Tokens)
          → (each_some (walk o levels) (children o.axes o.way cell) u ≡ Some v → Below (flat_map (loads_of o levels) (children o.axes o.way cell)) (flat_map (stores_of o levels) (children o.axes o.way cell)) (flat_map (walked_cells o.axes o.way o.walks levels) (children o.axes o.way cell)) (flat_map (left_cells o levels) (children o.axes o.way cell)) (tallest (height o levels) (children o.axes o.way cell)) u v)
          → (Some u ≡ Some v → Below [] [] [] [] 0 u v)
          → (if b then each_some (walk o levels) (children o.axes o.way cell) u else (Some u)) ≡ Some v
          → Below (flat_map (loads_of o levels) (if_walks o.axes o.way o.walks b (children o.axes o.way cell))) (flat_map (stores_of o levels) (if_walks o.axes o.way o.walks b (children o.axes o.way cell))) (flat_map (walked_cells o.axes o.way o.walks levels) (if_walks o.axes o.way o.walks b (children o.axes o.way cell))) (flat_map (left_cells o levels) (if_walks o.axes o.way o.walks b (children o.axes o.way cell))) (tallest (height o levels) (if_walks o.axes o.way o.walks b (children o.axes o.way cell))) u v
      below true u v some none f = some f
      below false u v some none f = none f

pub traffic_of_a_cell : TrafficOfACell
traffic_of_a_cell o levels cell t after dim is_cell stacks cell_stacks e = walk_moved o dim levels cell is_cell t after stacks cell_stacks e

-- each cell has as many loads and stores as corners
flat_length : {X Y : Type 0} (f : X → List Y) (g : X → List Place) (k : ℕ) (xs : List X) → ((x : X) → length (f x) ≡ k * length (g x)) → length (flat_map f xs) ≡ k * length (flat_map g xs)
flat_length f g k [] h = sym (mul-zero k)
flat_length f g k (x ∷ xs) h =
    length-append (f x) (flat_map f xs) ∙ ap₂ (λ a b. a + b) (h x) (flat_length f g k xs h)
    ∙ sym (mul-add k (length (g x)) (length (flat_map g xs))) ∙ ap (λ n. k * n) (sym (length-append (g x) (flat_map g xs)))

pub corners_of : (axes : ℕ) (cell : Place) → length (corner_touches axes cell) ≡ 2 ^ axes
corners_of axes cell = length-map (range_with_len 0 (2 ^ axes)) (λ k. record { vertex = corner axes cell k; cell = cell }) ∙ length-range_with_len 0 (2 ^ axes)

pub loads_length : (o : Outlook) (levels : ℕ) (cell : Place) → length (loads_of o levels cell) ≡ 2 ^ o.axes * length (walked_cells o.axes o.way o.walks levels cell)
loads_length o zero cell = length-reverse (corner_touches o.axes cell) ∙ corners_of o.axes cell ∙ sym (mul-one (2 ^ o.axes))
loads_length o (suc levels) cell =
    let kids = walked_children o.axes o.way o.walks cell in
    length-append (reverse (corner_touches o.axes cell)) (flat_map (loads_of o levels) kids)
    ∙ ap₂ (λ a b. a + b) (length-reverse (corner_touches o.axes cell) ∙ corners_of o.axes cell) (flat_length (loads_of o levels) (walked_cells o.axes o.way o.walks levels) (2 ^ o.axes) kids (loads_length o levels))
    ∙ omega (arith, mul-suc (2 ^ o.axes) (length (flat_map (walked_cells o.axes o.way o.walks levels) kids)))

stores_length : (o : Outlook) (levels : ℕ) (cell : Place) → length (stores_of o levels cell) ≡ 2 ^ o.axes * length (walked_cells o.axes o.way o.walks levels cell)
stores_length o zero cell = corners_of o.axes cell ∙ sym (mul-one (2 ^ o.axes))
stores_length o (suc levels) cell =
    let kids = walked_children o.axes o.way o.walks cell in
    length-append (flat_map (stores_of o levels) kids) (corner_touches o.axes cell)
    ∙ ap₂ (λ a b. a + b) (flat_length (stores_of o levels) (walked_cells o.axes o.way o.walks levels) (2 ^ o.axes) kids (stores_length o levels)) (corners_of o.axes cell)
    ∙ omega (arith, mul-suc (2 ^ o.axes) (length (flat_map (walked_cells o.axes o.way o.walks levels) kids)))

left_length : (o : Outlook) (levels : ℕ) (cell : Place) → length (left_cells o levels cell) ≡ length (walked_cells o.axes o.way o.walks levels cell)
left_length o zero cell = refl
left_length o (suc levels) cell =
    let kids = walked_children o.axes o.way o.walks cell in
    length-append (flat_map (left_cells o levels) kids) (cell ∷ [])
    ∙ omega (arith, flat_length (left_cells o levels) (walked_cells o.axes o.way o.walks levels) 1 kids (λ c. left_length o levels c ∙ omega arith))

pub loads_per_cell : LoadsPerCell
loads_per_cell o levels cell = record { loads = loads_length o levels cell; stores = stores_length o levels cell; left = left_length o levels cell }

pub counts_per_cell : CountsPerCell
counts_per_cell o levels cell t after dim is_cell stacks cell_stacks e =
    let m = (walk_moved o dim levels cell is_cell t after stacks cell_stacks e).moved in
    let ls = loads_of o levels cell in
    let ss = stores_of o levels cell in
    let es = walked_cells o.axes o.way o.walks levels cell in
    let ds = left_cells o levels cell in record {
      vertices = record {
        fresh = omega (arith, m.fresh, count_by-le-length (makes o) ls, loads_length o levels cell);
        spent = omega (arith, m.spent, count_by-le-length (ends o) ss, stores_length o levels cell);
        pops = λ s. omega (arith, m.pops s, count_by-le-length (takes_from o s) ls, loads_length o levels cell);
        pushes = λ s. omega (arith, m.pushes s, count_by-le-length (gives_to o s) ss, stores_length o levels cell);
      };
      cells = record {
        fresh = omega (arith, m.cell_fresh, count_by-le-length (λ c. is_none (cell_source o c)) es);
        spent = omega (arith, m.cell_spent, count_by-le-length (λ c. is_none (cell_target o c)) ds, left_length o levels cell);
        pops = λ s. omega (arith, m.cell_pops s, count_by-le-length (λ c. is_stack s (cell_source o c)) es);
        pushes = λ s. omega (arith, m.cell_pushes s, count_by-le-length (λ c. is_stack s (cell_target o c)) ds, left_length o levels cell);
      };
    }
