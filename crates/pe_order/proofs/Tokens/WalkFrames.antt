-- What the walk of a cell leaves as it was.
use Rattle.std.proofs.Common.{◌≡◌, ℕ, zero, suc, ◌+◌, ◌^◌, ◌≤◌, Bool, true, false, not, ◌&&◌, List, [], ◌∷◌, ◌++◌, map, reverse, Option, Some, refl, sym, ap, ◌∙◌, subst, true≢false, append-nil, arith}
use Rattle.std.specs.Prelude.{if◌then◌else◌, count_by}
use Rattle.std.specs.List.{flat_map, range_with_len, AllByRecursion as Each}
use Rattle.std.proofs.lemmas.Option.{option_and_then_some}
use Rattle.pe_base.specs.declared.place.Place.{Place}
use Rattle.pe_base.specs.Tree.Dim.{IsDim}
use Rattle.pe_base.specs.Tree.Places.{corner, is_same}
use Rattle.pe_base.specs.Tree.Curve.{children}
use Rattle.pe_base.specs.Steps.Faces.{Touch, corner_touches}
use Rattle.pe_base.specs.Walk.Streams.{if_walks, walked_children}
use Rattle.pe_base.proofs.Lists.{Each-all, Each-weaker, Each-append, Each-map, Each-reverse, Each-flat_map}
use Rattle.pe_base.proofs.Tree.Ranks.{is_same-true, same_places}
use Rattle.pe_order.specs.Laws.{IsCell}
use Rattle.pe_order.specs.Tokens.{Outlook, Tokens, one_more, given, each_some, put, cell_target, touch_of, load, store, leave, numbers, around_below, walk}
use Rattle.pe_order.specs.Takings.{loads_of, met_more, met_after}
use Rattle.pe_order.specs.Frames.{counts_at, HasStacks, LeavesAbove, WhatWalksLeave}
use Rattle.pe_order.proofs.Tokens.Loads.{met-append}
use Rattle.pe_order.proofs.Tokens.Walks.{own_touches_are, children_levels}
use Rattle.pe_order.proofs.Tokens.Keeping.{given_some}
use Rattle.pe_order.proofs.Tokens.Apart.{one_if, one_more_is}
use Rattle.pe_order.proofs.Tokens.DepotCounts.{count_none}
use Rattle.pe_order.proofs.Tokens.Traffic.{traffic_of_a_cell}
use Rattle.pe_order.proofs.Tokens.CountLists.{count-cons, count-reverse}
use Rattle.pe_order.proofs.Tokens.CellsApart.{ChildOf, children_of, walked_cells_differ}
use Rattle.pe_order.proofs.Tokens.MoveFrames.{load_by, store_by, after_enter}
use Rattle.pe_order.proofs.Tokens.CellsAhead.{moves_its_cells}

module _ (o : Outlook) where
  -- what some touches meet
  met-after : (touches : List Touch) (met : Place → ℕ) (q : Place) → met_after o touches met q ≡ met q + count_by (counts_at o q) touches
  met-after [] met q = omega arith
  met-after (touch ∷ touches) met q = met-after touches (met_more o touch met) q ∙ omega (arith, one (o.counts touch.vertex), count-cons (counts_at o q) touch touches)
    where
      one : (b : Bool) → (if b then one_more touch.vertex met else met) q ≡ met q + one_if (b && is_same touch.vertex q)
      one true = one_more_is touch.vertex q met
      one false = omega arith

  -- the loads of some corners, and their stores
  loads_hold : (cell : Place) (ks : List ℕ) (t after : Tokens) → each_some (load o cell) ks t ≡ Some after
      → (after.met ≡ met_after o (map (touch_of o cell) ks) t.met) × ((q : Place) → after.held q ≡ t.held q + count_by (counts_at o q) (map (touch_of o cell) ks))
  loads_hold cell [] t after e = let same : t ≡ after = cc in (ap (λ (a : Tokens). a.met) (sym same), (λ q. ap (λ (a : Tokens). a.held q) (sym same) ∙ omega arith))
  loads_hold cell (k ∷ ks) t after e = option_and_then_some (each_some (load o cell) ks) (load o cell k t) after e (λ u f g.
      let touch = touch_of o cell k in
      let one = load_by o cell k t u (o.counts touch.vertex) f in
      let more = loads_hold cell ks u after g in (
        more.0 ∙ ap (met_after o (map (touch_of o cell) ks)) one.its_met,
        (λ q. omega (arith, more.1 q, one.held q, count-cons (counts_at o q) touch (map (touch_of o cell) ks))),
      ))

  stores_hold : (cell : Place) (ks : List ℕ) (t after : Tokens) → each_some (store o cell) ks t ≡ Some after
      → (after.met ≡ t.met) × ((q : Place) → after.held q + count_by (counts_at o q) (map (touch_of o cell) ks) ≡ t.held q)
  stores_hold cell [] t after e = let same : t ≡ after = cc in (ap (λ (a : Tokens). a.met) (sym same), (λ q. omega (arith, ap (λ (a : Tokens). a.held q) same)))
  stores_hold cell (k ∷ ks) t after e = option_and_then_some (each_some (store o cell) ks) (store o cell k t) after e (λ u f g.
      let touch = touch_of o cell k in
      let one = store_by o cell k t u (o.counts touch.vertex) f in
      let more = stores_hold cell ks u after g in (
        more.0 ∙ one.met,
        (λ q. omega (arith, more.1 q, one.held q, count-cons (counts_at o q) touch (map (touch_of o cell) ks))),
      ))

  -- what is met by some loads, and held as before
  record Meets (touches : List Touch) (t after : Tokens) : Type 0 where
    met : after.met ≡ met_after o touches t.met
    held : (q : Place) → after.held q ≡ t.held q

  meets_nothing : (t after : Tokens) → t ≡ after → Meets [] t after
  meets_nothing t after same = subst (Meets [] t) same (record { met = refl; held = λ q. refl })

  around_meets : IsDim o.axes → (below : Tokens → Option Tokens) (cell : Place) (deep : List Touch) → ((t after : Tokens) → below t ≡ Some after → Meets deep t after)
      → (t after : Tokens) → around_below o below cell t ≡ Some after → Meets (reverse (corner_touches o.axes cell) ++ deep) t after
  around_meets dim below cell deep goes t after e =
      option_and_then_some _ (each_some (load o cell) (reverse (numbers o)) t) after e (λ t1 e1 f1.
      option_and_then_some _ _ after f1 (λ t2 e2 f2.
      option_and_then_some _ (below t2) after f2 (λ t3 e3 f3.
      option_and_then_some _ _ after f3 (λ t4 e4 f4.
      let loads = loads_hold cell (reverse (numbers o)) t t1 e1 in
      let enters = after_enter o cell t1 t2 e2 in
      let inside = goes t2 t3 e3 in
      let same = left t3 t4 e4 in
      let stores = stores_hold cell (numbers o) t4 after f4 in
      record {
        met = stores.0 ∙ same.0 ∙ inside.met ∙ ap (met_after o deep) (enters.met ∙ loads.0 ∙ ap (λ ts. met_after o ts t.met) (own_touches_are o dim cell)) ∙ sym (met-append o (reverse (corner_touches o.axes cell)) deep t.met);
        held = λ q. back (after.held q) (t4.held q) (t3.held q) (t2.held q) (t1.held q) (t.held q) _ _ (stores.1 q) (ap (λ h. h q) same.1) (inside.held q) (ap (λ h. h q) enters.held) (loads.1 q)
            (ap (count_by (counts_at o q)) (own_touches_are o dim cell) ∙ count-reverse (counts_at o q) (corner_touches o.axes cell));
      }))))
    where
      left : (u v : Tokens) → leave o cell u ≡ Some v → (v.met ≡ u.met) × (v.held ≡ u.held)
      left u v h =
          let gone : Tokens = record u { cells = put (cell_target o cell) cell u.cells } in
          let same : gone ≡ v = cc in
          (ap (λ (a : Tokens). a.met) (sym same), ap (λ (a : Tokens). a.held) (sym same))

      back : (a b c d e f n m : ℕ) → a + m ≡ b → b ≡ c → c ≡ d → d ≡ e → e ≡ f + n → n ≡ m → a ≡ f
      back a b c d e f n m g h i j k l = omega arith

  each_meets : (levels : ℕ) → ((cell : Place) (t after : Tokens) → walk o levels cell t ≡ Some after → Meets (loads_of o levels cell) t after)
      → (cells : List Place) (t after : Tokens) → each_some (walk o levels) cells t ≡ Some after → Meets (flat_map (loads_of o levels) cells) t after
  each_meets levels law [] t after e = meets_nothing t after cc
  each_meets levels law (c ∷ cs) t after e = option_and_then_some (each_some (walk o levels) cs) (walk o levels c t) after e (λ u f g.
      let one = law c t u f in
      let more = each_meets levels law cs u after g in
      record {
        met = more.met ∙ ap (met_after o (flat_map (loads_of o levels) cs)) one.met ∙ sym (met-append o (loads_of o levels c) (flat_map (loads_of o levels) cs) t.met);
        held = λ q. more.held q ∙ one.held q;
      })

  walk_meets : IsDim o.axes → (levels : ℕ) (cell : Place) (t after : Tokens) → walk o levels cell t ≡ Some after → Meets (loads_of o levels cell) t after
  walk_meets dim zero cell t after e =
      subst (λ ts. Meets ts t after) (append-nil (reverse (corner_touches o.axes cell)))
      (around_meets dim (λ u. given (not (o.walks cell)) (Some u)) cell [] (λ u v f. let g = given_some (not (o.walks cell)) (Some u) v f in meets_nothing u v (cc (g.1))) t after e)
  walk_meets dim (suc levels) cell t after e =
      around_meets dim (λ u. if o.walks cell then each_some (walk o levels) (children o.axes o.way cell) u else (Some u)) cell (flat_map (loads_of o levels) (walked_children o.axes o.way o.walks cell))
      (λ u v f. below (o.walks cell) u v (each_meets levels (walk_meets dim levels) (children o.axes o.way cell) u v) f) t after e
    where
      below : (b : Bool) (u v : Tokens) → (each_some (walk o levels) (children o.axes o.way cell) u ≡ Some v → Meets (flat_map (loads_of o levels) (children o.axes o.way cell)) u v)
          → (if b then each_some (walk o levels) (children o.axes o.way cell) u else (Some u)) ≡ Some v → Meets (flat_map (loads_of o levels) (if_walks o.axes o.way o.walks b (children o.axes o.way cell))) u v
      below true u v run f = run f
      below false u v run f = meets_nothing u v cc

  -- no vertex above a cell is loaded in its walk
  own_deeper : (cell : Place) → Each (λ t. cell.level ≤ t.vertex.level) (reverse (corner_touches o.axes cell))
  own_deeper cell = Each-reverse (λ t. cell.level ≤ t.vertex.level) (corner_touches o.axes cell)
      (Each-map (λ t. cell.level ≤ t.vertex.level) (λ k. record { vertex = corner o.axes cell k; cell = cell }) (range_with_len 0 (2 ^ o.axes)) (Each-all _ (λ k. le_refl) (range_with_len 0 (2 ^ o.axes))))
    where
      le_refl : cell.level ≤ cell.level
      le_refl = omega arith

  loads_deeper : (levels : ℕ) (cell : Place) → Each (λ t. cell.level ≤ t.vertex.level) (loads_of o levels cell)
  loads_deeper zero cell = own_deeper cell
  loads_deeper (suc levels) cell = Each-append (λ t. cell.level ≤ t.vertex.level) (reverse (corner_touches o.axes cell)) (flat_map (loads_of o levels) (walked_children o.axes o.way o.walks cell)) (own_deeper cell)
      (go (o.walks cell) (Each-flat_map (λ t. cell.level ≤ t.vertex.level) (loads_of o levels) (children o.axes o.way cell)
      (Each-weaker (λ c. c.level ≡ cell.level + 1) _ (λ c e. Each-weaker (λ t. c.level ≤ t.vertex.level) _ (λ t h. omega (arith, e, h)) (loads_of o levels c) (loads_deeper levels c)) (children o.axes o.way cell) (children_levels o.axes o.way cell))))
    where
      go : (b : Bool) → Each (λ t. cell.level ≤ t.vertex.level) (flat_map (loads_of o levels) (children o.axes o.way cell))
          → Each (λ t. cell.level ≤ t.vertex.level) (flat_map (loads_of o levels) (if_walks o.axes o.way o.walks b (children o.axes o.way cell)))
      go true e = e
      go false e = tt

  -- touches of other vertices, and of those that do not count, meet nothing
  meets_none : (q : Place) (touches : List Touch) (met : Place → ℕ) → Each (λ t. counts_at o q t ≡ false) touches → met_after o touches met q ≡ met q
  meets_none q touches met each = met-after touches met q ∙ omega (arith, count_none (counts_at o q) touches each)

  elsewhere : (q : Place) (t : Touch) → (is_same t.vertex q ≡ true → o.counts t.vertex ≡ false) → counts_at o q t ≡ false
  elsewhere q t h = go (o.counts t.vertex) refl (is_same t.vertex q) refl
    where
      go : (b : Bool) → o.counts t.vertex ≡ b → (same : Bool) → is_same t.vertex q ≡ same → (b && same) ≡ false
      go true c true s = absurd (true≢false (sym c ∙ h s))
      go true c false s = refl
      go false c same s = refl

  -- what parts of a walk leave, one after another
  leaves_nothing : (level : ℕ) (t after : Tokens) → HasStacks t → t ≡ after → LeavesAbove o level t after
  leaves_nothing level t after has same = subst (LeavesAbove o level t) same (record { stacks = has; held = λ q. refl; met = λ q h. refl; hanging = λ q c. refl; out = refl; cells_out = refl; cells = λ x h. refl })

  leaves_then : (level : ℕ) (t u v : Tokens) → LeavesAbove o level t u → LeavesAbove o level u v → LeavesAbove o level t v
  leaves_then level t u v a b = record {
    stacks = b.stacks;
    held = λ q. b.held q ∙ a.held q;
    met = λ q h. b.met q h ∙ a.met q h;
    hanging = λ q c. b.hanging q c ∙ a.hanging q c;
    out = b.out ∙ a.out;
    cells_out = b.cells_out ∙ a.cells_out;
    cells = λ x h. b.cells x h ∙ a.cells x h;
  }

  walk_leaves : IsDim o.axes → (levels : ℕ) (cell : Place) (t after : Tokens) → IsCell o.axes o.way cell → HasStacks t → walk o levels cell t ≡ Some after → LeavesAbove o cell.level t after
  walk_leaves dim levels cell t after is has e =
      let traffic = traffic_of_a_cell o levels cell t after dim is has.vertices has.cells e in
      let meets = walk_meets dim levels cell t after e in
      record {
        stacks = record { vertices = traffic.moved.stacks ∙ has.vertices; cells = traffic.moved.cell_stacks ∙ has.cells };
        held = meets.held;
        met = λ q h. ap (λ m. m q) meets.met ∙ meets_none q (loads_of o levels cell) t.met
            (Each-weaker (λ t. cell.level ≤ t.vertex.level) _ (λ t deep. elsewhere q t (λ s. absurd (omega (arith, h, deep, (is_same-true t.vertex q s).0)))) (loads_of o levels cell) (loads_deeper levels cell));
        hanging = λ q c. ap (λ m. m q) meets.met ∙ meets_none q (loads_of o levels cell) t.met (Each-all _ (λ t. elsewhere q t (λ s. ap o.counts (same_places t.vertex q s) ∙ c)) (loads_of o levels cell));
        out = traffic.vertices.out;
        cells_out = traffic.cells.out;
        cells = λ x h. moves_its_cells o levels cell x t after e ((walked_cells_differ o levels cell dim is).none_above x h);
      }

  each_leaves : IsDim o.axes → (levels level : ℕ) (cells : List Place) → Each (λ c. IsCell o.axes o.way c × (c.level ≡ level)) cells
      → (t after : Tokens) → HasStacks t → each_some (walk o levels) cells t ≡ Some after → LeavesAbove o level t after
  each_leaves dim levels level [] each t after has e = leaves_nothing level t after has cc
  each_leaves dim levels level (c ∷ cs) each t after has e = option_and_then_some (each_some (walk o levels) cs) (walk o levels c t) after e (λ u f g.
      let one = subst (λ n. LeavesAbove o n t u) each.0.1 (walk_leaves dim levels c t u each.0.0 has f) in
      leaves_then level t u after one (each_leaves dim levels level cs each.1 u after one.stacks g))

pub what_walks_leave : WhatWalksLeave
what_walks_leave o dim = record {
  walks = λ levels cell t after is has e. walk_leaves o dim levels cell t after is has e;
  children_walked = λ levels cell t after is has e. each_leaves o dim levels (suc cell.level) (children o.axes o.way cell)
      (Each-weaker (ChildOf o.axes o.way cell) _ (λ c i. (i.is_cell, i.level)) (children o.axes o.way cell) (children_of o.axes o.way cell dim.1 is)) t after has e;
  met = λ levels cell t after e. (walk_meets o dim levels cell t after e).met;
}
