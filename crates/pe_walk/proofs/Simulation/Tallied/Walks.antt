-- What the walk of a cell by address counts, with all below it.
use Rattle.std.proofs.Common.{◌≡◌, ℕ, zero, suc, ◌+◌, ◌^◌, ◌≤◌, Bool, true, false, not, List, [], ◌∷◌, ◌++◌, map, reverse, Option, Some, refl, sym, ap, ap₂, subst, ◌∙◌, append_assoc, arith}
use Rattle.std.specs.Prelude.{if◌then◌else◌}
use Rattle.std.specs.Option.{option_and_then}
use Rattle.std.specs.List.{range_with_len, flat_map, AllByRecursion as Each}
use Rattle.pe_base.specs.declared.place.Place.{Place}
use Rattle.pe_base.specs.declared.kind.Kind.{Kind}
use Rattle.pe_base.specs.declared.kind.Kind.TheVariants.{Kept, Born, Dying, Hanging}
use Rattle.pe_base.specs.declared.tally.Tally.{Tally}
use Rattle.pe_base.specs.Tree.Curve.{children}
use Rattle.pe_base.specs.Life.Kinds.{is_hanging}
use Rattle.pe_base.specs.Steps.Faces.{corner_touches}
use Rattle.pe_base.specs.Walk.Course.{Push, Course, done, at_once, and_then, each}
use Rattle.pe_base.specs.Walk.Core.{Setting, way}
use Rattle.pe_base.specs.Walk.Working.{Working}
use Rattle.pe_base.specs.Walk.Touches.{tally_cell}
use Rattle.pe_base.specs.Walk.Touches as model
use Rattle.pe_base.specs.Walk.Walk as walks
use Rattle.pe_base.specs.Walk.Streams.{if_walks, walked_children, walked_cells}
use Rattle.pe_base.proofs.Lists.{map-reverse}
use Rattle.pe_base.proofs.Walk.Courses.{done_same}
use Rattle.pe_stacks.proofs.CornerSlots.{corners_range}
use Rattle.pe_order.specs.Tokens.{Tokens, given, each_some, touch_of}
use Rattle.pe_order.specs.Tokens as tokens
use Rattle.pe_walk.specs.Standing.{ForeseenStart, Stage, IsStage, Holds, HasRoom, IsForeseenStart}
use Rattle.pe_order.specs.Tallies.{each_counted, counted_load, counted_store, counted_around, counted_walk}
use Rattle.pe_walk.proofs.Simulation.Leaves.{after_count, after_load, after_leave, after_store}
use Rattle.pe_walk.proofs.Simulation.CellsCounted.{count_leaf}
use Rattle.pe_walk.proofs.Simulation.Loads.Leaf.{load_leaf}
use Rattle.pe_walk.proofs.Simulation.Stores.Leaf.{store_leaf}
use Rattle.pe_walk.proofs.Simulation.Visits.Entering.{enter_leaf}
use Rattle.pe_walk.proofs.Simulation.Visits.Leaving.{leave_leaf}
use Rattle.pe_walk.proofs.Simulation.Cells.Corners.{down_from, reverse-range, stage_of}
use Rattle.pe_walk.proofs.Simulation.Cells.Inside.{at_child, with_ahead, IsOpen, down-holds, next-holds}
use Rattle.pe_walk.proofs.Simulation.Cells.Children.{kids, kids_stages, between, children_along, cells_of, model_found, below_none, below_some}
use Rattle.pe_walk.proofs.Simulation.Cells.Walks.{all_loaded, opened, is_open, all_loads_sim}
use Rattle.pe_walk.proofs.Simulation.Cells.Simulated.{cell_simulated}
use Rattle.pe_walk.proofs.Simulation.Tallied.Parts.{Counted, Leads, counted-then, count_counted, enter_counted, leave_counted, load_counted, store_counted}

-- steps over a list made from another
each-map : {A B : Type 0} (step : B → Tally → Tally) (f : A → B) (xs : List A) (tally : Tally) → each_counted step (map f xs) tally ≡ each_counted (λ x. step (f x)) xs tally
each-map step f [] tally = refl
each-map step f (x ∷ xs) tally = each-map step f xs (step (f x) tally)

-- where nothing is done nothing is counted
pub nothing_counted : (w v : Working) → (at_once w).ending ≡ done v → v.tally ≡ w.tally
nothing_counted w v q = ap (λ (u : Working). u.tally) (sym (done_same w v q))

module _ {Plan : Type 0} (set : Setting Plan) (e : ForeseenStart) (walked : Place → Bool) (is : IsForeseenStart set e walked) where
  -- any push has room here: what is counted does not depend on it
  abbrev pub any_room : Push → Type 0
  any_room push = Unit {0}

  pub roomy : HasRoom set e any_room
  roomy = record { vertices = λ st w t h s within other. tt; cells = λ st w t h s within other. tt }

  abbrev kind : Place → Kind
  kind = e.foresight.kind

  -- the loads of the corners below a number
  loads_counted : (n : ℕ) (st : Stage) → IsStage set.axes e.outlook st → n ≤ 2 ^ set.axes → st.from ≡ n → n ≤ st.owed
      → Counted (Holds set e st) (each (model.load_corner set st.parent st.cell) (down_from n)) (each_some (tokens.load e.outlook st.cell) (down_from n)) (each_counted (λ k. counted_load e.outlook e.foresight.kind (touch_of e.outlook st.cell k)) (down_from n))
  loads_counted zero st stage small from owed = λ w t t' h k v q. nothing_counted w v q
  loads_counted (suc n) st stage small from owed =
      let next : Stage = after_load n st in
      counted-then (Holds set e st) (Holds set e next) (model.load_corner set st.parent st.cell n) (each (model.load_corner set st.parent st.cell) (down_from n)) (tokens.load e.outlook st.cell n) (each_some (tokens.load e.outlook st.cell) (down_from n))
      (counted_load e.outlook e.foresight.kind (touch_of e.outlook st.cell n)) (each_counted (λ k. counted_load e.outlook e.foresight.kind (touch_of e.outlook st.cell k)) (down_from n))
      (load_counted set e walked is st stage n (omega arith))
      (λ w t t' h k v q. (load_leaf set e walked any_room is st n stage (omega arith) from (omega arith) w t t' h k).holds v q)
      (loads_counted n next (stage_of set e any_room st next refl refl stage) (omega arith) refl (omega arith))

  -- the stores of the corners from a number on
  stores_counted : (n : ℕ) (st : Stage) → IsStage set.axes e.outlook st → st.from + n ≡ 2 ^ set.axes → n ≤ st.owed → n ≤ st.unstored
      → Counted (Holds set e st) (each (model.store_corner set st.parent st.cell) (range_with_len st.from n)) (each_some (tokens.store e.outlook st.cell) (range_with_len st.from n))
      (each_counted (λ k. counted_store e.outlook e.foresight.kind (touch_of e.outlook st.cell k)) (range_with_len st.from n))
  stores_counted zero st stage all owed unstored = λ w t t' h k v q. nothing_counted w v q
  stores_counted (suc n) st stage all owed unstored =
      let next : Stage = after_store st.from st in
      counted-then (Holds set e st) (Holds set e next) (model.store_corner set st.parent st.cell st.from) (each (model.store_corner set st.parent st.cell) (range_with_len (st.from + 1) n))
      (tokens.store e.outlook st.cell st.from) (each_some (tokens.store e.outlook st.cell) (range_with_len (st.from + 1) n))
      (counted_store e.outlook e.foresight.kind (touch_of e.outlook st.cell st.from)) (each_counted (λ k. counted_store e.outlook e.foresight.kind (touch_of e.outlook st.cell k)) (range_with_len (st.from + 1) n))
      (store_counted set e walked is st stage st.from (omega (arith, all)) refl)
      (λ w t t' h k v q. (store_leaf set e walked any_room is roomy st st.from stage (omega (arith, all)) refl (omega arith) (omega arith) w t t' h k).holds v q)
      (stores_counted n next (stage_of set e any_room st next refl refl stage) (omega (arith, all)) (omega arith) (omega arith))

  -- all corners, as they are touched
  all_loads_counted : (st : Stage) → IsStage set.axes e.outlook st → st.from ≡ 2 ^ set.axes → 2 ^ set.axes ≤ st.owed
      → Counted (Holds set e st) (each (model.load_corner set st.parent st.cell) (reverse (walks.corner_numbers set))) (each_some (tokens.load e.outlook st.cell) (reverse (tokens.numbers e.outlook)))
      (each_counted (counted_load e.outlook e.foresight.kind) (reverse (corner_touches e.outlook.axes st.cell)))
  all_loads_counted st stage none owed w t t' h k v q =
      let n = 2 ^ set.axes in
      let own : reverse (tokens.numbers e.outlook) ≡ down_from (2 ^ set.axes) = ap (λ axes. reverse (range_with_len 0 (2 ^ axes))) is.foresees.axes ∙ reverse-range n in
      loads_counted n st stage (omega arith) none owed w t t' h (ap (λ ks. each_some (tokens.load e.outlook st.cell) ks t) (sym own) ∙ k) v (ap (λ ks. (each (model.load_corner set st.parent st.cell) ks w).ending) (sym (reverse-range n)) ∙ q)
      ∙ sym (each-map (counted_load e.outlook e.foresight.kind) (touch_of e.outlook st.cell) (down_from n) w.tally)
      ∙ ap (λ ts. each_counted (counted_load e.outlook e.foresight.kind) ts w.tally) (ap (map (touch_of e.outlook st.cell)) (sym own) ∙ map-reverse (touch_of e.outlook st.cell) (tokens.numbers e.outlook))

  all_stores_counted : (st : Stage) → IsStage set.axes e.outlook st → st.from ≡ 0 → 2 ^ set.axes ≤ st.owed → 2 ^ set.axes ≤ st.unstored
      → Counted (Holds set e st) (each (model.store_corner set st.parent st.cell) (walks.corner_numbers set)) (λ t. each_some (tokens.store e.outlook st.cell) (tokens.numbers e.outlook) t)
      (each_counted (counted_store e.outlook e.foresight.kind) (corner_touches e.outlook.axes st.cell))
  all_stores_counted st stage all owed unstored w t t' h k v q =
      let n = 2 ^ set.axes in
      let own : tokens.numbers e.outlook ≡ range_with_len st.from (2 ^ set.axes) = ap₂ (λ a axes. range_with_len a (2 ^ axes)) (sym all) is.foresees.axes in
      stores_counted n st stage (omega (arith, all)) owed unstored w t t' h (ap (λ ks. each_some (tokens.store e.outlook st.cell) ks t) (sym own) ∙ k) v
      (ap (λ a. (each (model.store_corner set st.parent st.cell) (range_with_len a (2 ^ set.axes)) w).ending) all ∙ q)
      ∙ sym (each-map (counted_store e.outlook e.foresight.kind) (touch_of e.outlook st.cell) (range_with_len st.from n) w.tally)
      ∙ ap (λ ks. each_counted (counted_store e.outlook e.foresight.kind) (map (touch_of e.outlook st.cell) ks) w.tally) (sym own)

  -- a cell around what is counted below it
  around_counted : (st : Stage) (inner rest : List Place) (below : Working → Course Working) (below_tokens : Tokens → Option Tokens) (count : Tally → Tally)
      → IsStage set.axes e.outlook st → st.from ≡ 2 ^ set.axes → st.ahead ≡ st.cell ∷ inner
      → Counted (Holds set e (opened set.axes inner st)) below below_tokens count → Leads (Holds set e (opened set.axes inner st)) (Holds set e (with_ahead rest (opened set.axes inner st))) below below_tokens
      → Counted (Holds set e st) (walks.around_below set below st.parent st.cell) (tokens.around_below e.outlook below_tokens st.cell) (counted_around e.outlook e.foresight.kind count st.cell)
  around_counted st inner rest below below_tokens count stage none ahead counts leads =
      counted-then (Holds set e st) (Holds set e s1) (model.count_cell set st.cell) model2 (λ t. Some t) tokens2 (tally_cell st.cell) (λ tally. stored (count (loaded tally)))
      (count_counted set (Holds set e st) st.cell)
      (λ w t t' h k v q. (count_leaf set e walked is any_room st stage w t t' h k).holds v q)
      (counted-then (Holds set e s1) (Holds set e s2) (each (model.load_corner set st.parent st.cell) (reverse (walks.corner_numbers set))) model3 (each_some (tokens.load e.outlook st.cell) (reverse (tokens.numbers e.outlook))) tokens3 loaded (λ tally. stored (count tally))
      (all_loads_counted s1 (staged s1 refl refl) none (omega (arith, corners)))
      (λ w t t' h k v q. (all_loads_sim set e walked any_room is (load_leaf set e walked any_room is) s1 (staged s1 refl refl) none (omega (arith, corners)) w t t' h k).holds v q)
      (counted-then (Holds set e s2) (Holds set e s3) (model.enter_cell set st.parent st.cell) model4 (tokens.enter e.outlook st.cell) tokens4 (λ tally. tally) (λ tally. stored (count tally))
      (enter_counted set (Holds set e s2) (tokens.enter e.outlook st.cell) st.parent st.cell)
      (λ w t t' h k v q. (enter_leaf set e walked any_room is s2 inner (staged s2 refl refl) refl ahead (omega (arith, corners)) (omega arith) w t t' h k).holds v q)
      (counted-then (Holds set e s3) (Holds set e s4) below model5 below_tokens tokens5 count stored counts leads
      (counted-then (Holds set e s4) (Holds set e s5) (model.leave_cell set st.parent st.cell) (each (model.store_corner set st.parent st.cell) (walks.corner_numbers set)) (tokens.leave e.outlook st.cell) tokens6 (λ tally. tally) stored
      (leave_counted set (Holds set e s4) (tokens.leave e.outlook st.cell) st.parent st.cell)
      (λ w t t' h k v q. (leave_leaf set e walked any_room is roomy s4 st.entered (staged s4 refl refl) refl refl (omega (arith, corners)) w t t' h k).holds v q)
      (all_stores_counted s5 (staged s5 refl refl) refl (omega (arith, corners)) (omega arith))))))
    where
      corners : 2 ^ set.axes ≤ 16
      corners = corners_range set.axes is.foresees.dim

      s1 : Stage
      s1 = after_count set.axes st

      s2 : Stage
      s2 = all_loaded set.axes st

      s3 : Stage
      s3 = opened set.axes inner st

      s4 : Stage
      s4 = with_ahead rest s3

      s5 : Stage
      s5 = after_leave st.entered s4

      staged : (s : Stage) → s.cell ≡ st.cell → s.parent ≡ st.parent → IsStage set.axes e.outlook s
      staged s same above = stage_of set e any_room st s same above stage

      loaded : Tally → Tally
      loaded = each_counted (counted_load e.outlook e.foresight.kind) (reverse (corner_touches e.outlook.axes st.cell))

      stored : Tally → Tally
      stored = each_counted (counted_store e.outlook e.foresight.kind) (corner_touches e.outlook.axes st.cell)

      tokens6 : Tokens → Option Tokens
      tokens6 t = each_some (tokens.store e.outlook st.cell) (tokens.numbers e.outlook) t

      model5 : Working → Course Working
      model5 w = and_then (model.leave_cell set st.parent st.cell w) (each (model.store_corner set st.parent st.cell) (walks.corner_numbers set))

      tokens5 : Tokens → Option Tokens
      tokens5 t = option_and_then tokens6 (tokens.leave e.outlook st.cell t)

      model4 : Working → Course Working
      model4 w = and_then (below w) model5

      tokens4 : Tokens → Option Tokens
      tokens4 t = option_and_then tokens5 (below_tokens t)

      model3 : Working → Course Working
      model3 w = and_then (model.enter_cell set st.parent st.cell w) model4

      tokens3 : Tokens → Option Tokens
      tokens3 t = option_and_then tokens4 (tokens.enter e.outlook st.cell t)

      model2 : Working → Course Working
      model2 w = and_then (each (model.load_corner set st.parent st.cell) (reverse (walks.corner_numbers set)) w) model3

      tokens2 : Tokens → Option Tokens
      tokens2 t = option_and_then tokens3 (each_some (tokens.load e.outlook st.cell) (reverse (tokens.numbers e.outlook)) t)

  -- the walk of a cell counts so
  abbrev pub WalkCounted : ℕ → Type 0
  WalkCounted levels = (st : Stage) (rest : List Place) → IsStage set.axes e.outlook st → st.from ≡ 2 ^ set.axes
      → st.ahead ≡ walked_cells e.outlook.axes e.outlook.way e.outlook.walks levels st.cell ++ rest
      → Counted (Holds set e st) (walks.walk_cell set levels st.parent st.cell) (tokens.walk e.outlook levels st.cell) (counted_walk e.outlook e.foresight.kind levels st.cell)

  -- the children of a cell, one after another
  pub children_counted : (levels : ℕ) → WalkCounted levels → (st : Stage) (rest cells : List Place) → Each (λ c. IsStage set.axes e.outlook (at_child set.axes st c)) cells
      → Counted (Holds set e (between set e walked any_room is levels (cell_simulated set e walked any_room is roomy levels) st rest cells)) (each (walks.walk_cell set levels st.cell) cells) (each_some (tokens.walk e.outlook levels) cells)
      (each_counted (counted_walk e.outlook e.foresight.kind levels) cells)
  children_counted levels law st rest [] stages = λ w t t' h k v q. nothing_counted w v q
  children_counted levels law st rest (c ∷ cells) stages =
      let sim = cell_simulated set e walked any_room is roomy levels in
      let left = cells_of set e walked any_room is levels sim in
      let stage : List Place → Stage = between set e walked any_room is levels sim st rest in
      let here : Stage = at_child set.axes (with_ahead (left (c ∷ cells) ++ rest) st) c in
      counted-then (Holds set e (stage (c ∷ cells))) (Holds set e (stage cells)) (walks.walk_cell set levels st.cell c) (each (walks.walk_cell set levels st.cell) cells) (tokens.walk e.outlook levels c) (each_some (tokens.walk e.outlook levels) cells)
      (counted_walk e.outlook e.foresight.kind levels c) (each_counted (counted_walk e.outlook e.foresight.kind levels) cells)
      (λ w t t' h k v q. law here (left cells ++ rest) (stage_of set e any_room (at_child set.axes st c) here refl refl stages.0) refl (append_assoc (walked_cells e.outlook.axes e.outlook.way e.outlook.walks levels c) (left cells) rest)
      w t t' (next-holds set e (stage (c ∷ cells)) c w t refl h) k v q)
      (λ w t t' h k v q. ((children_along set e walked any_room is levels sim st rest (c ∷ cells) stages).0 w t t' h k).holds v q)
      (children_counted levels law st rest cells stages.1)

  -- what is done below a cell
  below_counted : (levels : ℕ) → WalkCounted levels → (st : Stage) (rest : List Place) → IsStage set.axes e.outlook st → IsOpen st
      → st.ahead ≡ flat_map (walked_cells e.outlook.axes e.outlook.way e.outlook.walks levels) (walked_children e.outlook.axes e.outlook.way e.outlook.walks st.cell) ++ rest
      → Counted (Holds set e st) (λ w. walks.if_walked set (model.kind_of_children set w st.cell) (each (walks.walk_cell set levels st.cell) (children set.axes (way set) st.cell)) w)
      (λ t. if e.outlook.walks st.cell then each_some (tokens.walk e.outlook levels) (children e.outlook.axes e.outlook.way st.cell) t else (Some t))
      (each_counted (counted_walk e.outlook e.foresight.kind levels) (walked_children e.outlook.axes e.outlook.way e.outlook.walks st.cell))
  below_counted levels law st rest stage full ahead w t t' h k v q =
      go (e.foresight.below st.cell) (e.outlook.walks st.cell) refl (is.foresees.walks st.cell) ahead k
      (ap (λ kind. (walks.if_walked set kind (each (walks.walk_cell set levels st.cell) (children set.axes (way set) st.cell)) w).ending) (sym (model_found set e walked any_room is st w t stage full h)) ∙ q)
    where
      here : List Place
      here = children e.outlook.axes e.outlook.way st.cell

      after_children : e.outlook.walks st.cell ≡ true → st.ahead ≡ flat_map (walked_cells e.outlook.axes e.outlook.way e.outlook.walks levels) (children e.outlook.axes e.outlook.way st.cell) ++ rest
          → each_some (tokens.walk e.outlook levels) (children e.outlook.axes e.outlook.way st.cell) t ≡ Some t'
          → (each (walks.walk_cell set levels st.cell) (children set.axes (way set) st.cell) w).ending ≡ done v
          → v.tally ≡ each_counted (counted_walk e.outlook e.foresight.kind levels) (children e.outlook.axes e.outlook.way st.cell) w.tally
      after_children goes ahead k q =
          let same : children e.outlook.axes e.outlook.way st.cell ≡ kids set e walked any_room is st.cell = ap (λ axes. children axes e.outlook.way st.cell) is.foresees.axes in
          let sim = cell_simulated set e walked any_room is roomy levels in
          let inside = subst (λ a. Holds set e (at_child set.axes (with_ahead a st) st.cell) w t) (ahead ∙ ap (λ cells. cells_of set e walked any_room is levels sim cells ++ rest) same) (down-holds set e st st.cell w t full h) in
          children_counted levels law st rest (kids set e walked any_room is st.cell) (kids_stages set e walked any_room is st stage.cell goes) w t t' inside
          (ap (λ cells. each_some (tokens.walk e.outlook levels) cells t) (sym same) ∙ k) v
          (ap (λ way. (each (walks.walk_cell set levels st.cell) (children set.axes way st.cell) w).ending) is.foresees.ways ∙ q)
          ∙ ap (λ cells. each_counted (counted_walk e.outlook e.foresight.kind levels) cells w.tally) (sym same)

      go : (kind : Kind) (b : Bool) → e.outlook.walks st.cell ≡ b → b ≡ not (is_hanging kind)
          → st.ahead ≡ flat_map (walked_cells e.outlook.axes e.outlook.way e.outlook.walks levels) (if_walks e.outlook.axes e.outlook.way e.outlook.walks b (children e.outlook.axes e.outlook.way st.cell)) ++ rest
          → (if b then each_some (tokens.walk e.outlook levels) (children e.outlook.axes e.outlook.way st.cell) t else (Some t)) ≡ Some t'
          → (walks.if_walked set kind (each (walks.walk_cell set levels st.cell) (children set.axes (way set) st.cell)) w).ending ≡ done v
          → v.tally ≡ each_counted (counted_walk e.outlook e.foresight.kind levels) (if_walks e.outlook.axes e.outlook.way e.outlook.walks b (children e.outlook.axes e.outlook.way st.cell)) w.tally
      go Kept true c n ahead k q = after_children c ahead k q
      go Born true c n ahead k q = after_children c ahead k q
      go Dying true c n ahead k q = after_children c ahead k q
      go Hanging false c n ahead k q = nothing_counted w v q
      go Hanging true c n ahead k q = absurd cc
      go Kept false c n ahead k q = absurd cc
      go Born false c n ahead k q = absurd cc
      go Dying false c n ahead k q = absurd cc

  -- The walk of a cell.
  pub walk_counted : (levels : ℕ) → WalkCounted levels
  walk_counted zero st rest stage none ahead =
      let inside : Stage = opened set.axes rest st in
      around_counted st rest rest at_once (λ t. given (not (e.outlook.walks st.cell)) (Some t)) (λ tally. tally) stage none ahead
      (λ w t t' h k v q. nothing_counted w v q)
      (λ w t t' h k v q. (below_none set e walked any_room is inside rest (stage_of set e any_room st inside refl refl stage) (is_open set e walked any_room is rest st stage) refl w t t' h k).holds v q)
  walk_counted (suc levels) st rest stage none ahead =
      let inner : List Place = flat_map (walked_cells e.outlook.axes e.outlook.way e.outlook.walks levels) (walked_children e.outlook.axes e.outlook.way e.outlook.walks st.cell) ++ rest in
      let inside : Stage = opened set.axes inner st in
      let staged = stage_of set e any_room st inside refl refl stage in
      let open_so = is_open set e walked any_room is inner st stage in
      around_counted st inner rest _ _ (each_counted (counted_walk e.outlook e.foresight.kind levels) (walked_children e.outlook.axes e.outlook.way e.outlook.walks st.cell)) stage none ahead
      (below_counted levels (walk_counted levels) inside rest staged open_so refl)
      (λ w t t' h k v q. (below_some set e walked any_room is levels (cell_simulated set e walked any_room is roomy levels) inside rest staged open_so refl w t t' h k).holds v q)
