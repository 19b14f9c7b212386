-- The walk of a cell with all below it, in model and machine alike, from its steps.
use Rattle.std.proofs.Common.{◌≡◌, ℕ, zero, suc, ◌+◌, ◌-◌, ◌^◌, ◌≤◌, Bool, cond, not, List, [], ◌∷◌, ◌++◌, map, reverse, Option, Some, refl, sym, ap, subst, ◌∙◌, arith}
use Rattle.std.specs.Option.{option_and_then}
use Rattle.std.specs.List.{range_with_len, flat_map}
use Rattle.std.proofs.lemmas.List.Sums.{sum_by-cons}
use Rattle.pe_base.specs.declared.place.Place.{Place}
use Rattle.pe_base.specs.Tree.Places.{is_same}
use Rattle.pe_base.specs.Acts.Effects.{VertexRecord}
use Rattle.pe_base.specs.Walk.Course.{Push, Course, at_once, and_then, each}
use Rattle.pe_base.specs.Walk.Core.{Setting, Own}
use Rattle.pe_base.specs.Walk.Working.{Working, record_at}
use Rattle.pe_base.specs.Walk.Touches.{kind_below}
use Rattle.pe_base.specs.Walk.Touches as model
use Rattle.pe_base.specs.Walk.Walk as walks
use Rattle.pe_base.specs.Walk.Streams.{walked_children, walked_cells}
use Rattle.pe_base.proofs.Steps.VertexTouches.{is_same_itself}
use Rattle.pe_stacks.proofs.CornerSlots.{corners_range}
use Rattle.pe_adapt.specs.CountedTouches.{Machine}
use Rattle.pe_walk.specs.Machine as machine
use Rattle.pe_order.specs.Tokens.{Tokens, given, each_some}
use Rattle.pe_order.specs.Tokens as tokens
use Rattle.pe_walk.specs.Standing.{ForeseenStart, Stage, IsStage, Holds, IsForeseenStart}
use Rattle.pe_walk.proofs.Simulation.Matching.{Sim, sim-then, sim-alike, sim-weaker}
use Rattle.pe_walk.proofs.Simulation.Leaves.{image_of, in_hand, own_in_hand, streams, after_count, after_enter, after_leave, CountLeaf, LoadLeaf, EnterLeaf, LeaveLeaf, StoreLeaf, WalkSim}
use Rattle.pe_walk.proofs.Simulation.Cells.Corners.{down_from, reverse-range, after_loads-is, after_stores-is, stage_of, loads_sim, stores_sim}
use Rattle.pe_walk.proofs.Simulation.Cells.Inside.{with_ahead, IsOpen, less-holds}
use Rattle.pe_walk.proofs.Simulation.Cells.Children.{within, BelowSim, below_none, below_some}

-- the stages within the walk of a cell: all corners are loaded, the cell is entered
abbrev pub all_loaded : ℕ → Stage → Stage
all_loaded axes st = let counted = after_count axes st in record counted { from = 0; owed = counted.owed - 2 ^ axes }

abbrev pub opened : ℕ → List Place → Stage → Stage
opened axes inner st = after_enter inner (all_loaded axes st)

module _ {Plan : Type 0} (set : Setting Plan) (e : ForeseenStart) (walked : Place → Bool) (room : Push → Type 0) (is : IsForeseenStart set e walked) where
  pub few : 2 ^ set.axes ≤ 16
  few = corners_range set.axes is.foresees.dim

  pub is_open : (inner : List Place) (st : Stage) → IsStage set.axes e.outlook st → IsOpen (opened set.axes inner st)
  is_open inner st stage =
      let up : st.cell.level - 1 ≡ st.parent.level = ap (λ (p : Place). p.level) stage.above in
      record {
        deeper = omega (arith, up, stage.deep);
        all = refl;
        entered = omega (arith, sum_by-cons (λ other. cond (is_same other st.cell) 1 0) st.cell st.entered, ap {B = ℕ} (λ b. cond b 1 0) (is_same_itself st.cell));
      }

  -- all loads, from none in hand
  pub all_loads_sim : LoadLeaf set e room → (st : Stage) → IsStage set.axes e.outlook st → st.from ≡ 2 ^ set.axes → 2 ^ set.axes ≤ st.owed
      → Sim room (Holds set e st) (image_of set e st.parent) (Holds set e (record st { from = 0; owed = st.owed - 2 ^ set.axes })) (in_hand set e (record st { from = 0; owed = st.owed - 2 ^ set.axes }))
      (each (model.load_corner set st.parent st.cell) (reverse (walks.corner_numbers set))) (λ m. machine.load_all set (streams set e room) st.cell (2 ^ set.axes) [] m) (each_some (tokens.load e.outlook st.cell) (reverse (tokens.numbers e.outlook)))
  all_loads_sim loads st stage none owed =
      let n = 2 ^ set.axes in
      let after : Stage = record st { from = 0; owed = st.owed - 2 ^ set.axes } in
      let empty : 2 ^ set.axes - st.from ≡ 0 = omega (arith, none) in
      let numbers : reverse (tokens.numbers e.outlook) ≡ down_from (2 ^ set.axes) = ap (λ axes. reverse (range_with_len 0 (2 ^ axes))) is.foresees.axes ∙ reverse-range (2 ^ set.axes) in
      subst (λ ks. Sim room (Holds set e st) (image_of set e st.parent) (Holds set e after) (in_hand set e after) (each (model.load_corner set st.parent st.cell) (reverse (walks.corner_numbers set)))
      (λ m. machine.load_all set (streams set e room) st.cell n [] m) (each_some (tokens.load e.outlook st.cell) ks)) (sym numbers)
      (subst (λ ks. Sim room (Holds set e st) (image_of set e st.parent) (Holds set e after) (in_hand set e after) (each (model.load_corner set st.parent st.cell) ks)
      (λ m. machine.load_all set (streams set e room) st.cell n [] m) (each_some (tokens.load e.outlook st.cell) (down_from n))) (sym (reverse-range n))
      (sim-alike room (Holds set e st) (in_hand set e st) (image_of set e st.parent) (Holds set e after) (in_hand set e after) (each (model.load_corner set st.parent st.cell) (down_from n))
      (λ x. machine.load_all set (streams set e room) st.cell n x.0 x.1) (λ m. machine.load_all set (streams set e room) st.cell n [] m) (each_some (tokens.load e.outlook st.cell) (down_from n))
      (λ w t h. ap (λ m. machine.load_all set (streams set e room) st.cell n (map (record_at set.axes w st.cell) (range_with_len st.from m)) (image_of set e st.parent w t)) empty)
      (subst (λ s. Sim room (Holds set e st) (in_hand set e st) (Holds set e s) (in_hand set e s) (each (model.load_corner set st.parent st.cell) (down_from n)) (λ x. machine.load_all set (streams set e room) st.cell n x.0 x.1) (each_some (tokens.load e.outlook st.cell) (down_from n)))
      (after_loads-is n st none) (loads_sim set e room loads n st stage (omega arith) none owed))))

  -- and all stores, from all in hand
  all_stores_sim : StoreLeaf set e room → (st : Stage) → IsStage set.axes e.outlook st → 2 ^ set.axes ≤ st.owed → 2 ^ set.axes ≤ st.unstored
      → Sim room (Holds set e (record st { from = 0 })) (in_hand set e (record st { from = 0 })) (Holds set e (record st { from = 0 + 2 ^ set.axes; owed = st.owed - 2 ^ set.axes; unstored = st.unstored - 2 ^ set.axes })) (image_of set e st.parent)
      (each (model.store_corner set st.parent st.cell) (walks.corner_numbers set)) (λ x. machine.store_all set (streams set e room) st.cell 0 x.0 x.1) (λ t. each_some (tokens.store e.outlook st.cell) (tokens.numbers e.outlook) t)
  all_stores_sim stores st stage owed unstored =
      let n = 2 ^ set.axes in
      let all : Stage = record st { from = 0 } in
      subst (λ axes. Sim room (Holds set e all) (in_hand set e all) (Holds set e (record st { from = 0 + n; owed = st.owed - n; unstored = st.unstored - n })) (image_of set e st.parent)
      (each (model.store_corner set st.parent st.cell) (walks.corner_numbers set)) (λ x. machine.store_all set (streams set e room) st.cell 0 x.0 x.1) (λ t. each_some (tokens.store e.outlook st.cell) (range_with_len 0 (2 ^ axes)) t)) (sym is.foresees.axes)
      (subst (λ s. Sim room (Holds set e all) (in_hand set e all) (Holds set e s) (image_of set e st.parent)
      (each (model.store_corner set st.parent st.cell) (walks.corner_numbers set)) (λ x. machine.store_all set (streams set e room) st.cell 0 x.0 x.1) (each_some (tokens.store e.outlook st.cell) (range_with_len 0 n)))
      (after_stores-is n all) (stores_sim set e room stores n all (stage_of set e room st all refl refl stage) (omega arith) owed unstored))

  module _ (counts : CountLeaf set e room) (loads : LoadLeaf set e room) (enters : EnterLeaf set e room) (leaves : LeaveLeaf set e room) (stores : StoreLeaf set e room) where
    -- a cell around what is done below it
    around_sim : (st : Stage) (inner rest : List Place) (below : Working → Course Working) (levels : ℕ) (below_tokens : Tokens → Option Tokens)
        → IsStage set.axes e.outlook st → st.from ≡ 2 ^ set.axes → st.ahead ≡ st.cell ∷ inner
        → BelowSim set e walked room is (opened set.axes inner st) rest below levels below_tokens
        → Sim room (Holds set e st) (image_of set e st.parent) (Holds set e (with_ahead rest st)) (image_of set e st.parent)
        (walks.around_below set below st.parent st.cell) (machine.walk_cell set (streams set e room) (suc levels) st.cell) (tokens.around_below e.outlook below_tokens st.cell)
    around_sim st inner rest below levels below_tokens stage none ahead inside =
        sim-then room (Holds set e st) (image_of set e st.parent) (Holds set e s1) (image_of set e st.parent) (Holds set e last) (image_of set e st.parent)
        (model.count_cell set st.cell) (machine.count_cell set (streams set e room) st.cell) (λ t. Some t) model2 machine2 tokens2
        (counts st stage)
        (sim-then room (Holds set e s1) (image_of set e st.parent) (Holds set e s2) (in_hand set e s2) (Holds set e last) (image_of set e st.parent)
        (each (model.load_corner set st.parent st.cell) (reverse (walks.corner_numbers set))) (λ m. machine.load_all set (streams set e room) st.cell (2 ^ set.axes) [] m) (each_some (tokens.load e.outlook st.cell) (reverse (tokens.numbers e.outlook))) model3 machine3 tokens3
        (all_loads_sim loads s1 (staged s1 refl refl) none (omega (arith, few)))
        (sim-then room (Holds set e s2) (in_hand set e s2) (Holds set e s3) (own_in_hand set e s3) (Holds set e last) (image_of set e st.parent)
        (model.enter_cell set st.parent st.cell) (λ x. machine.enter_cell set (streams set e room) st.cell x.0 x.1) (tokens.enter e.outlook st.cell) model4 machine4 tokens4
        (enters s2 inner (staged s2 refl refl) refl ahead (omega (arith, few)) (omega arith))
        (sim-then room (Holds set e s3) (own_in_hand set e s3) (Holds set e s4) (own_in_hand set e s4) (Holds set e last) (image_of set e st.parent)
        below (λ it. machine.if_walked set (streams set e room) (kind_below it.0.corners) (within set e walked room is levels st.cell) it) below_tokens model5 machine5 tokens5
        inside
        (sim-then room (Holds set e s4) (own_in_hand set e s4) (Holds set e s5) (in_hand set e s5) (Holds set e last) (image_of set e st.parent)
        (model.leave_cell set st.parent st.cell) (machine.leave_cell set (streams set e room) st.cell) (tokens.leave e.outlook st.cell) model6 machine6 tokens6
        (leaves s4 st.entered (staged s4 refl refl) refl refl (omega (arith, few)))
        (sim-weaker room (Holds set e s5) (Holds set e s5) (in_hand set e s5) (Holds set e s6) (Holds set e last) (image_of set e st.parent) model6 machine6 tokens6 (λ w t h. h) finished
        (all_stores_sim stores s5 (staged s5 refl refl) (omega (arith, few)) (omega arith)))))))
      where
        s1 : Stage
        s1 = after_count set.axes st

        s2 : Stage
        s2 = all_loaded set.axes st

        s3 : Stage
        s3 = opened set.axes inner st

        s4 : Stage
        s4 = with_ahead rest s3

        s5 : Stage
        s5 = after_leave st.entered s4

        s6 : Stage
        s6 = record s5 { from = 0 + 2 ^ set.axes; owed = s5.owed - 2 ^ set.axes; unstored = s5.unstored - 2 ^ set.axes }

        last : Stage
        last = with_ahead rest st

        staged : (s : Stage) → s.cell ≡ st.cell → s.parent ≡ st.parent → IsStage set.axes e.outlook s
        staged s same above = stage_of set e room st s same above stage

        -- what the counted cell may still add falls back to what the others may
        same : s6 ≡ record last { owed = s6.owed }
        same = λ i. record s6 {
          from = (let e : 0 + 2 ^ set.axes ≡ st.from = omega (arith, none) in e) i;
          unstored = (let e : st.unstored + 2 ^ set.axes - 2 ^ set.axes ≡ st.unstored = omega arith in e) i;
          counted = (let e : st.counted + 1 - 1 ≡ st.counted = omega arith in e) i;
        }

        finished : (w : Working) (t : Tokens) → Holds set e s6 w t → Holds set e last w t
        finished w t h = less-holds set e (record last { owed = s6.owed }) st.owed w t (omega (arith, few)) (subst (λ s. Holds set e s w t) same h)

        model6 : Working → Course Working
        model6 = each (model.store_corner set st.parent st.cell) (walks.corner_numbers set)

        machine6 : List VertexRecord × Machine → Course Machine
        machine6 x = machine.store_all set (streams set e room) st.cell 0 x.0 x.1

        tokens6 : Tokens → Option Tokens
        tokens6 t = each_some (tokens.store e.outlook st.cell) (tokens.numbers e.outlook) t

        model5 : Working → Course Working
        model5 w = and_then (model.leave_cell set st.parent st.cell w) model6

        machine5 : Own × Machine → Course Machine
        machine5 it = and_then (machine.leave_cell set (streams set e room) st.cell it) machine6

        tokens5 : Tokens → Option Tokens
        tokens5 t = option_and_then tokens6 (tokens.leave e.outlook st.cell t)

        model4 : Working → Course Working
        model4 w = and_then (below w) model5

        machine4 : Own × Machine → Course Machine
        machine4 it = and_then (machine.if_walked set (streams set e room) (kind_below it.0.corners) (within set e walked room is levels st.cell) it) machine5

        tokens4 : Tokens → Option Tokens
        tokens4 t = option_and_then tokens5 (below_tokens t)

        model3 : Working → Course Working
        model3 w = and_then (model.enter_cell set st.parent st.cell w) model4

        machine3 : List VertexRecord × Machine → Course Machine
        machine3 x = and_then (machine.enter_cell set (streams set e room) st.cell x.0 x.1) machine4

        tokens3 : Tokens → Option Tokens
        tokens3 t = option_and_then tokens4 (tokens.enter e.outlook st.cell t)

        model2 : Working → Course Working
        model2 w = and_then (each (model.load_corner set st.parent st.cell) (reverse (walks.corner_numbers set)) w) model3

        machine2 : Machine → Course Machine
        machine2 m = and_then (machine.load_all set (streams set e room) st.cell (2 ^ set.axes) [] m) machine3

        tokens2 : Tokens → Option Tokens
        tokens2 t = option_and_then tokens3 (each_some (tokens.load e.outlook st.cell) (reverse (tokens.numbers e.outlook)) t)

  -- The walk of a cell.
  pub walk_sim : CountLeaf set e room → LoadLeaf set e room → EnterLeaf set e room → LeaveLeaf set e room → StoreLeaf set e room → (levels : ℕ) → WalkSim set e room levels
  walk_sim counts loads enters leaves stores zero st rest stage none ahead =
      around_sim counts loads enters leaves stores st rest rest at_once 0 (λ t. given (not (e.outlook.walks st.cell)) (Some t)) stage none ahead
      (below_none set e walked room is (opened set.axes rest st) rest (stage_of set e room st (opened set.axes rest st) refl refl stage) (is_open rest st stage) refl)
  walk_sim counts loads enters leaves stores (suc levels) st rest stage none ahead =
      let inner : List Place = flat_map (walked_cells e.outlook.axes e.outlook.way e.outlook.walks levels) (walked_children e.outlook.axes e.outlook.way e.outlook.walks st.cell) ++ rest in
      around_sim counts loads enters leaves stores st inner rest _ (suc levels) _ stage none ahead
      (below_some set e walked room is levels (walk_sim counts loads enters leaves stores levels) (opened set.axes inner st) rest (stage_of set e room st (opened set.axes inner st) refl refl stage) (is_open inner st stage) refl)
