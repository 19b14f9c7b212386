-- The walks of the children of a cell, in model and machine alike.
use Rattle.std.proofs.Common.{◌≡◌, ℕ, suc, ◌+◌, ◌-◌, ◌<◌, Bool, true, false, not, ◌==◌, List, [], ◌∷◌, ◌++◌, Option, Some, refl, sym, ap, subst, ◌∙◌, append_assoc, arith}
use Rattle.std.specs.Prelude.{if◌then◌else◌}
use Rattle.std.specs.List.{flat_map, AllByRecursion as Each}
use Rattle.std.proofs.lemmas.Bool.{ne_eqb}
use Rattle.pe_base.specs.declared.place.Place.{Place}
use Rattle.pe_base.specs.declared.kind.Kind.{Kind}
use Rattle.pe_base.specs.declared.kind.Kind.TheVariants.{Kept, Born, Dying, Hanging}
use Rattle.pe_base.specs.Tree.Dim.{IsDim}
use Rattle.pe_base.specs.Tree.Places.{parent_of}
use Rattle.pe_base.specs.Tree.Curve.{children}
use Rattle.pe_base.specs.Life.Kinds.{is_hanging}
use Rattle.pe_base.specs.Walk.Course.{Push, Course, done, at_once, course_map, each}
use Rattle.pe_base.specs.Walk.Core.{Setting, way, Own}
use Rattle.pe_base.specs.Walk.Working.{Working, records_of, own_of}
use Rattle.pe_base.specs.Walk.Touches.{kind_below}
use Rattle.pe_base.specs.Walk.Touches as model
use Rattle.pe_base.specs.Walk.Walk as walks
use Rattle.pe_base.specs.Walk.Streams.{if_walks, walked_children, walked_cells}
use Rattle.pe_base.proofs.Lists.{Each-weaker}
use Rattle.pe_base.proofs.Walk.Frames.{KeepsAbove, KeepsUp, up-each, walk_cell-keeps}
use Rattle.pe_adapt.specs.CountedTouches.{Machine}
use Rattle.pe_order.specs.Laws.{IsCell}
use Rattle.pe_walk.specs.Machine as machine
use Rattle.pe_order.specs.Tokens.{Tokens, given, each_some}
use Rattle.pe_order.specs.Tokens as tokens
use Rattle.pe_order.specs.Frames.{LeavesAbove}
use Rattle.pe_walk.specs.Standing.{ForeseenStart, Stage, IsStage, Holds, IsForeseenStart}
use Rattle.pe_order.proofs.Unwalked.{in_contains, cell_four}
use Rattle.pe_order.proofs.Trees.{child_is_cell}
use Rattle.pe_order.proofs.Outlooks.{kids_parent}
use Rattle.pe_order.proofs.Tokens.Walks.{each_with}
use Rattle.pe_order.proofs.Tokens.WalkFrames.{what_walks_leave}
use Rattle.pe_walk.proofs.Simulation.Matching.{Alike, Sim, Along, some_same, done_same, sim-along, sim-weaker, mapped-matches}
use Rattle.pe_walk.proofs.Simulation.Below.{below_by_ages, mine_aged}
use Rattle.pe_walk.proofs.Simulation.Leaves.{image_of, own_in_hand, streams, WalkSim}
use Rattle.pe_walk.proofs.Simulation.Cells.Corners.{stage_of}
use Rattle.pe_walk.proofs.Simulation.Cells.Inside.{at_child, with_ahead, IsOpen, own_flag, records_of-kept, cell_at-kept, down-holds, next-holds, back-holds}

module _ {Plan : Type 0} (set : Setting Plan) (e : ForeseenStart) (walked : Place → Bool) (room : Push → Type 0) (is : IsForeseenStart set e walked) where
  -- whether there are children, by the corners in hand
  pub below_found : (st : Stage) (w : Working) (t : Tokens) → IsStage set.axes e.outlook st → IsOpen st → Holds set e st w t → kind_below (records_of set.axes w st.cell) ≡ e.foresight.below st.cell
  below_found st w t stage full h =
      below_by_ages set e.outlook e.foresight is.foresees w st.cell stage.deep
      (λ k small. mine_aged set e walked is st w t h stage k (omega (arith, full.all)) small (own_flag set.axes e.outlook (set.rules.greatest set.plan) e.foresight st w t full h.fair k small))

  -- the children of a cell
  abbrev pub kids : Place → List Place
  kids cell = children set.axes e.outlook.way cell

  -- each has a stage
  pub kids_stages : (st : Stage) → IsCell set.axes e.outlook.way st.cell → e.outlook.walks st.cell ≡ true → Each (λ c. IsStage set.axes e.outlook (at_child set.axes st c)) (kids st.cell)
  kids_stages st is_cell goes =
      let four = is.foresees.dim.1 in
      Each-weaker _ (λ c. IsStage set.axes e.outlook (at_child set.axes st c))
      (λ c i. record {
        cell = child_is_cell set.axes e.outlook.way st.cell c four is_cell (in_contains (kids st.cell) c i.0);
        above = i.1.1;
        deep = omega (arith, i.1.0);
        walked = goes;
      })
      (kids st.cell) (each_with (λ c. (c.level ≡ st.cell.level + 1) × (parent_of c ≡ st.cell)) (kids st.cell) (kids_parent set.axes e.outlook.way st.cell four (cell_four set.axes e.outlook.way st.cell four is_cell)))

  module _ (levels : ℕ) (sim : WalkSim set e room levels) where
    -- the cells of the walks of some children
    abbrev pub cells_of : List Place → List Place
    cells_of cells = flat_map (walked_cells e.outlook.axes e.outlook.way e.outlook.walks levels) cells

    -- the stage between the children, of which some are ahead
    abbrev pub between : Stage → List Place → List Place → Stage
    between st rest cells = at_child set.axes (with_ahead (cells_of cells ++ rest) st) st.cell

    pub children_along : (st : Stage) (rest cells : List Place) → Each (λ c. IsStage set.axes e.outlook (at_child set.axes st c)) cells
        → Along room (λ left. Holds set e (between st rest left)) (image_of set e st.cell) (walks.walk_cell set levels st.cell) (machine.walk_cell set (streams set e room) (suc levels)) (tokens.walk e.outlook levels) cells
    children_along st rest [] stages = tt
    children_along st rest (c ∷ cells) stages =
        let here : Stage = at_child set.axes (with_ahead (cells_of (c ∷ cells) ++ rest) st) c in
        let there : Stage = with_ahead (cells_of cells ++ rest) here in (
          sim-weaker room (Holds set e (between st rest (c ∷ cells))) (Holds set e here) (image_of set e st.cell) (Holds set e there) (Holds set e (between st rest cells)) (image_of set e st.cell)
              (walks.walk_cell set levels st.cell c) (machine.walk_cell set (streams set e room) (suc levels) c) (tokens.walk e.outlook levels c)
              (λ w t h. next-holds set e (between st rest (c ∷ cells)) c w t refl h)
              (λ w t h. next-holds set e there st.cell w t refl h)
              (sim here (cells_of cells ++ rest) (stage_of set e room (at_child set.axes st c) here refl refl stages.0) refl (append_assoc (walked_cells e.outlook.axes e.outlook.way e.outlook.walks levels c) (cells_of cells) rest)),
          children_along st rest cells stages.1,
        )

    -- a child is one level below the cell
    below_it : (st : Stage) (c : Place) → IsStage set.axes e.outlook (at_child set.axes st c) → st.cell.level < c.level
    below_it st c stage = let up : c.level - 1 ≡ st.cell.level = ap (λ (p : Place). p.level) stage.above in omega (arith, up, stage.deep)

    -- the children are walked, and the machine comes back from them
    walked_steps : (st : Stage) (rest cells : List Place) → Each (λ c. IsStage set.axes e.outlook (at_child set.axes st c)) cells → IsOpen st → st.ahead ≡ cells_of cells ++ rest
        → (w : Working) (t t' : Tokens) → Holds set e st w t → each_some (tokens.walk e.outlook levels) cells t ≡ Some t' → LeavesAbove e.outlook (suc st.cell.level) t t'
        → Alike room (own_in_hand set e (with_ahead rest st)) (Holds set e (with_ahead rest st)) (each (walks.walk_cell set levels st.cell) cells w)
        (course_map (machine.outside set (streams set e room) (image_of set e st.parent w t)) (each (machine.walk_cell set (streams set e room) (suc levels)) cells (image_of set e st.cell w t))) t'
    walked_steps st rest cells stages full ahead w t t' h k places =
        let inside = subst (λ a. Holds set e (at_child set.axes (with_ahead a st) st.cell) w t) ahead (down-holds set e st st.cell w t full h) in
        let steps = sim-along room (λ left. Holds set e (between st rest left)) (image_of set e st.cell) (walks.walk_cell set levels st.cell) (machine.walk_cell set (streams set e room) (suc levels)) (tokens.walk e.outlook levels) cells
        (children_along st rest cells stages) w t t' inside k in
        record {
          same = mapped-matches room (λ v. image_of set e st.cell v t') (λ v. own_in_hand set e (with_ahead rest st) v t') (machine.outside set (streams set e room) (image_of set e st.parent w t))
              (each (walks.walk_cell set levels st.cell) cells w) (each (machine.walk_cell set (streams set e room) (suc levels)) cells (image_of set e st.cell w t)) steps.same
              (λ v q. comes_back v (keeps v q));
          holds = λ v q. back-holds set e st st.cell w v t t' full (keeps v q) places h rest (steps.holds v q);
        }
      where
        keeps : (v : Working) → (each (walks.walk_cell set levels st.cell) cells w).ending ≡ done v → KeepsAbove st.cell.level w v
        keeps v q = up-each st.cell.level set (walks.walk_cell set levels st.cell) cells
            (Each-weaker (λ c. IsStage set.axes e.outlook (at_child set.axes st c)) (λ c. (u : Working) → KeepsUp st.cell.level set u (walks.walk_cell set levels st.cell c u))
            (λ c stage u. walk_cell-keeps st.cell.level set levels st.cell c (omega arith) (below_it st c stage) u) cells stages) w v q

        comes_back : (v : Working) → KeepsAbove st.cell.level w v → machine.outside set (streams set e room) (image_of set e st.parent w t) (image_of set e st.cell v t') ≡ own_in_hand set e (with_ahead rest st) v t'
        comes_back v above =
            let parents = sym (records_of-kept set.axes w v st.cell.level above st.parent full.deeper) in
            let parent = sym (cell_at-kept set.axes w v st.cell.level above st.parent full.deeper) in
            λ i. (own_of set.axes v st.cell, record (image_of set e st.parent v t') { family = record { parents = parents i; parent = parent i; list = v.list } })

  -- # What is done below a cell
  -- the kind of the children, as the model finds it
  pub model_found : (st : Stage) (w : Working) (t : Tokens) → IsStage set.axes e.outlook st → IsOpen st → Holds set e st w t → model.kind_of_children set w st.cell ≡ e.foresight.below st.cell
  model_found st w t stage full h =
      ap (λ b. if b then (if set.traversal == 1 then Born else Kept) else kind_below (records_of set.axes w st.cell)) (ne_eqb st.cell.level 0 (λ q. absurd (omega (arith, stage.deep, q))))
      ∙ below_found st w t stage full h

  -- nothing is done where no children are walked
  nothing_below : (st : Stage) (rest : List Place) (w : Working) (t t' : Tokens) → st.ahead ≡ rest → Holds set e st w t → Some t ≡ Some t'
      → Alike room (own_in_hand set e (with_ahead rest st)) (Holds set e (with_ahead rest st)) (at_once w) (at_once (own_in_hand set e st w t)) t'
  nothing_below st rest w t t' ahead h k =
      subst (λ x. Alike room (own_in_hand set e (with_ahead rest st)) (Holds set e (with_ahead rest st)) (at_once w) (at_once (own_in_hand set e st w t)) x) (some_same t t' k)
      (record { same = record { text = refl; ending = refl; log = tt }; holds = λ v q. subst (λ x. Holds set e (with_ahead rest st) x t) (done_same w v q) (subst (λ a. Holds set e (with_ahead a st) w t) ahead h) })

  -- as the kinds are found, so it goes on
  as_found : (st : Stage) (rest : List Place) (w : Working) (t t' : Tokens) → IsStage set.axes e.outlook st → IsOpen st → Holds set e st w t
      → (walk : Working → Course Working) (walk_machine : Own × Machine → Course (Own × Machine))
      → Alike room (own_in_hand set e (with_ahead rest st)) (Holds set e (with_ahead rest st)) (walks.if_walked set (e.foresight.below st.cell) walk w) (machine.if_walked set (streams set e room) (e.foresight.below st.cell) walk_machine (own_in_hand set e st w t)) t'
      → Alike room (own_in_hand set e (with_ahead rest st)) (Holds set e (with_ahead rest st)) (walks.if_walked set (model.kind_of_children set w st.cell) walk w)
      (machine.if_walked set (streams set e room) (kind_below (records_of set.axes w st.cell)) walk_machine (own_in_hand set e st w t)) t'
  as_found st rest w t t' stage full h walk walk_machine steps =
      subst (λ kind. Alike room (own_in_hand set e (with_ahead rest st)) (Holds set e (with_ahead rest st)) (walks.if_walked set kind walk w)
      (machine.if_walked set (streams set e room) (kind_below (records_of set.axes w st.cell)) walk_machine (own_in_hand set e st w t)) t') (sym (model_found st w t stage full h))
      (subst (λ kind. Alike room (own_in_hand set e (with_ahead rest st)) (Holds set e (with_ahead rest st)) (walks.if_walked set (e.foresight.below st.cell) walk w)
      (machine.if_walked set (streams set e room) kind walk_machine (own_in_hand set e st w t)) t') (sym (below_found st w t stage full h)) steps)

  -- the walks of the children, within the machine
  abbrev pub within : ℕ → Place → Own × Machine → Course (Own × Machine)
  within levels cell it =
      course_map (machine.outside set (streams set e room) it.1) (each (machine.walk_cell set (streams set e room) levels) (children set.axes (way set) cell) (machine.inside set (streams set e room) it.0 it.1))

  abbrev pub BelowSim : Stage → List Place → (Working → Course Working) → ℕ → (Tokens → Option Tokens) → Type 0
  BelowSim st rest below levels below_tokens = Sim room (Holds set e st) (own_in_hand set e st) (Holds set e (with_ahead rest st)) (own_in_hand set e (with_ahead rest st))
      below (λ it. machine.if_walked set (streams set e room) (kind_below it.0.corners) (within levels st.cell) it) below_tokens

  -- on the last level there are no children
  pub below_none : (st : Stage) (rest : List Place) → IsStage set.axes e.outlook st → IsOpen st → st.ahead ≡ rest
      → BelowSim st rest at_once 0 (λ t. given (not (e.outlook.walks st.cell)) (Some t))
  below_none st rest stage full ahead w t t' h k =
      subst (λ kind. Alike room (own_in_hand set e (with_ahead rest st)) (Holds set e (with_ahead rest st)) (at_once w) (machine.if_walked set (streams set e room) kind (within 0 st.cell) (own_in_hand set e st w t)) t')
      (sym (below_found st w t stage full h)) (go (e.foresight.below st.cell) (e.outlook.walks st.cell) (is.foresees.walks st.cell) k)
    where
      go : (kind : Kind) (b : Bool) → b ≡ not (is_hanging kind) → given (not b) (Some t) ≡ Some t'
          → Alike room (own_in_hand set e (with_ahead rest st)) (Holds set e (with_ahead rest st)) (at_once w) (machine.if_walked set (streams set e room) kind (within 0 st.cell) (own_in_hand set e st w t)) t'
      go Hanging false n k = nothing_below st rest w t t' ahead h k
      go Hanging true n k = absurd cc
      go Kept true n k = absurd cc
      go Kept false n k = absurd cc
      go Born true n k = absurd cc
      go Born false n k = absurd cc
      go Dying true n k = absurd cc
      go Dying false n k = absurd cc

  -- and above it the children are walked, if the cell has any
  pub below_some : (levels : ℕ) → WalkSim set e room levels → (st : Stage) (rest : List Place) → IsStage set.axes e.outlook st → IsOpen st
      → st.ahead ≡ flat_map (walked_cells e.outlook.axes e.outlook.way e.outlook.walks levels) (walked_children e.outlook.axes e.outlook.way e.outlook.walks st.cell) ++ rest
      → BelowSim st rest (λ w. walks.if_walked set (model.kind_of_children set w st.cell) (each (walks.walk_cell set levels st.cell) (children set.axes (way set) st.cell)) w) (suc levels)
      (λ t. if e.outlook.walks st.cell then each_some (tokens.walk e.outlook levels) (children e.outlook.axes e.outlook.way st.cell) t else (Some t))
  below_some levels sim st rest stage full ahead w t t' h k =
      as_found st rest w t t' stage full h walk (within (suc levels) st.cell) (go (e.foresight.below st.cell) (e.outlook.walks st.cell) refl (is.foresees.walks st.cell) ahead k)
    where
      walk : Working → Course Working
      walk = each (walks.walk_cell set levels st.cell) (children set.axes (way set) st.cell)

      after_children : e.outlook.walks st.cell ≡ true → st.ahead ≡ flat_map (walked_cells e.outlook.axes e.outlook.way e.outlook.walks levels) (children e.outlook.axes e.outlook.way st.cell) ++ rest
          → each_some (tokens.walk e.outlook levels) (children e.outlook.axes e.outlook.way st.cell) t ≡ Some t'
          → Alike room (own_in_hand set e (with_ahead rest st)) (Holds set e (with_ahead rest st)) (walk w) (within (suc levels) st.cell (own_in_hand set e st w t)) t'
      after_children goes ahead k =
          let same : children e.outlook.axes e.outlook.way st.cell ≡ kids st.cell = ap (λ axes. children axes e.outlook.way st.cell) is.foresees.axes in
          let dim = subst IsDim (sym is.foresees.axes) is.foresees.dim in
          let cell = subst (λ axes. IsCell axes e.outlook.way st.cell) (sym is.foresees.axes) stage.cell in
          subst (λ cells. Alike room (own_in_hand set e (with_ahead rest st)) (Holds set e (with_ahead rest st)) (each (walks.walk_cell set levels st.cell) cells w)
          (course_map (machine.outside set (streams set e room) (image_of set e st.parent w t)) (each (machine.walk_cell set (streams set e room) (suc levels)) cells (image_of set e st.cell w t))) t')
          (ap (λ way. children set.axes way st.cell) is.foresees.ways)
          (walked_steps levels sim st rest (kids st.cell) (kids_stages st stage.cell goes) full
          (ahead ∙ ap (λ cells. cells_of levels sim cells ++ rest) same) w t t' h (subst (λ cells. each_some (tokens.walk e.outlook levels) cells t ≡ Some t') same k)
          ((what_walks_leave e.outlook dim).children_walked levels st.cell t t' cell (record { vertices = h.stands.stacks; cells = h.stands.cell_stacks }) k))

      go : (kind : Kind) (b : Bool) → e.outlook.walks st.cell ≡ b → b ≡ not (is_hanging kind)
          → st.ahead ≡ flat_map (walked_cells e.outlook.axes e.outlook.way e.outlook.walks levels) (if_walks e.outlook.axes e.outlook.way e.outlook.walks b (children e.outlook.axes e.outlook.way st.cell)) ++ rest
          → (if b then each_some (tokens.walk e.outlook levels) (children e.outlook.axes e.outlook.way st.cell) t else (Some t)) ≡ Some t'
          → Alike room (own_in_hand set e (with_ahead rest st)) (Holds set e (with_ahead rest st)) (walks.if_walked set kind walk w) (machine.if_walked set (streams set e room) kind (within (suc levels) st.cell) (own_in_hand set e st w t)) t'
      go Kept true c n ahead k = after_children c ahead k
      go Born true c n ahead k = after_children c ahead k
      go Dying true c n ahead k = after_children c ahead k
      go Hanging false c n ahead k = nothing_below st rest w t t' ahead h k
      go Hanging true c n ahead k = absurd cc
      go Kept false c n ahead k = absurd cc
      go Born false c n ahead k = absurd cc
      go Dying false c n ahead k = absurd cc
