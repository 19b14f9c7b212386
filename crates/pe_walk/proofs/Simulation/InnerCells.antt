-- Once a cell was entered, the first of its children may be walked by a call of its own, and the others after it.
use Rattle.std.proofs.Common.{◌≡◌, ℕ, zero, suc, ◌+◌, ◌^◌, ◌<◌, Bool, true, false, not, ◌==◌, List, [], ◌∷◌, ◌++◌, map, reverse, Option, Some, refl, sym, ap, subst, ◌∙◌, append_assoc, cond, arith}
use Rattle.std.specs.Prelude.{if◌then◌else◌}
use Rattle.std.specs.Option.{option_and_then}
use Rattle.std.specs.List.{flat_map, AllByRecursion as Each}
use Rattle.pe_base.specs.declared.place.Place.{Place}
use Rattle.pe_base.specs.Tree.Dim.{IsDim}
use Rattle.pe_base.specs.Tree.Curve.{children}
use Rattle.pe_base.specs.Life.Kinds.{is_hanging}
use Rattle.pe_base.specs.Steps.Faces.{Touch, corner_touches}
use Rattle.pe_base.specs.Steps.Stacks.{is_stack}
use Rattle.pe_base.specs.Walk.Course.{Course, done, and_then, each}
use Rattle.pe_base.specs.Walk.Core.{Setting, Own, way}
use Rattle.pe_base.specs.Walk.Streams.{if_walks, walked_children, walked_cells}
use Rattle.pe_base.specs.Walk.Touches.{kind_below}
use Rattle.pe_base.specs.Walk.Touches as model
use Rattle.pe_base.specs.Walk.Walk as walks
use Rattle.pe_base.specs.Walk.Working.{Working}
use Rattle.pe_stacks.specs.Holdings.{items_at, stack_count}
use Rattle.pe_stacks.specs.Grid.{cell_input_stack}
use Rattle.pe_adapt.specs.CountedTouches.{Machine, StreamStacks}
use Rattle.pe_walk.specs.Machine as machine
use Rattle.pe_order.specs.Laws.{IsCell}
use Rattle.pe_order.specs.Frames.{AfterEnter}
use Rattle.pe_order.specs.Tokens.{Outlook, Tokens, given, each_some, cell_source, touch_of, load, enter, walk, numbers}
use Rattle.pe_order.specs.Takings.{loads_of, takes, gives, cell_takes, cell_gives, met_after, Due}
use Rattle.pe_walk.specs.Standing.{ForeseenStart, Stage, IsStage, Holds}
use Rattle.pe_walk.specs.Gridded.{stream_stacks_of}
use Rattle.pe_walk.specs.FaceLaw.{Moment, MayWalk, enters, InTurn, ComeAfter, FirstChildMayBeWalked}
use Rattle.pe_order.proofs.Trees.{cell_position}
use Rattle.pe_order.proofs.Tokens.Loads.{Loaded, vertices_of, takes_by, all_loads, due-split}
use Rattle.pe_order.proofs.Tokens.MoveFrames.{what_moves_change}
use Rattle.pe_order.proofs.Tokens.OneStack.{Passage, own_takes, token_stretch, passage}
use Rattle.pe_order.proofs.Tokens.Walks.{CellPassage, cell_passage, cell_stretch, own_touches_are}
use Rattle.pe_order.proofs.Tokens.Traversals.{walk_of_a_cell}
use Rattle.pe_walk.proofs.Simulation.Matching.{Sim, sim-then, both_some, some_same}
use Rattle.pe_walk.proofs.Simulation.CellsCounted.{count_leaf}
use Rattle.pe_walk.proofs.Simulation.Loads.Leaf.{load_leaf}
use Rattle.pe_walk.proofs.Simulation.Visits.Entering.{enter_leaf}
use Rattle.pe_walk.proofs.Simulation.Leaves.{image_of, in_hand, own_in_hand, after_count}
use Rattle.pe_walk.proofs.Simulation.Cells.Corners.{stage_of}
use Rattle.pe_walk.proofs.Simulation.Cells.Inside.{IsOpen, at_child, down-holds}
use Rattle.pe_walk.proofs.Simulation.Cells.Children.{below_found, kids_stages}
use Rattle.pe_walk.proofs.Simulation.Cells.Walks.{all_loaded, opened, few, is_open, all_loads_sim}
use Rattle.pe_walk.proofs.Simulation.FirstCells.{in-turn, imaged-done, one_deeper, any_room}

-- what lies beneath a cell that is read
beneath_it : (o : Outlook) (s : ℕ) (cell : Place) (rest after : List Place) → cell_takes o 0 s cell ++ rest ≡ (if is_stack s (cell_source o cell) then cell ∷ after else after) → after ≡ rest
beneath_it o s cell rest after = go (o.reads_cell cell) (s == cell_input_stack o.swapped) refl
  where
    behind_it : (xs ys : List Place) → (cell ∷ xs) ≡ (cell ∷ ys) → ys ≡ xs
    behind_it xs ys e = cc

    go : (r b : Bool) → (s == cell_input_stack o.swapped) ≡ b
        → (if b then cond r (cell ∷ []) [] else []) ++ rest ≡ (if is_stack s (given r (Some (cell_input_stack o.swapped))) then cell ∷ after else after) → after ≡ rest
    go true true e h = behind_it rest after (h ∙ ap (λ b. if b then cell ∷ after else after) e)
    go true false e h = sym (h ∙ ap (λ b. if b then cell ∷ after else after) e)
    go false true e h = sym h
    go false false e h = sym h

-- the walk of a cell begins with its loads, and enters it
record Begins (o : Outlook) (cell : Place) (t : Tokens) : Type 0 where
  loaded : Tokens
  loads : each_some (load o cell) (reverse (numbers o)) t ≡ Some loaded
  entered : Tokens
  enters : enter o cell loaded ≡ Some entered

walk-begins : (o : Outlook) (levels : ℕ) (cell : Place) (t after : Tokens) → walk o levels cell t ≡ Some after → Begins o cell t
walk-begins o zero cell t after run =
    let first = both_some (each_some (load o cell) (reverse (numbers o)) t) _ after run in
    let next = both_some (enter o cell first.0) _ after first.2 in
    record { loaded = first.0; loads = first.1; entered = next.0; enters = next.1 }
walk-begins o (suc levels) cell t after run =
    let first = both_some (each_some (load o cell) (reverse (numbers o)) t) _ after run in
    let next = both_some (enter o cell first.0) _ after first.2 in
    record { loaded = first.0; loads = first.1; entered = next.0; enters = next.1 }

module _ {Plan : Type 0} (set : Setting Plan) (at : Moment) (m : Machine) (may : MayWalk set at m) where
  abbrev o : Outlook
  o = at.foreseen_start.outlook

  abbrev e : ForeseenStart
  e = at.foreseen_start

  abbrev st : Stage
  st = at.stage

  abbrev cell : Place
  cell = at.stage.cell

  abbrev streams : StreamStacks
  streams = stream_stacks_of at.foreseen_start.outlook.swapped

  dim : IsDim o.axes
  dim = subst IsDim (sym may.foreseen_start.foresees.axes) may.foreseen_start.foresees.dim

  token_cell : IsCell o.axes o.way cell
  token_cell = subst (λ n. IsCell n o.way cell) (sym may.foreseen_start.foresees.axes) may.stage.cell

  -- the moves of the places
  begins : Begins o cell at.places
  begins =
      let run = walk_of_a_cell o at.walked (set.rules.greatest set.plan) at.levels cell dim may.foreseen_start.grown token_cell may.deep at.beneath at.cells_beneath at.places may.takes in
      walk-begins o at.levels cell at.places run.0 run.1

  -- the cells below, and those that come after the cell
  abbrev inner_of : ℕ → List Place
  inner_of zero = at.rest
  inner_of (suc levels) = flat_map (walked_cells o.axes o.way o.walks levels) (walked_children o.axes o.way o.walks cell) ++ at.rest

  ahead_is : (levels : ℕ) → walked_cells o.axes o.way o.walks levels cell ++ at.rest ≡ cell ∷ inner_of levels
  ahead_is zero = refl
  ahead_is (suc levels) = refl

  abbrev inner : List Place
  inner = inner_of at.levels

  -- the cell's stage, entered
  abbrev open_stage : Stage
  open_stage = opened set.axes inner st

  open_is : IsOpen open_stage
  open_is = is_open set e at.walked any_room may.foreseen_start inner st may.stage

  staged : (s : Stage) → s.cell ≡ st.cell → s.parent ≡ st.parent → IsStage set.axes o s
  staged s same above = stage_of set e any_room st s same above may.stage

  abbrev loads_model : Working → Course Working
  loads_model = each (model.load_corner set st.parent cell) (reverse (walks.corner_numbers set))

  abbrev by_address : Working → Course Working
  by_address w = and_then (model.count_cell set cell w) (λ w. and_then (loads_model w) (model.enter_cell set st.parent cell))

  -- up to there the machine is the image of the walk by address
  enters_sim : Sim any_room (Holds set e st) (image_of set e st.parent) (Holds set e (opened set.axes (inner_of at.levels) at.stage)) (own_in_hand set e (opened set.axes (inner_of at.levels) at.stage))
      by_address (enters set streams cell) (λ t. option_and_then (λ t. option_and_then (enter o cell) (each_some (load o cell) (reverse (numbers o)) t)) (Some t))
  enters_sim =
      let s1 : Stage = after_count set.axes st in
      let s2 : Stage = all_loaded set.axes st in
      let most = few set e at.walked any_room may.foreseen_start in
      let moves : Tokens → Option Tokens = each_some (load o cell) (reverse (numbers o)) in
      sim-then any_room (Holds set e st) (image_of set e st.parent) (Holds set e s1) (image_of set e st.parent) (Holds set e open_stage) (own_in_hand set e open_stage)
      (model.count_cell set cell) (machine.count_cell set streams cell) (λ t. Some t)
      (λ w. and_then (loads_model w) (model.enter_cell set st.parent cell))
      (λ m. and_then (machine.load_all set streams cell (2 ^ set.axes) [] m) (λ x. machine.enter_cell set streams cell x.0 x.1))
      (λ t. option_and_then (enter o cell) (moves t))
      (count_leaf set e at.walked may.foreseen_start any_room st may.stage)
      (sim-then any_room (Holds set e s1) (image_of set e st.parent) (Holds set e s2) (in_hand set e s2) (Holds set e open_stage) (own_in_hand set e open_stage)
      loads_model (machine.load_all set streams cell (2 ^ set.axes) []) moves
      (model.enter_cell set st.parent cell) (λ x. machine.enter_cell set streams cell x.0 x.1) (enter o cell)
      (all_loads_sim set e at.walked any_room may.foreseen_start (load_leaf set e at.walked any_room may.foreseen_start) s1 (staged s1 refl refl) may.unloaded (omega (arith, most)))
      (enter_leaf set e at.walked any_room may.foreseen_start s2 inner (staged s2 refl refl) refl (may.ahead ∙ ahead_is at.levels) (omega (arith, most)) (omega arith)))

  -- the cell was entered
  record Entered (it : Own × Machine) : Type 0 where
    working : Working
    holds : Holds set e open_stage working begins.entered
    hand : own_in_hand set e open_stage working begins.entered ≡ it

  entered : (it : Own × Machine) → (enters set streams cell m).ending ≡ done it → Entered it
  entered it ends =
      let alike = enters_sim at.working at.places begins.entered may.holds (ap (option_and_then (enter o cell)) begins.loads ∙ begins.enters) in
      let now = imaged-done (λ w. own_in_hand set e open_stage w begins.entered) (by_address at.working).ending it
      (sym alike.same.ending ∙ ap (λ (x : Machine). (enters set streams cell x).ending) may.image ∙ ends) in
      record { working = now.0; holds = alike.holds now.0 now.1; hand = now.2 }

  -- its children are walked
  children_walked : (it : Own × Machine) → Entered it → is_hanging (kind_below it.0.corners) ≡ false → o.walks cell ≡ true
  children_walked it now some =
      let found = below_found set e at.walked any_room may.foreseen_start open_stage now.working begins.entered (staged open_stage refl refl) open_is now.holds in
      may.foreseen_start.foresees.walks cell ∙ ap not (ap is_hanging (sym found) ∙ ap (λ (x : Own × Machine). is_hanging (kind_below x.0.corners)) now.hand ∙ some)

  -- so there are levels below it
  some_levels : o.walks cell ≡ true → (levels : ℕ) × (at.levels ≡ suc levels)
  some_levels goes = go at.levels refl (may.foreseen_start.grown.walks_within cell goes)
    where
      go : (n : ℕ) → at.levels ≡ n → cell.level < set.rules.greatest set.plan → (levels : ℕ) × (at.levels ≡ suc levels)
      go zero same below = absurd (omega (arith, same, below, may.deep))
      go (suc levels) same below = (levels, same)

  module _ (levels : ℕ) (more : at.levels ≡ suc levels) where
    abbrev kids : List Place
    kids = walked_children o.axes o.way o.walks cell

    abbrev own : List Touch
    own = reverse (corner_touches o.axes cell)

    pass : (s : ℕ) → Passage o (suc levels) s cell (token_stretch o levels s) (walked_children o.axes o.way o.walks cell) (at.beneath s)
    pass s = passage o at.walked may.foreseen_start.grown.is_walk dim cell token_cell (λ child c. may.foreseen_start.grown.below cell child token_cell c) levels s (at.beneath s)

    cell_pass : (s : ℕ) → CellPassage o (suc levels) s cell (cell_stretch o levels s) (walked_children o.axes o.way o.walks cell) (at.cells_beneath s)
    cell_pass s = cell_passage o levels s cell (at.cells_beneath s)

    dues : Due o own at.places.met × Due o (flat_map (loads_of o levels) (walked_children o.axes o.way o.walks cell)) (met_after o (reverse (corner_touches o.axes cell)) at.places.met)
    dues = due-split o own (flat_map (loads_of o levels) kids) at.places.met (subst (λ n. Due o (loads_of o n cell) at.places.met) more may.takes.due)

    -- what the loads of the cell's own corners leave on the stacks
    loaded : Loaded o (map (touch_of o cell) (reverse (numbers o))) (λ s. (pass s).inner) at.places begins.loaded
    loaded =
        let own_are = own_touches_are o dim cell in
        let position = cell_position o.axes o.way cell dim.1 token_cell in
        let its = all_loads o cell (reverse (numbers o)) (λ s. (pass s).inner) at.places (subst (λ ts. Due o ts at.places.met) (sym own_are) dues.0)
        (λ s. may.takes.takes_vertices s ∙ ap (λ n. takes o n s cell ++ at.beneath s) more ∙ (pass s).own_takes
        ∙ ap (λ xs. xs ++ (pass s).inner) (sym (own_takes o dim.1 s cell position) ∙ ap (vertices_of (takes_by o s)) (sym own_are))) in
        subst (Loaded o (map (touch_of o cell) (reverse (numbers o))) (λ s. (pass s).inner) at.places) (some_same its.0 begins.loaded (sym its.1 ∙ begins.loads)) its.2

    -- and what is left as it is entered
    changed : AfterEnter o cell begins.loaded begins.entered
    changed = (what_moves_change o dim).enters cell begins.loaded begins.entered begins.enters

    vertices_left : (s : ℕ) → items_at begins.entered.vertices s ≡ (pass s).inner
    vertices_left s = ap (λ held. items_at held s) changed.vertices ∙ loaded.vertices s

    cells_left : (s : ℕ) → items_at begins.entered.cells s ≡ (cell_pass s).inner
    cells_left s =
        beneath_it o s cell (cell_pass s).inner (items_at begins.entered.cells s)
        (sym (may.takes.takes_cells s ∙ ap (λ n. cell_takes o n s cell ++ at.cells_beneath s) more ∙ (cell_pass s).own_takes)
        ∙ ap (λ cells. items_at cells s) (sym loaded.cells) ∙ changed.items s)

    met_left : begins.entered.met ≡ met_after o own at.places.met
    met_left = changed.met ∙ loaded.met ∙ ap (λ ts. met_after o ts at.places.met) (own_touches_are o dim cell)

    module _ (it : Own × Machine) (now : Entered it) (goes : o.walks cell ≡ true) (first : Place) (others : List Place) (children_are : children set.axes (way set) cell ≡ first ∷ others) where
      kids_of : children set.axes o.way cell ≡ first ∷ others
      kids_of = ap (λ way. children set.axes way cell) may.foreseen_start.foresees.ways ∙ children_are

      kids_are : walked_children o.axes o.way o.walks cell ≡ first ∷ others
      kids_are = ap (λ b. if_walks o.axes o.way o.walks b (children o.axes o.way cell)) goes ∙ ap (λ axes. children axes o.way cell) may.foreseen_start.foresees.axes ∙ kids_of

      stages : Each (λ child. IsStage set.axes o (at_child set.axes open_stage child)) (first ∷ others)
      stages = subst (λ cells. Each (λ child. IsStage set.axes o (at_child set.axes open_stage child)) cells) kids_of (kids_stages set e at.walked any_room may.foreseen_start open_stage may.stage.cell goes)

      vertices_in_turn : (s : ℕ) → InTurn (takes o levels s) (gives o levels s) (first ∷ others) (items_at begins.entered.vertices s)
      vertices_in_turn s =
          subst (λ cells. InTurn (takes o levels s) (gives o levels s) cells (items_at begins.entered.vertices s)) kids_are
          (subst (λ items. InTurn (takes o levels s) (gives o levels s) kids items) (sym (vertices_left s)) (in-turn (token_stretch o levels s) kids (pass s).inner (pass s).outer (pass s).stretches))

      cells_in_turn : (s : ℕ) → InTurn (cell_takes o levels s) (cell_gives o levels s) (first ∷ others) (items_at begins.entered.cells s)
      cells_in_turn s =
          subst (λ cells. InTurn (cell_takes o levels s) (cell_gives o levels s) cells (items_at begins.entered.cells s)) kids_are
          (subst (λ items. InTurn (cell_takes o levels s) (cell_gives o levels s) kids items) (sym (cells_left s)) (in-turn (cell_stretch o levels s) kids (cell_pass s).inner (cell_pass s).outer (cell_pass s).stretches))

      due : Due o (loads_of o levels first ++ flat_map (loads_of o levels) others) begins.entered.met
      due = subst (λ cells. Due o (flat_map (loads_of o levels) cells) begins.entered.met) kids_are (subst (Due o (flat_map (loads_of o levels) kids)) (sym met_left) dues.1)

      abbrev moment : Moment
      moment = record at {
        stage = at_child set.axes open_stage first;
        levels = levels;
        rest = flat_map (walked_cells o.axes o.way o.walks levels) others ++ at.rest;
        beneath = λ s. (vertices_in_turn s).0;
        cells_beneath = λ s. (cells_in_turn s).0;
        working = now.working;
        places = begins.entered;
      }

      -- a child is one level below the cell
      deeper : first.level ≡ cell.level + 1
      deeper = one_deeper set.axes o (at_child set.axes open_stage first) stages.0

      may_walk : MayWalk set moment (machine.inside set streams it.0 it.1)
      may_walk =
          let below = walked_cells o.axes o.way o.walks levels in
          record {
            foreseen_start = may.foreseen_start;
            stage = stages.0;
            unloaded = refl;
            deep = omega (arith, may.deep, deeper, more);
            ahead = ap inner_of more ∙ ap (λ cells. flat_map below cells ++ at.rest) kids_are ∙ append_assoc (below first) (flat_map below others) at.rest;
            holds = down-holds set e open_stage first now.working begins.entered open_is now.holds;
            takes = record {
              stacks = ap stack_count changed.vertices ∙ loaded.stacks ∙ may.takes.stacks;
              cell_stacks = changed.stacks ∙ ap stack_count loaded.cells ∙ may.takes.cell_stacks;
              takes_vertices = λ s. (vertices_in_turn s).1;
              takes_cells = λ s. (cells_in_turn s).1;
              due = (due-split o (loads_of o levels first) (flat_map (loads_of o levels) others) begins.entered.met due).0;
            };
            image = ap (λ (x : Own × Machine). machine.inside set streams x.0 x.1) now.hand;
          }

      come_after : ComeAfter set others at.rest moment
      come_after = record {
        stages = stages.1;
        ahead = refl;
        vertices = λ s. (vertices_in_turn s).2;
        cells = λ s. (cells_in_turn s).2;
        due = (due-split o (loads_of o levels first) (flat_map (loads_of o levels) others) begins.entered.met due).1;
      }

pub first_child : {Plan : Type 0} → FirstChildMayBeWalked Plan
first_child set greatest stream cell_stream m it first others at called ends some children_are =
    let may = called.may in
    let now = entered set at m may it ends in
    let goes = children_walked set at m may it now some in
    let below = some_levels set at m may goes in (
      moment set at m may below.0 below.1 it now goes first others children_are,
      record {
        here = record {
          cell = refl;
          levels = omega (arith, deeper set at m may below.0 below.1 it now goes first others children_are, called.here.levels, below.1);
          input = called.here.input;
          cell_input = called.here.cell_input;
        };
        may = may_walk set at m may below.0 below.1 it now goes first others children_are;
      },
      come_after set at m may below.0 below.1 it now goes first others children_are,
    )
