-- A traversal from its first event to its last, in model and machine alike.
use Rattle.std.proofs.Common.{◌≡◌, ℕ, suc, ◌+◌, ◌^◌, Bool, true, false, not, ◌==◌, List, [], ◌∷◌, Option, Some, None, refl, sym, ap, ap₂, subst, ◌∙◌, append-nil, arith}
use Rattle.std.specs.Prelude.{if◌then◌else◌}
use Rattle.std.specs.Option.{option_and_then}
use Rattle.std.specs.List.{flat_map, AllByRecursion as Each}
use Rattle.pe_base.specs.declared.place.Place.{Place}
use Rattle.pe_base.specs.declared.kind.Kind.TheVariants.{Kept, Born}
use Rattle.pe_base.specs.declared.event.Event.TheVariants.{BeginIteration, EndIteration}
use Rattle.pe_base.specs.Tree.Places.{root}
use Rattle.pe_base.specs.Tree.Curve.{children}
use Rattle.pe_base.specs.Life.Kinds.{is_hanging}
use Rattle.pe_base.specs.Walk.Course.{Push, Course, and_then, each}
use Rattle.pe_base.specs.Walk.Core.{Setting, way}
use Rattle.pe_base.specs.Walk.Working.{Working}
use Rattle.pe_base.specs.Walk.Walk as walks
use Rattle.pe_base.specs.Walk.Streams.{walked_cells}
use Rattle.pe_adapt.specs.CountedTouches.{Machine}
use Rattle.pe_walk.specs.Machine as machine
use Rattle.pe_order.specs.Tokens.{Tokens, each_some}
use Rattle.pe_order.specs.Tokens as tokens
use Rattle.pe_walk.specs.Standing.{ForeseenStart, Stage, IsStage, Holds, IsForeseenStart}
use Rattle.pe_order.proofs.Trees.{root_is_cell}
use Rattle.pe_walk.proofs.Simulation.Matching.{Sim, sim-then, sim-along}
use Rattle.pe_walk.proofs.Simulation.Leaves.{image_of, streams, CountLeaf, LoadLeaf, EnterLeaf, LeaveLeaf, StoreLeaf, PlainLeaf, WalkSim, at_root, RootSim}
use Rattle.pe_walk.proofs.Simulation.Cells.Inside.{at_child}
use Rattle.pe_walk.proofs.Simulation.Cells.Children.{kids, kids_stages, between, children_along}
use Rattle.pe_walk.proofs.Simulation.Cells.Walks.{walk_sim}

module _ {Plan : Type 0} (set : Setting Plan) (e : ForeseenStart) (walked : Place → Bool) (room : Push → Type 0) (is : IsForeseenStart set e walked) where
  -- the root's children are walked
  pub root_goes : e.outlook.walks root ≡ true
  root_goes = is.foresees.walks root ∙ ap (λ kind. not (is_hanging kind)) (is.foresees.root_below root refl) ∙ go (set.traversal == 1)
    where
      go : (b : Bool) → not (is_hanging (if b then Born else Kept)) ≡ true
      go true = refl
      go false = refl

  -- the root with its corners in hand
  abbrev pub rooted : Stage
  rooted = record { out = 0; parent = root; cell = root; from = 0; owed = 0; unstored = 0; counted = 0; entered = root ∷ []; ahead = [] }

  -- the children of the root
  root_kids_sim : (levels : ℕ) → WalkSim set e room levels
      → Sim room (Holds set e (at_root set e room (flat_map (walked_cells e.outlook.axes e.outlook.way e.outlook.walks levels) (children e.outlook.axes e.outlook.way root)))) (image_of set e root)
      (Holds set e (at_root set e room [])) (image_of set e root)
      (each (walks.walk_cell set levels root) (children set.axes (way set) root)) (each (machine.walk_cell set (streams set e room) (suc levels)) (children set.axes (way set) root))
      (each_some (tokens.walk e.outlook levels) (children e.outlook.axes e.outlook.way root))
  root_kids_sim levels sim =
      let tokens_kids : children e.outlook.axes e.outlook.way root ≡ kids set e walked room is root = ap (λ axes. children axes e.outlook.way root) is.foresees.axes in
      let model_kids : children set.axes (way set) root ≡ kids set e walked room is root = ap (λ way. children set.axes way root) (sym is.foresees.ways) in
      let stages = kids_stages set e walked room is rooted (root_is_cell set.axes e.outlook.way) root_goes in
      subst (λ cells. Sim room (Holds set e (at_root set e room (flat_map (walked_cells e.outlook.axes e.outlook.way e.outlook.walks levels) cells))) (image_of set e root) (Holds set e (at_root set e room [])) (image_of set e root)
      (each (walks.walk_cell set levels root) (children set.axes (way set) root)) (each (machine.walk_cell set (streams set e room) (suc levels)) (children set.axes (way set) root)) (each_some (tokens.walk e.outlook levels) cells)) (sym tokens_kids)
      (subst (λ cells. Sim room (Holds set e (at_root set e room (flat_map (walked_cells e.outlook.axes e.outlook.way e.outlook.walks levels) (kids set e walked room is root)))) (image_of set e root) (Holds set e (at_root set e room [])) (image_of set e root)
      (each (walks.walk_cell set levels root) cells) (each (machine.walk_cell set (streams set e room) (suc levels)) cells) (each_some (tokens.walk e.outlook levels) (kids set e walked room is root))) (sym model_kids)
      (along (kids set e walked room is root) stages))
    where
      -- between the children the stage is that of the root
      same : (cells : List Place) → between set e walked room is levels sim rooted [] cells ≡ at_root set e room (flat_map (walked_cells e.outlook.axes e.outlook.way e.outlook.walks levels) cells)
      same cells = ap₂ (λ out ahead. record (at_root set e room []) { out = out; ahead = ahead }) (let z : 0 + 2 ^ set.axes ≡ 2 ^ set.axes = omega arith in z) (append-nil (flat_map (walked_cells e.outlook.axes e.outlook.way e.outlook.walks levels) cells))

      along : (cells : List Place) → Each (λ c. IsStage set.axes e.outlook (at_child set.axes rooted c)) cells
          → Sim room (Holds set e (at_root set e room (flat_map (walked_cells e.outlook.axes e.outlook.way e.outlook.walks levels) cells))) (image_of set e root) (Holds set e (at_root set e room [])) (image_of set e root)
          (each (walks.walk_cell set levels root) cells) (each (machine.walk_cell set (streams set e room) (suc levels)) cells) (each_some (tokens.walk e.outlook levels) cells)
      along cells stages =
          subst (λ st. Sim room (Holds set e (at_root set e room (flat_map (walked_cells e.outlook.axes e.outlook.way e.outlook.walks levels) cells))) (image_of set e root) (Holds set e st) (image_of set e root)
          (each (walks.walk_cell set levels root) cells) (each (machine.walk_cell set (streams set e room) (suc levels)) cells) (each_some (tokens.walk e.outlook levels) cells)) (same [])
          (subst (λ st. Sim room (Holds set e st) (image_of set e root) (Holds set e (between set e walked room is levels sim rooted [] [])) (image_of set e root)
          (each (walks.walk_cell set levels root) cells) (each (machine.walk_cell set (streams set e room) (suc levels)) cells) (each_some (tokens.walk e.outlook levels) cells)) (same cells)
          (sim-along room (λ left. Holds set e (between set e walked room is levels sim rooted [] left)) (image_of set e root) (walks.walk_cell set levels root) (machine.walk_cell set (streams set e room) (suc levels)) (tokens.walk e.outlook levels) cells
          (children_along set e walked room is levels sim rooted [] cells stages)))

  -- to go on with what is given is to give it
  as_given : (x : Option Tokens) → option_and_then (λ t. Some t) x ≡ x
  as_given None = refl
  as_given (Some t) = refl

  -- from the first event to the last
  root_sim_from : (levels : ℕ) → PlainLeaf set e room → WalkSim set e room levels → RootSim set e room levels
  root_sim_from levels plain sim =
      let cells : List Place = flat_map (walked_cells e.outlook.axes e.outlook.way e.outlook.walks levels) (children e.outlook.axes e.outlook.way root) in
      let before : Stage = at_root set e room cells in
      let after : Stage = at_root set e room [] in
      let run : Tokens → Option Tokens = each_some (tokens.walk e.outlook levels) (children e.outlook.axes e.outlook.way root) in
      let model : Working → Course Working = each (walks.walk_cell set levels root) (children set.axes (way set) root) in
      let machine' : Machine → Course Machine = each (machine.walk_cell set (streams set e room) (suc levels)) (children set.axes (way set) root) in
      subst (λ tokens'. Sim room (Holds set e before) (image_of set e root) (Holds set e after) (image_of set e root)
      (λ w. and_then (walks.plain set BeginIteration w) (λ w. and_then (model w) (walks.plain set EndIteration)))
      (λ m. and_then (machine.plain set (streams set e room) BeginIteration m) (λ m. and_then (machine' m) (machine.plain set (streams set e room) EndIteration)))
      tokens') (λ i t. as_given (run t) i)
      (sim-then room (Holds set e before) (image_of set e root) (Holds set e before) (image_of set e root) (Holds set e after) (image_of set e root)
      (walks.plain set BeginIteration) (machine.plain set (streams set e room) BeginIteration) (λ t. Some t)
      (λ w. and_then (model w) (walks.plain set EndIteration)) (λ m. and_then (machine' m) (machine.plain set (streams set e room) EndIteration)) (λ t. option_and_then (λ t. Some t) (run t))
      (plain before BeginIteration)
      (sim-then room (Holds set e before) (image_of set e root) (Holds set e after) (image_of set e root) (Holds set e after) (image_of set e root)
      model machine' run (walks.plain set EndIteration) (machine.plain set (streams set e room) EndIteration) (λ t. Some t)
      (root_kids_sim levels sim) (plain after EndIteration)))

  -- A traversal from its first event to its last, with so many levels below those of the root's children.
  pub root_sim : CountLeaf set e room → LoadLeaf set e room → EnterLeaf set e room → LeaveLeaf set e room → StoreLeaf set e room → PlainLeaf set e room → (levels : ℕ) → RootSim set e room levels
  root_sim counts loads enters leaves stores plain levels = root_sim_from levels plain (walk_sim set e walked room is counts loads enters leaves stores levels)
