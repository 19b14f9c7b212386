-- What a call has in hand and on stacks, as a machine of lists sees it.
use Rattle.std.specs.Prelude.{◌≡◌, ℕ, ℤ, Bool, List, map, Option, None}
use Rattle.pe_base.specs.Life.States.{is_old, is_new}
use Rattle.pe_base.specs.Acts.Effects.{VertexRecord, Rules}
use Rattle.pe_base.specs.Walk.Core.{Setting, Family, Own}
use Rattle.pe_stacks.specs.declared.record.Vertex.{Vertex}
use Rattle.pe_stacks.specs.declared.record.CellRec.{CellRec}
use Rattle.pe_stacks.specs.Corners.{CornerList, IsFull}
use Rattle.pe_stacks.specs.Holdings.{Stack, Holdings}
use Rattle.pe_mapping.specs.Held.{Held, Keeps}
use Rattle.pe_stacks.specs.Sights.{Numbers, record_of, corner_records, seen_cell}

-- what is set for a traversal, by what the mapping holds
abbrev pub setting_of : {Plan : Type 0} → Rules Plan → Held Plan → ℕ → ℕ → ℕ → Setting Plan
setting_of rules held start_level max_cells traversal = record {
  rules = rules;
  plan = held.plan;
  axes = held.dim;
  start_level = start_level;
  max_cells = max_cells;
  traversal = traversal;
}

-- the same for events alone, to which no level and no count matters
abbrev pub setting_of_events : {Plan : Type 0} → Rules Plan → Held Plan → ℕ → Setting Plan
setting_of_events rules held traversal = setting_of rules held 0 0 traversal

-- the parent's corners, the parent and the mapping's list
abbrev pub family_in_hand : {V C : Type 0} → Numbers V C → CornerList (Vertex V) → CellRec C → List ℤ → Family
family_in_hand numbers parents parent list =
    record { parents = corner_records numbers.vertex parents; parent = seen_cell numbers.cell parent; list = list }

-- a family whose vertex was given up
abbrev pub nothing_of : Family → Option VertexRecord × Family
nothing_of family = (None, family)

-- of each vertex whether it is old and whether it is new; no event changes these ages
abbrev pub ages_of : List VertexRecord → List (Bool × Bool)
ages_of its = map (λ it. (is_old it.state, is_new it.state)) its

-- the ages of corners stay
abbrev pub KeepsAges : {V : Type 0} → (V → List ℤ) → CornerList (Vertex V) → CornerList (Vertex V) → Type 0
KeepsAges numbers old new = ages_of (corner_records numbers new) ≡ ages_of (corner_records numbers old)

-- corners in hand stay: all of a cell's are there afterwards, and their ages stay
pub record CornersStay {V : Type 0} (numbers : V → List ℤ) (axes : ℕ) (old new : CornerList (Vertex V)) : Type 0 where
  pub full : IsFull axes new
  pub ages : KeepsAges numbers old new

-- what no event changes of the mapping and of the parent's corners
pub record Stays {Plan V : Type 0} (numbers : V → List ℤ) (held held' : Held Plan) (old new : CornerList (Vertex V)) : Type 0 where
  pub keeps : Keeps held held'
  pub parents : CornersStay numbers held.dim old new

-- a cell's numbers and its corners
abbrev pub own_in_hand : {V C : Type 0} → Numbers V C → CellRec C → CornerList (Vertex V) → Own
own_in_hand numbers cell corners = record { cell = seen_cell numbers.cell cell; corners = corner_records numbers.vertex corners }

module _ {X Y : Type 0} (f : X → Y) where
  -- stacks of records as stacks of what is seen of them
  abbrev pub map_stack : Stack X → Stack Y
  map_stack stack = record { items = map f stack.items; pushes = stack.pushes; pops = stack.pops }

  abbrev pub map_holdings : Holdings X → Holdings Y
  map_holdings held = record { stacks = map map_stack held.stacks; fresh = held.fresh; spent = held.spent; out = held.out; most = held.most }

-- vertices on stacks
abbrev pub vertices_on_stacks : {V C : Type 0} → Numbers V C → Holdings (Vertex V) → Holdings VertexRecord
vertices_on_stacks numbers held = map_holdings (record_of numbers.vertex) held

-- cells on stacks
abbrev pub cells_on_stacks : {V C : Type 0} → Numbers V C → Holdings (CellRec C) → Holdings (List ℤ)
cells_on_stacks numbers held = map_holdings (seen_cell numbers.cell) held
