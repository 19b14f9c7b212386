-- A grid: what is kept of it between two traversals, by level and position.
use Rattle.std.specs.Prelude.{◌≡◌, ℕ, ℤ, Bool, true, ◌&&◌, ◌||◌, ◌==◌, ◌^◌, ◌≤◌, nat_lt, List, Option, Some, is_some, length, take, drop}
use Rattle.std.specs.Option.{option_map}
use Rattle.std.specs.List.{list_any, list_all}
use Rattle.pe_base.specs.declared.place.Place.{Place}
use Rattle.pe_base.specs.declared.state.State.{State}
use Rattle.pe_base.specs.declared.state.State.TheVariants.{Unrefined}
use Rattle.pe_base.specs.Tree.Dim.{IsDim}
use Rattle.pe_base.specs.Tree.Places.{corners, parent_of}
use Rattle.pe_base.specs.Life.States.{is_old}
use Rattle.pe_base.specs.Life.Table.{is_settled}
use Rattle.pe_base.specs.Life.Kinds.{is_inside}
use Rattle.pe_base.specs.Life.Carriers.{passes, is_carried}
use Rattle.pe_base.specs.Walk.Maps.{Map, nothing, at}
use Rattle.pe_base.specs.Limits.{most_levels}

-- what is stored of a vertex
pub record StoredVertex : Type 0 where
  pub state : State
  pub numbers : List ℤ

-- the axes, the greatest level that a cell may have, how many traversals are finished, the vertices and the cells with
-- their numbers, the root's numbers, and the mapping's list
pub record Grid : Type 0 where
  pub axes : ℕ
  pub greatest : ℕ
  pub finished : ℕ
  pub vertices : Map StoredVertex
  pub cells : Map (List ℤ)
  pub root : List ℤ
  pub list : List ℤ

-- a grid before its first traversal
abbrev pub new_grid : ℕ → ℕ → List ℤ → List ℤ → Grid
new_grid axes greatest root list = record { axes = axes; greatest = greatest; finished = 0; vertices = nothing; cells = nothing; root = root; list = list }

-- the state of a vertex, if the grid has it
abbrev pub state_in : Grid → Place → Option State
state_in grid vertex = option_map (λ stored. stored.state) (at grid.vertices vertex)

-- the place of a cell on level 1 or below
abbrev pub is_cell : ℕ → Place → Bool
is_cell axes cell =
    nat_lt 0 cell.level
    && length cell.pos == 4
    && list_all (λ x. nat_lt x (3 ^ cell.level)) (take axes cell.pos)
    && list_all (λ x. x == 0) (drop axes cell.pos)

-- by the states of a grid: a vertex is stored inside on level 1, and further down where it has a refined carrier
abbrev pub is_stored_vertex : ℕ → (Place → Option State) → Place → Bool
is_stored_vertex axes state_at vertex = is_inside axes vertex && (vertex.level == 1 || is_carried is_old state_at vertex)

-- a cell's corner is refined
abbrev pub is_refined_cell : ℕ → (Place → Option State) → Place → Bool
is_refined_cell axes state_at cell = list_any (λ vertex. passes is_old (state_at vertex)) (corners axes cell)

-- and a cell is stored on level 1, and further down where its parent has a refined corner
abbrev pub is_stored_cell : ℕ → (Place → Option State) → Place → Bool
is_stored_cell axes state_at cell = is_cell axes cell && (cell.level == 1 || is_refined_cell axes state_at (parent_of cell))

-- A grid between two traversals: it has these vertices and cells and no others, no vertex refines or erases, and none
-- past the greatest level is refined or to be.
pub record IsWellFormed (grid : Grid) : Type 0 where
  pub axes : IsDim grid.axes
  pub some_level : 1 ≤ grid.greatest
  pub few_levels : grid.greatest ≤ most_levels
  pub finished : 1 ≤ grid.finished
  pub vertices : (vertex : Place) → is_some (at grid.vertices vertex) ≡ is_stored_vertex grid.axes (state_in grid) vertex
  pub cells : (cell : Place) → is_some (at grid.cells cell) ≡ is_stored_cell grid.axes (state_in grid) cell
  pub settled : (vertex : Place) (state : State) → state_in grid vertex ≡ Some state → is_settled state ≡ true
  pub finest : (vertex : Place) (state : State) → state_in grid vertex ≡ Some state → grid.greatest ≤ vertex.level → state ≡ Unrefined
