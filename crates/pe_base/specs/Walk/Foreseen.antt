-- What is known of a traversal before it begins, from the grid and the traversal's number alone: no trigger that is set
-- during a traversal changes it.
--
--     was      the vertex is stored before the traversal
--     will     it is stored after it: it is inside, and on level 1, or a carrier of it is new
--     kind     by both; a vertex that is not hanging counts
--     state    from its first touch on, as far as old and new go
--     below    the kind of a cell's children, or hanging: they are not walked
--     walked   the root, and the children of a cell below which is walked
use Rattle.std.specs.Prelude.{ℕ, zero, suc, ◌+◌, Bool, false, not, ◌&&◌, ◌||◌, ◌==◌, is_some, if◌then◌else◌}
use Rattle.std.specs.Option.{unwrap_or}
use Rattle.std.specs.List.{list_any}
use Rattle.pe_base.specs.declared.place.Place.{Place}
use Rattle.pe_base.specs.declared.state.State.{State}
use Rattle.pe_base.specs.declared.state.State.TheVariants.{Unrefined}
use Rattle.pe_base.specs.declared.kind.Kind.{Kind}
use Rattle.pe_base.specs.declared.kind.Kind.TheVariants.{Kept, Born, Dying, Hanging}
use Rattle.pe_base.specs.Tree.Places.{corners, parent_of}
use Rattle.pe_base.specs.Life.States.{is_old, is_new}
use Rattle.pe_base.specs.Life.Table.{first_touch, start_state}
use Rattle.pe_base.specs.Life.Kinds.{kind_from, is_hanging, is_inside}
use Rattle.pe_base.specs.Life.Carriers.{carriers}
use Rattle.pe_base.specs.Walk.Maps.{at}
use Rattle.pe_base.specs.Walk.Grids.{Grid, state_in}

-- the number of the traversal that comes next
abbrev pub next_traversal : Grid → ℕ
next_traversal grid = grid.finished + 1

module _ (start_level : ℕ) (grid : Grid) where
  abbrev pub was : Place → Bool
  was vertex = is_some (at grid.vertices vertex)

  -- the state of a vertex of a kind after its first touch
  abbrev pub touched_state : Kind → Place → State
  touched_state Kept vertex = first_touch (unwrap_or (state_in grid vertex) Unrefined) Kept
  touched_state Dying vertex = first_touch (unwrap_or (state_in grid vertex) Unrefined) Dying
  touched_state Born vertex = start_state (next_traversal grid) vertex.level start_level
  touched_state Hanging vertex = Unrefined

  -- by levels, each from the one above it
  abbrev pub will_on : ℕ → Place → Bool
  will_on zero vertex = false
  will_on (suc zero) vertex = is_inside grid.axes vertex
  will_on (suc (suc level)) vertex =
      is_inside grid.axes vertex
      && list_any (λ carrier. is_new (touched_state (kind_from (was carrier) (will_on (suc level) carrier)) carrier)) (carriers vertex)

  abbrev pub will : Place → Bool
  will vertex = will_on vertex.level vertex

  abbrev pub kind_foreseen : Place → Kind
  kind_foreseen vertex = kind_from (was vertex) (will vertex)

  abbrev pub counts : Place → Bool
  counts vertex = not (is_hanging (kind_foreseen vertex))

  abbrev pub state_foreseen : Place → State
  state_foreseen vertex = touched_state (kind_foreseen vertex) vertex

  abbrev pub old_foreseen : Place → Bool
  old_foreseen vertex = is_old (state_foreseen vertex)

  abbrev pub new_foreseen : Place → Bool
  new_foreseen vertex = is_new (state_foreseen vertex)

  abbrev pub below : Place → Kind
  below cell =
      if cell.level == 0
      then (if next_traversal grid == 1 then Born else Kept)
      else kind_from (list_any old_foreseen (corners grid.axes cell)) (list_any new_foreseen (corners grid.axes cell))

  -- the children of a cell are walked
  abbrev pub walks : Place → Bool
  walks cell = not (is_hanging (below cell))

  abbrev pub walked : Place → Bool
  walked cell = cell.level == 0 || walks (parent_of cell)
