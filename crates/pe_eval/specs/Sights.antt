-- What a view shows: what the event sees, the numbers of the whole grid, and what stays while a body runs.
use Rattle.std.specs.Prelude.{ℕ, ℤ, List, [], ◌∷◌}
use Rattle.std.specs.Borrow.{GName}
use Rattle.pe_base.specs.declared.event.Sort.{Sort}
use Rattle.pe_base.specs.declared.event.Sort.TheVariants as sort
use Rattle.pe_base.specs.Acts.Effects.{Seen, plain_sight}
use Rattle.pe_base.specs.Acts.Moments.{IsTraversal, IsBelowRoot}
use Rattle.pe_stacks.specs.Corners.{IsFull}
use Rattle.pe_stacks.specs.Sights.{fields_numbers, vertex_sight, cell_sight}
use Rattle.pe_check.specs.Fits.{Reach}
use Rattle.pe_eval.specs.declared.view.View.{View}
use Rattle.pe_eval.specs.declared.view.View.TheVariants.{Plain, Vertex, Cell}
use Rattle.pe_eval.specs.Names.{Situation}
use Rattle.pe_eval.specs.Meaning.{Setting, scene_of}

-- the numbers of the whole grid
abbrev pub globals_of : View → List ℤ
globals_of (Plain t globals) = globals.now.a
globals_of (Vertex t max_level at globals vertex parents parent) = globals.now.a
globals_of (Cell t max_level at globals cell corners parents parent) = globals.now.a

-- what the event sees
abbrev pub sight : View → Seen
sight (Plain t globals) = plain_sight
sight (Vertex t max_level at globals vertex parents parent) = vertex_sight fields_numbers at vertex.now parents.now parent.now
sight (Cell t max_level at globals cell corners parents parent) = cell_sight fields_numbers at cell.now corners.now parents.now parent.now

-- what stays while a body runs: all that is lent and where it is lent from, but for what the event sees and the numbers
-- of the whole grid
pub record Frame : Type 0 where
  pub sort : Sort
  pub setting : Setting
  pub dim : ℕ
  pub lent : List GName

abbrev pub frame : View → Frame
frame (Plain t globals) = record {
  sort = sort.Plain;
  setting = record { traversal = t; max_level = 0 };
  dim = 2;
  lent = globals.ghost_name ∷ [];
}
frame (Vertex t max_level at globals vertex parents parent) = record {
  sort = sort.Vertex;
  setting = record { traversal = t; max_level = max_level };
  dim = parents.now.dim;
  lent = globals.ghost_name ∷ vertex.ghost_name ∷ parents.ghost_name ∷ parent.ghost_name ∷ [];
}
frame (Cell t max_level at globals cell corners parents parent) = record {
  sort = sort.Cell;
  setting = record { traversal = t; max_level = max_level };
  dim = parents.now.dim;
  lent = globals.ghost_name ∷ cell.ghost_name ∷ corners.ghost_name ∷ parents.ghost_name ∷ parent.ghost_name ∷ [];
}

-- what names are read in
abbrev pub situation : View → Situation
situation view = scene_of (frame view).setting (sight view) (globals_of view)

-- a body may speak of all that the view lends: eight numbers of each kind
abbrev pub reach_of : View → Reach
reach_of view = record { sort = (frame view).sort; dim = (frame view).dim; vertex_fields = 8; cell_fields = 8; global_fields = 8 }

-- the view is one of a walk: its corners are all there, and those of a cell have the dimension of its parents
abbrev pub IsReady : View → Type 0
IsReady (Plain t globals) = IsTraversal t
IsReady (Vertex t max_level at globals vertex parents parent) = IsTraversal t × IsBelowRoot at × IsFull parents.now.dim parents.now
IsReady (Cell t max_level at globals cell corners parents parent) =
    IsTraversal t × IsBelowRoot at × IsFull parents.now.dim parents.now × IsFull parents.now.dim corners.now
