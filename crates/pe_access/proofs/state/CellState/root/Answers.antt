-- No face of the root has a neighbour.
use Rattle.std.proofs.Common.{[], ◌∷◌, rules}
use Rattle.pe_access.specs.Extents.{root_extent}
use Rattle.pe_access.proofs.state.CellState.root.Goals as goal

pub returns-clause-stands : goal.returns-clause-stands
returns-clause-stands c = record {
  grid = search rules;
  same_axes = search rules;
  same_way = search rules;
  same_level = search rules;
  extents = root_extent ∷ root_extent ∷ root_extent ∷ root_extent ∷ [];
  held = search rules;
  numbers = search rules;
}
