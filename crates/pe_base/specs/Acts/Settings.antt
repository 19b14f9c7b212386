-- The limits of a grid's settings.
use Rattle.std.specs.Prelude.{◌≤◌, ℕ}
use Rattle.pe_base.specs.Limits.{most_levels, least_cells, most_cells}

-- levels: a grid has one at least, and starts with no more than it may have
pub record AreLevels (max_level start_level : ℕ) : Type 0 where
  pub some : 1 ≤ start_level
  pub within : start_level ≤ max_level
  pub few : max_level ≤ most_levels

-- how many cells a traversal may walk
pub record IsCellLimit (max_cells : ℕ) : Type 0 where
  pub some : least_cells ≤ max_cells
  pub few : max_cells ≤ most_cells
