-- The limits of what a stream's header says.
use Rattle.std.specs.Prelude.{ℕ, ◌≤◌}
use Rattle.pe_base.specs.Limits.{most_levels, scenario_traversals}

-- how many levels a grid has below the root
pub record IsMaxLevel (max_level : ℕ) : Type 0 where
  pub some : 1 ≤ max_level
  pub few : max_level ≤ most_levels

-- how many traversals a scenario may make
pub record IsTraversalCount (traversals : ℕ) : Type 0 where
  pub some : 1 ≤ traversals
  pub few : traversals ≤ scenario_traversals
