-- When an event may be called.
use Rattle.std.specs.Prelude.{ℕ, ◌≤◌, ◌^◌, All}
use Rattle.pe_base.specs.declared.place.Place.{Place}
use Rattle.pe_base.specs.Limits.{most_levels, most_traversals}

-- traversals are numbered from 1
pub record IsTraversal (traversal : ℕ) : Type 0 where
  pub some : 1 ≤ traversal
  pub few : traversal ≤ most_traversals

-- a place below the root, of a cell or of a vertex
pub record IsBelowRoot (place : Place) : Type 0 where
  pub deep : 1 ≤ place.level
  pub level : place.level ≤ most_levels
  pub pos : All (λ x. x ≤ 3 ^ place.level) place.pos
