-- Corners of which the last ones are full.
use Rattle.std.specs.Prelude.{◌≡◌, ℕ, ◌+◌, ◌^◌, List, ◌++◌, map, length, replicate, Some, None}
use Rattle.pe_stacks.specs.Corners.{CornerList}

-- the slots from a number on are full, and those before it empty
pub record FullFrom {X : Type 0} (axes first : ℕ) (corners : CornerList X) : Type 0 where
  pub vertices : List X
  pub slots : corners ≡ record { dim = axes; slots = replicate first None ++ map Some vertices }
  pub count : first + length vertices ≡ 2 ^ axes
