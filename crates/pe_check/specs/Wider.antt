-- Where a body that fits an event fits too.
use Rattle.std.specs.Prelude.{◌≡◌, ◌≤◌, List, IsTrue}
use Rattle.pe_check.specs.declared.checked.Stmt.{Stmt}
use Rattle.pe_check.specs.Fits.{Reach, has_place, fits}

-- the same sort of event, of the same dimension if it has a place, and no fewer numbers of each kind
pub record IsWider (narrow wide : Reach) : Type 0 where
  pub sort : wide.sort ≡ narrow.sort
  pub dim : IsTrue (has_place narrow.sort) → wide.dim ≡ narrow.dim
  pub vertex : narrow.vertex_fields ≤ wide.vertex_fields
  pub cell : narrow.cell_fields ≤ wide.cell_fields
  pub global : narrow.global_fields ≤ wide.global_fields

-- a body that fits there fits where there is more
abbrev pub FitsWiden : Type 0
FitsWiden = (narrow wide : Reach) (body : List Stmt) → IsWider narrow wide → IsTrue (fits narrow body) → IsTrue (fits wide body)
