-- The bodies of a scenario, and when they fit it.
use Rattle.std.specs.Prelude.{◌≡◌, ℕ, true, List, Option, Some, None, slice_index_or}
use Rattle.pe_base.specs.declared.event.Event.{Event}
use Rattle.pe_base.specs.Acts.Events.{number_of, sort_of}
use Rattle.pe_check.specs.declared.checked.Stmt.{Stmt}
use Rattle.pe_check.specs.Fits.{Reach, fits}

-- the body of an event, if it has one
abbrev pub body_at : List (Option (List Stmt)) → Event → Option (List Stmt)
body_at bodies event = slice_index_or bodies (number_of event) None

-- what a body of an event may speak of, where there are so many fields of each kind
abbrev pub reach_at : ℕ → ℕ → ℕ → ℕ → Event → Reach
reach_at dim vertex_fields cell_fields global_fields event = record {
  sort = sort_of event;
  dim = dim;
  vertex_fields = vertex_fields;
  cell_fields = cell_fields;
  global_fields = global_fields;
}

-- each body speaks of what its event has alone
pub record AllFit (dim vertex_fields cell_fields global_fields : ℕ) (bodies : List (Option (List Stmt))) : Type 0 where
  pub each : (event : Event) (body : List Stmt) → body_at bodies event ≡ Some body → fits (reach_at dim vertex_fields cell_fields global_fields event) body ≡ true
