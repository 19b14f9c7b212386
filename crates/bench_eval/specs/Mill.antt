-- The events of a mill in the plane.
use Rattle.pe_base.specs.declared.event.Event.{Event}
use Rattle.pe_base.specs.Acts.Events.{sort_of}
use Rattle.pe_check.specs.Fits.{Reach}

-- all that an event lends in the plane: eight numbers of each kind
abbrev pub reach_at : Event → Reach
reach_at event = record { sort = sort_of event; dim = 2; vertex_fields = 8; cell_fields = 8; global_fields = 8 }
