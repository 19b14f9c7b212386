-- Which events a set of twelve marks traces.
use Rattle.std.specs.Prelude.{Bool, false, slice_index_or}
use Rattle.pe_base.specs.declared.event.Event.{Event}
use Rattle.pe_base.specs.Acts.Events.{number_of}
use Rattle.pe_scene.specs.declared.trace.Trace.{Trace}

abbrev pub traces : Trace → Event → Bool
traces trace event = slice_index_or trace.traced (number_of event) false
