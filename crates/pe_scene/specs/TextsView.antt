-- Marks as they are held.
use Rattle.std.specs.Prelude.{◌≡◌, List, Option, Some, None, Result, Ok, Err}
use Rattle.pe_base.specs.declared.event.Event.{Event}
use Rattle.pe_base.specs.Acts.Events.{is_among}
use Rattle.pe_scene.specs.declared.fault.SceneFault.{SceneFault}
use Rattle.pe_scene.specs.declared.trace.Trace.{Trace}
use Rattle.pe_scene.specs.Trace.{traces}
use Rattle.pe_scene.specs.Faults.{Refuses}

-- marks that trace just these events, or none of both
abbrev pub TracesEvents : Option Trace → Option (List Event) → Type 0
TracesEvents None None = Unit {0}
TracesEvents (Some trace) (Some events) = traces trace ≡ is_among events
TracesEvents None (Some events) = ⊥
TracesEvents (Some trace) None = ⊥

abbrev pub GivesTrace : Result Trace SceneFault → Result (List Event) SceneFault → Type 0
GivesTrace (Ok trace) said = (events : List Event) × (said ≡ Ok events) × (traces trace ≡ is_among events)
GivesTrace (Err fault) said = Refuses fault said
