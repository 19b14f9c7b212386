-- What a stop of the walk means.
use Rattle.pe_base.specs.declared.stop.Stop.TheVariants.{Overflow, Division, Sink, Memory}
use Rattle.pe_base.specs.Acts.Effects.{Overflow as overflows, Division as divides}
use Rattle.pe_base.specs.Walk.Course.{fault_at, limit_at}
use Rattle.pe_base.specs.Calls.Follows.{Failure, halted, unwritten, wanting, unheard_of}
use Rattle.pe_base.specs.declared.place.Place.{Place}
use Rattle.pe_adapt.specs.declared.stop.Inner.{Inner}
use Rattle.pe_adapt.specs.declared.stop.Inner.TheVariants.{Event as ByEvent, CellLimit as ByLimit, Memory as ForMemory}
use Rattle.pe_adapt.specs.declared.stop.WalkStop.{WalkStop}
use Rattle.pe_adapt.specs.declared.stop.WalkStop.TheVariants.{Event, CellLimit, Memory as OutOfMemory}

-- no event is said to have wanted memory
abbrev pub failure_of : WalkStop → Failure
failure_of (Event Overflow event place) = halted (fault_at overflows event place)
failure_of (Event Division event place) = halted (fault_at divides event place)
failure_of (Event Sink event place) = unwritten
failure_of (Event Memory event place) = unheard_of
failure_of (CellLimit place) = halted (limit_at place)
failure_of OutOfMemory = wanting

-- a halt at a place
abbrev pub failure_of_halt : Place → Inner → Failure
failure_of_halt at (ByEvent Overflow event) = halted (fault_at overflows event at)
failure_of_halt at (ByEvent Division event) = halted (fault_at divides event at)
failure_of_halt at (ByEvent Sink event) = unwritten
failure_of_halt at (ByEvent Memory event) = unheard_of
failure_of_halt at ByLimit = halted (limit_at at)
failure_of_halt at ForMemory = wanting
