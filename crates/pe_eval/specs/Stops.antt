-- Faults of expressions, as an outcome and as a run have them.
use Rattle.pe_base.specs.declared.stop.Stop.{Stop}
use Rattle.pe_base.specs.declared.stop.Stop.TheVariants as stop
use Rattle.pe_base.specs.Acts.Effects as effects
use Rattle.pe_eval.specs.declared.fault.Fault.{Fault}
use Rattle.pe_eval.specs.declared.fault.Fault.TheVariants.{Overflow, Division}

abbrev pub fault_of : Fault → effects.Fault
fault_of Overflow = effects.Fault.Overflow
fault_of Division = effects.Fault.Division

abbrev pub stop_of : Fault → Stop
stop_of Overflow = stop.Overflow
stop_of Division = stop.Division
