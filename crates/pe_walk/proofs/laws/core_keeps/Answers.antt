use Rattle.pe_walk.proofs.Simulation.CoreLaws.{core_keeps}
use Rattle.pe_walk.proofs.laws.core_keeps.Goals as goal

pub returns : goal.returns
returns g c = record { alike = core_keeps }
