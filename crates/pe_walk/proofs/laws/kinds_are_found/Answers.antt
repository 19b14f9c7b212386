use Rattle.pe_walk.proofs.Simulation.LoadedKinds.{kinds_are_found}
use Rattle.pe_walk.proofs.laws.kinds_are_found.Goals as goal

pub returns : goal.returns
returns g c = record { found = kinds_are_found }
