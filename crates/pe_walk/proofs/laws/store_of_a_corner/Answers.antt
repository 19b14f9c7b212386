use Rattle.pe_walk.proofs.Simulation.CornerLaw.{store_of_a_corner}
use Rattle.pe_walk.proofs.laws.store_of_a_corner.Goals as goal

pub returns : goal.returns
returns g c = record { same = store_of_a_corner }
