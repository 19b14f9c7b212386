use Rattle.pe_walk.proofs.Simulation.CornerLaw.{load_of_a_corner}
use Rattle.pe_walk.proofs.laws.load_of_a_corner.Goals as goal

pub returns : goal.returns
returns g c = record { same = load_of_a_corner }
