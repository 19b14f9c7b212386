use Rattle.pe_walk.proofs.Simulation.FaceLaw.{law_of_a_face}
use Rattle.pe_walk.proofs.laws.law_of_a_face.Goals as goal

pub returns : goal.returns
returns g c = record { same = law_of_a_face }
