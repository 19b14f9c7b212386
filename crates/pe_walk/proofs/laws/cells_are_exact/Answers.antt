-- The law.
use Rattle.pe_walk.proofs.Simulation.Tallied.Cells.{cells_are_exact}
use Rattle.pe_walk.proofs.laws.cells_are_exact.Goals as goal

pub returns : goal.returns
returns g c = record { exact = cells_are_exact }
