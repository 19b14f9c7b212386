use Rattle.pe_walk.proofs.Simulation.Beneath.{beneath_is_left}
use Rattle.pe_walk.proofs.Simulation.CutCells.{beneath_stays}
use Rattle.pe_walk.proofs.laws.beneath_is_left.Goals as goal

pub returns-clause-left : goal.returns-clause-left
returns-clause-left g c = beneath_is_left

pub returns-clause-stays : goal.returns-clause-stays
returns-clause-stays g c = beneath_stays
