-- The law.
use Rattle.pe_walk.proofs.Simulation.FirstCells.{first_cell, next_cell}
use Rattle.pe_walk.proofs.Simulation.InnerCells.{first_child}
use Rattle.pe_walk.proofs.Simulation.LastCells.{last_child}
use Rattle.pe_walk.proofs.laws.cells_in_turn.Goals as goal

pub returns-clause-first : goal.returns-clause-first
returns-clause-first g c = first_cell

pub returns-clause-below : goal.returns-clause-below
returns-clause-below g c = first_child

pub returns-clause-next : goal.returns-clause-next
returns-clause-next g c = next_cell

pub returns-clause-last : goal.returns-clause-last
returns-clause-last g c = last_child
