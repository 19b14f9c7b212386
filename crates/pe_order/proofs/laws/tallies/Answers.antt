-- The law.
use Rattle.pe_order.proofs.laws.tallies.Goals as goal
use Rattle.pe_order.proofs.Tokens.TallyLaws.{tally_of_a_cell}
use Rattle.pe_order.proofs.Tokens.ExactTraffic.{traffic_by_tally}
use Rattle.pe_order.proofs.GridCells.{kinds_foreseen, traffic_of_grids}

pub returns-clause-cell : goal.returns-clause-cell
returns-clause-cell c = tally_of_a_cell

pub returns-clause-traffic : goal.returns-clause-traffic
returns-clause-traffic c = traffic_by_tally

pub returns-clause-kinds : goal.returns-clause-kinds
returns-clause-kinds c = kinds_foreseen

pub returns-clause-grids : goal.returns-clause-grids
returns-clause-grids c = traffic_of_grids
