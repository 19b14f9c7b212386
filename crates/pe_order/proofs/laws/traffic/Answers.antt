-- The law.
use Rattle.pe_order.proofs.laws.traffic.Goals as goal
use Rattle.pe_order.proofs.Tokens.Traffic.{traffic_of_a_cell, loads_per_cell, counts_per_cell}
use Rattle.pe_order.proofs.Tokens.TraversalTraffic.{traffic_of_a_traversal}
use Rattle.pe_order.proofs.Tokens.Crossings.{traffic_is_crossings, hanging_loads}
use Rattle.pe_order.proofs.Tokens.OnStreams.{first_vertices_count}
use Rattle.pe_order.proofs.Tokens.Rises.{counts_of_a_traversal}

pub returns-clause-cell : goal.returns-clause-cell
returns-clause-cell c = traffic_of_a_cell

pub returns-clause-traversal : goal.returns-clause-traversal
returns-clause-traversal c = traffic_of_a_traversal

pub returns-clause-loads : goal.returns-clause-loads
returns-clause-loads c = loads_per_cell

pub returns-clause-counts : goal.returns-clause-counts
returns-clause-counts c = counts_per_cell

pub returns-clause-crossings : goal.returns-clause-crossings
returns-clause-crossings c = traffic_is_crossings

pub returns-clause-hanging : goal.returns-clause-hanging
returns-clause-hanging c = hanging_loads

pub returns-clause-firsts : goal.returns-clause-firsts
returns-clause-firsts c = first_vertices_count

pub returns-clause-in_all : goal.returns-clause-in_all
returns-clause-in_all c = counts_of_a_traversal
