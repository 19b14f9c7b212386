-- The law.
use Rattle.pe_order.proofs.laws.streams_of_grids.Goals as goal
use Rattle.pe_order.proofs.StreamOrders.{reads_are_streams, next_is_formed, writes_are_streams, traversal_of_a_grid}

pub returns-clause-reads : goal.returns-clause-reads
returns-clause-reads c = reads_are_streams

pub returns-clause-formed : goal.returns-clause-formed
returns-clause-formed c = next_is_formed

pub returns-clause-writes : goal.returns-clause-writes
returns-clause-writes c = writes_are_streams

pub returns-clause-both : goal.returns-clause-both
returns-clause-both c = traversal_of_a_grid
