-- The law.
use Rattle.pe_order.proofs.laws.cells_stand_apart.Goals as goal
use Rattle.pe_order.proofs.Tokens.CellsApart.{walked_cells_differ}
use Rattle.pe_order.proofs.Tokens.CellsAhead.{steps_keep_ahead, begins_ahead, moves_its_cells}

pub returns-clause-differ : goal.returns-clause-differ
returns-clause-differ c = walked_cells_differ

pub returns-clause-kept : goal.returns-clause-kept
returns-clause-kept c = steps_keep_ahead

pub returns-clause-begun : goal.returns-clause-begun
returns-clause-begun c = begins_ahead

pub returns-clause-moved : goal.returns-clause-moved
returns-clause-moved c = moves_its_cells
