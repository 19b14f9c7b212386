-- The law.
use Rattle.pe_order.proofs.laws.cells_are_few.Goals as goal
use Rattle.pe_order.proofs.Tokens.FewCells.{few_cells}
use Rattle.pe_order.proofs.GridCells.{few_cells_of_traversals, few_cells_of_grids}

pub returns-clause-few : goal.returns-clause-few
returns-clause-few c = few_cells

pub returns-clause-traversals : goal.returns-clause-traversals
returns-clause-traversals c = few_cells_of_traversals

pub returns-clause-grids : goal.returns-clause-grids
returns-clause-grids c = few_cells_of_grids
