-- The law.
use Rattle.pe_order.proofs.laws.walk_of_a_cell.Goals as goal
use Rattle.pe_order.proofs.Tokens.Traversals.{walk_of_a_cell}

pub returns : goal.returns
returns c = record { runs = walk_of_a_cell }
