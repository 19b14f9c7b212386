-- The law.
use Rattle.pe_order.proofs.laws.tree.Goals as goal
use Rattle.pe_order.proofs.Derived.{cells_of_the_tree}

pub returns : goal.returns
returns c = record { cells = cells_of_the_tree }
