-- The law.
use Rattle.pe_order.proofs.laws.whole_traversal.Goals as goal
use Rattle.pe_order.proofs.Tokens.Traversals.{whole_traversal}

pub returns : goal.returns
returns c = record { runs = whole_traversal }
