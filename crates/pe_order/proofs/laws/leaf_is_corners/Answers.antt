-- The law.
use Rattle.pe_order.proofs.laws.leaf_is_corners.Goals as goal
use Rattle.pe_order.proofs.Derived.{leaf_is_corners}

pub returns : goal.returns
returns c = record { corners = leaf_is_corners }
