-- The law.
use Rattle.pe_order.proofs.laws.unwalked_is_empty.Goals as goal
use Rattle.pe_order.proofs.Derived.{unwalked_is_empty}

pub returns : goal.returns
returns c = record { empty = unwalked_is_empty }
