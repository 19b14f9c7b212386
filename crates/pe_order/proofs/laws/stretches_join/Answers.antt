-- The law.
use Rattle.pe_order.proofs.laws.stretches_join.Goals as goal
use Rattle.pe_order.proofs.Derived.{stretches_join}

pub returns : goal.returns
returns c = record { join = stretches_join }
