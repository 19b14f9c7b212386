-- The law.
use Rattle.pe_order.proofs.laws.counts.Goals as goal
use Rattle.pe_order.proofs.Derived.{counts, stands_together}

pub returns-clause-counted : goal.returns-clause-counted
returns-clause-counted c = counts

pub returns-clause-together : goal.returns-clause-together
returns-clause-together c = stands_together
