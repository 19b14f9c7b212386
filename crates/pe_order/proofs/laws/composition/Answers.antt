-- The law.
use Rattle.pe_order.proofs.laws.composition.Goals as goal
use Rattle.pe_order.proofs.Derived.{composition}

pub returns-clause-stretches : goal.returns-clause-stretches
returns-clause-stretches c = composition
