-- The law.
use Rattle.pe_order.proofs.laws.places_stand_apart.Goals as goal
use Rattle.pe_order.proofs.Tokens.Apart.{steps_keep_apart, begins_apart}

pub returns-clause-kept : goal.returns-clause-kept
returns-clause-kept c = steps_keep_apart

pub returns-clause-begun : goal.returns-clause-begun
returns-clause-begun c = begins_apart
