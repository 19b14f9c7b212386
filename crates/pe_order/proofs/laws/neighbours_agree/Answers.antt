-- The law.
use Rattle.pe_order.proofs.laws.neighbours_agree.Goals as goal
use Rattle.pe_order.proofs.Derived.{neighbours_agree}

pub returns : goal.returns
returns c = record { agree = neighbours_agree }
