-- The law.
use Rattle.pe_order.proofs.laws.first_and_last.Goals as goal
use Rattle.pe_order.proofs.Tokens.Counting.{corners_by_counting}

pub returns : goal.returns
returns c = record { counted = corners_by_counting }
