-- The law.
use Rattle.pe_order.proofs.laws.moves_and_frames.Goals as goal
use Rattle.pe_order.proofs.Tokens.MoveFrames.{what_moves_change}
use Rattle.pe_order.proofs.Tokens.WalkFrames.{what_walks_leave}

pub returns-clause-steps : goal.returns-clause-steps
returns-clause-steps c = what_moves_change

pub returns-clause-walks : goal.returns-clause-walks
returns-clause-walks c = what_walks_leave
