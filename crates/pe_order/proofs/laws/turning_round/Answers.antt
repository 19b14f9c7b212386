-- The law.
use Rattle.pe_order.proofs.laws.turning_round.Goals as goal
use Rattle.pe_order.proofs.Tokens.Turning.{turning_round, turning_around}

pub returns-clause-round : goal.returns-clause-round
returns-clause-round c = turning_round

pub returns-clause-around : goal.returns-clause-around
returns-clause-around c = turning_around
