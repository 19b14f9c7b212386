-- The law.
use Rattle.pe_order.proofs.laws.streams_are_one.Goals as goal
use Rattle.pe_order.proofs.Tokens.Streams.{fits_turned, streams_are_one}

pub returns-clause-turned : goal.returns-clause-turned
returns-clause-turned c = fits_turned

pub returns-clause-one : goal.returns-clause-one
returns-clause-one c = streams_are_one
