-- The law.
use Rattle.std.proofs.Common.{arith}
use Rattle.pe_walk.proofs.laws.counts_stay.Goals as goal

pub returns : goal.returns
returns c = record { stay = λ finished cells few fewer. (omega (arith, few), omega (arith, fewer)) }
