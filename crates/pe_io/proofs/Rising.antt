-- Counts that stay at their last value.
use Rattle.std.proofs.Common.{ℕ, arith}
use Rattle.pe_base.specs.Calls.Counters.{CountsOne, Rises}

-- a count that went up by one has risen
pub Rises-from_CountsOne : (old new : ℕ) → CountsOne old new → Rises old new
Rises-from_CountsOne old new one = grind (arith, one)
