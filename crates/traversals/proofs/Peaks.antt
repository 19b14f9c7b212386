-- The greatest lengths that the stacks of a depot have had.
use Rattle.std.proofs.Common.{ℕ, zero, suc, ◌≤◌, get_or, replicate, arith}

-- at first they are within every bound
pub none_within : (n t k : ℕ) → get_or (replicate n 0) t 0 ≤ k
none_within zero t k = omega arith
none_within (suc n) zero k = omega arith
none_within (suc n) (suc t) k = none_within n t k
