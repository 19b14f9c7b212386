use Rattle.std.proofs.Common.{ℕ, ◌^◌, ◌<◌, ◌≤◌}
use Rattle.pe_stacks.specs.Holdings.{stack_at}
use Rattle.ledger.proofs.corners.counts_few.Given as goal

-- the stacks before this one were pushed and popped seldom
abbrev pub invariant-loop-s : goal.invariant-loop-s
invariant-loop-s g l = (k : ℕ) → k < l.s → ((stack_at (g.D.Depot.holds l.depot) k).pushes ≤ 2 ^ 60) × ((stack_at (g.D.Depot.holds l.depot) k).pops ≤ 2 ^ 60)
