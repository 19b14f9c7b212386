use Rattle.std.proofs.Common.{◌≡◌, ℕ, ◌<◌, []}
use Rattle.pe_stacks.specs.Holdings.{items_at}
use Rattle.traversals.proofs.running.holds_nothing.Given as goal

-- the stacks before this one are empty
abbrev pub invariant-loop-s : goal.invariant-loop-s
invariant-loop-s g l = (k : ℕ) → k < l.s → items_at (g.D.Depot.holds l.depot) k ≡ []
