use Rattle.std.proofs.Common.{◌≡◌, ◌≤◌, ℕ, slice_index, ◌<◌, length}
use Rattle.pe_stacks.specs.Holdings.{len_at}
use Rattle.traversals.proofs.scarce.Scarce.new.Given as goal

abbrev pub invariant-loop-s : goal.invariant-loop-s
invariant-loop-s g l = record {
  stacks : length l.peaks ≡ 256;
  within : (t : ℕ) → slice_index l.peaks t ≤ len_at (g.D.Depot.holds l.fn.depot) t;
  seen : (t : ℕ) → t < l.s → len_at (g.D.Depot.holds l.fn.depot) t ≤ slice_index l.peaks t;
}
