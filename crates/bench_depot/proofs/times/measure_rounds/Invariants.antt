use Rattle.std.proofs.Common.{◌≡◌, ◌+◌, ◌*◌, length}
use Rattle.pe_stacks.specs.Holdings.{stack_count, RaisesCounts}
use Rattle.bench_depot.proofs.times.measure_rounds.Given as goal

abbrev pub invariant-loop-round : goal.invariant-loop-round
invariant-loop-round g l = record {
  stacks : stack_count (g.D.Depot.holds l.depot) ≡ 2;
  counts : RaisesCounts (g.D.Depot.holds l.fn.depot) (g.D.Depot.holds l.depot) (6000000 * (l._round + 1));
  same : length l.target ≡ length l.records;
}
