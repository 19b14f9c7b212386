use Rattle.std.proofs.Common.{◌≡◌, ◌+◌, ◌*◌}
use Rattle.pe_stacks.specs.Holdings.{stack_count, len_at, RaisesCounts}
use Rattle.bench_depot.proofs.moves.transfer.Given as goal

abbrev pub invariant-loop-done : goal.invariant-loop-done
invariant-loop-done g l =
    let held = g.D.Depot.holds l.initial.depot in
    let now = g.D.Depot.holds l.depot in
    record {
      stacks : stack_count now ≡ stack_count held;
      counts : RaisesCounts held now (2 * l._done);
      left : len_at now l.from + l._done ≡ len_at held l.from;
      len : len_at now l.to ≡ len_at held l.to + l._done;
    }
