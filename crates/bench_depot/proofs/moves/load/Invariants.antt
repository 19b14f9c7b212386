use Rattle.std.proofs.Common.{◌≡◌, ◌+◌, ◌*◌}
use Rattle.pe_stacks.specs.Holdings.{stack_count, len_at, RaisesCounts}
use Rattle.bench_depot.proofs.moves.load.Given as goal

abbrev pub invariant-loop-words : goal.invariant-loop-words
invariant-loop-words g l =
    let held = g.D.Depot.holds l.initial.depot in
    let now = g.D.Depot.holds l.depot in
    record {
      stacks : stack_count now ≡ stack_count held;
      counts : RaisesCounts held now (2 * l.words-index);
      len : len_at now l.s ≡ len_at held l.s + l.words-index;
    }
