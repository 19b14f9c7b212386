use Rattle.std.proofs.Common.{◌^◌, ◌+◌, ◌*◌, arith}
use Rattle.pe_stacks.proofs.Raising.{raises_more, raises_at_most, within_more, raises_within}
use Rattle.bench_depot.proofs.times.measure_rounds.Goals as goal

pub measure-requires-in-loop-round-clause-counts : goal.measure-requires-in-loop-round-clause-counts
measure-requires-in-loop-round-clause-counts g c =
    let rounds = c.loop-round._round + 1 in
    within_more (g.D.Depot.holds c.loop-round.depot) (2 ^ 60 + 6000000 * rounds) (2 ^ 61) (omega arith) (raises_within _ _ (2 ^ 60) _ c.loop-round.invariant.counts c.requires.counts)

pub loop-round-preserved : goal.loop-round-preserved
loop-round-preserved g c =
    let held = g.D.Depot.holds in
    let rounds = c.loop-round._round + 1 in
    record {
      stacks = c.in_ok-times.ensures.stacks;
      counts =
          raises_at_most (held c.args.depot.now) (held c.measure-in-loop-round.new.depot) (6000000 * rounds + 6000000) (6000000 * (rounds + 1)) (omega arith)
          (raises_more (held c.args.depot.now) (held c.loop-round.depot) (held c.measure-in-loop-round.new.depot) (6000000 * rounds) 6000000 c.loop-round.invariant.counts c.in_ok-times.ensures.counts);
      same = omega arith;
    }
