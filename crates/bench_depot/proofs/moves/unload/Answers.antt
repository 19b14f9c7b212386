use Rattle.std.proofs.Common.{◌^◌, ◌∙◌, ap, arith}
use Rattle.pe_stacks.specs.Holdings.{stack_count, len_at}
use Rattle.pe_stacks.proofs.Raising.{raises-popped, raises-given_up, raises_within}
use Rattle.pe_stacks.proofs.StackAt.{stack_count-popped}
use Rattle.bench_depot.proofs.CallPairs.{raises_step, len_at-popped}
use Rattle.bench_depot.proofs.moves.unload.Goals as goal

pub pop-r-requires-clause-count : goal.pop-r-requires-clause-count
pop-r-requires-clause-count g c =
    let now = raises_within _ _ (2 ^ 62) _ c.loop-done.invariant.counts c.requires.counts in
    omega (arith, now.pops c.args.s)

pub loop-done-preserved : goal.loop-done-preserved
loop-done-preserved g c =
    let held = g.D.Depot.holds in
    let before = held c.loop-done.depot in
    let between = held c.pop-r.new.self in
    let after = held c.give_up.new.self in
    let pops = c.pop-r.ensures.holds in
    let gives_up = c.give_up.ensures.holds in
    record {
      stacks = ap stack_count gives_up ∙ stack_count-popped before between c.args.s pops ∙ c.loop-done.invariant.stacks;
      counts =
          raises_step (held c.args.depot.now) before between after c.loop-done._done c.loop-done.invariant.counts
          (raises-popped before between c.args.s pops) (raises-given_up between after gives_up);
      left =
          omega (arith, len_at-popped before between c.args.s pops (omega arith) (omega arith), ap (λ now. len_at now c.args.s) gives_up);
    }
