use Rattle.std.proofs.Common.{◌^◌, ◌+◌, ◌*◌, ◌<◌, ◌∙◌, sym, arith}
use Rattle.pe_stacks.specs.Holdings.{stack_count}
use Rattle.pe_stacks.proofs.Raising.{raises-popped, raises-pushed, raises_at_most, raises_within}
use Rattle.pe_stacks.proofs.StackAt.{stack_count-pushed, stack_count-popped}
use Rattle.bench_depot.proofs.CallPairs.{raises_step, raises_by_refusal, len_at-pushed, len_at-pushed_other, len_at-popped, len_at-popped_other}
use Rattle.bench_depot.proofs.moves.transfer.Goals as goal

pub pop-r-requires-clause-count : goal.pop-r-requires-clause-count
pop-r-requires-clause-count g c =
    let now = raises_within _ _ (2 ^ 62) _ c.loop-done.invariant.counts c.requires.counts in
    omega (arith, now.pops c.args.from)

pub push-requires-clause-count : goal.push-requires-clause-count
push-requires-clause-count g c =
    let held = g.D.Depot.holds in
    let now = raises_within _ _ (2 ^ 62) _ c.loop-done.invariant.counts c.requires.counts in
    let popped = raises_within _ _ (2 ^ 62 + 2 * c.loop-done._done) _ (raises-popped (held c.loop-done.depot) (held c.pop-r.new.self) c.args.from c.pop-r.ensures.holds) now in
    omega (arith, popped.pushes c.args.to)

pub returns-in-Err-clause-counts : goal.returns-in-Err-clause-counts
returns-in-Err-clause-counts g c =
    let held = g.D.Depot.holds in
    let i = c.loop-done._done in
    let pops = raises-popped (held c.loop-done.depot) (held c.pop-r.new.self) c.args.from c.pop-r.ensures.holds in
    let gives_up = raises_by_refusal (held c.pop-r.new.self) (held c.push.new.self) (held c.give_up.new.self) c.in-Err.ensures.holds c.give_up.ensures.holds in
    raises_at_most (held c.args.depot.now) (held c.give_up.new.self) (2 * (i + 1)) (2 * c.args.count) (omega arith)
    (raises_step (held c.args.depot.now) (held c.loop-done.depot) (held c.pop-r.new.self) (held c.give_up.new.self) i c.loop-done.invariant.counts pops gives_up)

pub loop-done-preserved : goal.loop-done-preserved
loop-done-preserved g c =
    let held = g.D.Depot.holds in
    let before = held c.loop-done.depot in
    let between = held c.pop-r.new.self in
    let after = held c.push.new.self in
    let pops = c.pop-r.ensures.holds in
    let pushes = c.in-Ok.ensures.holds in
    let same_count = stack_count-popped before between c.args.from pops in
    let inside : c.args.to < stack_count between = omega (arith, same_count) in
    record {
      stacks = stack_count-pushed between after c.args.to c.pop-r.result pushes ∙ same_count ∙ c.loop-done.invariant.stacks;
      counts =
          raises_step (held c.args.depot.now) before between after c.loop-done._done c.loop-done.invariant.counts
          (raises-popped before between c.args.from pops) (raises-pushed between after c.args.to c.pop-r.result pushes);
      left =
          omega (
            arith,
            len_at-popped before between c.args.from pops (omega arith) (omega arith),
            len_at-pushed_other between after c.args.to c.args.from c.pop-r.result pushes c.requires.apart,
          );
      len =
          omega (
            arith,
            len_at-popped_other before between c.args.from c.args.to pops (λ same. c.requires.apart (sym same)),
            len_at-pushed between after c.args.to c.pop-r.result pushes inside,
          );
    }
