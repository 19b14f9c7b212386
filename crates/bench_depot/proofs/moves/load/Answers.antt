use Rattle.std.proofs.Common.{◌^◌, ◌+◌, ◌*◌, ◌<◌, ◌∙◌, length, ap, arith}
use Rattle.pe_stacks.specs.Holdings.{stack_count, len_at}
use Rattle.pe_stacks.proofs.Raising.{raises-lent, raises-pushed, raises_at_most, raises_within}
use Rattle.pe_stacks.proofs.StackAt.{stack_count-pushed}
use Rattle.bench_depot.proofs.CallPairs.{raises_step, raises_by_refusal, len_at-pushed}
use Rattle.bench_depot.proofs.moves.load.Goals as goal

pub lend-r-requires : goal.lend-r-requires
lend-r-requires g c =
    let now = raises_within _ _ (2 ^ 62) _ c.loop-words.invariant.counts c.requires.counts in
    record { count = omega (arith, now.fresh) }

pub push-requires-clause-count : goal.push-requires-clause-count
push-requires-clause-count g c =
    let now = raises_within _ _ (2 ^ 62) _ c.loop-words.invariant.counts c.requires.counts in
    rw c.lend-r.ensures.holds (omega (arith, now.pushes c.args.s))

pub returns-in-Err-clause-counts : goal.returns-in-Err-clause-counts
returns-in-Err-clause-counts g c =
    let held = g.D.Depot.holds in
    let i = c.loop-words.words-index in
    let lends = raises-lent (held c.loop-words.depot) (held c.lend-r.new.self) c.lend-r.ensures.holds in
    let gives_up = raises_by_refusal (held c.lend-r.new.self) (held c.push.new.self) (held c.give_up.new.self) c.in-Err.ensures.holds c.give_up.ensures.holds in
    raises_at_most (held c.args.depot.now) (held c.give_up.new.self) (2 * (i + 1)) (2 * length c.args.records.now) (omega arith)
    (raises_step (held c.args.depot.now) (held c.loop-words.depot) (held c.lend-r.new.self) (held c.give_up.new.self) i c.loop-words.invariant.counts lends gives_up)

pub loop-words-preserved : goal.loop-words-preserved
loop-words-preserved g c =
    let held = g.D.Depot.holds in
    let i = c.loop-words.words-index in
    let lends = c.lend-r.ensures.holds in
    let pushes = c.in-Ok.ensures.holds in
    let inside : c.args.s < stack_count (held c.lend-r.new.self) = omega (arith, ap stack_count lends) in
    record {
      stacks = stack_count-pushed (held c.lend-r.new.self) (held c.push.new.self) c.args.s c.lend-r.result pushes ∙ ap stack_count lends ∙ c.loop-words.invariant.stacks;
      counts =
          raises_step (held c.args.depot.now) (held c.loop-words.depot) (held c.lend-r.new.self) (held c.push.new.self) i c.loop-words.invariant.counts
          (raises-lent (held c.loop-words.depot) (held c.lend-r.new.self) lends) (raises-pushed (held c.lend-r.new.self) (held c.push.new.self) c.args.s c.lend-r.result pushes);
      len = omega (arith, len_at-pushed (held c.lend-r.new.self) (held c.push.new.self) c.args.s c.lend-r.result pushes inside, ap (λ now. len_at now c.args.s) lends);
    }
