use Rattle.std.proofs.Common.{◌^◌, ◌+◌, ◌*◌, length, arith}
use Rattle.pe_stacks.proofs.Raising.{raises_more, raises_at_most, within_more, raises_within}
use Rattle.bench_depot.proofs.times.measure.Goals as goal

pub transfer-requires-clause-counts : goal.transfer-requires-clause-counts
transfer-requires-clause-counts g c =
    let n = length c.args.records.now in
    within_more (g.D.Depot.holds c.load.new.depot) (2 ^ 61 + 2 * n) (2 ^ 62) (omega arith) (raises_within _ _ (2 ^ 61) _ c.load.ensures.counts c.requires.counts)

pub unload-sum-requires-clause-counts : goal.unload-sum-requires-clause-counts
unload-sum-requires-clause-counts g c =
    let n = length c.args.records.now in
    let loaded = raises_within _ _ (2 ^ 61) _ c.load.ensures.counts c.requires.counts in
    within_more (g.D.Depot.holds c.transfer.new.depot) (2 ^ 61 + 2 * n + 2 * n) (2 ^ 62) (omega arith) (raises_within _ _ (2 ^ 61 + 2 * n) _ c.transfer.ensures.counts loaded)

pub returns-clause-counts : goal.returns-clause-counts
returns-clause-counts g c =
    let held = g.D.Depot.holds in
    let n = length c.args.records.now in
    let moved = raises_more (held c.args.depot.now) (held c.load.new.depot) (held c.transfer.new.depot) (2 * n) (2 * n) c.load.ensures.counts c.transfer.ensures.counts in
    let popped = raises_more (held c.args.depot.now) (held c.transfer.new.depot) (held c.unload-sum.new.depot) (2 * n + 2 * n) (2 * n) moved c.unload-sum.ensures.counts in
    raises_at_most (held c.args.depot.now) (held c.unload-sum.new.depot) (2 * n + 2 * n + 2 * n) 6000000 (omega arith) popped
