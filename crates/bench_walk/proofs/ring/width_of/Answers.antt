use Rattle.std.proofs.Common.{◌^◌, ◌≤◌, arith}
use Rattle.bench_walk.proofs.Lengths.{width_few}
use Rattle.bench_walk.proofs.ring.width_of.Goals as goal

pub pow-requires : goal.pow-requires
pow-requires c = let few : 3 ^ c.from.result ≤ 387420489 = rw c.from.ensures (width_few c.args.levels c.requires) in omega (arith, few)

pub returns-clause-small : goal.returns-clause-small
returns-clause-small c = rw (c.pow.ensures, c.from.ensures) (width_few c.args.levels c.requires)
