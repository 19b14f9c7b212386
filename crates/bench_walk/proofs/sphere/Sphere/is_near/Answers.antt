use Rattle.std.proofs.Common.{◌*◌, ◌-◌, ◌^◌, ◌≤◌, arith}
use Rattle.std.proofs.Math.Nat.{pow-le-pow_right}
use Rattle.bench_walk.proofs.Lengths.{position_few}
use Rattle.bench_walk.proofs.sphere.Sphere.is_near.Goals as goal

pub squared_apart-outer-requires-clause-x : goal.squared_apart-outer-requires-clause-x
squared_apart-outer-requires-clause-x c =
    let level = c.args.at.now.level in
    let deep : 3 ^ 1 ≤ 3 ^ level = pow-le-pow_right {n = 3} (omega arith) {i = 1} {j = level} c.requires.place.deep in
    let small : 3 * 3 ^ (c.args.self.greatest - level) ≤ 387420489 = position_few 3 level c.args.self.greatest (omega (arith, deep)) c.requires.level c.args.self.few in
    omega (arith, small, c.width_of.ensures.small, c.width_of-width.ensures.value)
