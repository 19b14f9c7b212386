use Rattle.std.proofs.Common.{◌≤◌, arith}
use Rattle.bench_walk.proofs.Lengths.{square_few}
use Rattle.bench_walk.proofs.ring.squared_apart.Goals as goal

pub returns-clause-far : goal.returns-clause-far
returns-clause-far c = square_few c.abs_diff-apart.result 2200000000 (omega (arith, c.abs_diff-apart.ensures))

pub returns-clause-near : goal.returns-clause-near
returns-clause-near c = λ near. let few : c.abs_diff-apart.result ≤ 387420489 = omega (arith, c.abs_diff-apart.ensures) in omega (arith, square_few c.abs_diff-apart.result 387420489 few)
