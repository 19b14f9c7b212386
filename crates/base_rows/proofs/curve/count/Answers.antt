-- No more than 81 come.
use Rattle.std.proofs.Common.{ap, length, arith}
use Rattle.std.proofs.Math.Nat.{pow-le-pow_right}
use Rattle.base_rows.proofs.curve.count.Goals as goal

pub overflow_add-count : goal.overflow_add-count
overflow_add-count c =
    omega (arith, ap length c.in-Some.ensures.steps, pow-le-pow_right {n = 3} (omega arith) {i = c.args.dim} {j = 4} c.new-digits-items.ensures.range.1)
