-- What has come and what is still to come are all children.
use Rattle.std.proofs.Common.{◌≡◌, ◌+◌, ◌^◌, length}
use Rattle.base_rows.proofs.curve.count.Given as goal

abbrev pub invariant-loop-digits : goal.invariant-loop-digits
invariant-loop-digits l = l.count + length l._digits-iterator ≡ 3 ^ l.fn.dim
