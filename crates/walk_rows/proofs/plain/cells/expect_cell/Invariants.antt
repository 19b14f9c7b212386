-- The positions so far are below their bounds.
use Rattle.std.proofs.Common.{ℕ, ◌<◌, nat_lt, slice_index, if◌then◌else◌}
use Rattle.walk_rows.proofs.plain.cells.expect_cell.Given as goal

abbrev pub invariant-loop-axis : goal.invariant-loop-axis
invariant-loop-axis l = (k : ℕ) → k < l.axis → slice_index l.place.pos k < (if nat_lt k l.axes then l.width else 1)
