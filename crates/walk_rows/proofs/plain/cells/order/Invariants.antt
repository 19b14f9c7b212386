-- The cells are those of a level above.
use Rattle.std.proofs.Common.{◌≡◌}
use Rattle.pe_base.specs.Tree.Curve.{order}
use Rattle.walk_rows.proofs.plain.cells.order.Given as goal

abbrev pub invariant-loop-depth : goal.invariant-loop-depth
invariant-loop-depth l = l.cells.items ≡ order l.setting.dim l.setting.way l.depth
