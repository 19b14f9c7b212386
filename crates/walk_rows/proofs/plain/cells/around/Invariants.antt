-- The cells around the vertex so far are there.
use Rattle.std.proofs.Common.{◌≡◌, take, filter}
use Rattle.pe_base.specs.Steps.Around.{is_corner}
use Rattle.walk_rows.proofs.plain.cells.around.Given as goal

abbrev pub invariant-loop-cell : goal.invariant-loop-cell
invariant-loop-cell l = l.out.items ≡ filter (is_corner l.vertex) (take l.cell-index l.cell-items)
