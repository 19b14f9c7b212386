-- The children of the first cells are there.
use Rattle.std.proofs.Common.{◌≡◌, take}
use Rattle.std.specs.List.{flat_map}
use Rattle.pe_base.specs.Tree.Curve.{children}
use Rattle.walk_rows.proofs.plain.cells.refined.Given as goal

abbrev pub invariant-loop-cell : goal.invariant-loop-cell
invariant-loop-cell l = l.out.items ≡ flat_map (children l.setting.dim l.setting.way) (take l.cell-index l.cells)
