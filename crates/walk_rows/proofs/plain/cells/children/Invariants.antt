-- The first children are there.
use Rattle.std.proofs.Common.{◌≡◌, take}
use Rattle.pe_base.specs.Tree.Curve.{children}
use Rattle.walk_rows.proofs.plain.cells.children.Given as goal

abbrev pub invariant-loop-n : goal.invariant-loop-n
invariant-loop-n l = l.out.items ≡ take l.n (children l.setting.dim l.setting.way l.cell)
