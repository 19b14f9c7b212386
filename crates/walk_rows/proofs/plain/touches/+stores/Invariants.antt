-- The stores of the first children are there, and the cell's own are kept for the end.
use Rattle.std.proofs.Common.{◌≡◌, ◌-◌, take}
use Rattle.std.specs.List.{flat_map}
use Rattle.pe_base.specs.Steps.Faces.{stores}
use Rattle.walk_rows.proofs.plain.touches.+stores.Given as goal

abbrev pub decreases-stores : goal.decreases-stores
decreases-stores l = l.levels

abbrev pub invariant-loop-child : goal.invariant-loop-child
invariant-loop-child l = l.out.items ≡ flat_map (stores l.setting.dim l.setting.way (l.levels - 1)) (take l.child-index l.child-items)
