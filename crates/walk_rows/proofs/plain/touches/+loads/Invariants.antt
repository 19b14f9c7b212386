-- The cell's own loads and those of its first children are there.
use Rattle.std.proofs.Common.{◌≡◌, ◌-◌, ◌++◌, take, reverse}
use Rattle.std.specs.List.{flat_map}
use Rattle.pe_base.specs.Steps.Faces.{corner_touches, loads}
use Rattle.walk_rows.proofs.plain.touches.+loads.Given as goal

abbrev pub decreases-loads : goal.decreases-loads
decreases-loads l = l.levels

abbrev pub invariant-loop-child : goal.invariant-loop-child
invariant-loop-child l = l.out.items ≡ reverse (corner_touches l.setting.dim l.cell) ++ flat_map (loads l.setting.dim l.setting.way (l.levels - 1)) (take l.child-index l.child-items)
