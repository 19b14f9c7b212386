-- Of the last stores, those at the face are there.
use Rattle.std.proofs.Common.{◌≡◌, take}
use Rattle.pe_base.specs.Steps.Faces.{at_face, goes_across}
use Rattle.walk_rows.proofs.plain.lists.leaving.Given as goal

abbrev pub invariant-loop-touch : goal.invariant-loop-touch
invariant-loop-touch g l = l.out.items ≡ at_face (goes_across l.setting.dim l.setting.way g.G.Grid.counts l.face) l.finest l.face l.cell (take l.touch-index l.touch-items)
