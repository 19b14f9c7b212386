use Rattle.std.proofs.Common.{◌≡◌, map}
use Rattle.std.specs.Prelude.{All}
use Rattle.pe_base.specs.Tree.Places.{IsDigits, root, child_at}
use Rattle.pe_stacks.specs.Corners.{IsFull}
use Rattle.pe_mapping.specs.Held.{Keeps}
use Rattle.pe_hang.specs.InHand.{setting_of, cells_on_stacks}
use Rattle.pe_adapt.specs.WalkedCells.{machine_in_hand}
use Rattle.pe_order.specs.CellTraffic.{CountsAreFew}
use Rattle.walk_rows.specs.ByCells.{MayWalkInTurn}
use Rattle.walk_rows.proofs.by_cells.walk_children.Given as goal

-- some children are walked, and the others may be, one after another
abbrev pub invariant-loop-digits : goal.invariant-loop-digits
invariant-loop-digits g l =
    let numbers = g.M.Mapping.numbers in
    let now = g.M.Mapping.held l.m in
    let vertices = g.DV.Depot.holds l.dv in
    let cells = g.DC.Depot.holds l.dc in
    record {
      digits : All (IsDigits l.setup.dim) l.digits-iterator;
      may : MayWalkInTurn (setting_of g.M.Effects.rules now l.setup.start_level l.setup.max_cells l.traversal) l.setup.max_level l.input l.cell_input
          (machine_in_hand numbers vertices (cells_on_stacks numbers cells) l.corners l.root now.list l.tally) (map (child_at root) l.digits-iterator);
      full : IsFull l.setup.dim l.corners;
      few : CountsAreFew l.setup.max_cells l.tally vertices cells;
      out : vertices.out ≡ (g.DV.Depot.holds l.initial.dv).out;
      keeps : Keeps (g.M.Mapping.held l.initial.m) now;
    }
